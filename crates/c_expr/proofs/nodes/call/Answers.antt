use Rattle.std.proofs.Common.{◌≡◌, ◌+◌, ap, sym, ◌∙◌, arith, max}
use Rattle.c_tree.specs.TreeExpr.{expr_depth, exprs_depth}
use Rattle.c_tree.specs.TreeExpr as t
use Rattle.c_tree.specs.TreeOf.{expr_of, exprs_from}
use Rattle.c_tree.proofs.Of.{expr_of-Call}
use Rattle.c_expr.specs.Front as f
use Rattle.c_expr.specs.Shown.{left, shown}
use Rattle.c_expr.proofs.Turns.{gives-same, max-is}
use Rattle.c_expr.proofs.nodes.call.Goals as goal

pub grown-requires : goal.grown-requires
grown-requires c =
    let m = max-is c.args.callee.depth c.args.args.depth in
    let callee = ap (λ e. expr_depth (expr_of e)) c.in_ok-callee.ensures.ok in
    let deep : 1 + c.max-depth.result ≡ 1 + max (expr_depth (expr_of c.in_ok-callee.callee.value)) (exprs_depth (exprs_from c.args.args.trees.items)) =
    omega (arith, c.max-depth.ensures, m, callee, c.args.callee.depth_is, c.args.args.depth_is) in
    deep ∙ sym (ap expr_depth (expr_of-Call c.args.line c.in_ok-callee.callee c.args.args.trees))

pub returns : goal.returns
returns c =
    let callee = ap (λ e. t.call c.args.line (expr_of e) (exprs_from c.args.args.trees.items)) c.in_ok-callee.ensures.ok in
    gives-same shown c.grown.result _ _ (ap (λ e. f.grown expr_depth 200 e (left c.args.args.rest)) (expr_of-Call c.args.line c.in_ok-callee.callee c.args.args.trees ∙ callee)) c.grown.ensures
