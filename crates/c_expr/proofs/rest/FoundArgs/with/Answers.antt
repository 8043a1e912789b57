use Rattle.std.proofs.Common.{ap, sym, ◌∙◌, arith, Some}
use Rattle.c_tree.specs.TreeOf.{exprs_from}
use Rattle.c_expr.specs.Shown.{left}
use Rattle.c_expr.proofs.Turns.{max-is, pushed, with-one}
use Rattle.c_expr.proofs.rest.FoundArgs.with.Goals as goal

pub invariant_of-result : goal.invariant_of-result
invariant_of-result c =
    let items = c.in_ok-push.ensures.items in
    let m = max-is c.args.self.depth c.args.next.depth in
    record {
      depth_is = pushed c.args.self.trees.items c.push.new.self.items c.args.next.tree c.args.self.depth c.args.next.depth c.max-depth.result items c.max-depth.ensures c.args.self.depth_is c.args.next.depth_is;
      is_low = omega (arith, c.args.self.is_low, c.args.next.is_low, c.max-depth.ensures, m);
    }

pub returns : goal.returns
returns c = ap (λ es. Some (es, left c.args.next.rest)) (with-one c.args.self.trees.items c.args.next.tree ∙ sym (ap exprs_from c.in_ok-push.ensures.items))
