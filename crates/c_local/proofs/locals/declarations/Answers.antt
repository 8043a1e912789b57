-- Each declaration is judged where those before it stand.
use Rattle.std.proofs.Common.{◌+◌, ℕ, List, [], ◌∷◌, drop, map}
use Rattle.c_tree.specs.declared.decl.LocalDecl.{LocalDecl as RustDecl}
use Rattle.c_tree.specs.declared.typed_stmt.TLocalDecl.{TLocalDecl}
use Rattle.c_tree.specs.TreeOf as u
use Rattle.c_tree.specs.TStmt.{LocalDecl}
use Rattle.c_tree.specs.TypedOf.{local_decl_of}
use Rattle.c_rule.specs.RuleScope.{Judged, Env}
use Rattle.c_scope.specs.EnvOf.{env_of}
use Rattle.c_rule.specs.Judging.{Behind, judged_decls}
use Rattle.c_local.specs.Here.{judged_decl_here}
use Rattle.c_local.proofs.FromHere.{from_here}
use Rattle.c_local.proofs.Here.{decl_row, decls_end}
use Rattle.c_local.proofs.Lists.{in_front, none_before, next_part, part_refused, all_parts, onto_list, err_judged}
use Rattle.c_local.proofs.locals.declarations.Goals as goal

abbrev view : TLocalDecl → List LocalDecl → List LocalDecl
view x r = local_decl_of x ∷ r

pub loop-decl-init : goal.loop-decl-init
loop-decl-init c = none_before view c.new-typed.result.items (judged_decls (env_of c.args.c.now) (map u.local_of c.args.decls.now)) c.new-typed.ensures.items

pub loop-decl-preserved : goal.loop-decl-preserved
loop-decl-preserved c =
    let ds : List RustDecl = c.args.decls.now in
    let i : ℕ = c.loop-decl.decl-index in
    let x : RustDecl = c.decl-item.result in
    let e : Env = env_of c.loop-decl.c in
    next_part local_decl_of in_front c.loop-decl.typed.items c.push.new.self.items c.in_ok-one.one (judged_decls (env_of c.args.c.now) (map u.local_of ds)) (judged_decls e (map u.local_of (drop i ds)))
    (judged_decl_here e (u.local_of x)) (λ d. judged_decls d (map u.local_of (drop (i + 1) ds))) (env_of c.declaration.new.c) c.loop-decl.invariant
    (decl_row e x (drop i ds) (drop (i + 1) ds) (from_here ds i x c.loop-decl-test.true c.decl-item.is)) c.in_ok-one.ensures.judged c.in_ok-push.ensures.items

pub returns-in_err-one : goal.returns-in_err-one
returns-in_err-one c =
    let ds : List RustDecl = c.args.decls.now in
    let i : ℕ = c.loop-decl.decl-index in
    let x : RustDecl = c.decl-item.result in
    let e : Env = env_of c.loop-decl.c in
    let whole : Judged (Behind (List LocalDecl)) = judged_decls (env_of c.args.c.now) (map u.local_of ds) in
    record {
      judged =
          err_judged _ whole c.from_residual.result c.in_err-one.field-0.0 c.from_residual.ensures.1
          (part_refused view in_front c.loop-decl.typed.items whole (judged_decls e (map u.local_of (drop i ds))) (judged_decl_here e (u.local_of x))
          (λ d. judged_decls d (map u.local_of (drop (i + 1) ds))) c.in_err-one.field-0.0 c.loop-decl.invariant
          (decl_row e x (drop i ds) (drop (i + 1) ds) (from_here ds i x c.loop-decl-test.true c.decl-item.is)) c.in_err-one.ensures.judged);
    }

pub returns : goal.returns
returns c =
    let ds : List RustDecl = c.args.decls.now in
    let i : ℕ = c.loop-decl.decl-index in
    let e : Env = env_of c.loop-decl.c in
    record {
      judged =
          all_parts view c.loop-decl.typed.items (judged_decls (env_of c.args.c.now) (map u.local_of ds)) (judged_decls e (map u.local_of (drop i ds))) [] (map local_decl_of c.loop-decl.typed.items) e
          c.loop-decl.invariant (decls_end e ds i c.loop-decl-test.false) (onto_list local_decl_of c.loop-decl.typed.items);
    }
