-- Each declarator is judged where those before it stand.
use Rattle.std.proofs.Common.{◌+◌, ℕ, List, [], ◌∷◌, drop, map}
use Rattle.c_type.specs.Of.{type_of}
use Rattle.c_type.specs.Types.{CType}
use Rattle.c_tree.specs.declared.decl.Item.{Item}
use Rattle.c_tree.specs.declared.typed_stmt.TLocal.{TLocal}
use Rattle.c_tree.specs.TreeOf as u
use Rattle.c_tree.specs.TStmt.{Local}
use Rattle.c_tree.specs.TypedOf.{local_of}
use Rattle.c_rule.specs.RuleScope.{Judged, Env}
use Rattle.c_scope.specs.EnvOf.{env_of}
use Rattle.c_rule.specs.Judging.{Behind, judged_locals}
use Rattle.c_local.specs.Here.{judged_item_here}
use Rattle.c_local.proofs.FromHere.{from_here}
use Rattle.c_local.proofs.Here.{item_row, items_end}
use Rattle.c_local.proofs.Lists.{in_front, none_before, next_part, part_refused, all_parts, onto_list, err_judged}
use Rattle.c_local.proofs.locals.items.Goals as goal

abbrev view : TLocal → List Local → List Local
view x r = local_of x ∷ r

pub loop-one-init : goal.loop-one-init
loop-one-init c =
    none_before view c.new-typed.result.items (judged_locals (env_of c.args.c.now) c.args.storage (type_of c.args.base.now) (map u.item_of c.args.items.now)) c.new-typed.ensures.items

pub loop-one-preserved : goal.loop-one-preserved
loop-one-preserved c =
    let is : List Item = c.args.items.now in
    let i : ℕ = c.loop-one.one-index in
    let x : Item = c.one-item.result in
    let base : CType = type_of c.args.base.now in
    let e : Env = env_of c.loop-one.c in
    next_part local_of in_front c.loop-one.typed.items c.push.new.self.items c.in_ok-local.local (judged_locals (env_of c.args.c.now) c.args.storage base (map u.item_of is))
    (judged_locals e c.args.storage base (map u.item_of (drop i is))) (judged_item_here e c.args.storage base (u.item_of x))
    (λ d. judged_locals d c.args.storage base (map u.item_of (drop (i + 1) is))) (env_of c.item.new.c) c.loop-one.invariant
    (item_row e c.args.storage base x (drop i is) (drop (i + 1) is) (from_here is i x c.loop-one-test.true c.one-item.is)) c.in_ok-local.ensures.judged c.in_ok-push.ensures.items

pub returns-in_err-local : goal.returns-in_err-local
returns-in_err-local c =
    let is : List Item = c.args.items.now in
    let i : ℕ = c.loop-one.one-index in
    let x : Item = c.one-item.result in
    let base : CType = type_of c.args.base.now in
    let e : Env = env_of c.loop-one.c in
    let whole : Judged (Behind (List Local)) = judged_locals (env_of c.args.c.now) c.args.storage base (map u.item_of is) in
    record {
      judged =
          err_judged _ whole c.from_residual.result c.in_err-local.field-0.0 c.from_residual.ensures.1
          (part_refused view in_front c.loop-one.typed.items whole (judged_locals e c.args.storage base (map u.item_of (drop i is))) (judged_item_here e c.args.storage base (u.item_of x))
          (λ d. judged_locals d c.args.storage base (map u.item_of (drop (i + 1) is))) c.in_err-local.field-0.0 c.loop-one.invariant
          (item_row e c.args.storage base x (drop i is) (drop (i + 1) is) (from_here is i x c.loop-one-test.true c.one-item.is)) c.in_err-local.ensures.judged);
    }

pub returns : goal.returns
returns c =
    let is : List Item = c.args.items.now in
    let i : ℕ = c.loop-one.one-index in
    let base : CType = type_of c.args.base.now in
    let e : Env = env_of c.loop-one.c in
    record {
      judged =
          all_parts view c.loop-one.typed.items (judged_locals (env_of c.args.c.now) c.args.storage base (map u.item_of is)) (judged_locals e c.args.storage base (map u.item_of (drop i is))) []
          (map local_of c.loop-one.typed.items) e c.loop-one.invariant (items_end e c.args.storage base is i c.loop-one-test.false) (onto_list local_of c.loop-one.typed.items);
    }
