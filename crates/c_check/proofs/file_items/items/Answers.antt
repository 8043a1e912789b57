-- Each part is judged where those before it stand.
use Rattle.std.proofs.Common.{List, [], map, refl}
use Rattle.std.specs.Prelude.{Option}
use Rattle.c_type.specs.Of.{type_of}
use Rattle.c_type.specs.Types.{CType}
use Rattle.c_tree.specs.declared.decl.Storage.{Storage}
use Rattle.c_tree.specs.declared.decl.Item.{Item}
use Rattle.c_tree.specs.TreeOf as u
use Rattle.c_tree.specs.TUnit as t
use Rattle.c_tree.specs.TypedOf.{typed_item_of}
use Rattle.c_check.specs.FileParts.{judged_item_here}
use Rattle.c_rule.specs.RuleScope.{Judged, Env}
use Rattle.c_scope.specs.declared.error.TypeErr.{TypeErr}
use Rattle.c_scope.specs.EnvOf.{env_of}
use Rattle.c_rule.specs.Judging.{Behind}
use Rattle.c_rule.specs.JudgingUnit as j
use Rattle.c_local.proofs.Lists.{in_front, onto_list, err_judged}
use Rattle.c_tag.proofs.InOrder.{first, next, refused, last}
use Rattle.c_check.proofs.Rows.{item_row}
use Rattle.c_check.proofs.file_items.items.Goals as goal

-- the outcome of the parts of a list, and of one part
abbrev all : Option Storage → CType → Env → List Item → Judged (Behind (List t.Item))
all s base e xs = j.judged_file_items e s base (map u.item_of xs)

abbrev one : Option Storage → CType → Env → Item → Judged (Behind t.Item)
one s base e x = judged_item_here e s base (u.item_of x)

pub loop-one-init : goal.loop-one-init
loop-one-init c =
    let s : Option Storage = c.args.storage in
    let base : CType = type_of c.args.base.now in
    first typed_item_of in_front (one s base) (all s base) (item_row s base) (env_of c.args.c.now) c.args.items.now c.new-typed.result.items c.new-typed.ensures.items

pub loop-one-preserved : goal.loop-one-preserved
loop-one-preserved c =
    let s : Option Storage = c.args.storage in
    let base : CType = type_of c.args.base.now in
    next typed_item_of in_front (one s base) (all s base) (item_row s base) (env_of c.args.c.now) (env_of c.loop-one.c) (env_of c.item.new.c) c.args.items.now c.loop-one.one-index c.one-item.result
    c.loop-one.typed.items c.push.new.self.items c.in_ok-item.item c.loop-one.invariant c.loop-one-test.true c.one-item.is c.in_ok-item.ensures.judged
    c.in_ok-push.ensures.items

pub returns-in_err-item : goal.returns-in_err-item
returns-in_err-item c =
    let s : Option Storage = c.args.storage in
    let base : CType = type_of c.args.base.now in
    let w : TypeErr = c.in_err-item.field-0.0 in
    record {
      judged =
          err_judged _ _ c.from_residual.result w c.from_residual.ensures.1
          (refused typed_item_of in_front (one s base) (all s base) (item_row s base) (env_of c.args.c.now) (env_of c.loop-one.c) c.args.items.now c.loop-one.one-index c.one-item.result
          c.loop-one.typed.items w c.loop-one.invariant c.loop-one-test.true c.one-item.is c.in_err-item.ensures.judged);
    }

pub returns : goal.returns
returns c =
    let s : Option Storage = c.args.storage in
    let base : CType = type_of c.args.base.now in
    record {
      judged =
          last typed_item_of in_front (one s base) (all s base) (item_row s base) (env_of c.args.c.now) (env_of c.loop-one.c) c.args.items.now c.loop-one.one-index c.loop-one.typed.items [] (map typed_item_of c.loop-one.typed.items)
          c.loop-one.invariant c.loop-one-test.false refl (onto_list typed_item_of c.loop-one.typed.items);
    }
