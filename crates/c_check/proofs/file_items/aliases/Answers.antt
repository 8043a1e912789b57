-- Each part is judged where those before it stand.
use Rattle.std.proofs.Common.{List, [], ◌∷◌, ◌++◌, ap, ◌∙◌, map, refl}
use Rattle.c_type.specs.Of.{type_of}
use Rattle.c_type.specs.Types.{CType}
use Rattle.c_tree.specs.declared.decl.Declr.{Declr}
use Rattle.c_tree.specs.TreeOf as u
use Rattle.c_tree.specs.TStmt as st
use Rattle.c_tree.specs.TypedOf.{declr_of}
use Rattle.c_check.specs.FileParts.{judged_alias_here}
use Rattle.c_rule.specs.RuleScope.{Judged, Env}
use Rattle.c_scope.specs.declared.error.TypeErr.{TypeErr}
use Rattle.c_scope.specs.EnvOf.{env_of}
use Rattle.c_rule.specs.Judging.{Behind}
use Rattle.c_rule.specs.JudgingUnit as j
use Rattle.c_local.proofs.Lists.{in_front, onto_list, err_judged}
use Rattle.c_tag.proofs.InOrder.{first, next, refused, last}
use Rattle.c_check.proofs.Rows.{alias_row}
use Rattle.c_check.proofs.file_items.aliases.Goals as goal

-- the outcome of the parts of a list, and of one part
abbrev all : CType → Env → List Declr → Judged (Behind (List st.Declr))
all base e xs = j.judged_aliases e base (map u.declr_of xs)

abbrev one : CType → Env → Declr → Judged (Behind st.Declr)
one base e x = judged_alias_here e base (u.declr_of x)

pub loop-declr-init : goal.loop-declr-init
loop-declr-init c =
    let base : CType = type_of c.args.base.now in
    first declr_of in_front (one base) (all base) (alias_row base) (env_of c.args.c.now) c.args.declrs.now c.new-typed.result.items c.new-typed.ensures.items

pub loop-declr-preserved : goal.loop-declr-preserved
loop-declr-preserved c =
    let base : CType = type_of c.args.base.now in
    next declr_of in_front (one base) (all base) (alias_row base) (env_of c.args.c.now) (env_of c.loop-declr.c) (env_of c.alias.new.c) c.args.declrs.now c.loop-declr.declr-index c.declr-item.result
    c.loop-declr.typed.items c.push.new.self.items c.in_ok-one.one.value c.loop-declr.invariant c.loop-declr-test.true c.declr-item.is c.in_ok-one.ensures.judged
    (c.in_ok-push.ensures.items ∙ ap (λ y. c.loop-declr.typed.items ++ y ∷ []) c.into_inner.ensures)

pub returns-in_err-one : goal.returns-in_err-one
returns-in_err-one c =
    let base : CType = type_of c.args.base.now in
    let w : TypeErr = c.in_err-one.field-0.0 in
    record {
      judged =
          err_judged _ _ c.from_residual.result w c.from_residual.ensures.1
          (refused declr_of in_front (one base) (all base) (alias_row base) (env_of c.args.c.now) (env_of c.loop-declr.c) c.args.declrs.now c.loop-declr.declr-index c.declr-item.result
          c.loop-declr.typed.items w c.loop-declr.invariant c.loop-declr-test.true c.declr-item.is c.in_err-one.ensures.judged);
    }

pub returns : goal.returns
returns c =
    let base : CType = type_of c.args.base.now in
    record {
      judged =
          last declr_of in_front (one base) (all base) (alias_row base) (env_of c.args.c.now) (env_of c.loop-declr.c) c.args.declrs.now c.loop-declr.declr-index c.loop-declr.typed.items [] (map declr_of c.loop-declr.typed.items)
          c.loop-declr.invariant c.loop-declr-test.false refl (onto_list declr_of c.loop-declr.typed.items);
    }
