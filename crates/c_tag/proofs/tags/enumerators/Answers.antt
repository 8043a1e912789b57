-- Each enumerator is judged where those before it stand.
use Rattle.std.proofs.Common.{◌≡◌, ℕ, ◌+◌, ◌<◌, List, [], ◌∷◌, ◌++◌, Option, Some, None, drop, length, map, slice_index_or, sym, ap, ◌∙◌}
use Rattle.std.proofs.lemmas.List.{drop_all}
use Rattle.c_tree.specs.declared.decl.En.{En}
use Rattle.c_tree.specs.declared.typed_unit.TEnumerator.{TEnumerator}
use Rattle.c_tree.specs.TreeOf.{en_of}
use Rattle.c_tree.specs.TUnit as t
use Rattle.c_tree.specs.TypedOf.{enumerator_of}
use Rattle.c_rule.specs.RuleScope.{Judged, onward, Env}
use Rattle.c_scope.specs.declared.error.TypeErr.{TypeErr}
use Rattle.c_scope.specs.EnvOf.{env_of}
use Rattle.c_rule.specs.Judging.{Behind, behind}
use Rattle.c_rule.specs.JudgingUnit.{judged_enumerators}
use Rattle.c_scope.specs.Says.{Refused}
use Rattle.c_local.proofs.FromHere.{from_here}
use Rattle.c_local.proofs.Lists.{with_parts, none_before, one_more, refused_after, all_parts, onto_list, err_judged, body_refused}
use Rattle.c_tag.specs.TagParts.{judged_enumerator_here}
use Rattle.c_tag.proofs.TagRows.{enumerator_row}
use Rattle.c_tag.proofs.tags.enumerators.Goals as goal

abbrev view : TEnumerator → List t.Enumerator → List t.Enumerator
view x r = enumerator_of x ∷ r

-- the outcome of a list
abbrev all : Env → Option ℕ → List En → Judged (Behind (List t.Enumerator))
all e before xs = judged_enumerators e before (map en_of xs)

-- what follows an enumerator
abbrev rest : List En → Behind t.Enumerator → Judged (Behind (List t.Enumerator))
rest xs z = onward (all z.env (Some z.tree.value) xs) (λ r. behind (z.tree ∷ r.tree) r.env)

here : (e : Env) (before : Option ℕ) (ps : List En) (i : ℕ) (x : En) → i < length ps → x ≡ slice_index_or ps i x →
    all e before (drop i ps) ≡ onward (judged_enumerator_here e before (en_of x)) (rest (drop (i + 1) ps))
here e before ps i x lt is = ap (all e before) (from_here ps i x lt is) ∙ enumerator_row e before x (drop (i + 1) ps)

pub loop-part-init : goal.loop-part-init
loop-part-init c = none_before view c.new-typed.result.items (all (env_of c.args.c.now) None c.args.parts.now) c.new-typed.ensures.items

pub loop-part-preserved : goal.loop-part-preserved
loop-part-preserved c =
    let ps : List En = c.args.parts.now in
    let i : ℕ = c.loop-part.part-index in
    let e : Env = env_of c.loop-part.c in
    let n : TEnumerator = c.in_ok-one.one.value in
    let row : all e c.loop-part.before (drop i ps) ≡ rest (drop (i + 1) ps) (record { tree = enumerator_of n; env = env_of c.declared_enumerator.new.c }) =
    here e c.loop-part.before ps i c.part-item.result c.loop-part-test.true c.part-item.is ∙ ap (λ k. onward k (rest (drop (i + 1) ps))) c.in_ok-one.ensures.judged in
    one_more view c.loop-part.typed.items c.push.new.self.items n (all (env_of c.args.c.now) None ps) (all e c.loop-part.before (drop i ps))
    (all (env_of c.declared_enumerator.new.c) (Some n.value) (drop (i + 1) ps)) c.loop-part.invariant row
    (c.in_ok-push.ensures.items ∙ ap (λ y. c.loop-part.typed.items ++ y ∷ []) c.into_inner.ensures) ∙
    ap (λ y. with_parts view c.push.new.self.items (all (env_of c.declared_enumerator.new.c) (Some y.value) (drop (i + 1) ps))) (sym c.deref.ensures)

pub returns-in_err-one : goal.returns-in_err-one
returns-in_err-one c =
    let ps : List En = c.args.parts.now in
    let i : ℕ = c.loop-part.part-index in
    let e : Env = env_of c.loop-part.c in
    let w : TypeErr = c.in_err-one.field-0.0 in
    let left : Refused (all e c.loop-part.before (drop i ps)) w =
    body_refused (all e c.loop-part.before (drop i ps)) (judged_enumerator_here e c.loop-part.before (en_of c.part-item.result)) (rest (drop (i + 1) ps)) w
    (here e c.loop-part.before ps i c.part-item.result c.loop-part-test.true c.part-item.is) c.in_err-one.ensures.judged in
    record {
      judged =
          err_judged _ _ c.from_residual.result w c.from_residual.ensures.1
          (refused_after view c.loop-part.typed.items (all (env_of c.args.c.now) None ps) (all e c.loop-part.before (drop i ps)) w c.loop-part.invariant left);
    }

pub returns : goal.returns
returns c =
    let ps : List En = c.args.parts.now in
    let i : ℕ = c.loop-part.part-index in
    let e : Env = env_of c.loop-part.c in
    record {
      judged =
          all_parts view c.loop-part.typed.items (all (env_of c.args.c.now) None ps) (all e c.loop-part.before (drop i ps)) [] (map enumerator_of c.loop-part.typed.items) e c.loop-part.invariant
          (ap (all e c.loop-part.before) (drop_all i ps c.loop-part-test.false)) (onto_list enumerator_of c.loop-part.typed.items);
    }
