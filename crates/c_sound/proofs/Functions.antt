-- Of a program that no check refuses, each function that is used is there and gives what its type says, and each external object that is used is there.
use Rattle.std.proofs.Common.{◌≡◌, ℕ, zero, suc, ◌+◌, ◌<◌, List, [], ◌∷◌, map, length, Bool, true, false, not, ◌&&◌, ◌||◌, nat_eq, slice_get, find, option_map, Option, Some, None, ◌⊎◌, inl, inr, refl, sym, ap, ◌∙◌, subst, true≢false, arith}
use Rattle.std.specs.List.{list_any, filter_map}
use Rattle.std.proofs.lemmas.Bool.{and_from, and_parts, eqb-true}
use Rattle.std.proofs.lemmas.Slice.Eq.{bytes_eq-Decides}
use Rattle.c_type.specs.Names.{Name, same_name, pick, or_else}
use Rattle.c_type.specs.Types.{CType, fun, is_integer}
use Rattle.c_tree.specs.TStmt.{Init}
use Rattle.c_tree.specs.TUnit.{Func, TypedUnit, Program, funcs_of}
use Rattle.c_rule.specs.RuleTypes.{is_function}
use Rattle.c_tree.specs.Bodies.{BodyAt, bodies_from, body_in, body_named}
use Rattle.c_run.specs.Context.{Linked, Context, linked, context_of, own, outer, as_body, as_static}
use Rattle.c_tree.specs.Library.{putchar_name, getchar_name, exit_name, main_name}
use Rattle.c_run.specs.Values.{Putchar, Getchar, Exit}
use Rattle.c_run.specs.Lasting.{OfName, lastings, number_in, said_from}
use Rattle.c_run.specs.Mentions.{Outside, in_exts}
use Rattle.c_join.specs.JoinSaid.{Event, Whose, External, Own, Outer, Saying, Declared, Common, Begun, Defined, Used, Named, Called, event, defined, of_function, events, Subject, external, static_in, function_of, of_body, subject, is_lacking, defines_static, declares_static, Fact, facts}
use Rattle.c_join.specs.JoinTypes.{Relation, TypeIn}
use Rattle.c_join.specs.JoinChecks.{int_type, library, is_there, is_name, in_library, same_subject, about, is_use, is_definition, is_undefined, given_type, first_type, type_in, declared_types, is_clash, is_twice, is_misfit, first_with, NoMain, Twice, Undefined, Clash, Arguments, is_body, has_main, refusal}
use Rattle.c_sound.specs.HasType.{like, BodyGives}
use Rattle.c_sound.specs.Program.{IsThere, IsCallable, GivesInteger, IsMain}
use Rattle.c_sound.proofs.Listed.{IsIn, in_first, in_second, in_map, in_filter, of_filter, in_filter_map, none_found, some_passes, passing}
use Rattle.c_sound.proofs.Traced.{BehindSaying, exts_traced, func_said}
use Rattle.c_sound.proofs.Objects.{same_itself, number_itself, objects_stand}
use Rattle.c_sound.proofs.UnitsAt.{IsUnit, one_unit, body_at, body_of_unit, unit_of_body, fact_of, fact_of_unit, unit_of_fact, said_of, said_of_unit, IsFound, own_found, is_outer, named_found}
use Rattle.c_sound.proofs.Agree.{none_differ, like_function, like_int}
use Rattle.c_sound.proofs.Known.{SaysObject, DeclaredIn, KnowsObjects, AllKnow}

-- what no check of the join refuses
pub record Accepted (us : List TypedUnit) (r : Relation) : Type 0 where
  pub main : has_main (facts us) ≡ true
  pub defined : (f : Fact) → IsIn f (facts us) → is_undefined f.about (about f.about (facts us)) ≡ false
  pub agree : (f : Fact) → IsIn f (facts us) → is_clash r f.about (about f.about (facts us)) ≡ false

neither : {A : Type 0} (a b : Option A) → or_else a b ≡ None → (a ≡ None) × (b ≡ None)
neither None b h = (refl, h)
neither (Some a) b h = cc

unmapped : {A B : Type 0} (f : A → B) (o : Option A) → option_map f o ≡ None → o ≡ None
unmapped f None h = refl
unmapped f (Some a) h = cc

not_picked : (b : Bool) → pick (not b) (Some NoMain) None ≡ None → b ≡ true
not_picked true h = refl
not_picked false h = cc

no_first : (fault : Subject → List Fact → Bool) (fs : List Fact) (f : Fact) → first_with fault fs ≡ None → IsIn f fs → fault f.about (about f.about fs) ≡ false
no_first fault fs f h g =
    none_found (λ s. fault s (about s fs)) f.about (map (λ f. f.about) fs) (unmapped (λ s. s.name) (find (λ s. fault s (about s fs)) (map (λ f. f.about) fs)) h) (in_map (λ f. f.about) f fs g)

pub accepted : (us : List TypedUnit) (r : Relation) → refusal true us r ≡ None → Accepted us r
accepted us r h =
    let fs = facts us in
    let a = neither (pick (not (has_main fs)) (Some NoMain) None) (or_else (option_map Twice (first_with is_twice fs)) (or_else (option_map Undefined (first_with is_undefined fs)) (or_else (option_map Clash (first_with (is_clash r) fs)) (option_map Arguments (first_with (is_misfit us r) fs))))) h in
    let b = neither (option_map Twice (first_with is_twice fs)) (or_else (option_map Undefined (first_with is_undefined fs)) (or_else (option_map Clash (first_with (is_clash r) fs)) (option_map Arguments (first_with (is_misfit us r) fs)))) a.1 in
    let c = neither (option_map Undefined (first_with is_undefined fs)) (or_else (option_map Clash (first_with (is_clash r) fs)) (option_map Arguments (first_with (is_misfit us r) fs))) b.1 in
    let d = neither (option_map Clash (first_with (is_clash r) fs)) (option_map Arguments (first_with (is_misfit us r) fs)) c.1 in
    record {
      main = not_picked (has_main fs) a.0;
      defined = λ f i. no_first is_undefined fs f (unmapped Undefined (first_with is_undefined fs) c.0) i;
      agree = λ f i. no_first (is_clash r) fs f (unmapped Clash (first_with (is_clash r) fs) d.0) i;
    }

-- subjects

one_subject : (w : Option ℕ) (x : Name) → same_subject (record { within = w; name = x }) (record { within = w; name = x }) ≡ true
one_subject None x = same_itself x
one_subject (Some u) x = and_from (nat_eq u u) (same_name x x) (number_itself u) (same_itself x)

subject_itself : (s : Subject) → same_subject s s ≡ true
subject_itself s = one_subject s.within s.name

same_about : (s t : Subject) → s ≡ t → same_subject s t ≡ true
same_about s t e = subst (λ z. same_subject s z ≡ true) e (subject_itself s)

function_subject : (u : ℕ) (fs : List Func) (lacking : Name → Bool) (s : Bool) (x : Name) → subject u fs lacking (of_function s x) ≡ function_of u s x
function_subject u fs lacking true x = refl
function_subject u fs lacking false x = refl

-- an external name is that of a function which isn't static
external_function : (x : Name) (u : ℕ) (s : Bool) (y : Name) → same_subject (external x) (function_of u s y) ≡ true → (s ≡ false) × (x ≡ y)
external_function x u true y h = cc
external_function x u false y h = (refl, (bytes_eq-Decides x y).0 h)

-- and a static one that of a static function of its unit
static_function : (v : ℕ) (x : Name) (u : ℕ) (s : Bool) (y : Name) → same_subject (static_in v x) (function_of u s y) ≡ true → (s ≡ true) × (v ≡ u) × (x ≡ y)
static_function v x u true y h = let q = and_parts (nat_eq v u) (same_name x y) h in (refl, eqb-true v u q.0, (bytes_eq-Decides x y).0 q.1)
static_function v x u false y h = cc

-- definitions

-- the fact is a declaration without `extern` of an object
record ObjectAt (us : List TypedUnit) (g : Fact) : Type 0 where
  name : Name
  ty : CType
  unit : ℕ
  typed : TypedUnit
  init : Option Init
  is : IsUnit 0 us unit typed
  mentioned : IsIn (Outside name ty init) (in_exts typed.exts)
  subject : g.about ≡ external name
  gives : given_type g.says ≡ Some ty
  object : is_function ty ≡ false

-- the fact is a function body
record BodyOf (us : List TypedUnit) (g : Fact) : Type 0 where
  unit : ℕ
  typed : TypedUnit
  func : Func
  is : IsUnit 0 us unit typed
  there : IsIn func (funcs_of typed.exts)
  subject : g.about ≡ function_of unit func.is_static func.name
  gives : given_type g.says ≡ Some (fun func.result)

known_at : (n : ℕ) (us : List TypedUnit) (u : ℕ) (t : TypedUnit) → AllKnow us → IsUnit n us u t → KnowsObjects t
known_at n [] u t h g = absurd g
known_at n (x ∷ xs) u t h (inl g) = subst KnowsObjects (sym g.1) h.0
known_at n (x ∷ xs) u t h (inr g) = known_at (suc n) xs u t h.1 g

body_event : (us : List TypedUnit) (u : ℕ) (t : TypedUnit) (w : Whose) (ty : CType) (ps : List CType) → IsUnit 0 us u t →
    BehindSaying (funcs_of t.exts) (in_exts t.exts) w (Defined ty ps) → BodyOf us (fact_of u t (event w (Defined ty ps)))
body_event us u t w ty ps i b =
    record {
      unit = u;
      typed = t;
      func = b.0;
      is = i;
      there = b.1;
      subject = ap (λ v. subject u (funcs_of t.exts) (is_lacking (events t)) v.about) b.2 ∙ function_subject u (funcs_of t.exts) (is_lacking (events t)) b.0.is_static b.0.name;
      gives = ap (λ v. given_type v.says) b.2;
    }

definition_event : (us : List TypedUnit) (u : ℕ) (t : TypedUnit) (w : Whose) (s : Saying) → KnowsObjects t → IsUnit 0 us u t → BehindSaying (funcs_of t.exts) (in_exts t.exts) w s → is_definition s ≡ true →
    ObjectAt us (fact_of u t (event w s)) ⊎ BodyOf us (fact_of u t (event w s))
definition_event us u t w (Declared ty) k i b d = cc
definition_event us u t w (Common ty) k i b d =
    inl (record {
      name = b.0;
      ty = ty;
      unit = u;
      typed = t;
      init = None;
      is = i;
      mentioned = b.2;
      subject = ap (subject u (funcs_of t.exts) (is_lacking (events t))) b.1;
      gives = refl;
      object = k.objects b.0 ty None b.2;
    })
definition_event us u t w (Begun ty) k i b d =
    inl (record {
      name = b.0;
      ty = ty;
      unit = u;
      typed = t;
      init = Some b.1;
      is = i;
      mentioned = b.3;
      subject = ap (subject u (funcs_of t.exts) (is_lacking (events t))) b.2;
      gives = refl;
      object = k.objects b.0 ty (Some b.1) b.3;
    })
definition_event us u t w (Defined ty ps) k i b d = inr (body_event us u t w ty ps i b)
definition_event us u t w Used k i b d = cc
definition_event us u t w (Named ty) k i b d = cc
definition_event us u t w (Called es) k i b d = cc

-- a definition is that of an object or that of a function
definition_is : (us : List TypedUnit) (g : Fact) → AllKnow us → IsIn g (facts us) → is_definition g.says ≡ true → ObjectAt us g ⊎ BodyOf us g
definition_is us g k h d =
    let q = unit_of_fact 0 us g h in
    subst (λ z. ObjectAt us z ⊎ BodyOf us z) (sym q.5)
    (definition_event us q.0 q.1 q.2.about q.2.says (known_at 0 us q.0 q.1 k q.3) q.3 ((exts_traced q.1.exts).1 q.2 q.4) (subst (λ z. is_definition z.says ≡ true) q.5 d))

body_saying : (us : List TypedUnit) (u : ℕ) (t : TypedUnit) (w : Whose) (s : Saying) → IsUnit 0 us u t → BehindSaying (funcs_of t.exts) (in_exts t.exts) w s → is_body s ≡ true →
    BodyOf us (fact_of u t (event w s))
body_saying us u t w (Declared ty) i b d = cc
body_saying us u t w (Common ty) i b d = cc
body_saying us u t w (Begun ty) i b d = cc
body_saying us u t w (Defined ty ps) i b d = body_event us u t w ty ps i b
body_saying us u t w Used i b d = cc
body_saying us u t w (Named ty) i b d = cc
body_saying us u t w (Called es) i b d = cc

body_is : (us : List TypedUnit) (g : Fact) → IsIn g (facts us) → is_body g.says ≡ true → BodyOf us g
body_is us g h d =
    let q = unit_of_fact 0 us g h in
    subst (λ z. BodyOf us z) (sym q.5) (body_saying us q.0 q.1 q.2.about q.2.says q.3 ((exts_traced q.1.exts).1 q.2 q.4) (subst (λ z. is_body z.says ≡ true) q.5 d))

-- types of one name

-- the type of a function that gives int
abbrev int_function : TypeIn
int_function = record { unit = 0; ty = fun int_type }

module _ (us : List TypedUnit) (r : Relation) (acc : Accepted us r) where
  given_in : (f g : Fact) (t : CType) → IsIn g (facts us) → same_subject f.about g.about ≡ true → given_type g.says ≡ Some t →
      IsIn (record { unit = g.unit; ty = t }) (declared_types f.about (about f.about (facts us)))
  given_in f g t i s e =
      in_second _ (first_type f.about) (filter_map type_in (about f.about (facts us)))
      (in_filter_map type_in g _ (about f.about (facts us)) (in_filter (λ h. same_subject f.about h.about) g (facts us) i s) (ap (option_map (λ t. record { unit = g.unit; ty = t })) e))

  given_alike : (f g : Fact) (t t' : CType) → IsIn f (facts us) → IsIn g (facts us) → same_subject f.about g.about ≡ true → given_type f.says ≡ Some t → given_type g.says ≡ Some t' → like t t' ≡ true
  given_alike f g t t' i j s e e' =
      none_differ r (declared_types f.about (about f.about (facts us))) (record { unit = f.unit; ty = t }) (record { unit = g.unit; ty = t' }) (acc.agree f i)
      (given_in f f t i (subject_itself f.about) e) (given_in f g t' j s e')

  -- a name of the library, and `main`, is a function that gives int
  first_alike : (f g : Fact) (t : CType) → IsIn f (facts us) → IsIn g (facts us) → same_subject f.about g.about ≡ true → given_type g.says ≡ Some t →
      (is_there (in_library f.about) || is_name main_name f.about) ≡ true → like (fun int_type) t ≡ true
  first_alike f g t i j s e l =
      none_differ r (declared_types f.about (about f.about (facts us))) int_function (record { unit = g.unit; ty = t }) (acc.agree f i)
      (in_first int_function (first_type f.about) (filter_map type_in (about f.about (facts us))) (subst (λ b. IsIn int_function (pick b (int_function ∷ []) [])) (sym l) (inl refl)))
      (given_in f g t j s e)

  -- what is used is of the library, or defined
  defined_or_given : (f : Fact) → IsIn f (facts us) → is_use f.says ≡ true →
      (is_there (in_library f.about) ≡ true) ⊎ ((g : Fact) × IsIn g (facts us) × (same_subject f.about g.about ≡ true) × (is_definition g.says ≡ true))
  defined_or_given f i u =
      let fs = about f.about (facts us) in
      case_of (is_there (in_library f.about)) refl
      (settled (list_any (λ g. is_use g.says) fs) (is_there (in_library f.about)) (list_any (λ g. is_definition g.says) fs)
      (some_passes (λ g. is_use g.says) f fs (in_filter (λ h. same_subject f.about h.about) f (facts us) i (subject_itself f.about)) u) (acc.defined f i))
    where
      settled : (a b c : Bool) → a ≡ true → (a && not (b || c)) ≡ false → (b || c) ≡ true
      settled true true c h g = refl
      settled true false true h g = refl
      settled true false false h g = cc
      settled false b c h g = cc

      case_of : (b : Bool) → is_there (in_library f.about) ≡ b → (b || list_any (λ g. is_definition g.says) (about f.about (facts us))) ≡ true →
          (b ≡ true) ⊎ ((g : Fact) × IsIn g (facts us) × (same_subject f.about g.about ≡ true) × (is_definition g.says ≡ true))
      case_of true e h = inl refl
      case_of false e h =
          let q = passing (λ g. is_definition g.says) (about f.about (facts us)) h in
          let w = of_filter (λ g. same_subject f.about g.about) q.0 (facts us) q.1 in
          inr (q.0, w.0, w.1, q.2)

-- functions that are there

-- the fact that a unit has a function
defining : ℕ → TypedUnit → Func → Fact
defining u t f = fact_of u t (defined f)

defining_about : (u : ℕ) (t : TypedUnit) (f : Func) → (defining u t f).about ≡ function_of u f.is_static f.name
unfolding defining
defining_about u t f = function_subject u (funcs_of t.exts) (is_lacking (events t)) f.is_static f.name

defining_in : (us : List TypedUnit) (u : ℕ) (t : TypedUnit) (f : Func) → IsUnit 0 us u t → IsIn f (funcs_of t.exts) → IsIn (defining u t f) (facts us)
unfolding defining
defining_in us u t f i j = fact_of_unit 0 us u t (defined f) i (func_said t.exts f j).0

defining_type : (u : ℕ) (t : TypedUnit) (f : Func) → given_type (defining u t f).says ≡ Some (fun f.result)
unfolding defining
defining_type u t f = refl

-- a body that is found is callable by a type like its own
callable : (w : Linked) (ty : CType) (o : Option ℕ) (b : BodyAt) → IsFound 0 w.bodies o b → like (fun b.func.result) ty ≡ true → IsCallable w ty (as_body o)
callable w (fun ty) o b h e =
    let p : o ≡ Some h.0 = h.1 ∙ ap Some (let e : 0 + h.0 ≡ h.0 = omega arith in e) in
    subst (λ o. IsCallable w (fun ty) (as_body o)) (sym p) (subst (BodyGives ty) (sym h.2) e)
callable w _ o b h e = cc

placed_func : (fs : List Func) (k : ℕ) → k < length fs → (f : Func) × (slice_get fs k ≡ Some f) × IsIn f fs
placed_func [] k h = absurd (omega arith)
placed_func (f ∷ fs) zero h = (f, refl, inl refl)
placed_func (f ∷ fs) (suc k) h = let q = placed_func fs k (omega arith) in (q.0, q.1, inr q.2)

library_callable : (c : Context) (x : Name) (ty : CType) → is_there (library x) ≡ true → like (fun int_type) ty ≡ true → IsCallable c.whole ty (outer c x)
library_callable c x (fun ty) h e = case_of (same_name x putchar_name) (same_name x getchar_name) (same_name x exit_name) h
  where
    case_of : (p g q : Bool) → is_there (pick p (Some (int_type ∷ [])) (pick g (Some []) (pick q (Some (int_type ∷ [])) None))) ≡ true →
        IsCallable c.whole (fun ty) (pick p (Some Putchar) (pick g (Some Getchar) (pick q (Some Exit) (as_body (body_named 0 c.whole.bodies x)))))
    case_of true g q h = e
    case_of false true q h = e
    case_of false false true h = e
    case_of false false false h = cc
library_callable c x _ h e = cc

not_library : (c : Context) (x : Name) → is_there (library x) ≡ false → outer c x ≡ as_body (body_named 0 c.whole.bodies x)
not_library c x h = case_of (same_name x putchar_name) (same_name x getchar_name) (same_name x exit_name) h
  where
    case_of : (p g q : Bool) → is_there (pick p (Some (int_type ∷ [])) (pick g (Some []) (pick q (Some (int_type ∷ [])) None))) ≡ false →
        pick p (Some Putchar) (pick g (Some Getchar) (pick q (Some Exit) (as_body (body_named 0 c.whole.bodies x)))) ≡ as_body (body_named 0 c.whole.bodies x)
    case_of true g q h = cc
    case_of false true q h = cc
    case_of false false true h = cc
    case_of false false false h = refl

outer_about : (u : ℕ) (s : Bool) (y x : Name) → (not s && same_name y x) ≡ true → function_of u s y ≡ external x
outer_about u true y x h = cc
outer_about u false y x h = ap external ((bytes_eq-Decides y x).0 h)

outer_here : (s : Bool) (y x : Name) → s ≡ false → x ≡ y → (not s && same_name y x) ≡ true
outer_here s y x e q = subst (λ s. (not s && same_name y x) ≡ true) (sym e) (subst (λ z. same_name z x ≡ true) q (same_itself x))

defines_here : (s : Bool) (x : Name) (ty : CType) (ps : List CType) → s ≡ true → defines_static x (event (of_function s x) (Defined ty ps)) ≡ true
defines_here true x ty ps e = same_itself x
defines_here false x ty ps e = cc

not_lacking : (vs : List Event) (x : Name) (v : Event) → IsIn v vs → defines_static x v ≡ true → is_lacking vs x ≡ true → ⊥
not_lacking vs x v i d h = case_of (list_any (declares_static x) vs) (list_any (defines_static x) vs) (some_passes (defines_static x) v vs i d) h
  where
    case_of : (a b : Bool) → b ≡ true → (a && not b) ≡ true → ⊥
    case_of true true e g = true≢false (sym g)
    case_of true false e g = true≢false (sym e)
    case_of false b e g = true≢false (sym g)

main_function : (u : ℕ) (s : Bool) (y : Name) → is_name main_name (function_of u s y) ≡ true → (s ≡ false) × (main_name ≡ y)
main_function u true y h = cc
main_function u false y h = (refl, sym ((bytes_eq-Decides y main_name).0 h))

main_is_int : is_there (in_library (external main_name)) || is_name main_name (external main_name) ≡ true
main_is_int = refl

-- the type that a declaration of an object gives
object_type : (s : Saying) → SaysObject s → (ty : CType) × (given_type s ≡ Some ty) × (is_function ty ≡ false)
object_type (Declared ty) h = (ty, refl, h)
object_type (Common ty) h = (ty, refl, h)
object_type (Begun ty) h = (ty, refl, h)
object_type (Defined ty ps) h = absurd h
object_type Used h = absurd h
object_type (Named ty) h = absurd h
object_type (Called es) h = absurd h

module _ (p : Program) (r : Relation) (acc : Accepted p.units r) (known : AllKnow p.units) where
  -- body k of a unit
  pub own_bound : (u n k : ℕ) (t : TypedUnit) (ty : CType) → IsUnit 0 p.units u t → k < length (funcs_of t.exts) → IsIn (event (Own k) (Named ty)) (events t) →
      IsCallable (linked p) ty (own (context_of (linked p) u n) k)
  own_bound u n k t ty i h g =
      let q = placed_func (funcs_of t.exts) k h in
      let named = fact_of u t (event (Own k) (Named ty)) in
      let named_about : named.about ≡ function_of u q.0.is_static q.0.name = ap (of_body u) q.1 in
      callable (linked p) ty (body_in 0 (bodies_from 0 p.units) u k) (body_at u q.0) (own_found 0 0 p.units u k t q.0 i q.1)
      (given_alike p.units r acc (defining u t q.0) named (fun q.0.result) ty (defining_in p.units u t q.0 i q.2) (fact_of_unit 0 p.units u t (event (Own k) (Named ty)) i g)
      (same_about (defining u t q.0).about named.about (defining_about u t q.0 ∙ sym named_about)) (defining_type u t q.0) refl)

  -- the first body of an external name
  named_callable : (x : Name) (ty : CType) (f : Fact) (b : BodyAt) → IsIn f (facts p.units) → f.about ≡ external x → given_type f.says ≡ Some ty → IsIn b (bodies_from 0 p.units) → is_outer x b ≡ true →
      IsCallable (linked p) ty (as_body (body_named 0 (bodies_from 0 p.units) x))
  named_callable x ty f b i e g j o =
      let q = named_found 0 (bodies_from 0 p.units) x b j o in
      let v = unit_of_body 0 p.units q.0 q.2 in
      let d = defining q.0.unit v.0 q.0.func in
      callable (linked p) ty (body_named 0 (bodies_from 0 p.units) x) q.0 q.1
      (given_alike p.units r acc d f (fun q.0.func.result) ty (defining_in p.units q.0.unit v.0 q.0.func v.1 v.2) i
      (same_about d.about f.about (defining_about q.0.unit v.0 q.0.func ∙ outer_about q.0.unit q.0.func.is_static q.0.func.name x q.3 ∙ sym e)) (defining_type q.0.unit v.0 q.0.func) g)

  -- a function whose name is external and which the library doesn't have
  defined_callable : (x : Name) (ty : CType) (f g : Fact) → is_function ty ≡ true → IsIn f (facts p.units) → f.about ≡ external x → given_type f.says ≡ Some ty → IsIn g (facts p.units) →
      same_subject f.about g.about ≡ true → ObjectAt p.units g ⊎ BodyOf p.units g → IsCallable (linked p) ty (as_body (body_named 0 (bodies_from 0 p.units) x))
  defined_callable x ty f g fn i a e j s (inl h) = absurd (true≢false (sym fn ∙ like_function ty h.ty (given_alike p.units r acc f g ty h.ty i j s e h.gives) ∙ h.object))
  defined_callable x ty f g fn i a e j s (inr h) =
      let same : same_subject (external x) (function_of h.unit h.func.is_static h.func.name) ≡ true =
      subst (λ z. same_subject (external x) z ≡ true) h.subject (subst (λ z. same_subject z g.about ≡ true) a s) in
      let q = external_function x h.unit h.func.is_static h.func.name same in
      named_callable x ty f (body_at h.unit h.func) i a e (body_of_unit 0 p.units h.unit h.typed h.func h.is h.there) (outer_here h.func.is_static h.func.name x q.0 q.1)

  outside_bound : (u n : ℕ) (x : Name) (ty : CType) (f : Fact) → is_function ty ≡ true → IsIn f (facts p.units) → f.about ≡ external x → given_type f.says ≡ Some ty → is_use f.says ≡ true →
      IsCallable (linked p) ty (outer (context_of (linked p) u n) x)
  outside_bound u n x ty f fn i a e is_used = case_of (is_there (library x)) refl (defined_or_given p.units r acc f i is_used)
    where
      case_of : (b : Bool) → is_there (library x) ≡ b → (is_there (in_library f.about) ≡ true) ⊎ ((g : Fact) × IsIn g (facts p.units) × (same_subject f.about g.about ≡ true) × (is_definition g.says ≡ true)) →
          IsCallable (linked p) ty (outer (context_of (linked p) u n) x)
      case_of true l h =
          let there : (is_there (in_library f.about) || is_name main_name f.about) ≡ true =
          ap (λ z. is_there (in_library z) || is_name main_name z) a ∙ ap (λ z. z || is_name main_name (external x)) l in
          library_callable (context_of (linked p) u n) x ty l (first_alike p.units r acc f f ty i i (subject_itself f.about) e there)
      case_of false l (inl h) = absurd (true≢false (sym h ∙ ap (λ z. is_there (in_library z)) a ∙ l))
      case_of false l (inr q) =
          subst (λ z. IsCallable (linked p) ty z) (sym (not_library (context_of (linked p) u n) x l))
          (defined_callable x ty f q.0 fn i a e q.1 q.2 (definition_is p.units q.0 known q.1 q.3))

  -- a function that the unit declares static and never defines is refused
  never_lacking : (u : ℕ) (x : Name) (t : TypedUnit) (f : Fact) → IsUnit 0 p.units u t → is_lacking (events t) x ≡ true → IsIn f (facts p.units) → f.about ≡ static_in u x → is_use f.says ≡ true → ⊥
  never_lacking u x t f i lack j a is_used = case_of (defined_or_given p.units r acc f j is_used)
    where
      by_kind : (g : Fact) → same_subject (static_in u x) g.about ≡ true → ObjectAt p.units g ⊎ BodyOf p.units g → ⊥
      by_kind g s (inl h) =
          let no_name : same_subject (static_in u x) (external h.name) ≡ true = subst (λ z. same_subject (static_in u x) z ≡ true) h.subject s in true≢false (sym no_name)
      by_kind g s (inr h) =
          let q = static_function u x h.unit h.func.is_static h.func.name (subst (λ z. same_subject (static_in u x) z ≡ true) h.subject s) in
          let one : h.typed ≡ t = one_unit p.units u h.typed t (subst (λ v. IsUnit 0 p.units v h.typed) (sym q.1) h.is) i in
          let there : IsIn (defined h.func) (events t) = subst (λ y. IsIn (defined h.func) (events y)) one (func_said h.typed.exts h.func h.there).0 in
          not_lacking (events t) x (defined h.func) there
          (subst (λ y. defines_static y (defined h.func) ≡ true) (sym q.2) (defines_here h.func.is_static h.func.name (fun h.func.result) (map (λ v. v.ty) h.func.params) q.0)) lack

      case_of : (is_there (in_library f.about) ≡ true) ⊎ ((g : Fact) × IsIn g (facts p.units) × (same_subject f.about g.about ≡ true) × (is_definition g.says ≡ true)) → ⊥
      case_of (inl h) = true≢false (sym h ∙ ap (λ z. is_there (in_library z)) a)
      case_of (inr q) = by_kind q.0 (subst (λ z. same_subject z q.0.about ≡ true) a q.2) (definition_is p.units q.0 known q.1 q.3)

  -- a function that the unit doesn't define
  pub outer_bound : (u n : ℕ) (x : Name) (t : TypedUnit) (ty : CType) → IsUnit 0 p.units u t → is_function ty ≡ true → IsIn (event (Outer x) (Named ty)) (events t) →
      IsCallable (linked p) ty (outer (context_of (linked p) u n) x)
  outer_bound u n x t ty i fn g =
      case_of (fact_of u t (event (Outer x) (Named ty))) (fact_of_unit 0 p.units u t (event (Outer x) (Named ty)) i g) refl refl (is_lacking (events t) x) refl refl
    where
      case_of : (f : Fact) → IsIn f (facts p.units) → given_type f.says ≡ Some ty → is_use f.says ≡ true → (b : Bool) → is_lacking (events t) x ≡ b → f.about ≡ function_of u (is_lacking (events t) x) x →
          IsCallable (linked p) ty (outer (context_of (linked p) u n) x)
      case_of f j e is_used true l a = absurd (never_lacking u x t f i l j (a ∙ ap (λ b. function_of u b x) l) is_used)
      case_of f j e is_used false l a = outside_bound u n x ty f fn j (a ∙ ap (λ b. function_of u b x) l) e is_used

  -- an external object that is used
  pub external_there : (u : ℕ) (x : Name) (t : TypedUnit) → IsUnit 0 p.units u t → IsIn (event (External x) Used) (events t) → DeclaredIn (events t) x →
      IsThere (as_static (number_in 0 (lastings p) (OfName x)))
  external_there u x t i g d =
      let used = fact_of u t (event (External x) Used) in
      let ty = object_type d.0.says d.3 in
      let decl = fact_of u t d.0 in
      let decl_about : decl.about ≡ external x = ap (subject u (funcs_of t.exts) (is_lacking (events t))) d.2 in
      let used_in = fact_of_unit 0 p.units u t (event (External x) Used) i g in
      let decl_in = fact_of_unit 0 p.units u t d.0 i d.1 in
      case_of used decl ty.0 refl decl_about used_in decl_in ty.1 ty.2 (defined_or_given p.units r acc used used_in refl)
    where
      by_kind : (used decl g : Fact) (ty : CType) → used.about ≡ external x → decl.about ≡ external x → IsIn decl (facts p.units) → IsIn g (facts p.units) → given_type decl.says ≡ Some ty → is_function ty ≡ false →
          same_subject used.about g.about ≡ true → ObjectAt p.units g ⊎ BodyOf p.units g → IsThere (as_static (number_in 0 (lastings p) (OfName x)))
      by_kind used decl g ty a b j k e o s (inl h) =
          let same : same_name x h.name ≡ true = subst (λ z. same_subject (external x) z ≡ true) h.subject (subst (λ z. same_subject z g.about ≡ true) a s) in
          subst (λ z. IsThere (as_static (number_in 0 (lastings p) (OfName z)))) (sym ((bytes_eq-Decides x h.name).0 same))
          (objects_stand (said_from 0 p.units) (said_of h.unit h.typed) (Outside h.name h.ty h.init) (said_of_unit 0 p.units h.unit h.typed h.is) h.mentioned)
      by_kind used decl g ty a b j k e o s (inr h) =
          let same : same_subject decl.about g.about ≡ true = subst (λ z. same_subject z g.about ≡ true) (a ∙ sym b) s in
          absurd (true≢false (sym (like_function ty (fun h.func.result) (given_alike p.units r acc decl g ty (fun h.func.result) j k same e h.gives)) ∙ o))

      case_of : (used decl : Fact) (ty : CType) → used.about ≡ external x → decl.about ≡ external x → IsIn used (facts p.units) → IsIn decl (facts p.units) → given_type decl.says ≡ Some ty → is_function ty ≡ false →
          (is_there (in_library used.about) ≡ true) ⊎ ((g : Fact) × IsIn g (facts p.units) × (same_subject used.about g.about ≡ true) × (is_definition g.says ≡ true)) →
          IsThere (as_static (number_in 0 (lastings p) (OfName x)))
      case_of used decl ty a b i j e o (inl l) =
          let l' : (is_there (in_library used.about) || is_name main_name used.about) ≡ true = ap (λ z. z || is_name main_name used.about) l in
          absurd (true≢false (like_function (fun int_type) ty (first_alike p.units r acc used decl ty i j (same_about used.about decl.about (a ∙ sym b)) e l') ∙ o))
      case_of used decl ty a b i j e o (inr q) = by_kind used decl q.0 ty a b j q.1 e o q.2 (definition_is p.units q.0 known q.1 q.3)

  -- `main`
  pub main_there : IsMain (linked p) (body_named 0 (bodies_from 0 p.units) main_name)
  main_there = of_fact (passing (λ f. is_name main_name f.about && is_body f.says) (facts p.units) acc.main)
    where
      of_found : (o : Option ℕ) (b : BodyAt) → IsFound 0 (bodies_from 0 p.units) o b → is_integer b.func.result ≡ true → IsMain (linked p) o
      of_found o b h e =
          let q : o ≡ Some h.0 = h.1 ∙ ap Some (let e : 0 + h.0 ≡ h.0 = omega arith in e) in
          subst (IsMain (linked p)) (sym q) (subst GivesInteger (sym h.2) e)

      of_body : (b : BodyAt) → IsIn b (bodies_from 0 p.units) → is_outer main_name b ≡ true → is_integer b.func.result ≡ true
      of_body b j o =
          let v = unit_of_body 0 p.units b j in
          let d = defining b.unit v.0 b.func in
          let is_main : d.about ≡ external main_name = defining_about b.unit v.0 b.func ∙ outer_about b.unit b.func.is_static b.func.name main_name o in
          let there : (is_there (in_library d.about) || is_name main_name d.about) ≡ true = ap (λ z. is_there (in_library z) || is_name main_name z) is_main ∙ main_is_int in
          let i = defining_in p.units b.unit v.0 b.func v.1 v.2 in
          like_int b.func.result (first_alike p.units r acc d d (fun b.func.result) i i (subject_itself d.about) (defining_type b.unit v.0 b.func) there)

      of_defined : (f : Fact) → is_name main_name f.about ≡ true → BodyOf p.units f → IsMain (linked p) (body_named 0 (bodies_from 0 p.units) main_name)
      of_defined f m h =
          let s = main_function h.unit h.func.is_static h.func.name (subst (λ z. is_name main_name z ≡ true) h.subject m) in
          let q = named_found 0 (bodies_from 0 p.units) main_name (body_at h.unit h.func) (body_of_unit 0 p.units h.unit h.typed h.func h.is h.there) (outer_here h.func.is_static h.func.name main_name s.0 s.1) in
          of_found (body_named 0 (bodies_from 0 p.units) main_name) q.0 q.1 (of_body q.0 q.2 q.3)

      of_fact : (f : Fact) × IsIn f (facts p.units) × ((is_name main_name f.about && is_body f.says) ≡ true) → IsMain (linked p) (body_named 0 (bodies_from 0 p.units) main_name)
      of_fact q = let b = and_parts (is_name main_name q.0.about) (is_body q.0.says) q.2 in of_defined q.0 b.0 (body_is p.units q.0 q.1 b.1)
