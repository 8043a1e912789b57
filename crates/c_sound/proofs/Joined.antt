-- A program of units that suit, which the join doesn't refuse, suits.
use Rattle.std.proofs.Common.{◌≡◌, ℕ, zero, suc, List, [], ◌∷◌, length, Bool, true, false, ◌||◌, nat_eq, Option, Some, None, inl, inr, refl, sym, ap, subst, true≢false}
use Rattle.std.specs.Prelude.{not}
use Rattle.std.specs.List.{list_any}
use Rattle.std.proofs.lemmas.Bool.{and_parts, eqb-true, not-true}
use Rattle.std.proofs.lemmas.Slice.Eq.{bytes_eq-Decides}
use Rattle.c_type.specs.Names.{Name, at_or}
use Rattle.c_type.specs.Types.{CType, Tag}
use Rattle.c_tree.specs.TExpr as e
use Rattle.c_tree.specs.TExpr.{Ref}
use Rattle.c_tree.specs.TStmt.{Init}
use Rattle.c_tree.specs.TUnit.{Func, TypedUnit, Program, funcs_of, no_unit}
use Rattle.c_tree.specs.Bodies.{BodyAt, bodies_from}
use Rattle.c_run.specs.Context.{Linked, linked, context_of, context}
use Rattle.c_run.specs.Lasting.{Lasting, Said, said_from, lastings}
use Rattle.c_run.specs.Mentions as ment
use Rattle.c_run.specs.Mentions.{Mention, Text, Use, Extern, Outside, in_exts}
use Rattle.c_run.specs.Numbers.{own_numbers}
use Rattle.c_rule.specs.RuleTypes.{is_function}
use Rattle.c_join.specs.JoinSaid as said
use Rattle.c_join.specs.JoinSaid.{Whose, External, Hidden, Saying, Declared, Common, Begun, Defined, Used, Named, Called, Event, event, events, facts}
use Rattle.c_join.specs.JoinTypes.{Relation}
use Rattle.c_join.specs.JoinChecks.{same_class, refusal}
use Rattle.c_sound.specs.Suits.{SuitsFunc, SuitsBegin}
use Rattle.c_sound.specs.Unit.{gives_object, is_external, declares_object, MeantIn, AnyText, SuitFuncs, SuitMentions, SuitsUnit}
use Rattle.c_sound.specs.Program.{IsBound, HasText, HaveSizes, SuitsBody, SuitBodies, SuitsLasting, SuitLastings, SuitsProgram}
use Rattle.c_sound.specs.Laws.{AllSuit, JoinedSuits}
use Rattle.c_sound.proofs.Listed.{IsIn, passing}
use Rattle.c_sound.proofs.Strengthen.{SaidIn, func_stronger, begin_stronger}
use Rattle.c_sound.proofs.Traced.{BehindMention, exts_traced, func_said}
use Rattle.c_sound.proofs.Objects.{objects_stand, Each, Begins, each_lasting}
use Rattle.c_sound.proofs.UnitsAt.{IsUnit, unit_at, suits_of, unit_of_body, said_of, said_of_unit, unit_of_said}
use Rattle.c_sound.proofs.Known.{SaysObject, DeclaredIn, KnowsObjects, AllKnow}
use Rattle.c_sound.proofs.Functions.{Accepted, accepted, own_bound, outer_bound, external_there, main_there}

sizes_at : (us : List TypedUnit) (u : ℕ) → AllSuit us → HaveSizes (at_or no_unit us u).tags
sizes_at [] u h = tt
sizes_at (x ∷ xs) zero h = h.0.sizes
sizes_at (x ∷ xs) (suc u) h = sizes_at xs u h.1

func_suits : (R : CType → Ref → Type 0) (T : ℕ → Type 0) (fs : List Func) (f : Func) → SuitFuncs R T fs → IsIn f fs → SuitsFunc R T f
func_suits R T [] f h i = absurd i
func_suits R T (g ∷ fs) f h (inl q) = subst (SuitsFunc R T) (sym q) h.0
func_suits R T (g ∷ fs) f h (inr i) = func_suits R T fs f h.1 i

-- what a mention begins suits
abbrev MentionSuits : (R : CType → Ref → Type 0) → (T : ℕ → Type 0) → List Tag → Mention → Type 0
MentionSuits R T ts (Text k) = Unit {0}
MentionSuits R T ts (Use x) = Unit {0}
MentionSuits R T ts (Extern x) = Unit {0}
MentionSuits R T ts (ment.Own k t i) = SuitsBegin R T ts t i
MentionSuits R T ts (Outside x t i) = (is_function t ≡ false) × SuitsBegin R T ts t i

mention_suits : (R : CType → Ref → Type 0) (T : ℕ → Type 0) (ts : List Tag) (ms : List Mention) (m : Mention) → SuitMentions R T ts ms → IsIn m ms → MentionSuits R T ts m
mention_suits R T ts [] m h i = absurd i
mention_suits R T ts (Text k ∷ ms) m h (inl q) = subst (MentionSuits R T ts) (sym q) tt
mention_suits R T ts (Text k ∷ ms) m h (inr i) = mention_suits R T ts ms m h i
mention_suits R T ts (Use x ∷ ms) m h (inl q) = subst (MentionSuits R T ts) (sym q) tt
mention_suits R T ts (Use x ∷ ms) m h (inr i) = mention_suits R T ts ms m h i
mention_suits R T ts (Extern x ∷ ms) m h (inl q) = subst (MentionSuits R T ts) (sym q) tt
mention_suits R T ts (Extern x ∷ ms) m h (inr i) = mention_suits R T ts ms m h i
mention_suits R T ts (ment.Own k t b ∷ ms) m h (inl q) = subst (MentionSuits R T ts) (sym q) h.0
mention_suits R T ts (ment.Own k t b ∷ ms) m h (inr i) = mention_suits R T ts ms m h.1 i
mention_suits R T ts (Outside x t b ∷ ms) m h (inl q) = subst (MentionSuits R T ts) (sym q) (h.0, h.1)
mention_suits R T ts (Outside x t b ∷ ms) m h (inr i) = mention_suits R T ts ms m h.2 i

-- a static that is numbered is mentioned
owned : (k : ℕ) (ms : List Mention) → list_any (nat_eq k) (own_numbers ms) ≡ true → (t : CType) × (i : Option Init) × IsIn (ment.Own k t i) ms
owned k [] h = absurd (true≢false (sym h))
owned k (Text j ∷ ms) h = let q = owned k ms h in (q.0, q.1, inr q.2)
owned k (Use x ∷ ms) h = let q = owned k ms h in (q.0, q.1, inr q.2)
owned k (Extern x ∷ ms) h = let q = owned k ms h in (q.0, q.1, inr q.2)
owned k (Outside x t i ∷ ms) h = let q = owned k ms h in (q.0, q.1, inr q.2)
owned k (ment.Own j t i ∷ ms) h = case_of (nat_eq k j) refl h (λ g. owned k ms g)
  where
    case_of : (b : Bool) → nat_eq k j ≡ b → (b || list_any (nat_eq k) (own_numbers ms)) ≡ true →
        (list_any (nat_eq k) (own_numbers ms) ≡ true → (t : CType) × (i : Option Init) × IsIn (ment.Own k t i) ms) → (s : CType) × (q : Option Init) × IsIn (ment.Own k s q) (ment.Own j t i ∷ ms)
    case_of true g r more = (t, i, inl (ap (λ n. ment.Own n t i) (eqb-true k j g)))
    case_of false g r more = let q = more r in (q.0, q.1, inr q.2)

-- what gives an object says so
says_object : (s : Saying) → gives_object s ≡ true → SaysObject s
says_object (Declared t) h = not-true (is_function t) h
says_object (Common t) h = not-true (is_function t) h
says_object (Begun t) h = not-true (is_function t) h
says_object (Defined t ps) h = cc
says_object Used h = cc
says_object (Named t) h = cc
says_object (Called es) h = cc

about_external : (x : Name) (w : Whose) → is_external x w ≡ true → w ≡ External x
about_external x (External y) h = ap External (sym ((bytes_eq-Decides x y).0 h))
about_external x (Hidden y) h = cc
about_external x (said.Own k) h = cc
about_external x (said.Outer y) h = cc

-- what declares an external object stands among the events
declared_event : (x : Name) (vs : List Event) → list_any (declares_object x) vs ≡ true → DeclaredIn vs x
declared_event x vs h =
    let p = passing (declares_object x) vs h in
    let q = and_parts (is_external x p.0.about) (gives_object p.0.says) p.2 in
    (p.0, p.1, about_external x p.0.about q.0, says_object p.0.says q.1)

bodies_suit : (w : Linked) (bs : List BodyAt) → ((b : BodyAt) → IsIn b bs → SuitsBody w b) → SuitBodies w bs
bodies_suit w [] h = tt
bodies_suit w (b ∷ bs) h = (h b (inl refl), bodies_suit w bs (λ c i. h c (inr i)))

each_suits : (w : Linked) (xs : List Lasting) → Each (SuitsLasting w) xs → SuitLastings w xs
each_suits w [] h = tt
each_suits w (x ∷ xs) h = (h.0, each_suits w xs h.1)

module _ (p : Program) (suit : AllSuit p.units) (r : Relation) (acc : Accepted p.units r) (known : AllKnow p.units) where
  -- what a unit means by a name is there
  name_bound : (u n : ℕ) (t : TypedUnit) → IsUnit 0 p.units u t → (ty : CType) (x : Ref) → SaidIn (events t) (in_exts t.exts) (said.in_ref ty x) (ment.used x) → MeantIn t ty x →
      IsBound (context_of (linked p) u n) ty x
  name_bound u n t i ty (e.Local k) w h = h
  name_bound u n t i ty (e.Param k) w h = h
  name_bound u n t i ty (e.Static k) w h =
      let q = owned k (in_exts t.exts) h.1 in
      (h.0, objects_stand (said_from 0 p.units) (said_of u t) (ment.Own k q.0 q.1) (said_of_unit 0 p.units u t i) q.2)
  name_bound u n t i ty (e.Ext x) w h = (h.0, external_there p r acc known u x t i (w.0 (event (External x) Used) (inl refl)) (declared_event x (events t) h.1))
  name_bound u n t i ty (e.Func k) w h = own_bound p r acc known u n k t ty i h.1 (w.0 (event (said.Own k) (Named ty)) (inl refl))
  name_bound u n t i ty (e.Outer x) w h = outer_bound p r acc known u n x t ty i h (w.0 (event (said.Outer x) (Named ty)) (inl refl))
  name_bound u n t i ty (e.Const k) w h = h

  text_bound : (u n : ℕ) (t : TypedUnit) → IsUnit 0 p.units u t → (k : ℕ) → IsIn (Text k) (in_exts t.exts) → AnyText k → HasText (context_of (linked p) u n) k
  text_bound u n t i k m h = objects_stand (said_from 0 p.units) (said_of u t) (Text k) (said_of_unit 0 p.units u t i) m

  body_suits : (b : BodyAt) → IsIn b (bodies_from 0 p.units) → SuitsBody (linked p) b
  body_suits b h =
      let q = unit_of_body 0 p.units b h in
      let n = length b.func.params in
      func_stronger (events q.0) (in_exts q.0.exts) (MeantIn q.0) (IsBound (context (linked p) b)) AnyText (HasText (context (linked p) b)) (name_bound b.unit n q.0 q.1) (text_bound b.unit n q.0 q.1) b.func
      (func_said q.0.exts b.func q.2).1 (func_suits (MeantIn q.0) AnyText (funcs_of q.0.exts) b.func (suits_of 0 p.units b.unit q.0 suit q.1).funcs q.2)

  -- an object that unit u begins
  begin_suits : (u : ℕ) (t : TypedUnit) (ty : CType) (i : Option Init) → IsUnit 0 p.units u t → SaidIn (events t) (in_exts t.exts) (said.in_begin i) (ment.in_begin i) → SuitsBegin (MeantIn t) AnyText t.tags ty i →
      SuitsBegin (IsBound (context_of (linked p) u 0)) (HasText (context_of (linked p) u 0)) (at_or no_unit p.units u).tags ty i
  begin_suits u t ty i at w h =
      subst (λ y. SuitsBegin (IsBound (context_of (linked p) u 0)) (HasText (context_of (linked p) u 0)) y.tags ty i) (sym (unit_at p.units u t at))
      (begin_stronger (events t) (in_exts t.exts) (MeantIn t) (IsBound (context_of (linked p) u 0)) AnyText (HasText (context_of (linked p) u 0)) (name_bound u 0 t at) (text_bound u 0 t at) t.tags ty i w h)

  begins_suit : (u : ℕ) (t : TypedUnit) (m : Mention) → IsUnit 0 p.units u t → BehindMention (events t) (in_exts t.exts) m → MentionSuits (MeantIn t) AnyText t.tags m → Begins (SuitsLasting (linked p)) u m
  begins_suit u t (Text k) at w h = tt
  begins_suit u t (Use x) at w h = tt
  begins_suit u t (Extern x) at w h = tt
  begins_suit u t (ment.Own k ty None) at w h = tt
  begins_suit u t (ment.Own k ty (Some i)) at w h = begin_suits u t ty (Some i) at w h
  begins_suit u t (Outside x ty None) at w h = tt
  begins_suit u t (Outside x ty (Some i)) at w h = begin_suits u t ty (Some i) at w h.1

  said_begins : (s : Said) (m : Mention) → IsIn s (said_from 0 p.units) → IsIn m s.mentions → Begins (SuitsLasting (linked p)) s.unit m
  said_begins s m i j =
      let q = unit_of_said 0 p.units s i in
      let there : IsIn m (in_exts q.0.exts) = subst (IsIn m) q.2 j in
      begins_suit s.unit q.0 m q.1 ((exts_traced q.0.exts).0 m there)
      (mention_suits (MeantIn q.0) AnyText q.0.tags (in_exts q.0.exts) m (suits_of 0 p.units s.unit q.0 suit q.1).begins there)

  program_suits : SuitsProgram (linked p)
  program_suits =
      record {
        sizes = λ u. sizes_at p.units u suit;
        bodies = bodies_suit (linked p) (bodies_from 0 p.units) body_suits;
        statics = each_suits (linked p) (lastings p) (each_lasting (SuitsLasting (linked p)) (λ o u t. tt) (λ u k bs. tt) (said_from 0 p.units) said_begins);
        main = main_there p r acc known;
      }

-- an object that is declared without `extern` is no function
objects_known : (x : TypedUnit) → SuitsUnit x → KnowsObjects x
objects_known x h = record { objects = λ y t i m. (mention_suits (MeantIn x) AnyText x.tags (in_exts x.exts) (Outside y t i) h.begins m).0 }

all_know : (us : List TypedUnit) → AllSuit us → AllKnow us
all_know [] h = tt
all_know (x ∷ xs) h = (objects_known x h.0, all_know xs h.1)

pub joined_suits : JoinedSuits
joined_suits us p h j =
    let q = sym j.units in
    let suit = subst AllSuit q h in
    program_suits p suit (same_class p.classes)
    (accepted p.units (same_class p.classes) (subst (λ us. refusal true us (same_class p.classes) ≡ None) q j.accepted)) (all_know p.units suit)
