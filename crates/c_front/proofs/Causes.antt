-- Texts make a program, or they are refused in one way.
use Rattle.std.proofs.Common.{◌≡◌, ℕ, List, refl, sym, ap, ◌∙◌}
use Rattle.std.specs.Prelude.{Some, None, Bool, true, false}
use Rattle.std.specs.List.{AllZip}
use Rattle.std.proofs.Math.Path.{fun_ext}
use Rattle.c_parse.proofs.Joined as parse
use Rattle.c_tree.specs.TreeUnit.{Unit}
use Rattle.c_grammar.specs.Reads.{Reads}
use Rattle.c_tree.specs.TUnit.{TypedUnit, Program}
use Rattle.c_rule.specs.RuleUnit.{IsTyped}
use Rattle.c_rule.specs.RuleFailsUnit.{UnitFails}
use Rattle.c_join.specs.JoinTypes.{Relation, IsWidest}
use Rattle.c_join.specs.JoinChecks as join
use Rattle.c_join.specs.JoinChecks.{IsJoined, IsRefused, refusal, same_class}
use Rattle.c_rule.proofs.OneUnit.{unit_one}
use Rattle.c_rule.proofs.ApartUnit.{unit_apart}
use Rattle.c_front.specs.Accepted.{IsUnread, IsAccepted}
use Rattle.c_front.specs.Causes.{IsSyntax, IsRule, IsJoin}
use Rattle.c_front.specs.Laws.{HasOneAnswer, OneAnswer}
use Rattle.c_front.proofs.Firsts.{zip_same, no_first, first_once}

-- ---- units and typed units

pub units_same : (texts : List (List ℕ)) (us vs : List Unit) → AllZip Reads texts us → AllZip Reads texts vs → us ≡ vs
units_same texts us vs p q = zip_same Reads parse.one_reading texts us vs p q

pub typed_same : (us : List Unit) (ts ss : List TypedUnit) → AllZip IsTyped us ts → AllZip IsTyped us ss → ts ≡ ss
typed_same us ts ss p q = zip_same IsTyped unit_one us ts ss p q

unread_apart : (text : List ℕ) (u : Unit) → Reads text u → IsUnread text → ⊥
unread_apart text u reads none = none u reads

fails_apart : (n : ℕ) (u : Unit) (t : TypedUnit) → IsTyped u t → UnitFails u n → ⊥
fails_apart n u t typed fails = unit_apart u n t fails typed

-- ---- the join

one_truth : (a b : Bool) → (a ≡ true → b ≡ true) → (b ≡ true → a ≡ true) → a ≡ b
one_truth true b p q = sym (p refl)
one_truth false true p q = q refl
one_truth false false p q = refl

widest_same : (us : List TypedUnit) (r s : Relation) → IsWidest us r → IsWidest us s → r ≡ s
widest_same us r s a b = fun_ext (λ p. fun_ext (λ q. one_truth (r p q) (s p q) (b.widest r a.closed p q) (a.widest s b.closed p q)))

refused_once : (us : List TypedUnit) (v w : join.Refusal) → IsRefused true us v → IsRefused true us w → v ≡ w
refused_once us v w p q =
    let same = widest_same us p.0 q.0 p.1 q.1 in
    let e : Some v ≡ Some w = sym p.2 ∙ ap (refusal true us) same ∙ q.2 in
    cc

refused_apart : (us : List TypedUnit) (p : Program) (w : join.Refusal) → IsJoined true us p → IsRefused true us w → ⊥
refused_apart us p w a q =
    let same = widest_same us (same_class p.classes) q.0 a.agree q.1 in
    let e : None ≡ Some w = sym a.accepted ∙ ap (refusal true us) same ∙ q.2 in
    cc

-- ---- one of four

pub syntax_read : (texts : List (List ℕ)) (k : ℕ) (us : List Unit) → IsSyntax texts k → AllZip Reads texts us → ⊥
syntax_read texts k us s read = no_first Reads IsUnread unread_apart texts us k read s

pub syntax_once : (texts : List (List ℕ)) (k j : ℕ) → IsSyntax texts k → IsSyntax texts j → k ≡ j
syntax_once texts k j s t = first_once Reads IsUnread IsUnread unread_apart unread_apart texts k j s t

pub rule_typed : (texts : List (List ℕ)) (k n : ℕ) (us : List Unit) (ts : List TypedUnit) → IsRule texts k n → AllZip Reads texts us → AllZip IsTyped us ts → ⊥
rule_typed texts k n us ts r read typed =
    let same = units_same texts r.units us r.read read in
    no_first IsTyped (λ u. UnitFails u n) (fails_apart n) us ts k typed (rw same at r.fails)

pub rule_once : (texts : List (List ℕ)) (k n j m : ℕ) → IsRule texts k n → IsRule texts j m → k ≡ j
rule_once texts k n j m r s =
    let same = units_same texts r.units s.units r.read s.read in
    first_once IsTyped (λ u. UnitFails u n) (λ u. UnitFails u m) (fails_apart n) (fails_apart m) s.units k j (rw same at r.fails) s.fails

pub join_once : (texts : List (List ℕ)) (v w : join.Refusal) → IsJoin texts v → IsJoin texts w → v ≡ w
join_once texts v w p q =
    let same = units_same texts p.units q.units p.read q.read in
    let typed = typed_same q.units p.typed_units q.typed_units (rw same at p.typed) q.typed in
    refused_once q.typed_units v w (rw typed at p.refused) q.refused

pub join_accepted : (texts : List (List ℕ)) (w : join.Refusal) (p : Program) → IsJoin texts w → IsAccepted texts p → ⊥
join_accepted texts w p j a =
    let same = units_same texts j.units a.units j.read a.read in
    let typed = typed_same a.units j.typed_units p.units (rw same at j.typed) a.typed in
    refused_apart p.units p w a.joined (rw typed at j.refused)

-- ---- a program that is accepted isn't refused

pub accepted_syntax : (texts : List (List ℕ)) (p : Program) (k : ℕ) → IsAccepted texts p → IsSyntax texts k → ⊥
accepted_syntax texts p k a s = syntax_read texts k a.units s a.read

pub accepted_rule : (texts : List (List ℕ)) (p : Program) (k n : ℕ) → IsAccepted texts p → IsRule texts k n → ⊥
accepted_rule texts p k n a r = rule_typed texts k n a.units p.units r a.read a.typed

pub accepted_join : (texts : List (List ℕ)) (p : Program) (w : join.Refusal) → IsAccepted texts p → IsJoin texts w → ⊥
accepted_join texts p w a j = join_accepted texts w p j a

-- ---- the law

pub one_answer : OneAnswer
one_answer texts = record {
  syntax_once = syntax_once texts;
  rule_once = rule_once texts;
  join_once = join_once texts;
  syntax_or_rule = λ k j n s r. syntax_read texts k r.units s r.read;
  syntax_or_join = λ k w s j. syntax_read texts k j.units s j.read;
  rule_or_join = λ k n w r j. rule_typed texts k n j.units j.typed_units r j.read j.typed;
  syntax_or_program = λ k p s a. accepted_syntax texts p k a s;
  rule_or_program = λ k n p r a. accepted_rule texts p k n a r;
  join_or_program = λ w p j a. join_accepted texts w p j a;
}
