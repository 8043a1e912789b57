-- The front end, text by text and unit by unit.
use Rattle.std.proofs.Common.{◌≡◌, ℕ, zero, suc, ◌+◌, List, [], ◌∷◌, ◌++◌, take, map, Vec, Global, refl, sym, ap, ◌∙◌, arith, subst}
use Rattle.std.specs.Prelude.{Option, Some, None, true, Result, Err, IfErr, IfSome, slice_get}
use Rattle.std.specs.List.{AllZip}
use Rattle.std.proofs.lemmas.List.{map-append}
use Rattle.c_lex.specs.Tokens.{Token}
use Rattle.c_lex.specs.Falls.{Falls}
use Rattle.c_lex.proofs.Once.{falls_once, falls_or_bad}
use Rattle.c_lex.specs.Refusals as lexing
use Rattle.c_lex.specs.Shown.{tokens_of}
use Rattle.c_lex.specs.declared.LexErr.{LexErr}
use Rattle.c_lex.specs.declared.LexErr.TheVariants as le
use Rattle.c_expr.specs.Answer.{OnNotC}
use Rattle.c_expr.specs.declared.ParseErr.{ParseErr}
use Rattle.c_expr.specs.declared.ParseErr.TheVariants as pe
use Rattle.c_parse.specs.Units.{IfTooDeep}
use Rattle.c_tree.specs.declared.Unit as parsed
use Rattle.c_tree.specs.TreeUnit as tu
use Rattle.c_tree.specs.TreeOf.{unit_of}
use Rattle.c_grammar.specs.Reads.{Reads, ReadsTokens, AreShallow}
use Rattle.c_tree.specs.TUnit.{TypedUnit, Program}
use Rattle.c_tree.specs.TypedOf as typed
use Rattle.c_tree.specs.declared.TypedUnit as typing
use Rattle.c_rule.specs.RuleUnit.{IsTyped}
use Rattle.c_rule.specs.RuleFailsUnit.{UnitFails}
use Rattle.c_join.specs.JoinChecks.{IsJoined, IsRefused}
use Rattle.c_whole.specs.Refusals.{told_as}
use Rattle.c_whole.specs.declared.JoinErr.{JoinErr}
use Rattle.c_whole.specs.declared.JoinErr.TheVariants as whole
use Rattle.c_front.specs.Accepted.{IsUnread, IsAccepted}
use Rattle.c_front.specs.Sources.{IsSource, units_of, texts_of}
use Rattle.c_front.specs.Errors.{IsRightErr, IsTextErr, IsUnitErr, IsUnitsErr, lex_err, parse_err, join_refused}
use Rattle.c_front.specs.declared.front.Source.{Source}
use Rattle.c_front.specs.declared.front.FrontErr.{FrontErr}
use Rattle.c_front.specs.declared.front.FrontErr.TheVariants as r
use Rattle.c_front.proofs.Firsts.{zip_push, first_at}

-- ---- one text

bad_text : (text : List ℕ) (e : LexErr) → (e ≡ le.Memory → ⊥) → lexing.Refuses e text → IsUnread text
bad_text text e other refuses u reads = falls_or_bad text reads.tokens e reads.falls (other, refuses)

-- a text that is bad is read by no unit
pub lex_refused : (text : List ℕ) (k : ℕ) (e : LexErr) → lexing.Refuses e text → IsTextErr text k (lex_err k e)
lex_refused text k (le.BadByte l) refuses = (refl, bad_text text (le.BadByte l) (λ h. cc) refuses)
lex_refused text k (le.OpenComment l) refuses = (refl, bad_text text (le.OpenComment l) (λ h. cc) refuses)
lex_refused text k (le.OpenText l) refuses = (refl, bad_text text (le.OpenText l) (λ h. cc) refuses)
lex_refused text k (le.NumberTooLarge l) refuses = (refl, bad_text text (le.NumberTooLarge l) (λ h. cc) refuses)
lex_refused text k le.Memory refuses = tt

no_unit : (text : List ℕ) (ts : List Token) → Falls text ts → ((u : tu.Unit) → ReadsTokens ts u → ⊥) → IsUnread text
no_unit text ts falls none u reads = none u (rw (falls_once text reads.tokens ts reads.falls falls) at reads.reads)

-- tokens that are refused spell no unit
pub parse_refused : (text : List ℕ) (ts : List Token) (k : ℕ) (e : ParseErr) → Falls text ts → OnNotC {A = parsed.Unit} (Err e) ((u : tu.Unit) → ReadsTokens ts u → ⊥) → IfTooDeep {A = parsed.Unit} (Err e) (λ line. AreShallow 0 ts → ⊥)
    → IsTextErr text k (parse_err k e)
parse_refused text ts k (pe.TooDeep line) falls none deep = (refl, no_unit text ts falls (λ u reads. deep reads.shallow))
parse_refused text ts k (pe.NotC line) falls none deep = (refl, no_unit text ts falls none)
parse_refused text ts k pe.Memory falls none deep = tt

-- ---- all texts

read_by : (text : List ℕ) (s : Source) → IsSource text s → Reads text (unit_of s.unit)
read_by text s is = record { tokens = tokens_of s.tokens; falls = is.falls; reads = is.reads }

pub sources_read : (texts : List (List ℕ)) (ss : List Source) → AllZip IsSource texts ss → AllZip Reads texts (units_of ss)
sources_read [] [] all = tt
sources_read [] (s ∷ ss) all = absurd all
sources_read (t ∷ ts) [] all = absurd all
sources_read (t ∷ ts) (s ∷ ss) all = (read_by t s all.0, sources_read ts ss all.1)

-- the front of a list with one member more
front_more : {A : Type 0} (xs : List A) (i : ℕ) (x : A) → slice_get xs i ≡ Some x → take (i + 1) xs ≡ take i xs ++ x ∷ []
front_more [] i x is = absurd (let e : None ≡ Some x = is in cc)
front_more (a ∷ xs) zero x is = (let e : Some a ≡ Some x = is in let same : a ≡ x = (cc) in ap (λ z. z ∷ []) same)
front_more (a ∷ xs) (suc i) x is = ap (λ n. take n (a ∷ xs)) (next i) ∙ ap (λ l. a ∷ l) (front_more xs i x is)
  where
    next : (i : ℕ) → suc i + 1 ≡ suc (i + 1)
    next i = omega arith

at_text : (texts : List (Vec ℕ Global)) (i : ℕ) (t : Vec ℕ Global) → slice_get texts i ≡ Some t → slice_get (texts_of texts) i ≡ Some t.items
at_text [] i t is = absurd (let e : None ≡ Some t = is in cc)
at_text (a ∷ texts) zero t is = (let e : Some a ≡ Some t = is in ap (λ o. items_in o) e)
  where
    items_in : Option (Vec ℕ Global) → Option (List ℕ)
    items_in None = None
    items_in (Some v) = Some v.items
at_text (a ∷ texts) (suc i) t is = at_text texts i t is

-- one text more is read
pub source_more : (texts : List (Vec ℕ Global)) (ss : List Source) (i : ℕ) (t : Vec ℕ Global) (s : Source) → AllZip IsSource (take i (texts_of texts)) ss → slice_get texts i ≡ Some t → IsSource t.items s
    → AllZip IsSource (take (i + 1) (texts_of texts)) (ss ++ s ∷ [])
source_more texts ss i t s all there is =
    rw (front_more (texts_of texts) i t.items (at_text texts i t there)) (zip_push IsSource (take i (texts_of texts)) ss t.items s all is)

-- the first text that isn't read
pub source_fails : (texts : List (Vec ℕ Global)) (ss : List Source) (i : ℕ) (t : Vec ℕ Global) (e : FrontErr) → AllZip IsSource (take i (texts_of texts)) ss → slice_get texts i ≡ Some t → IsTextErr t.items i e
    → IsRightErr (texts_of texts) e
source_fails texts ss i t (r.Syntax file line) all there bad =
    rw (bad.0) (first_at Reads IsUnread (texts_of texts) (units_of ss) i t.items (sources_read (take i (texts_of texts)) ss all) (at_text texts i t there) bad.1)
source_fails texts ss i t (r.Rule file line rule) all there bad = absurd bad
source_fails texts ss i t (r.Join why) all there bad = absurd bad
source_fails texts ss i t r.Memory all there bad = tt

-- ---- units

at_unit : (ss : List Source) (i : ℕ) (s : Source) → slice_get ss i ≡ Some s → slice_get (units_of ss) i ≡ Some (unit_of s.unit)
at_unit [] i s is = absurd (let e : None ≡ Some s = is in cc)
at_unit (a ∷ ss) zero s is = (let e : Some a ≡ Some s = is in ap (λ o. unit_in o) e)
  where
    unit_in : Option Source → Option tu.Unit
    unit_in None = None
    unit_in (Some s) = Some (unit_of s.unit)
at_unit (a ∷ ss) (suc i) s is = at_unit ss i s is

-- one unit more is typed
pub unit_more : (ss : List Source) (ts : List typing.TypedUnit) (i : ℕ) (s : Source) (t : typing.TypedUnit) → AllZip IsTyped (take i (units_of ss)) (map typed.unit_of ts) → slice_get ss i ≡ Some s → IsTyped (unit_of s.unit) (typed.unit_of t)
    → AllZip IsTyped (take (i + 1) (units_of ss)) (map typed.unit_of (ts ++ t ∷ []))
unit_more ss ts i s t all there is =
    rw (front_more (units_of ss) i (unit_of s.unit) (at_unit ss i s there), map-append typed.unit_of ts (t ∷ []))
    (zip_push IsTyped (take i (units_of ss)) (map typed.unit_of ts) (unit_of s.unit) (typed.unit_of t) all is)

-- the first unit in which a rule fails
pub unit_fails : (ss : List Source) (ts : List TypedUnit) (i : ℕ) (s : Source) (e : FrontErr) → AllZip IsTyped (take i (units_of ss)) ts → slice_get ss i ≡ Some s → IsUnitErr (unit_of s.unit) i e → IsUnitsErr (units_of ss) e
unit_fails ss ts i s (r.Syntax file line) all there bad = absurd bad
unit_fails ss ts i s (r.Rule file line rule) all there bad =
    rw (bad.0) (first_at IsTyped (λ u. UnitFails u rule) (units_of ss) ts i (unit_of s.unit) all (at_unit ss i s there) bad.1)
unit_fails ss ts i s (r.Join why) all there bad = absurd bad
unit_fails ss ts i s r.Memory all there bad = tt

-- ---- the whole

pub units_fail : (texts : List (List ℕ)) (ss : List Source) (e : FrontErr) → AllZip IsSource texts ss → IsUnitsErr (units_of ss) e → IsRightErr texts e
units_fail texts ss (r.Syntax file line) read bad = absurd bad
units_fail texts ss (r.Rule file line rule) read bad = record { units = units_of ss; read = sources_read texts ss read; fails = bad }
units_fail texts ss (r.Join why) read bad = absurd bad
units_fail texts ss r.Memory read bad = tt

module _ (texts : List (List ℕ)) (ss : List Source) (ts : List TypedUnit) (read : AllZip IsSource texts ss) (all : AllZip IsTyped (units_of ss) ts) where
  pub join_fails : (e : JoinErr) → IfSome (told_as e) (IsRefused true ts) → IsRightErr texts (join_refused e)
  join_fails whole.NoMain bad = record { units = units_of ss; read = sources_read texts ss read; typed_units = ts; typed = all; refused = bad }
  join_fails (whole.Twice x) bad = record { units = units_of ss; read = sources_read texts ss read; typed_units = ts; typed = all; refused = bad }
  join_fails (whole.Undefined x) bad = record { units = units_of ss; read = sources_read texts ss read; typed_units = ts; typed = all; refused = bad }
  join_fails (whole.Clash x) bad = record { units = units_of ss; read = sources_read texts ss read; typed_units = ts; typed = all; refused = bad }
  join_fails (whole.Arguments x) bad = record { units = units_of ss; read = sources_read texts ss read; typed_units = ts; typed = all; refused = bad }
  join_fails whole.Memory bad = tt

-- what is joined is accepted
pub accepted_by : (texts : List (List ℕ)) (ss : List Source) (ts : List TypedUnit) (p : Program) → AllZip IsSource texts ss → AllZip IsTyped (units_of ss) ts → IsJoined true ts p → IsAccepted texts p
accepted_by texts ss ts p read all joined = record {
  units = units_of ss;
  read = sources_read texts ss read;
  typed = subst (λ us. AllZip IsTyped (units_of ss) us) (sym joined.units) all;
  joined = subst (λ us. IsJoined true us p) (sym joined.units) joined;
}

-- an error that is handed on
pub handed : (texts : List (List ℕ)) {T : Type 0} (result : Result T FrontErr) (e : FrontErr) → (y : FrontErr) × (result ≡ Err y) × (y ≡ e) → IsRightErr texts e → IfErr result (IsRightErr texts)
handed texts result e is right = rw (is.1, is.2) right

pub units_handed : (us : List tu.Unit) {T : Type 0} (result : Result T FrontErr) (e : FrontErr) → (y : FrontErr) × (result ≡ Err y) × (y ≡ e) → IsUnitsErr us e → IfErr result (IsUnitsErr us)
units_handed us result e is right = rw (is.1, is.2) right
