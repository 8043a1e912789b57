-- What the parser answers of a whole text.
use Rattle.std.proofs.Common.{◌≡◌, ℕ, List, [], ◌∷◌, Some, None, Result, Ok, Err, IfOk, Bool, true, false, nat_lt, refl, arith}
use Rattle.std.proofs.lemmas.Bool.{ltb-false, ltb-true}
use Rattle.c_type.specs.Names.{pick}
use Rattle.c_lex.specs.Tokens.{Token}
use Rattle.c_tree.specs.TreeUnit as t
use Rattle.c_tree.specs.TreeOf.{unit_of}
use Rattle.c_tree.specs.declared.unit.Unit.{Unit as RustUnit}
use Rattle.c_grammar.specs.Reads.{most, opened, AreShallow, ReadsTokens}
use Rattle.c_expr.specs.declared.error.ParseErr.{ParseErr}
use Rattle.c_expr.specs.declared.error.ParseErr.TheVariants.{TooDeep, NotC, Memory}
use Rattle.c_expr.specs.Answer.{OnNotC}
use Rattle.c_decl.specs.Answers.{Gives}
use Rattle.c_decl.specs.Expression.{expression}
use Rattle.c_parse.specs.ReadUnit as q
use Rattle.c_parse.specs.Units.{deep_line}
use Rattle.c_parse.proofs.Joined.{is_read, is_spelled}

shallow_by : (n : ℕ) (x : Token) (ts : List Token) (b : Bool) → nat_lt most (opened n x) ≡ b → pick b (Some x.line) (deep_line (opened n x) ts) ≡ None → (deep_line (opened n x) ts ≡ None → AreShallow (opened n x) ts) → AreShallow n (x ∷ ts)
shallow_by n x ts true is none more = cc
shallow_by n x ts false is none more = (ltb-false most (opened n x) is, more none)

pub shallow : (n : ℕ) (ts : List Token) → deep_line n ts ≡ None → AreShallow n ts
shallow n [] none = tt
shallow n (x ∷ ts) none = shallow_by n x ts (nat_lt most (opened n x)) refl none (shallow (opened n x) ts)

deep_by : (n : ℕ) (x : Token) (ts : List Token) (line : ℕ) (b : Bool) → nat_lt most (opened n x) ≡ b → pick b (Some x.line) (deep_line (opened n x) ts) ≡ Some line → (deep_line (opened n x) ts ≡ Some line → AreShallow (opened n x) ts → ⊥) → AreShallow n (x ∷ ts) → ⊥
deep_by n x ts line true is some more low = absurd (omega (arith, ltb-true most (opened n x) is, low.0))
deep_by n x ts line false is some more low = more some low.1

pub deep : (n : ℕ) (ts : List Token) (line : ℕ) → deep_line n ts ≡ Some line → AreShallow n ts → ⊥
deep n [] line some low = cc
deep n (x ∷ ts) line some low = deep_by n x ts line (nat_lt most (opened n x)) refl some (deep (opened n x) ts line) low

pub unit_found : (ts : List Token) (x : Result RustUnit ParseErr) → AreShallow 0 ts → Gives unit_of x (q.unit most expression ts) → IfOk x (λ y. ReadsTokens ts (unit_of y))
unit_found ts (Ok y) low gives = is_spelled ts (unit_of y) low gives
unit_found ts (Err e) low gives = tt

pub unit_missing : (ts : List Token) (x : Result RustUnit ParseErr) → Gives unit_of x (q.unit most expression ts) → OnNotC x ((y : t.Unit) → ReadsTokens ts y → ⊥)
unit_missing ts (Ok y) gives = tt
unit_missing ts (Err (TooDeep line)) gives = tt
unit_missing ts (Err (NotC line)) gives = λ y reads. let found = is_read ts y reads in cc
unit_missing ts (Err Memory) gives = tt

pub on_not_c : {A : Type 0} (x : Result A ParseErr) (P : Type 0) → P → OnNotC x P
on_not_c (Ok y) P is = tt
on_not_c (Err (TooDeep line)) P is = tt
on_not_c (Err (NotC line)) P is = is
on_not_c (Err Memory) P is = tt
