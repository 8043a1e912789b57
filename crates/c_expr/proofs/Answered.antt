-- What an error says where it is passed on.
use Rattle.std.proofs.Common.{◌≡◌, ℕ, ◌<◌, ◌-◌, List, length, map, take, drop, Option, None, Result, Err, ap, sym, ◌∙◌, arith}
use Rattle.std.proofs.lemmas.List.{take_all, drop-map, length-drop}
use Rattle.c_type.specs.Names.{Name}
use Rattle.c_lex.specs.Tokens.{Token}
use Rattle.c_tree.specs.TreeExpr.{Expr}
use Rattle.c_grammar.specs.Reads.{IsExprAt}
use Rattle.c_grammar.specs.WrittenExpr.{spell}
use Rattle.c_lex.specs.Shown.{token_of}
use Rattle.c_lex.specs.declared.Token as code
use Rattle.c_expr.specs.Answer.{OnNotC, IsNotTooDeep}
use Rattle.c_expr.specs.Gives.{Fails, IsNotC}
use Rattle.c_expr.specs.declared.error.ParseErr.{ParseErr}
use Rattle.c_expr.specs.declared.error.ParseErr.TheVariants.{TooDeep, NotC, Memory}
use Rattle.c_expr.proofs.Fronts.{expr_longer}

-- the fact, where the error is NotC
abbrev pub Says : ParseErr → Type 0 → Type 0
Says (TooDeep line) P = ⊥
Says (NotC line) P = P
Says Memory P = Unit {0}

pub says_of_fails : {Y : Type 0} (P : Type 0) (why : ParseErr) (read : Option Y) → Fails why read → (read ≡ None → P) → Says why P
says_of_fails P (TooDeep line) read fails h = fails
says_of_fails P (NotC line) read fails h = h fails
says_of_fails P Memory read fails h = tt

pub says_of_refusal : (P : Type 0) (why : ParseErr) → IsNotC why → P → Says why P
says_of_refusal P (TooDeep line) is h = is
says_of_refusal P (NotC line) is h = h
says_of_refusal P Memory is h = tt

pub says_of_answer : {A : Type 0} (P Q : Type 0) (r : Result A ParseErr) (why : ParseErr) → r ≡ Err why → OnNotC r P → IsNotTooDeep r → (P → Q) → Says why Q
says_of_answer P Q r (TooDeep line) is none shallow h = rw is at shallow
says_of_answer P Q r (NotC line) is none shallow h = h (rw is at none)
says_of_answer P Q r Memory is none shallow h = tt

pub on_not_c : {A : Type 0} (P : Type 0) (r : Result A ParseErr) (why : ParseErr) → r ≡ Err why → Says why P → OnNotC r P
on_not_c P r (TooDeep line) is says = rw is tt
on_not_c P r (NotC line) is says = rw is says
on_not_c P r Memory is says = rw is tt

pub not_too_deep : {A : Type 0} (P : Type 0) (r : Result A ParseErr) (why : ParseErr) → r ≡ Err why → Says why P → IsNotTooDeep r
not_too_deep P r (TooDeep line) is says = rw is says
not_too_deep P r (NotC line) is says = rw is tt
not_too_deep P r Memory is says = rw is tt

-- ---- tokens from a place on

pub seen_from : (at : ℕ) (xs : List code.Token) → map token_of (take (length xs - at) (drop at xs)) ≡ drop at (map token_of xs)
seen_from at xs = ap (map token_of) (take_all (length xs - at) (drop at xs) (omega (arith, length-drop at xs))) ∙ sym (drop-map token_of at xs)

-- no expression stands behind the last token
pub none_past : (defs : List Name) (l at k : ℕ) (ts : List Token) (e : Expr) → length ts < at → IsExprAt defs l ts at e k → ⊥
none_past defs l at k ts e past x =
    let s = x.spells in
    let longer : length (drop k ts) < length (spell s.written (drop k ts)) = expr_longer s.written (drop k ts) in
    let whole : length (drop at ts) ≡ length (spell s.written (drop k ts)) = ap length s.tokens in
    omega (arith, longer, whole, length-drop at ts)
