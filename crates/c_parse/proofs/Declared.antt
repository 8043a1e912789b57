-- A declaration that stands at a place is read there.
use Rattle.std.proofs.Common.{◌≡◌, ℕ, ◌≤◌, List, drop, Option, Some, None, Result, Ok, Err, IfOk, arith, refl, ap, sym, subst, ◌∙◌}
use Rattle.c_type.specs.Names.{Name}
use Rattle.c_lex.specs.Tokens.{Token}
use Rattle.c_tree.specs.TreeDecl.{LocalDecl, local_depth}
use Rattle.c_tree.specs.TreeOf.{local_of}
use Rattle.c_tree.specs.declared.decl.LocalDecl.{LocalDecl as RustLocal}
use Rattle.c_grammar.specs.Reads.{most, IsLocalAt}
use Rattle.c_lex.specs.Shown.{tokens_of}
use Rattle.c_expr.specs.declared.error.ParseErr.{ParseErr}
use Rattle.c_expr.specs.declared.error.ParseErr.TheVariants.{TooDeep, NotC, Memory}
use Rattle.c_expr.specs.Answer.{OnNotC, IsNotTooDeep}
use Rattle.c_decl.specs.declared.reader.Reader.{Reader}
use Rattle.c_decl.specs.Answers.{Gives, found, names, rest}
use Rattle.c_decl.specs.Expression.{expression}
use Rattle.c_decl.specs.ReadDecl as d
use Rattle.c_decl.proofs.Joined.{local_read}
use Rattle.c_decl.proofs.Expressions.{expr_takes}
use Rattle.c_decl.proofs.DeclTakes.{local_takes}
use Rattle.c_parse.specs.Words as w
use Rattle.c_parse.proofs.Behind.{local_behind, place}

local_given : (defs : List Name) (at : ℕ) (ts : List Token) (x : LocalDecl) (k : ℕ) → IsLocalAt defs ts at x k → d.local defs most (expression defs) (drop at ts) ≡ Some (x, drop k ts)
local_given defs at ts x k is =
    ap (d.local defs most (expression defs)) is.tokens ∙ local_read defs is.written (drop k ts) is.levelled (subst (λ y. local_depth y ≤ most) (sym is.plain_is) is.low) ∙ ap (λ y. Some (y, drop k ts)) is.plain_is

local_missing : (defs : List Name) (at : ℕ) (ts : List Token) (o : Option (LocalDecl × List Token)) → d.local defs most (expression defs) (drop at ts) ≡ o
    → ((x : LocalDecl) (k : ℕ) → IsLocalAt defs ts at x k → ⊥) → o ≡ None
local_missing defs at ts None is none = refl
local_missing defs at ts (Some x) is none =
    let t = local_takes defs most (omega arith) (expression defs) (expr_takes defs) (drop at ts) x is in
    let p = place at ts x.1 (rw t.tokens (local_behind t.written x.1)) in
    absurd (none x.0 p.0 (record { written = t.written; levelled = t.levelled; plain_is = t.plain_is; tokens = rw p.2 (t.tokens); low = t.low; within = p.1 }))

-- What the parser of declarations answers at a place is what is read there.
pub local_answers : (r : Reader) (at : ℕ) (x : Result (RustLocal × ℕ) ParseErr) → IfOk x (λ y. IsLocalAt (names r) (tokens_of r.tokens.now) at (local_of y.0) y.1)
    → OnNotC x ((y : LocalDecl) (k : ℕ) → IsLocalAt (names r) (tokens_of r.tokens.now) at y k → ⊥) → IsNotTooDeep x → Gives (found local_of r) x (w.local r (rest r at))
unfolding rest
local_answers r at (Ok y) given none shallow = local_given (names r) at (tokens_of r.tokens.now) (local_of y.0) y.1 given
local_answers r at (Err (TooDeep line)) given none shallow = absurd shallow
local_answers r at (Err (NotC line)) given none shallow = local_missing (names r) at (tokens_of r.tokens.now) _ refl none
local_answers r at (Err Memory) given none shallow = tt
