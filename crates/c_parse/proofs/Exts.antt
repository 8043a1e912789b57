-- The external declarations that a loop has read, in front of those that are still to be read.
use Rattle.std.proofs.Common.{◌≡◌, ℕ, ◌≤◌, suc, List, [], ◌∷◌, ◌++◌, length, Option, Some, None, refl, arith, ap, sym, ◌∙◌, append_assoc}
use Rattle.std.proofs.lemmas.List.{append-nil}
use Rattle.c_type.specs.Names.{Name}
use Rattle.c_lex.specs.Tokens.{Token}
use Rattle.c_tree.specs.TreeUnit.{Ext}
use Rattle.c_grammar.specs.WrittenUnit.{with_typedefs}
use Rattle.c_expr.specs.Front.{◌>>=◌}
use Rattle.c_parse.specs.ReadUnit as q
use Rattle.c_parse.specs.Units as u

abbrev pub before : List Ext → Option (List Ext) → Option (List Ext)
before xs o = o >>= λ ys. Some (xs ++ ys)

pub before_none : (o : Option (List Ext)) → before [] o ≡ o
before_none None = refl
before_none (Some ys) = refl

before_push : (xs : List Ext) (x : Ext) (o : Option (List Ext)) → before (xs ++ x ∷ []) o ≡ before xs (o >>= λ ys. Some (x ∷ ys))
before_push xs x None = refl
before_push xs x (Some ys) = ap Some (append_assoc xs (x ∷ []) ys)

-- one more declaration, where others stand behind it
declared : (k : ℕ) (defs : List Name) (ts : List Token) (x : Ext) (after : List Token) → 1 ≤ length ts → u.ext defs ts ≡ Some (x, after) → u.exts (suc k) defs ts ≡ (u.exts k (with_typedefs defs x) after >>= λ ys. Some (x ∷ ys))
unfolding q.exts
declared k defs [] x after some is = absurd (omega (arith, some))
declared k defs (y ∷ ts) x after some is = rw is refl

over : (k : ℕ) (defs : List Name) → u.exts (suc k) defs [] ≡ Some []
unfolding q.exts
over k defs = refl

pub exts_turn : (m k : ℕ) (defs : List Name) (xs : List Ext) (x : Ext) (ts after : List Token) → m ≡ suc k → 1 ≤ length ts → u.ext defs ts ≡ Some (x, after)
    → before (xs ++ x ∷ []) (u.exts k (with_typedefs defs x) after) ≡ before xs (u.exts m defs ts)
exts_turn m k defs xs x ts after count some is = before_push xs x (u.exts k (with_typedefs defs x) after) ∙ ap (before xs) (sym (declared k defs ts x after some is) ∙ ap (λ n. u.exts n defs ts) (sym count))

pub exts_over : (m k : ℕ) (defs : List Name) (xs : List Ext) (ts : List Token) → m ≡ suc k → ts ≡ [] → before xs (u.exts m defs ts) ≡ Some xs
exts_over m k defs xs ts count none = ap (before xs) (ap (λ n. u.exts n defs ts) count ∙ ap (u.exts (suc k) defs) none ∙ over k defs) ∙ ap Some (append-nil xs)

pub exts_refused : (m k : ℕ) (defs : List Name) (xs : List Ext) (ts : List Token) → m ≡ suc k → 1 ≤ length ts → u.ext defs ts ≡ None → before xs (u.exts m defs ts) ≡ None
unfolding q.exts
exts_refused m k defs xs [] count some is = absurd (omega (arith, some))
exts_refused m k defs xs (x ∷ ts) count some is = rw (count, is) refl

pub exts_spent : (m : ℕ) (defs : List Name) (xs : List Ext) (ts : List Token) → m ≡ 0 → before xs (u.exts m defs ts) ≡ None
unfolding q.exts
exts_spent m defs xs ts spent = rw spent refl
