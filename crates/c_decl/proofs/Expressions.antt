-- Expressions: what is spelled up to a mark that ends it is read, and what is read is spelled so.
use Rattle.std.proofs.Common.{◌≡◌, ℕ, ◌+◌, ◌≤◌, List, [], ◌∷◌, length, Option, Some, None, Bool, true, false, nat_eq, nat_lt, ◌||◌, ◌&&◌, refl, arith, sym, ◌⊎◌, inl, inr, true≢false, ap, ◌∙◌}
use Rattle.std.proofs.lemmas.Bool.{eqb-true, lt-ltb}
use Rattle.c_type.specs.Names.{Name, pick}
use Rattle.c_lex.specs.Tokens.{Tok, Token}
use Rattle.c_lex.specs.Tokens as k
use Rattle.c_grammar.specs.Words.{tok, mark, assign_mark, binary_mark, step_mark, comma_mark}
use Rattle.c_tree.specs.TreeExpr.{Expr, expr_depth}
use Rattle.c_grammar.specs.WrittenExpr.{Written, IsAtLevel}
use Rattle.c_grammar.specs.WrittenExpr as w
use Rattle.c_grammar.specs.Reads.{most, may_follow, Spells}
use Rattle.c_expr.specs.Ends.{Ends, nest, nests, nest_others}
use Rattle.c_expr.proofs.Fronts.{name_longer}
use Rattle.c_expr.proofs.Joined.{is_read, is_spelled}
use Rattle.c_expr.proofs.Taken.{some_is, bind_some, chosen}
use Rattle.c_expr.specs.Reading as r
use Rattle.c_decl.specs.Expression.{expression, ended}

mutual
  nest_short : (e : Written) (ts : List Token) → nest e + length ts ≤ length (w.spell e ts)
  nest_short (w.comma a l b) ts = omega (arith, nest_short a (mark l comma_mark ∷ w.spell b ts), nest_short b ts)
  nest_short (w.assign a l op b) ts = omega (arith, nest_short a (mark l (assign_mark op) ∷ w.spell b ts), nest_short b ts)
  nest_short (w.choice a l b m c) ts = omega (arith, nest_short a (mark l 31 ∷ w.spell b (mark m 30 ∷ w.spell c ts)), nest_short b (mark m 30 ∷ w.spell c ts), nest_short c ts)
  nest_short (w.binary a l op b) ts = omega (arith, nest_short a (mark l (binary_mark op) ∷ w.spell b ts), nest_short b ts)
  nest_short (w.unary l op e) ts = omega (arith, nest_short e ts)
  nest_short (w.size_of l e) ts = omega (arith, nest_short e ts)
  nest_short (w.size_of_type l m y n) ts = omega (arith, name_longer y (mark n 22 ∷ ts))
  nest_short (w.cast l y m e) ts = omega (arith, name_longer y (mark m 22 ∷ w.spell e ts), nest_short e ts)
  nest_short (w.index a l i m) ts = omega (arith, nest_short a (mark l 23 ∷ w.spell i (mark m 24 ∷ ts)), nest_short i (mark m 24 ∷ ts))
  nest_short (w.call f l es m) ts = omega (arith, nest_short f (mark l 21 ∷ w.spell_args es (mark m 22 ∷ ts)), nests_short es (mark m 22 ∷ ts))
  nest_short (w.member e l m x) ts = omega (arith, nest_short e (mark l 27 ∷ tok m (k.name x) ∷ ts))
  nest_short (w.arrow e l m x) ts = omega (arith, nest_short e (mark l 4 ∷ tok m (k.name x) ∷ ts))
  nest_short (w.post e l op) ts = omega (arith, nest_short e (mark l (step_mark op) ∷ ts))
  nest_short (w.name l x) ts = omega arith
  nest_short (w.int l n long) ts = omega arith
  nest_short (w.chr l n) ts = omega arith
  nest_short (w.text l bytes) ts = omega arith
  nest_short (w.bracket l e m) ts = omega (arith, nest_short e (mark m 22 ∷ ts))

  nests_short : (es : w.Args) (ts : List Token) → nests es + length ts ≤ length (w.spell_args es ts)
  nests_short w.no_args ts = omega arith
  nests_short (w.more_args e es) ts = omega (arith, nest_short e (w.spell_others es ts), others_short es ts)

  others_short : (es : w.Others) (ts : List Token) → nest_others es + length ts ≤ length (w.spell_others es ts)
  others_short w.no_others ts = omega arith
  others_short (w.more_others l e es) ts = omega (arith, nest_short e (w.spell_others es ts), others_short es ts)

always_none : {A : Type 0} (c : Bool) (o : Option A) → o ≡ None → pick c None o ≡ None
always_none true o is = refl
always_none false o is = is

ends_close : (l j : ℕ) (ts : List Token) → Ends l (mark j 22 ∷ ts)
ends_close l j ts = record {
  no_call = refl;
  no_index = refl;
  no_member = refl;
  no_arrow = refl;
  no_step = refl;
  no_operator = refl;
  no_assign = always_none (nat_lt 2 l) _ refl;
  no_choice = always_none (nat_lt 3 l) _ refl;
  no_comma = always_none (nat_lt 1 l) _ refl;
}

ends_square : (l j : ℕ) (ts : List Token) → Ends l (mark j 24 ∷ ts)
ends_square l j ts = record {
  no_call = refl;
  no_index = refl;
  no_member = refl;
  no_arrow = refl;
  no_step = refl;
  no_operator = refl;
  no_assign = always_none (nat_lt 2 l) _ refl;
  no_choice = always_none (nat_lt 3 l) _ refl;
  no_comma = always_none (nat_lt 1 l) _ refl;
}

ends_semicolon : (l j : ℕ) (ts : List Token) → Ends l (mark j 29 ∷ ts)
ends_semicolon l j ts = record {
  no_call = refl;
  no_index = refl;
  no_member = refl;
  no_arrow = refl;
  no_step = refl;
  no_operator = refl;
  no_assign = always_none (nat_lt 2 l) _ refl;
  no_choice = always_none (nat_lt 3 l) _ refl;
  no_comma = always_none (nat_lt 1 l) _ refl;
}

ends_colon : (l j : ℕ) (ts : List Token) → Ends l (mark j 30 ∷ ts)
ends_colon l j ts = record {
  no_call = refl;
  no_index = refl;
  no_member = refl;
  no_arrow = refl;
  no_step = refl;
  no_operator = refl;
  no_assign = always_none (nat_lt 2 l) _ refl;
  no_choice = always_none (nat_lt 3 l) _ refl;
  no_comma = always_none (nat_lt 1 l) _ refl;
}

ends_brace : (l j : ℕ) (ts : List Token) → Ends l (mark j 26 ∷ ts)
ends_brace l j ts = record {
  no_call = refl;
  no_index = refl;
  no_member = refl;
  no_arrow = refl;
  no_step = refl;
  no_operator = refl;
  no_assign = always_none (nat_lt 2 l) _ refl;
  no_choice = always_none (nat_lt 3 l) _ refl;
  no_comma = always_none (nat_lt 1 l) _ refl;
}

ends_comma : (l j : ℕ) (ts : List Token) → 2 ≤ l → Ends l (mark j 28 ∷ ts)
ends_comma l j ts two = record {
  no_call = refl;
  no_index = refl;
  no_member = refl;
  no_arrow = refl;
  no_step = refl;
  no_operator = refl;
  no_assign = always_none (nat_lt 2 l) _ refl;
  no_choice = always_none (nat_lt 3 l) _ refl;
  no_comma = rw (lt-ltb 1 l two) refl;
}

either : (a b : Bool) → (a || b) ≡ true → (a ≡ true) ⊎ (b ≡ true)
either true b is = inl refl
either false b is = inr is

both : (a b : Bool) → (a && b) ≡ true → (a ≡ true) × (b ≡ true)
both true true is = (refl, refl)
both true false is = absurd (true≢false (sym is))
both false b is = absurd (true≢false (sym is))

two_or_three : (l : ℕ) → (nat_eq l 2 || nat_eq l 3) ≡ true → 2 ≤ l
two_or_three l is = elim (either (nat_eq l 2) (nat_eq l 3) is) [ inl h ↦ omega (arith, eqb-true l 2 h) | inr h ↦ omega (arith, eqb-true l 3 h) ]

at_mark : (l j m n : ℕ) (ts : List Token) → nat_eq m n ≡ true → Ends l (mark j n ∷ ts) → Ends l (mark j m ∷ ts)
at_mark l j m n ts is ends = rw (eqb-true m n is) ends

ends_by : (l j : ℕ) (t : Tok) (ts : List Token) → may_follow l (tok j t ∷ ts) ≡ true → Ends l (tok j t ∷ ts)
ends_by l j (k.name x) ts is = absurd (true≢false (sym is))
ends_by l j (k.int n long) ts is = absurd (true≢false (sym is))
ends_by l j (k.chr n) ts is = absurd (true≢false (sym is))
ends_by l j (k.text bytes) ts is = absurd (true≢false (sym is))
ends_by l j (k.word v) ts is = absurd (true≢false (sym is))
ends_by l j (k.mark m) ts is = elim (either (nat_eq m 22) _ is) [
  | inl h ↦ at_mark l j m 22 ts h (ends_close l j ts)
  | inr h1 ↦ elim (either (nat_eq m 24) _ h1) [
    | inl h ↦ at_mark l j m 24 ts h (ends_square l j ts)
    | inr h2 ↦ elim (either (nat_eq m 29) _ h2) [
      | inl h ↦ at_mark l j m 29 ts h (ends_semicolon l j ts)
      | inr h3 ↦ elim (either (nat_eq m 30) _ h3) [
        | inl h ↦ at_mark l j m 30 ts h (ends_colon l j ts)
        | inr h4 ↦
            let p = both (nat_eq l 2 || nat_eq l 3) _ h4 in
            elim (either (nat_eq m 28) (nat_eq m 26) p.1) [
              | inl h ↦ at_mark l j m 28 ts h (ends_comma l j ts (two_or_three l p.0))
              | inr h ↦ at_mark l j m 26 ts h (ends_brace l j ts)
            ]
      ]
    ]
  ]
]

ends_before : (l : ℕ) (ts : List Token) → may_follow l ts ≡ true → Ends l ts
ends_before l [] is = absurd (true≢false (sym is))
ends_before l (y ∷ ts) is = ends_by l y.line y.kind ts is

pub expr_again : (defs : List Name) (l : ℕ) (e : Written) (after : List Token) → 1 ≤ l → l ≤ 3 → IsAtLevel defs l e → expr_depth (w.plain e) ≤ most → may_follow l after ≡ true → expression defs l (w.spell e after) ≡ Some (w.plain e, after)
unfolding expression
expr_again defs l e after low high ok depth follows =
    rw (is_read defs most (length (w.spell e after)) l e after ok (omega (arith, nest_short e after)) depth (ends_before l after follows), follows) refl

-- what is read is what an expression's reader gives, before a mark that may end it
expr_read : (defs : List Name) (l : ℕ) (ts : List Token) (x : Expr × List Token) → expression defs l ts ≡ Some x → (r.expr defs most (length ts) l ts ≡ Some x) × (may_follow l x.1 ≡ true)
unfolding expression
expr_read defs l ts x is =
    let b = bind_some (r.expr defs most (length ts) l ts) (ended l) x is in
    elim (chosen (may_follow l b.0.1) (Some b.0) None (Some x) b.2) [
      | inl h ↦ let same : b.0 ≡ x = some_is h.1 in (b.1 ∙ h.1, ap (λ y. may_follow l y.1) (sym same) ∙ h.0)
      | inr h ↦ cc (h.1)
    ]

pub expr_takes : (defs : List Name) (l : ℕ) (ts : List Token) (x : Expr × List Token) → 1 ≤ l → l ≤ 3 → expression defs l ts ≡ Some x → Spells defs l x.0 ts x.1 × (expr_depth x.0 ≤ most)
expr_takes defs l ts x low high is = is_spelled defs most (length ts) l ts x (omega arith) (omega arith) (expr_read defs l ts x is).0

pub expr_ends : (defs : List Name) (l : ℕ) (ts : List Token) (x : Expr × List Token) → expression defs l ts ≡ Some x → may_follow l x.1 ≡ true
expr_ends defs l ts x is = (expr_read defs l ts x is).1
