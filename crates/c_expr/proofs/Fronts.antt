-- How the spellings of expressions begin, and how long they are.
use Rattle.std.proofs.Common.{◌≡◌, ℕ, ◌<◌, ◌≤◌, List, [], ◌∷◌, length, Some, None, Bool, true, false, nat_eq, ◌||◌, refl, arith, ap, sym, ◌∙◌, true≢false}
use Rattle.std.proofs.lemmas.Bool.{le-ltb, eqb-true}
use Rattle.c_type.specs.Names.{Name, pick}
use Rattle.c_lex.specs.Tokens.{Tok, Token}
use Rattle.c_lex.specs.Tokens as k
use Rattle.c_tree.specs.declared.expr.UnaryOp.TheVariants as u
use Rattle.c_tree.specs.declared.expr.UnaryOp.{UnaryOp}
use Rattle.c_grammar.specs.Words.{mark, tok, unary_mark, assign_mark, binary_mark, step_mark, comma_mark}
use Rattle.c_grammar.specs.WrittenType.{WrittenName, TypePart, word_part, tag_part, name_part, is_typedef, spell_name, spell_parts, spell_part, spell_stars}
use Rattle.c_grammar.specs.WrittenExpr.{Written, IsLevelled}
use Rattle.c_grammar.specs.WrittenExpr as w
use Rattle.c_expr.specs.Front.{eat, is_mark, is_word, eat_word, line_at, grown}

pub grown_again : {A : Type 0} (depth : A → ℕ) (most : ℕ) (x : A) (ts : List Token) → depth x ≤ most → grown depth most x ts ≡ Some (x, ts)
grown_again depth most x ts low = rw (le-ltb most (depth x) low) refl

-- two numbers that a test tells apart
pub other : (p : ℕ → Bool) (m n : ℕ) → p m ≡ true → p n ≡ false → nat_eq m n ≡ false
other p m n is_one is_none = by_test (nat_eq m n) refl
  where
    by_test : (b : Bool) → nat_eq m n ≡ b → b ≡ false
    by_test false is = refl
    by_test true is = let same : m ≡ n = eqb-true m n is in absurd (true≢false (sym is_one ∙ ap p same ∙ is_none))

-- ---- expressions

-- the marks with which an expression begins
abbrev pub is_start_mark : ℕ → Bool
is_start_mark m = nat_eq m 21 || (nat_eq m 35 || (nat_eq m 38 || (nat_eq m 34 || (nat_eq m 42 || (nat_eq m 41 || (nat_eq m 2 || nat_eq m 3))))))

abbrev pub is_sizeof : ℕ → Bool
is_sizeof w = nat_eq w 17

abbrev pub is_start : List Name → Tok → Bool
is_start defs (k.name x) = pick (is_typedef defs x) false true
is_start defs (k.int n long) = true
is_start defs (k.chr n) = true
is_start defs (k.text bytes) = true
is_start defs (k.word w) = is_sizeof w
is_start defs (k.mark m) = is_start_mark m

abbrev pub starts : List Name → List Token → Bool
starts defs [] = false
starts defs (x ∷ ts) = is_start defs x.kind

unary_starts : (op : UnaryOp) → is_start_mark (unary_mark op) ≡ true
unary_starts u.Deref = refl
unary_starts u.Address = refl
unary_starts u.Neg = refl
unary_starts u.Not = refl
unary_starts u.Flip = refl
unary_starts u.Inc = refl
unary_starts u.Dec = refl

pub expr_starts : (defs : List Name) (e : Written) (after : List Token) → IsLevelled defs e → starts defs (w.spell e after) ≡ true
expr_starts defs (w.comma a l b) after ok = expr_starts defs a _ ok.2
expr_starts defs (w.assign a l op b) after ok = expr_starts defs a _ ok.2
expr_starts defs (w.choice a l b m c) after ok = expr_starts defs a _ ok.2
expr_starts defs (w.binary a l op b) after ok = expr_starts defs a _ ok.2
expr_starts defs (w.unary l op e) after ok = unary_starts op
expr_starts defs (w.size_of l e) after ok = refl
expr_starts defs (w.size_of_type l m y n) after ok = refl
expr_starts defs (w.cast l y m e) after ok = refl
expr_starts defs (w.index a l i m) after ok = expr_starts defs a _ ok.1
expr_starts defs (w.call f l es m) after ok = expr_starts defs f _ ok.1
expr_starts defs (w.member e l m x) after ok = expr_starts defs e _ ok.2
expr_starts defs (w.arrow e l m x) after ok = expr_starts defs e _ ok.2
expr_starts defs (w.post e l op) after ok = expr_starts defs e _ ok.1
expr_starts defs (w.name l x) after ok = rw ok refl
expr_starts defs (w.int l n long) after ok = refl
expr_starts defs (w.chr l n) after ok = refl
expr_starts defs (w.text l bytes) after ok = refl
expr_starts defs (w.bracket l e m) after ok = refl

start_no_mark : (defs : List Name) (m : ℕ) (x : Tok) → is_start_mark m ≡ false → is_start defs x ≡ true → is_mark m x ≡ false
start_no_mark defs m (k.name x) no_ is = refl
start_no_mark defs m (k.int n long) no_ is = refl
start_no_mark defs m (k.chr n) no_ is = refl
start_no_mark defs m (k.text bytes) no_ is = refl
start_no_mark defs m (k.word v) no_ is = refl
start_no_mark defs m (k.mark n) no_ is = other is_start_mark n m is no_

start_no_word : (defs : List Name) (m : ℕ) (x : Tok) → is_sizeof m ≡ false → is_start defs x ≡ true → is_word m x ≡ false
start_no_word defs m (k.name x) no_ is = refl
start_no_word defs m (k.int n long) no_ is = refl
start_no_word defs m (k.chr n) no_ is = refl
start_no_word defs m (k.text bytes) no_ is = refl
start_no_word defs m (k.word v) no_ is = other is_sizeof v m is no_
start_no_word defs m (k.mark n) no_ is = refl

-- what an expression does not begin with
pub no_mark : (defs : List Name) (m : ℕ) (ts : List Token) → is_start_mark m ≡ false → starts defs ts ≡ true → eat m ts ≡ None
no_mark defs m [] no_ is = refl
no_mark defs m (x ∷ ts) no_ is = rw (start_no_mark defs m x.kind no_ is) refl

pub no_word : (defs : List Name) (m : ℕ) (ts : List Token) → is_sizeof m ≡ false → starts defs ts ≡ true → eat_word m ts ≡ None
no_word defs m [] no_ is = refl
no_word defs m (x ∷ ts) no_ is = rw (start_no_word defs m x.kind no_ is) refl

pub line_first : (e : Written) (after : List Token) → line_at (w.spell e after) ≡ w.first e
line_first (w.comma a l b) after = line_first a _
line_first (w.assign a l op b) after = line_first a _
line_first (w.choice a l b m c) after = line_first a _
line_first (w.binary a l op b) after = line_first a _
line_first (w.unary l op e) after = refl
line_first (w.size_of l e) after = refl
line_first (w.size_of_type l m y n) after = refl
line_first (w.cast l y m e) after = refl
line_first (w.index a l i m) after = line_first a _
line_first (w.call f l es m) after = line_first f _
line_first (w.member e l m x) after = line_first e _
line_first (w.arrow e l m x) after = line_first e _
line_first (w.post e l op) after = line_first e _
line_first (w.name l x) after = refl
line_first (w.int l n long) after = refl
line_first (w.chr l n) after = refl
line_first (w.text l bytes) after = refl
line_first (w.bracket l e m) after = refl

-- ---- lengths

pub part_longer : (p : TypePart) (ts : List Token) → length ts < length (spell_part p ts)
part_longer (word_part l v) ts = omega arith
part_longer (tag_part l kind m x) ts = omega arith
part_longer (name_part l x) ts = omega arith

pub parts_longer : (ps : List TypePart) (ts : List Token) → length ts ≤ length (spell_parts ps ts)
parts_longer [] ts = omega arith
parts_longer (p ∷ ps) ts = omega (arith, part_longer p (spell_parts ps ts), parts_longer ps ts)

pub stars_longer : (ls : List ℕ) (ts : List Token) → length ts ≤ length (spell_stars ls ts)
stars_longer [] ts = omega arith
stars_longer (l ∷ ls) ts = omega (arith, stars_longer ls ts)

pub name_longer : (y : WrittenName) (ts : List Token) → length ts ≤ length (spell_name y ts)
name_longer y ts = omega (arith, parts_longer y.parts (spell_stars y.stars ts), stars_longer y.stars ts)

mutual
  pub expr_longer : (e : Written) (ts : List Token) → length ts < length (w.spell e ts)
  expr_longer (w.comma a l b) ts = omega (arith, expr_longer a (mark l comma_mark ∷ w.spell b ts), expr_longer b ts)
  expr_longer (w.assign a l op b) ts = omega (arith, expr_longer a (mark l (assign_mark op) ∷ w.spell b ts), expr_longer b ts)
  expr_longer (w.choice a l b m c) ts = omega (arith, expr_longer a (mark l 31 ∷ w.spell b (mark m 30 ∷ w.spell c ts)), expr_longer b (mark m 30 ∷ w.spell c ts), expr_longer c ts)
  expr_longer (w.binary a l op b) ts = omega (arith, expr_longer a (mark l (binary_mark op) ∷ w.spell b ts), expr_longer b ts)
  expr_longer (w.unary l op e) ts = omega (arith, expr_longer e ts)
  expr_longer (w.size_of l e) ts = omega (arith, expr_longer e ts)
  expr_longer (w.size_of_type l m y n) ts = omega (arith, name_longer y (mark n 22 ∷ ts))
  expr_longer (w.cast l y m e) ts = omega (arith, name_longer y (mark m 22 ∷ w.spell e ts), expr_longer e ts)
  expr_longer (w.index a l i m) ts = omega (arith, expr_longer a (mark l 23 ∷ w.spell i (mark m 24 ∷ ts)), expr_longer i (mark m 24 ∷ ts))
  expr_longer (w.call f l es m) ts = omega (arith, expr_longer f (mark l 21 ∷ w.spell_args es (mark m 22 ∷ ts)), args_longer es (mark m 22 ∷ ts))
  expr_longer (w.member e l m x) ts = omega (arith, expr_longer e (mark l 27 ∷ tok m (k.name x) ∷ ts))
  expr_longer (w.arrow e l m x) ts = omega (arith, expr_longer e (mark l 4 ∷ tok m (k.name x) ∷ ts))
  expr_longer (w.post e l op) ts = omega (arith, expr_longer e (mark l (step_mark op) ∷ ts))
  expr_longer (w.name l x) ts = omega arith
  expr_longer (w.int l n long) ts = omega arith
  expr_longer (w.chr l n) ts = omega arith
  expr_longer (w.text l bytes) ts = omega arith
  expr_longer (w.bracket l e m) ts = omega (arith, expr_longer e (mark m 22 ∷ ts))

  pub args_longer : (es : w.Args) (ts : List Token) → length ts ≤ length (w.spell_args es ts)
  args_longer w.no_args ts = omega arith
  args_longer (w.more_args e es) ts = omega (arith, expr_longer e (w.spell_others es ts), others_longer es ts)

  pub others_longer : (es : w.Others) (ts : List Token) → length ts ≤ length (w.spell_others es ts)
  others_longer w.no_others ts = omega arith
  others_longer (w.more_others l e es) ts = omega (arith, expr_longer e (w.spell_others es ts), others_longer es ts)
