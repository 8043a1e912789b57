-- Where few brackets are open at each token, few are open in an expression.
use Rattle.std.proofs.Common.{◌≡◌, ℕ, ◌+◌, ◌-◌, ◌≤◌, suc, List, [], ◌∷◌, refl, arith}
use Rattle.c_lex.specs.Tokens.{Tok, Token}
use Rattle.c_lex.specs.Tokens as k
use Rattle.c_tree.specs.declared.expr.BinaryOp.{BinaryOp}
use Rattle.c_tree.specs.declared.expr.AssignOp.{AssignOp}
use Rattle.c_tree.specs.declared.expr.UnaryOp.{UnaryOp}
use Rattle.c_tree.specs.declared.expr.StepOp.{StepOp}
use Rattle.c_tree.specs.declared.expr.AssignOp.TheVariants as a
use Rattle.c_tree.specs.declared.expr.BinaryOp.TheVariants as b
use Rattle.c_tree.specs.declared.expr.UnaryOp.TheVariants as u
use Rattle.c_tree.specs.declared.expr.StepOp.TheVariants as s
use Rattle.c_grammar.specs.Words.{mark, tok, binary_mark, assign_mark, unary_mark, step_mark, comma_mark}
use Rattle.c_grammar.specs.WrittenType.{TypePart, word_part, tag_part, name_part, WrittenName, spell_part, spell_parts, spell_stars, spell_name}
use Rattle.c_grammar.specs.WrittenExpr.{Written, Args, Others, spell, spell_args, spell_others}
use Rattle.c_grammar.specs.WrittenExpr as w
use Rattle.c_grammar.specs.Reads.{most, opened, AreShallow}
use Rattle.c_expr.specs.Brackets.{brackets, arg_brackets, other_brackets}

-- ---- operators open and close nothing

binary_same : (n l : ℕ) (op : BinaryOp) → opened n (mark l (binary_mark op)) ≡ n
binary_same n l b.Either = refl
binary_same n l b.Both = refl
binary_same n l b.Or = refl
binary_same n l b.Xor = refl
binary_same n l b.And = refl
binary_same n l b.Eq = refl
binary_same n l b.Ne = refl
binary_same n l b.Lt = refl
binary_same n l b.Gt = refl
binary_same n l b.Le = refl
binary_same n l b.Ge = refl
binary_same n l b.Shl = refl
binary_same n l b.Shr = refl
binary_same n l b.Add = refl
binary_same n l b.Sub = refl
binary_same n l b.Mul = refl
binary_same n l b.Div = refl
binary_same n l b.Rem = refl

assign_same : (n l : ℕ) (op : AssignOp) → opened n (mark l (assign_mark op)) ≡ n
assign_same n l a.Set = refl
assign_same n l a.Add = refl
assign_same n l a.Sub = refl
assign_same n l a.Mul = refl
assign_same n l a.Div = refl
assign_same n l a.Rem = refl
assign_same n l a.And = refl
assign_same n l a.Or = refl
assign_same n l a.Xor = refl
assign_same n l a.Shl = refl
assign_same n l a.Shr = refl

unary_same : (n l : ℕ) (op : UnaryOp) → opened n (mark l (unary_mark op)) ≡ n
unary_same n l u.Deref = refl
unary_same n l u.Address = refl
unary_same n l u.Neg = refl
unary_same n l u.Not = refl
unary_same n l u.Flip = refl
unary_same n l u.Inc = refl
unary_same n l u.Dec = refl

step_same : (n l : ℕ) (op : StepOp) → opened n (mark l (step_mark op)) ≡ n
step_same n l s.Inc = refl
step_same n l s.Dec = refl

-- the tokens behind one that opens and closes nothing
behind : (n : ℕ) (x : Token) (ts : List Token) → opened n x ≡ n → AreShallow n (x ∷ ts) → AreShallow n ts
behind n x ts same h = rw same at h.1

part_behind : (n : ℕ) (p : TypePart) (ts : List Token) → AreShallow n (spell_part p ts) → AreShallow n ts
part_behind n (word_part l v) ts h = h.1
part_behind n (tag_part l kind m x) ts h = h.1.1
part_behind n (name_part l x) ts h = h.1

parts_behind : (n : ℕ) (ps : List TypePart) (ts : List Token) → AreShallow n (spell_parts ps ts) → AreShallow n ts
parts_behind n [] ts h = h
parts_behind n (p ∷ ps) ts h = parts_behind n ps ts (part_behind n p (spell_parts ps ts) h)

stars_behind : (n : ℕ) (ls : List ℕ) (ts : List Token) → AreShallow n (spell_stars ls ts) → AreShallow n ts
stars_behind n [] ts h = h
stars_behind n (l ∷ ls) ts h = stars_behind n ls ts h.1

name_behind : (n : ℕ) (y : WrittenName) (ts : List Token) → AreShallow n (spell_name y ts) → AreShallow n ts
name_behind n y ts h = stars_behind n y.stars ts (parts_behind n y.parts (spell_stars y.stars ts) h)

-- the tokens behind a closing bracket
shut : (n : ℕ) (ts : List Token) → AreShallow (suc n - 1) ts → AreShallow n ts
shut n ts h = let same : suc n - 1 ≡ n = omega arith in rw same at h

-- its own brackets and those before it are few, and so are those behind it
abbrev Few : ℕ → ℕ → List Token → Type 0
Few n d after = (n + d ≤ most) × AreShallow n after

mutual
  pub few : (n : ℕ) (e : Written) (after : List Token) → n ≤ most → AreShallow n (spell e after) → Few n (brackets e) after
  few n (w.comma x l y) after le h =
      let p = few n x (mark l comma_mark ∷ spell y after) le h in
      let q = few n y after le p.1.1 in
      (omega (arith, p.0, q.0), q.1)
  few n (w.assign x l op y) after le h =
      let p = few n x (mark l (assign_mark op) ∷ spell y after) le h in
      let q = few n y after le (behind n (mark l (assign_mark op)) (spell y after) (assign_same n l op) p.1) in
      (omega (arith, p.0, q.0), q.1)
  few n (w.choice x l y m z) after le h =
      let p = few n x (mark l 31 ∷ spell y (mark m 30 ∷ spell z after)) le h in
      let q = few n y (mark m 30 ∷ spell z after) le p.1.1 in
      let r = few n z after le q.1.1 in
      (omega (arith, p.0, q.0, r.0), r.1)
  few n (w.binary x l op y) after le h =
      let p = few n x (mark l (binary_mark op) ∷ spell y after) le h in
      let q = few n y after le (behind n (mark l (binary_mark op)) (spell y after) (binary_same n l op) p.1) in
      (omega (arith, p.0, q.0), q.1)
  few n (w.unary l op e) after le h = few n e after le (behind n (mark l (unary_mark op)) (spell e after) (unary_same n l op) h)
  few n (w.size_of l e) after le h = few n e after le h.1
  few n (w.size_of_type l m y c) after le h = (omega (arith, h.1.0), shut n after (name_behind (suc n) y (mark c 22 ∷ after) h.1.1).1)
  few n (w.cast l y m e) after le h =
      let q = few n e after le (shut n (spell e after) (name_behind (suc n) y (mark m 22 ∷ spell e after) h.1).1) in
      (omega (arith, h.0, q.0), q.1)
  few n (w.index x l i m) after le h =
      let p = few n x (mark l 23 ∷ spell i (mark m 24 ∷ after)) le h in
      let q = few (suc n) i (mark m 24 ∷ after) p.1.0 p.1.1 in
      (omega (arith, p.0, q.0), shut n after q.1.1)
  few n (w.call f l es m) after le h =
      let p = few n f (mark l 21 ∷ spell_args es (mark m 22 ∷ after)) le h in
      let q = few_args (suc n) es (mark m 22 ∷ after) p.1.0 p.1.1 in
      (omega (arith, p.0, q.0), shut n after q.1.1)
  few n (w.member e l m x) after le h = let p = few n e (mark l 27 ∷ tok m (k.name x) ∷ after) le h in (p.0, p.1.1.1)
  few n (w.arrow e l m x) after le h = let p = few n e (mark l 4 ∷ tok m (k.name x) ∷ after) le h in (p.0, p.1.1.1)
  few n (w.post e l op) after le h = let p = few n e (mark l (step_mark op) ∷ after) le h in (p.0, behind n (mark l (step_mark op)) after (step_same n l op) p.1)
  few n (w.name l x) after le h = (omega (arith, le), h.1)
  few n (w.int l c long) after le h = (omega (arith, le), h.1)
  few n (w.chr l c) after le h = (omega (arith, le), h.1)
  few n (w.text l bytes) after le h = (omega (arith, le), h.1)
  few n (w.bracket l e m) after le h =
      let q = few (suc n) e (mark m 22 ∷ after) h.0 h.1 in
      (omega (arith, q.0), shut n after q.1.1)

  few_args : (n : ℕ) (es : Args) (after : List Token) → n ≤ most → AreShallow n (spell_args es after) → Few n (arg_brackets es) after
  few_args n w.no_args after le h = (omega (arith, le), h)
  few_args n (w.more_args e es) after le h =
      let p = few n e (spell_others es after) le h in
      let q = few_others n es after le p.1 in
      (omega (arith, p.0, q.0), q.1)

  few_others : (n : ℕ) (es : Others) (after : List Token) → n ≤ most → AreShallow n (spell_others es after) → Few n (other_brackets es) after
  few_others n w.no_others after le h = (omega (arith, le), h)
  few_others n (w.more_others l e es) after le h =
      let p = few n e (spell_others es after) le h.1 in
      let q = few_others n es after le p.1 in
      (omega (arith, p.0, q.0), q.1)
