-- The tokens behind an expression are those from a place on.
use Rattle.std.proofs.Common.{◌≡◌, ℕ, ◌+◌, ◌≤◌, zero, suc, List, [], ◌∷◌, length, drop, Option, Some, None, Result, Ok, Err, IfOk, refl, ap, arith, sym, ◌∙◌, drop-drop}
use Rattle.c_type.specs.Names.{Name}
use Rattle.c_lex.specs.Tokens.{Token}
use Rattle.c_lex.specs.Tokens as k
use Rattle.c_grammar.specs.Words.{tok, mark, assign_mark, binary_mark, step_mark, comma_mark, question, colon, open_square, close_square, open_round, close_round, dot_mark, arrow_mark}
use Rattle.c_tree.specs.TreeExpr.{Expr}
use Rattle.c_grammar.specs.WrittenType.{TypePart, word_part, tag_part, name_part, spell_part, spell_parts, spell_stars, spell_name, WrittenName}
use Rattle.c_grammar.specs.WrittenExpr.{Written}
use Rattle.c_grammar.specs.WrittenExpr as w
use Rattle.c_grammar.specs.Reads.{IsExprAt, Spells}
use Rattle.c_tree.specs.declared.expr.Expr.{Expr as RustExpr}
use Rattle.c_tree.specs.TreeOf.{expr_of}
use Rattle.c_lex.specs.Shown.{tokens_of}
use Rattle.c_expr.specs.declared.error.ParseErr.{ParseErr}
use Rattle.c_expr.specs.declared.error.ParseErr.TheVariants.{TooDeep, NotC, Memory}
use Rattle.c_expr.specs.Answer.{OnNotC, IsNotTooDeep}
use Rattle.c_decl.specs.declared.reader.Reader.{Reader}
use Rattle.c_decl.specs.Answers.{Gives, found, names, rest}
use Rattle.c_decl.specs.Expression.{expression}
use Rattle.c_decl.proofs.Expressions.{expr_again, expr_takes, expr_ends}

-- the others are those from a place on
abbrev pub Behind : List Token → List Token → Type 0
Behind ts after = (n : ℕ) × (drop n ts ≡ after)

pub here : (ts : List Token) → Behind ts ts
here ts = (0, refl)

pub next : (x : Token) (ts after : List Token) → Behind ts after → Behind (x ∷ ts) after
next x ts after b = (suc b.0, b.1)

pub beyond : (ts us after : List Token) → Behind ts us → Behind us after → Behind ts after
beyond ts us after a b = (a.0 + b.0, sym (drop-drop b.0 a.0 ts) ∙ ap (drop b.0) a.1 ∙ b.1)

pub part_behind : (p : TypePart) (ts : List Token) → Behind (spell_part p ts) ts
part_behind (word_part l v) ts = next _ ts ts (here ts)
part_behind (tag_part l kind m x) ts = next _ _ ts (next _ ts ts (here ts))
part_behind (name_part l x) ts = next _ ts ts (here ts)

parts_behind : (ps : List TypePart) (ts : List Token) → Behind (spell_parts ps ts) ts
parts_behind [] ts = here ts
parts_behind (p ∷ ps) ts = beyond (spell_part p (spell_parts ps ts)) (spell_parts ps ts) ts (part_behind p (spell_parts ps ts)) (parts_behind ps ts)

stars_behind : (ls : List ℕ) (ts : List Token) → Behind (spell_stars ls ts) ts
stars_behind [] ts = here ts
stars_behind (l ∷ ls) ts = next _ (spell_stars ls ts) ts (stars_behind ls ts)

name_behind : (y : WrittenName) (ts : List Token) → Behind (spell_name y ts) ts
name_behind y ts = beyond (spell_name y ts) (spell_stars y.stars ts) ts (parts_behind y.parts (spell_stars y.stars ts)) (stars_behind y.stars ts)

mutual
  pub expr_behind : (e : Written) (ts : List Token) → Behind (w.spell e ts) ts
  expr_behind (w.comma a l b) ts = beyond _ (mark l comma_mark ∷ w.spell b ts) ts (expr_behind a _) (next _ (w.spell b ts) ts (expr_behind b ts))
  expr_behind (w.assign a l op b) ts = beyond _ (mark l (assign_mark op) ∷ w.spell b ts) ts (expr_behind a _) (next _ (w.spell b ts) ts (expr_behind b ts))
  expr_behind (w.choice a l b m c) ts =
      beyond _ (mark l question ∷ w.spell b (mark m colon ∷ w.spell c ts)) ts (expr_behind a _)
      (next _ _ ts (beyond _ (mark m colon ∷ w.spell c ts) ts (expr_behind b _) (next _ (w.spell c ts) ts (expr_behind c ts))))
  expr_behind (w.binary a l op b) ts = beyond _ (mark l (binary_mark op) ∷ w.spell b ts) ts (expr_behind a _) (next _ (w.spell b ts) ts (expr_behind b ts))
  expr_behind (w.unary l op e) ts = next _ (w.spell e ts) ts (expr_behind e ts)
  expr_behind (w.size_of l e) ts = next _ (w.spell e ts) ts (expr_behind e ts)
  expr_behind (w.size_of_type l m y n) ts = next _ _ ts (next _ _ ts (beyond _ (mark n close_round ∷ ts) ts (name_behind y _) (next _ ts ts (here ts))))
  expr_behind (w.cast l y m e) ts = next _ _ ts (beyond _ (mark m close_round ∷ w.spell e ts) ts (name_behind y _) (next _ (w.spell e ts) ts (expr_behind e ts)))
  expr_behind (w.index a l i m) ts =
      beyond _ (mark l open_square ∷ w.spell i (mark m close_square ∷ ts)) ts (expr_behind a _) (next _ _ ts (beyond _ (mark m close_square ∷ ts) ts (expr_behind i _) (next _ ts ts (here ts))))
  expr_behind (w.call f l es m) ts =
      beyond _ (mark l open_round ∷ w.spell_args es (mark m close_round ∷ ts)) ts (expr_behind f _) (next _ _ ts (beyond _ (mark m close_round ∷ ts) ts (args_behind es _) (next _ ts ts (here ts))))
  expr_behind (w.member e l m x) ts = beyond _ (mark l dot_mark ∷ tok m (k.name x) ∷ ts) ts (expr_behind e _) (next _ _ ts (next _ ts ts (here ts)))
  expr_behind (w.arrow e l m x) ts = beyond _ (mark l arrow_mark ∷ tok m (k.name x) ∷ ts) ts (expr_behind e _) (next _ _ ts (next _ ts ts (here ts)))
  expr_behind (w.post e l op) ts = beyond _ (mark l (step_mark op) ∷ ts) ts (expr_behind e _) (next _ ts ts (here ts))
  expr_behind (w.name l x) ts = next _ ts ts (here ts)
  expr_behind (w.int l n long) ts = next _ ts ts (here ts)
  expr_behind (w.chr l n) ts = next _ ts ts (here ts)
  expr_behind (w.text l bytes) ts = next _ ts ts (here ts)
  expr_behind (w.bracket l e m) ts = next _ _ ts (beyond _ (mark m close_round ∷ ts) ts (expr_behind e _) (next _ ts ts (here ts)))

  args_behind : (es : w.Args) (ts : List Token) → Behind (w.spell_args es ts) ts
  args_behind w.no_args ts = here ts
  args_behind (w.more_args e es) ts = beyond _ (w.spell_others es ts) ts (expr_behind e _) (others_behind es ts)

  others_behind : (es : w.Others) (ts : List Token) → Behind (w.spell_others es ts) ts
  others_behind w.no_others ts = here ts
  others_behind (w.more_others l e es) ts = next _ _ ts (beyond _ (w.spell_others es ts) ts (expr_behind e _) (others_behind es ts))

-- An expression that stands at a place is read there.
pub expression_given : (defs : List Name) (l at : ℕ) (ts : List Token) (e : Expr) (k : ℕ) → 1 ≤ l → l ≤ 3 → IsExprAt defs l ts at e k → expression defs l (drop at ts) ≡ Some (e, drop k ts)
expression_given defs l at ts e k low high is =
    let s = is.spells in
    ap (expression defs l) s.tokens ∙ expr_again defs l s.written (drop k ts) low high s.levelled (rw s.plain_is is.low) is.follows ∙ ap (λ y. Some (y, drop k ts)) s.plain_is

-- what is behind a place is behind one within the tokens
pub within : (m : ℕ) (ts : List Token) → (k : ℕ) × (k ≤ length ts) × (drop k ts ≡ drop m ts)
within zero ts = (0, omega arith, refl)
within (suc m) [] = (0, omega arith, refl)
within (suc m) (x ∷ ts) = let p = within m ts in (suc p.0, omega (arith, p.1), p.2)

-- the place behind what is read
place : (defs : List Name) (l at : ℕ) (ts : List Token) (x : Expr × List Token) → Spells defs l x.0 (drop at ts) x.1 → (k : ℕ) × (k ≤ length ts) × (drop k ts ≡ x.1)
place defs l at ts x s =
    let b : Behind (drop at ts) x.1 = rw (s.tokens) (expr_behind s.written x.1) in
    let p = within (at + b.0) ts in
    (p.0, p.1, p.2 ∙ sym (drop-drop b.0 at ts) ∙ b.1)

missing_by : (defs : List Name) (l at : ℕ) (ts : List Token) (o : Option (Expr × List Token)) → 1 ≤ l → l ≤ 3 → expression defs l (drop at ts) ≡ o → ((e : Expr) (k : ℕ) → IsExprAt defs l ts at e k → ⊥) → o ≡ None
missing_by defs l at ts None low high is none = refl
missing_by defs l at ts (Some x) low high is none =
    let t = expr_takes defs l (drop at ts) x low high is in
    let p = place defs l at ts x t.0 in
    absurd (none x.0 p.0 (record { spells = rw p.2 t.0; low = t.1; within = p.1; follows = rw p.2 (expr_ends defs l (drop at ts) x is) }))

-- Where no expression stands, none is read.
pub expression_missing : (defs : List Name) (l at : ℕ) (ts : List Token) → 1 ≤ l → l ≤ 3 → ((e : Expr) (k : ℕ) → IsExprAt defs l ts at e k → ⊥) → expression defs l (drop at ts) ≡ None
expression_missing defs l at ts low high none = missing_by defs l at ts (expression defs l (drop at ts)) low high refl none

-- What the parser of expressions answers at a place is what is read there.
pub expression_answers : (r : Reader) (l at : ℕ) (x : Result (RustExpr × ℕ) ParseErr) → 1 ≤ l → l ≤ 3
    → IfOk x (λ y. IsExprAt (names r) l (tokens_of r.tokens.now) at (expr_of y.0) y.1) → OnNotC x ((e : Expr) (k : ℕ) → IsExprAt (names r) l (tokens_of r.tokens.now) at e k → ⊥) → IsNotTooDeep x
    → Gives (found expr_of r) x (expression (names r) l (rest r at))
unfolding rest
expression_answers r l at (Ok y) low high given none shallow = expression_given (names r) l at (tokens_of r.tokens.now) (expr_of y.0) y.1 low high given
expression_answers r l at (Err (TooDeep line)) low high given none shallow = absurd shallow
expression_answers r l at (Err (NotC line)) low high given none shallow = expression_missing (names r) l at (tokens_of r.tokens.now) low high none
expression_answers r l at (Err Memory) low high given none shallow = tt
