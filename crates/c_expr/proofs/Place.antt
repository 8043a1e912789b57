-- What is read at the front of the tokens stands at its place in the whole list.
use Rattle.std.proofs.Common.{◌≡◌, ℕ, ◌+◌, ◌-◌, ◌≤◌, List, [], ◌∷◌, ◌++◌, length, drop, Some, None, Bool, true, false, nat_eq, ◌&&◌, ◌||◌, refl, arith, ap, sym, ◌∙◌, true≢false, length-append, length-drop}
use Rattle.std.proofs.lemmas.Bool.{eqb-true}
use Rattle.std.proofs.lemmas.List.{drop-drop, append_assoc}
use Rattle.std.proofs.Math.Seq.{drop-append_seam}
use Rattle.c_type.specs.Names.{Name}
use Rattle.c_lex.specs.Tokens.{Tok, Token}
use Rattle.c_lex.specs.Tokens as k
use Rattle.c_grammar.specs.Words.{mark, tok, binary_mark, assign_mark, step_mark, comma_mark}
use Rattle.c_tree.specs.TreeExpr.{Expr, expr_depth}
use Rattle.c_grammar.specs.WrittenType.{TypePart, word_part, tag_part, name_part, WrittenName, spell_part, spell_parts, spell_stars, spell_name}
use Rattle.c_grammar.specs.WrittenExpr.{Written, Args, Others, plain, spell, spell_args, spell_others}
use Rattle.c_grammar.specs.WrittenExpr as w
use Rattle.c_grammar.specs.Reads.{IsExprAt, may_follow}
use Rattle.c_expr.specs.Reading as r
use Rattle.c_expr.specs.Ends.{Ends, nest}
use Rattle.c_expr.specs.Brackets.{brackets}
use Rattle.c_expr.specs.Exact.{IsFront}
use Rattle.c_expr.proofs.Taken.{some_is}
use Rattle.c_expr.proofs.Marks.{ends_before_close, ends_before_square, ends_before_colon, ends_before_comma, ends_before_semicolon, ends_before_brace}
use Rattle.c_expr.proofs.ExprTakes.{expr_takes}
use Rattle.c_expr.proofs.ExprAgain.{expr_again}
use Rattle.c_expr.proofs.Walk.{nest_few}

-- ---- the tokens behind an expression are the last of those from its first on

-- The second list is the end of the first.
abbrev pub IsEnd : List Token → List Token → Type 0
IsEnd ts after = (front : List Token) × (ts ≡ front ++ after)

here : (ts : List Token) → IsEnd ts ts
here ts = ([], refl)

-- one token more
more : (x : Token) (ts after : List Token) → IsEnd ts after → IsEnd (x ∷ ts) after
more x ts after e = (x ∷ e.0, ap (λ y. x ∷ y) e.1)

further : (ts mid after : List Token) → IsEnd ts mid → IsEnd mid after → IsEnd ts after
further ts mid after e f = (e.0 ++ f.0, e.1 ∙ ap (λ y. e.0 ++ y) f.1 ∙ sym (append_assoc e.0 f.0 after))

part_end : (p : TypePart) (ts : List Token) → IsEnd (spell_part p ts) ts
part_end (word_part l v) ts = more _ ts ts (here ts)
part_end (tag_part l kind m x) ts = more _ _ ts (more _ ts ts (here ts))
part_end (name_part l x) ts = more _ ts ts (here ts)

parts_end : (ps : List TypePart) (ts : List Token) → IsEnd (spell_parts ps ts) ts
parts_end [] ts = here ts
parts_end (p ∷ ps) ts = further _ (spell_parts ps ts) ts (part_end p (spell_parts ps ts)) (parts_end ps ts)

stars_end : (ls : List ℕ) (ts : List Token) → IsEnd (spell_stars ls ts) ts
stars_end [] ts = here ts
stars_end (l ∷ ls) ts = more _ _ ts (stars_end ls ts)

name_end : (y : WrittenName) (ts : List Token) → IsEnd (spell_name y ts) ts
name_end y ts = further _ (spell_stars y.stars ts) ts (parts_end y.parts (spell_stars y.stars ts)) (stars_end y.stars ts)

mutual
  expr_end : (e : Written) (ts : List Token) → IsEnd (spell e ts) ts
  expr_end (w.comma x l y) ts = let rest = mark l comma_mark ∷ spell y ts in further (spell x rest) rest ts (expr_end x rest) (more _ (spell y ts) ts (expr_end y ts))
  expr_end (w.assign x l op y) ts = let rest = mark l (assign_mark op) ∷ spell y ts in further (spell x rest) rest ts (expr_end x rest) (more _ (spell y ts) ts (expr_end y ts))
  expr_end (w.choice x l y m z) ts =
      let last = mark m 30 ∷ spell z ts in
      let rest = mark l 31 ∷ spell y last in
      further (spell x rest) rest ts (expr_end x rest) (more _ (spell y last) ts (further (spell y last) last ts (expr_end y last) (more _ (spell z ts) ts (expr_end z ts))))
  expr_end (w.binary x l op y) ts = let rest = mark l (binary_mark op) ∷ spell y ts in further (spell x rest) rest ts (expr_end x rest) (more _ (spell y ts) ts (expr_end y ts))
  expr_end (w.unary l op e) ts = more _ (spell e ts) ts (expr_end e ts)
  expr_end (w.size_of l e) ts = more _ (spell e ts) ts (expr_end e ts)
  expr_end (w.size_of_type l m y n) ts = let rest = mark n 22 ∷ ts in more _ _ ts (more _ (spell_name y rest) ts (further (spell_name y rest) rest ts (name_end y rest) (more _ ts ts (here ts))))
  expr_end (w.cast l y m e) ts = let rest = mark m 22 ∷ spell e ts in more _ (spell_name y rest) ts (further (spell_name y rest) rest ts (name_end y rest) (more _ (spell e ts) ts (expr_end e ts)))
  expr_end (w.index x l i m) ts =
      let last = mark m 24 ∷ ts in
      let rest = mark l 23 ∷ spell i last in
      further (spell x rest) rest ts (expr_end x rest) (more _ (spell i last) ts (further (spell i last) last ts (expr_end i last) (more _ ts ts (here ts))))
  expr_end (w.call f l es m) ts =
      let last = mark m 22 ∷ ts in
      let rest = mark l 21 ∷ spell_args es last in
      further (spell f rest) rest ts (expr_end f rest) (more _ (spell_args es last) ts (further (spell_args es last) last ts (args_end es last) (more _ ts ts (here ts))))
  expr_end (w.member e l m x) ts = let rest = mark l 27 ∷ tok m (k.name x) ∷ ts in further (spell e rest) rest ts (expr_end e rest) (more _ _ ts (more _ ts ts (here ts)))
  expr_end (w.arrow e l m x) ts = let rest = mark l 4 ∷ tok m (k.name x) ∷ ts in further (spell e rest) rest ts (expr_end e rest) (more _ _ ts (more _ ts ts (here ts)))
  expr_end (w.post e l op) ts = let rest = mark l (step_mark op) ∷ ts in further (spell e rest) rest ts (expr_end e rest) (more _ ts ts (here ts))
  expr_end (w.name l x) ts = more _ ts ts (here ts)
  expr_end (w.int l n long) ts = more _ ts ts (here ts)
  expr_end (w.chr l n) ts = more _ ts ts (here ts)
  expr_end (w.text l bytes) ts = more _ ts ts (here ts)
  expr_end (w.bracket l e m) ts = let rest = mark m 22 ∷ ts in more _ (spell e rest) ts (further (spell e rest) rest ts (expr_end e rest) (more _ ts ts (here ts)))

  args_end : (es : Args) (ts : List Token) → IsEnd (spell_args es ts) ts
  args_end w.no_args ts = here ts
  args_end (w.more_args e es) ts = further (spell e (spell_others es ts)) (spell_others es ts) ts (expr_end e (spell_others es ts)) (others_end es ts)

  others_end : (es : Others) (ts : List Token) → IsEnd (spell_others es ts) ts
  others_end w.no_others ts = here ts
  others_end (w.more_others l e es) ts = more _ (spell e (spell_others es ts)) ts (further (spell e (spell_others es ts)) (spell_others es ts) ts (expr_end e (spell_others es ts)) (others_end es ts))

-- ---- where an expression may end

in_either : (a b : Bool) {P : Type 0} → (a || b) ≡ true → (a ≡ true → P) → (b ≡ true → P) → P
in_either true b is one other = one refl
in_either false b is one other = other is

both : (a b : Bool) → (a && b) ≡ true → (a ≡ true) × (b ≡ true)
both true b is = (refl, is)
both false b is = cc

at_mark : (l line m n : ℕ) (ts : List Token) → Ends l (mark line n ∷ ts) → nat_eq m n ≡ true → Ends l (mark line m ∷ ts)
at_mark l line m n ts e is = rw (eqb-true m n is) e

pub ends_before : (l : ℕ) (ts : List Token) → may_follow l ts ≡ true → Ends l ts
ends_before l [] is = absurd (true≢false (sym is))
ends_before l (x ∷ ts) is = by_kind x.kind refl is
  where
    by_kind : (c : Tok) → x.kind ≡ c → may_follow l (tok x.line c ∷ ts) ≡ true → Ends l (tok x.line c ∷ ts)
    by_kind (k.name n) at is = absurd (true≢false (sym is))
    by_kind (k.int n long) at is = absurd (true≢false (sym is))
    by_kind (k.chr n) at is = absurd (true≢false (sym is))
    by_kind (k.text bytes) at is = absurd (true≢false (sym is))
    by_kind (k.word v) at is = absurd (true≢false (sym is))
    by_kind (k.mark m) at is =
        in_either (nat_eq m 22) _ is (at_mark l x.line m 22 ts (ends_before_close l x.line ts)) (λ is.
        in_either (nat_eq m 24) _ is (at_mark l x.line m 24 ts (ends_before_square l x.line ts)) (λ is.
        in_either (nat_eq m 29) _ is (at_mark l x.line m 29 ts (ends_before_semicolon l x.line ts)) (λ is.
        in_either (nat_eq m 30) _ is (at_mark l x.line m 30 ts (ends_before_colon l x.line ts)) (λ is.
        let b = both (nat_eq l 2 || nat_eq l 3) (nat_eq m 28 || nat_eq m 26) is in
        in_either (nat_eq m 28) (nat_eq m 26) b.1 (at_mark l x.line m 28 ts (ends_before_comma l x.line ts (two l b.0))) (at_mark l x.line m 26 ts (ends_before_brace l x.line ts))))))
      where
        two : (l : ℕ) → (nat_eq l 2 || nat_eq l 3) ≡ true → 2 ≤ l
        two l is = in_either (nat_eq l 2) (nat_eq l 3) is (λ is. omega (arith, eqb-true l 2 is)) (λ is. omega (arith, eqb-true l 3 is))

-- ---- what is read is what stands there

pub front_reads : (defs : List Name) (n l : ℕ) (e : Expr) (ts after : List Token) → IsFront defs l e ts after
    → ((v : Written) (behind : List Token) → w.IsAtLevel defs l v → ts ≡ spell v behind → 200 + brackets v ≤ n) → r.expr defs 200 n l ts ≡ Some (e, after)
front_reads defs n l e ts after x enough =
    let v = x.spells.written in
    let same : plain v ≡ e = x.spells.plain_is in
    let depth : expr_depth (plain v) ≡ expr_depth e = ap expr_depth same in
    let low : expr_depth e ≤ 200 = x.low in
    let room : 200 + brackets v ≤ n = enough v after x.spells.levelled x.spells.tokens in
    let few : nest v ≤ expr_depth (plain v) + brackets v = nest_few v in
    ap (r.expr defs 200 n l) x.spells.tokens
    ∙ expr_again defs 200 n v l after x.spells.levelled.1 (omega arith) (omega arith) x.spells.levelled.0 (ends_before l after x.follows) ∙ ap (λ y. Some (y, after)) same

pub front_found : (defs : List Name) (n l : ℕ) (ts : List Token) (x : Expr × List Token) → l ≤ 3 → r.expr defs 200 n l ts ≡ Some x → may_follow l x.1 ≡ true → IsFront defs l x.0 ts x.1
front_found defs n l ts x high is follows =
    let t = expr_takes defs 200 n (omega arith) l ts x (omega arith) is in
    record { spells = t.0; low = t.1; follows = follows }

pub front_none : (defs : List Name) (n l : ℕ) (ts : List Token) → r.expr defs 200 n l ts ≡ None
    → ((v : Written) (behind : List Token) → w.IsAtLevel defs l v → ts ≡ spell v behind → 200 + brackets v ≤ n) → (e : Expr) (after : List Token) → IsFront defs l e ts after → ⊥
front_none defs n l ts none enough e after x = let found = front_reads defs n l e ts after x enough in cc

pub front_goes_on : (defs : List Name) (n l : ℕ) (ts : List Token) (x : Expr × List Token) → r.expr defs 200 n l ts ≡ Some x → may_follow l x.1 ≡ false
    → ((v : Written) (behind : List Token) → w.IsAtLevel defs l v → ts ≡ spell v behind → 200 + brackets v ≤ n) → (e : Expr) (after : List Token) → IsFront defs l e ts after → ⊥
front_goes_on defs n l ts x is goes_on enough e after y =
    let found = front_reads defs n l e ts after y enough in
    let same : x ≡ (e, after) = some_is (sym is ∙ found) in
    true≢false (sym y.follows ∙ ap (λ z. may_follow l z.1) (sym same) ∙ goes_on)

-- ---- the place

pub front_at : (defs : List Name) (l at : ℕ) (ts : List Token) (e : Expr) (after : List Token) → at ≤ length ts → IsFront defs l e (drop at ts) after
    → (length after ≤ length ts) × IsExprAt defs l ts at e (length ts - length after)
front_at defs l at ts e after within x =
    let s = x.spells in
    let f = expr_end s.written after in
    let whole : drop at ts ≡ f.0 ++ after = s.tokens ∙ f.1 in
    let count : length ts - at ≡ length f.0 + length after = sym (length-drop at ts) ∙ ap length whole ∙ length-append f.0 after in
    let place : length ts - length after ≡ at + length f.0 = omega arith in
    let rest : drop (length ts - length after) ts ≡ after = ap (λ n. drop n ts) place ∙ sym (drop-drop (length f.0) at ts) ∙ ap (drop (length f.0)) whole ∙ drop-append_seam f.0 after in
    (omega arith, record { spells = rw rest s; low = x.low; within = omega arith; follows = ap (may_follow l) rest ∙ x.follows })

pub at_front : (defs : List Name) (l at k : ℕ) (ts : List Token) (e : Expr) → IsExprAt defs l ts at e k → IsFront defs l e (drop at ts) (drop k ts)
at_front defs l at k ts e x = record { spells = x.spells; low = x.low; follows = x.follows }
