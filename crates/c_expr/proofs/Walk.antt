-- A walk over the tokens of an expression finds at least as many brackets as are open at once.
use Rattle.std.proofs.Common.{◌≡◌, ℕ, ◌+◌, ◌<◌, ◌≤◌, max, zero, suc, List, [], ◌∷◌, length, Option, Some, None, Bool, true, false, nat_eq, nat_lt, ◌&&◌, refl, arith, ap, sym, ◌∙◌, true≢false, map, drop, get_or}
use Rattle.std.proofs.lemmas.Bool.{eqb-true, ltb-true}
use Rattle.std.proofs.lemmas.List.{drop_more, drop_all}
use Rattle.c_type.specs.Names.{Name, pick}
use Rattle.c_type.specs.declared.TagKind.{TagKind}
use Rattle.c_type.specs.declared.TagKind.TheVariants.{Struct, Union, Enum}
use Rattle.c_lex.specs.Tokens.{Tok, Token}
use Rattle.c_lex.specs.Tokens as k
use Rattle.c_tree.specs.declared.expr.BinaryOp.{BinaryOp}
use Rattle.c_tree.specs.declared.expr.AssignOp.{AssignOp}
use Rattle.c_tree.specs.declared.expr.UnaryOp.{UnaryOp}
use Rattle.c_tree.specs.declared.expr.StepOp.{StepOp}
use Rattle.c_tree.specs.declared.expr.AssignOp.TheVariants as a
use Rattle.c_tree.specs.declared.expr.BinaryOp.TheVariants as b
use Rattle.c_tree.specs.declared.expr.UnaryOp.TheVariants as u
use Rattle.c_tree.specs.declared.expr.StepOp.TheVariants as s
use Rattle.c_grammar.specs.Words.{TypeWord, Unsigned, Char, Short, Long, Int, Void, tok, mark, type_word, tag_word, binary_level, binary_mark, assign_mark, unary_mark, step_mark}
use Rattle.c_tree.specs.TreeExpr.{expr_depth, exprs_depth}
use Rattle.c_grammar.specs.WrittenType.{TypePart, word_part, tag_part, name_part, WrittenName, spell_part, spell_parts, spell_stars, spell_name}
use Rattle.c_lex.specs.Shown.{tok_of, token_of}
use Rattle.c_lex.specs.declared.Token as code
use Rattle.c_grammar.specs.WrittenExpr.{Written, Args, Others, IsAtLevel, plain, plains, level, IsLevelled, AreLevelled, OthersLevelled, spell, spell_args, spell_others}
use Rattle.c_grammar.specs.WrittenExpr as w
use Rattle.c_expr.specs.Ends.{nest, nests, nest_others}
use Rattle.c_expr.specs.Brackets.{brackets, arg_brackets, other_brackets}
use Rattle.c_expr.specs.Nesting.{sort_of, mark_sort, is_apart, asked_more, answered, closed, after}
use Rattle.c_expr.specs.declared.brackets.Sort.{Sort}
use Rattle.c_expr.specs.declared.brackets.Sort.TheVariants.{Opens, Closes, Comma, Question, Colon, Ends, Plain}
use Rattle.c_expr.specs.declared.brackets.Nesting.{Nesting}
use Rattle.c_expr.proofs.Levels.{binary_range}
use Rattle.c_expr.proofs.Taken.{some_is}

-- ---- parts and brackets stand no deeper in one another than the tree is deep and brackets are open

mutual
  pub nest_few : (e : Written) → nest e ≤ expr_depth (plain e) + brackets e
  nest_few (w.comma x l y) = omega (arith, nest_few x, nest_few y)
  nest_few (w.assign x l op y) = omega (arith, nest_few x, nest_few y)
  nest_few (w.choice x l y m z) = omega (arith, nest_few x, nest_few y, nest_few z)
  nest_few (w.binary x l op y) = omega (arith, nest_few x, nest_few y)
  nest_few (w.unary l op e) = omega (arith, nest_few e)
  nest_few (w.size_of l e) = omega (arith, nest_few e)
  nest_few (w.size_of_type l m y n) = omega arith
  nest_few (w.cast l y m e) = omega (arith, nest_few e)
  nest_few (w.index x l i m) = omega (arith, nest_few x, nest_few i)
  nest_few (w.call f l es m) = omega (arith, nest_few f, nests_few es)
  nest_few (w.member e l m x) = omega (arith, nest_few e)
  nest_few (w.arrow e l m x) = omega (arith, nest_few e)
  nest_few (w.post e l op) = omega (arith, nest_few e)
  nest_few (w.name l x) = omega arith
  nest_few (w.int l n long) = omega arith
  nest_few (w.chr l n) = omega arith
  nest_few (w.text l bytes) = omega arith
  nest_few (w.bracket l e m) = omega (arith, nest_few e)

  nests_few : (es : Args) → nests es ≤ exprs_depth (plains es) + arg_brackets es
  nests_few w.no_args = omega arith
  nests_few (w.more_args e es) = omega (arith, nest_few e, others_few es)

  others_few : (es : Others) → nest_others es ≤ exprs_depth (w.others es) + other_brackets es
  others_few w.no_others = omega arith
  others_few (w.more_others l e es) = omega (arith, nest_few e, others_few es)

-- ---- the walk

abbrev pub on_by : (Nesting → ℕ) → Nesting → Option Nesting → ℕ
on_by on n None = n.most
on_by on n (Some next) = on next

-- the greatest number of brackets that were open where no expression goes on
abbrev pub walk : Bool → List Token → Nesting → ℕ
walk single [] n = n.most
walk single (x ∷ ts) n = on_by (walk single ts) n (after single n (sort_of x.kind))

-- ---- tokens that open and close nothing

binary_sort : (op : BinaryOp) → mark_sort (binary_mark op) ≡ Plain
binary_sort b.Either = refl
binary_sort b.Both = refl
binary_sort b.Or = refl
binary_sort b.Xor = refl
binary_sort b.And = refl
binary_sort b.Eq = refl
binary_sort b.Ne = refl
binary_sort b.Lt = refl
binary_sort b.Gt = refl
binary_sort b.Le = refl
binary_sort b.Ge = refl
binary_sort b.Shl = refl
binary_sort b.Shr = refl
binary_sort b.Add = refl
binary_sort b.Sub = refl
binary_sort b.Mul = refl
binary_sort b.Div = refl
binary_sort b.Rem = refl

assign_sort : (op : AssignOp) → mark_sort (assign_mark op) ≡ Plain
assign_sort a.Set = refl
assign_sort a.Add = refl
assign_sort a.Sub = refl
assign_sort a.Mul = refl
assign_sort a.Div = refl
assign_sort a.Rem = refl
assign_sort a.And = refl
assign_sort a.Or = refl
assign_sort a.Xor = refl
assign_sort a.Shl = refl
assign_sort a.Shr = refl

unary_sort : (op : UnaryOp) → mark_sort (unary_mark op) ≡ Plain
unary_sort u.Deref = refl
unary_sort u.Address = refl
unary_sort u.Neg = refl
unary_sort u.Not = refl
unary_sort u.Flip = refl
unary_sort u.Inc = refl
unary_sort u.Dec = refl

step_sort : (op : StepOp) → mark_sort (step_mark op) ≡ Plain
step_sort s.Inc = refl
step_sort s.Dec = refl

type_word_sort : (v : TypeWord) → sort_of (k.word (type_word v)) ≡ Plain
type_word_sort Unsigned = refl
type_word_sort Char = refl
type_word_sort Short = refl
type_word_sort Long = refl
type_word_sort Int = refl
type_word_sort Void = refl

tag_word_sort : (kind : TagKind) → sort_of (k.word (tag_word kind)) ≡ Plain
tag_word_sort Struct = refl
tag_word_sort Union = refl
tag_word_sort Enum = refl

module _ (single : Bool) where
  plain_on : (l : ℕ) (t : Tok) (ts : List Token) (n : Nesting) → sort_of t ≡ Plain → walk single (tok l t ∷ ts) n ≡ walk single ts n
  plain_on l t ts n is = ap (λ c. on_by (walk single ts) n (after single n c)) is

  part_on : (p : TypePart) (ts : List Token) (n : Nesting) → walk single (spell_part p ts) n ≡ walk single ts n
  part_on (word_part l v) ts n = plain_on l (k.word (type_word v)) ts n (type_word_sort v)
  part_on (tag_part l kind m x) ts n = plain_on l (k.word (tag_word kind)) (tok m (k.name x) ∷ ts) n (tag_word_sort kind)
  part_on (name_part l x) ts n = refl

  parts_on : (ps : List TypePart) (ts : List Token) (n : Nesting) → walk single (spell_parts ps ts) n ≡ walk single ts n
  parts_on [] ts n = refl
  parts_on (p ∷ ps) ts n = part_on p (spell_parts ps ts) n ∙ parts_on ps ts n

  stars_on : (ls : List ℕ) (ts : List Token) (n : Nesting) → walk single (spell_stars ls ts) n ≡ walk single ts n
  stars_on [] ts n = refl
  stars_on (l ∷ ls) ts n = stars_on ls ts n

  name_on : (y : WrittenName) (ts : List Token) (n : Nesting) → walk single (spell_name y ts) n ≡ walk single ts n
  name_on y ts n = parts_on y.parts (spell_stars y.stars ts) n ∙ stars_on y.stars ts n

  -- so many brackets and choices are open, and so many brackets were
  abbrev st : ℕ → ℕ → ℕ → Nesting
  st o q m = record { opened = o; asked = q; most = m }

  -- A comma would end the expression here, so that it has none outside of brackets and choices.
  abbrev Suits : ℕ → ℕ → Written → Type 0
  Suits o q e = (single && (nat_eq o 0 && nat_eq q 0)) ≡ true → 2 ≤ level e

  no_comma : (c : Bool) → (c && false) ≡ false
  no_comma true = refl
  no_comma false = refl

  false_by : (c : Bool) → (c ≡ true → ⊥) → c ≡ false
  false_by true h = absurd (h refl)
  false_by false h = refl

  suc_not_zero : (n : ℕ) → nat_eq (suc n) 0 ≡ false
  suc_not_zero n = false_by (nat_eq (suc n) 0) (λ is. let same : suc n ≡ 0 = eqb-true (suc n) 0 is in omega arith)

  asked_apart : (o q : ℕ) → (nat_eq o 0 && nat_eq (asked_more o q) 0) ≡ false
  asked_apart zero q = suc_not_zero q
  asked_apart (suc o) q = ap (λ c. c && nat_eq q 0) (suc_not_zero o)

  within_apart : (o q : ℕ) → (single && (nat_eq (suc o) 0 && nat_eq q 0)) ≡ false
  within_apart o q = ap (λ c. single && (c && nat_eq q 0)) (suc_not_zero o) ∙ no_comma single

  -- inside of brackets no comma ends the expression
  inside : (o q : ℕ) (e : Written) → Suits (suc o) q e
  inside o q e is = absurd (true≢false (sym is ∙ within_apart o q))

  -- and none does between `?` and `:`
  between : (o q : ℕ) (e : Written) → Suits o (asked_more o q) e
  between o q e is = absurd (true≢false (sym is ∙ ap (λ c. single && c) (asked_apart o q) ∙ no_comma single))

  comma_on : (l o q m : ℕ) (ts : List Token) → (single && (nat_eq o 0 && nat_eq q 0)) ≡ false → walk single (mark l 28 ∷ ts) (st o q m) ≡ walk single ts (st o q m)
  comma_on l o q m ts is = ap (λ c. on_by (walk single ts) (st o q m) (pick c None (Some (st o q m)))) is

  colon_on : (l o q m : ℕ) (ts : List Token) → walk single (mark l 30 ∷ ts) (st o (asked_more o q) m) ≡ walk single ts (st o q m)
  colon_on l zero q m ts = refl
  colon_on l (suc o) q m ts = refl

  to : (ts : List Token) (o q x y : ℕ) → x ≡ y → walk single ts (st o q x) ≡ walk single ts (st o q y)
  to ts o q x y e = ap (λ m. walk single ts (st o q m)) e

  module _ (defs : List Name) where
    mutual
      walks : (e : Written) (ts : List Token) (o q m : ℕ) → IsLevelled defs e → o ≤ m → Suits o q e → walk single (spell e ts) (st o q m) ≡ walk single ts (st o q (max m (o + brackets e)))
      walks (w.comma x l y) ts o q m ok le h =
          walks x (mark l 28 ∷ spell y ts) o q m ok.2 le (λ is. absurd (no_two (h is)))
          ∙ comma_on l o q (max m (o + brackets x)) (spell y ts) (false_by (single && (nat_eq o 0 && nat_eq q 0)) (λ is. no_two (h is)))
          ∙ walks y ts o q (max m (o + brackets x)) ok.3 (omega arith) (λ is. ok.1)
          ∙ to ts o q _ _ (omega arith)
        where
          no_two : 2 ≤ 1 → ⊥
          no_two le = omega arith
      walks (w.assign x l op y) ts o q m ok le h =
          walks x (mark l (assign_mark op) ∷ spell y ts) o q m ok.2 le (λ is. omega (arith, ok.0))
          ∙ plain_on l (k.mark (assign_mark op)) (spell y ts) (st o q (max m (o + brackets x))) (assign_sort op)
          ∙ walks y ts o q (max m (o + brackets x)) ok.3 (omega arith) (λ is. ok.1)
          ∙ to ts o q _ _ (omega arith)
      walks (w.choice x l y n z) ts o q m ok le h =
          walks x (mark l 31 ∷ spell y (mark n 30 ∷ spell z ts)) o q m ok.2 le (λ is. omega (arith, ok.0))
          ∙ walks y (mark n 30 ∷ spell z ts) o (asked_more o q) (max m (o + brackets x)) ok.3 (omega arith) (between o q y)
          ∙ colon_on n o q (max (max m (o + brackets x)) (o + brackets y)) (spell z ts)
          ∙ walks z ts o q (max (max m (o + brackets x)) (o + brackets y)) ok.4 (omega arith) (λ is. omega (arith, ok.1))
          ∙ to ts o q _ _ (omega arith)
      walks (w.binary x l op y) ts o q m ok le h =
          let four : 4 ≤ binary_level op = (binary_range op).0 in
          walks x (mark l (binary_mark op) ∷ spell y ts) o q m ok.2 le (λ is. omega (arith, ok.0, four))
          ∙ plain_on l (k.mark (binary_mark op)) (spell y ts) (st o q (max m (o + brackets x))) (binary_sort op)
          ∙ walks y ts o q (max m (o + brackets x)) ok.3 (omega arith) (λ is. omega (arith, ok.1, four))
          ∙ to ts o q _ _ (omega arith)
      walks (w.unary l op e) ts o q m ok le h = plain_on l (k.mark (unary_mark op)) (spell e ts) (st o q m) (unary_sort op) ∙ walks e ts o q m ok.1 le (λ is. omega (arith, ok.0))
      walks (w.size_of l e) ts o q m ok le h = walks e ts o q m ok.2 le (λ is. omega (arith, ok.1))
      walks (w.size_of_type l n y c) ts o q m ok le h = name_on y (mark c 22 ∷ ts) (st (suc o) q (max m (suc o))) ∙ to ts o q _ _ (omega arith)
      walks (w.cast l y n e) ts o q m ok le h =
          name_on y (mark n 22 ∷ spell e ts) (st (suc o) q (max m (suc o))) ∙ walks e ts o q (max m (suc o)) ok.2 (omega (arith, le)) (λ is. omega (arith, ok.0)) ∙ to ts o q _ _ (omega arith)
      walks (w.index x l i n) ts o q m ok le h =
          walks x (mark l 23 ∷ spell i (mark n 24 ∷ ts)) o q m ok.1 le (λ is. omega (arith, ok.0))
          ∙ walks i (mark n 24 ∷ ts) (suc o) q (max (max m (o + brackets x)) (suc o)) ok.2 (omega arith) (inside o q i)
          ∙ to ts o q _ _ (omega arith)
      walks (w.call f l es n) ts o q m ok le h =
          walks f (mark l 21 ∷ spell_args es (mark n 22 ∷ ts)) o q m ok.1 le (λ is. omega (arith, ok.0))
          ∙ walks_args es (mark n 22 ∷ ts) o q (max (max m (o + brackets f)) (suc o)) ok.2 (omega arith)
          ∙ to ts o q _ _ (omega arith)
      walks (w.member e l n x) ts o q m ok le h = walks e (mark l 27 ∷ tok n (k.name x) ∷ ts) o q m ok.2 le (λ is. omega (arith, ok.1))
      walks (w.arrow e l n x) ts o q m ok le h = walks e (mark l 4 ∷ tok n (k.name x) ∷ ts) o q m ok.2 le (λ is. omega (arith, ok.1))
      walks (w.post e l op) ts o q m ok le h = walks e (mark l (step_mark op) ∷ ts) o q m ok.1 le (λ is. omega (arith, ok.0)) ∙ plain_on l (k.mark (step_mark op)) ts (st o q (max m (o + brackets e))) (step_sort op)
      walks (w.name l x) ts o q m ok le h = to ts o q _ _ (omega (arith, le))
      walks (w.int l n long) ts o q m ok le h = to ts o q _ _ (omega (arith, le))
      walks (w.chr l n) ts o q m ok le h = to ts o q _ _ (omega (arith, le))
      walks (w.text l bytes) ts o q m ok le h = to ts o q _ _ (omega (arith, le))
      walks (w.bracket l e n) ts o q m ok le h = walks e (mark n 22 ∷ ts) (suc o) q (max m (suc o)) ok (omega arith) (inside o q e) ∙ to ts o q _ _ (omega arith)

      walks_args : (es : Args) (ts : List Token) (o q m : ℕ) → AreLevelled defs es → suc o ≤ m → walk single (spell_args es ts) (st (suc o) q m) ≡ walk single ts (st (suc o) q (max m (suc o + arg_brackets es)))
      walks_args w.no_args ts o q m ok le = to ts (suc o) q _ _ (omega (arith, le))
      walks_args (w.more_args e es) ts o q m ok le =
          walks e (spell_others es ts) (suc o) q m ok.1 le (inside o q e) ∙ walks_others es ts o q (max m (suc o + brackets e)) ok.2 (omega (arith, le)) ∙ to ts (suc o) q _ _ (omega arith)

      walks_others : (es : Others) (ts : List Token) (o q m : ℕ) → OthersLevelled defs es → suc o ≤ m → walk single (spell_others es ts) (st (suc o) q m) ≡ walk single ts (st (suc o) q (max m (suc o + other_brackets es)))
      walks_others w.no_others ts o q m ok le = to ts (suc o) q _ _ (omega (arith, le))
      walks_others (w.more_others l e es) ts o q m ok le =
          comma_on l (suc o) q m (spell e (spell_others es ts)) (within_apart o q)
          ∙ walks e (spell_others es ts) (suc o) q m ok.1 le (inside o q e) ∙ walks_others es ts o q (max m (suc o + brackets e)) ok.2 (omega (arith, le)) ∙ to ts (suc o) q _ _ (omega arith)

  -- ---- what was open stays counted

  closed_most : (o : ℕ) (n next : Nesting) → closed o n ≡ Some next → n.most ≤ next.most
  closed_most zero n next e = cc
  closed_most (suc o) n next e = rw (← some_is e) (omega arith)

  answered_most : (o q : ℕ) (n next : Nesting) → answered o q n ≡ Some next → n.most ≤ next.most
  answered_most zero zero n next e = cc
  answered_most zero (suc q) n next e = rw (← some_is e) (omega arith)
  answered_most (suc o) q n next e = rw (← some_is e) (omega arith)

  comma_most : (c : Bool) (n next : Nesting) → pick c None (Some n) ≡ Some next → n.most ≤ next.most
  comma_most true n next e = cc
  comma_most false n next e = rw (← some_is e) (omega arith)

  after_most : (n next : Nesting) (c : Sort) → after single n c ≡ Some next → n.most ≤ next.most
  after_most n next Opens e = rw (← some_is e) (omega arith)
  after_most n next Closes e = closed_most n.opened n next e
  after_most n next Comma e = comma_most (single && is_apart n) n next e
  after_most n next Question e = rw (← some_is e) (omega arith)
  after_most n next Colon e = answered_most n.opened n.asked n next e
  after_most n next Ends e = cc
  after_most n next Plain e = rw (← some_is e) (omega arith)

  most_kept : (ts : List Token) (n : Nesting) → n.most ≤ walk single ts n
  most_kept [] n = omega arith
  most_kept (x ∷ ts) n = by_next (after single n (sort_of x.kind)) refl (most_kept ts)
    where
      by_next : (o : Option Nesting) → after single n (sort_of x.kind) ≡ o → ((next : Nesting) → next.most ≤ walk single ts next) → n.most ≤ on_by (walk single ts) n o
      by_next None e kept = omega arith
      by_next (Some next) e kept = omega (arith, after_most n next (sort_of x.kind) e, kept next)

  pub walk_enough : (defs : List Name) (e : Written) (ts : List Token) → IsLevelled defs e → (single ≡ true → 2 ≤ level e) → brackets e ≤ walk single (spell e ts) (st 0 0 0)
  walk_enough defs e ts ok h =
      let found = walks defs e ts 0 0 0 ok (omega arith) (λ is. h (and_first single is)) in
      let kept : max 0 (0 + brackets e) ≤ walk single ts (st 0 0 (max 0 (0 + brackets e))) = most_kept ts (st 0 0 (max 0 (0 + brackets e))) in
      rw found (omega (arith, kept))
    where
      and_first : (c : Bool) → (c && true) ≡ true → c ≡ true
      and_first true is = refl
      and_first false is = cc

  -- ---- where the walk of the code ends

  pub walk_ends : (xs : List code.Token) (i : ℕ) (x : code.Token) (n : Nesting) (c : Sort) → i < length xs → x ≡ get_or xs i x → c ≡ sort_of (tok_of x.kind) → None ≡ after single n c
      → walk single (map token_of (drop i xs)) n ≡ n.most
  walk_ends xs i x n c lt is same stops =
      ap (λ ys. walk single (map token_of ys) n) (drop_more xs i x lt)
      ∙ ap (λ y. walk single (token_of y ∷ map token_of (drop (i + 1) xs)) n) (sym is)
      ∙ ap (λ o. on_by (walk single (map token_of (drop (i + 1) xs))) n o) (ap (after single n) (sym same) ∙ sym stops)

  pub walk_over : (xs : List code.Token) (i : ℕ) (n : Nesting) → length xs ≤ i → walk single (map token_of (drop i xs)) n ≡ n.most
  walk_over xs i n le = ap (λ ys. walk single (map token_of ys) n) (drop_all i xs le)

-- what the walk over tokens finds is enough for each expression that they spell
pub found_enough : (defs : List Name) (l most : ℕ) (ts behind : List Token) (e : Written) → IsAtLevel defs l e → ts ≡ spell e behind
    → walk (nat_lt 1 l) ts (record { opened = 0; asked = 0; most = 0 }) ≡ most → brackets e ≤ most
found_enough defs l most ts behind e at spelled found =
    let high : l ≤ level e = at.0 in
    let enough : brackets e ≤ walk (nat_lt 1 l) (spell e behind) (record { opened = 0; asked = 0; most = 0 }) = walk_enough (nat_lt 1 l) defs e behind at.1 (λ is. let two : 1 < l = ltb-true 1 l is in omega arith) in
    let same : walk (nat_lt 1 l) (spell e behind) (record { opened = 0; asked = 0; most = 0 }) ≡ most = ap (λ us. walk (nat_lt 1 l) us (record { opened = 0; asked = 0; most = 0 })) (sym spelled) ∙ found in
    omega (arith, enough, same)
