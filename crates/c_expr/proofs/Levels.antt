-- Levels of binary operators, and the operators that come next.
use Rattle.std.proofs.Common.{◌≡◌, ℕ, ◌<◌, ◌≤◌, max, suc, List, [], ◌∷◌, Option, Some, None, Bool, true, false, nat_lt, ◌||◌, refl, arith, ap, ◌∙◌, inl, inr}
use Rattle.std.proofs.lemmas.Bool.{ltb-false, ltb-true, le-ltb, lt-ltb}
use Rattle.c_type.specs.Names.{Name, pick}
use Rattle.c_type.specs.declared.TagKind.{TagKind}
use Rattle.c_type.specs.declared.TagKind.TheVariants.{Struct, Union, Enum}
use Rattle.c_lex.specs.Tokens.{Tok, Token}
use Rattle.c_lex.specs.Tokens as k
use Rattle.c_tree.specs.declared.expr.BinaryOp.{BinaryOp}
use Rattle.c_tree.specs.declared.expr.BinaryOp.TheVariants as b
use Rattle.c_grammar.specs.Words.{TypeWord, Unsigned, Char, Short, Long, Int, Void, mark, binary_of, binary_level, type_word, tag_word}
use Rattle.c_grammar.specs.WrittenType.{TypePart, word_part, tag_part, name_part, WrittenName, IsName, IsPart, AreParts, spelled, has_spelling, spell_name, spell_parts, spell_stars}
use Rattle.c_grammar.specs.WrittenExpr.{Written, level}
use Rattle.c_grammar.specs.WrittenExpr as w
use Rattle.c_expr.specs.Front.{paired, marked, front_mark}
use Rattle.c_expr.specs.Typename.{begins_type, type_bracket, type_word_of, tag_of, is_there}
use Rattle.c_expr.specs.Reading.{at_least, binary_from, operator_at}
use Rattle.c_expr.proofs.Taken.{some_is, chosen}

pub binary_range : (op : BinaryOp) → (4 ≤ binary_level op) × (binary_level op ≤ 13)
binary_range b.Either = (omega arith, omega arith)
binary_range b.Both = (omega arith, omega arith)
binary_range b.Or = (omega arith, omega arith)
binary_range b.Xor = (omega arith, omega arith)
binary_range b.And = (omega arith, omega arith)
binary_range b.Eq = (omega arith, omega arith)
binary_range b.Ne = (omega arith, omega arith)
binary_range b.Lt = (omega arith, omega arith)
binary_range b.Gt = (omega arith, omega arith)
binary_range b.Le = (omega arith, omega arith)
binary_range b.Ge = (omega arith, omega arith)
binary_range b.Shl = (omega arith, omega arith)
binary_range b.Shr = (omega arith, omega arith)
binary_range b.Add = (omega arith, omega arith)
binary_range b.Sub = (omega arith, omega arith)
binary_range b.Mul = (omega arith, omega arith)
binary_range b.Div = (omega arith, omega arith)
binary_range b.Rem = (omega arith, omega arith)

pub level_range : (e : Written) → (1 ≤ level e) × (level e ≤ 16)
level_range (w.comma x l y) = (omega arith, omega arith)
level_range (w.assign x l op y) = (omega arith, omega arith)
level_range (w.choice x l y m z) = (omega arith, omega arith)
level_range (w.binary x l op y) = let r = binary_range op in let lo : 4 ≤ binary_level op = r.0 in let hi : binary_level op ≤ 13 = r.1 in (omega arith, omega arith)
level_range (w.unary l op e) = (omega arith, omega arith)
level_range (w.size_of l e) = (omega arith, omega arith)
level_range (w.size_of_type l m y n) = (omega arith, omega arith)
level_range (w.cast l y m e) = (omega arith, omega arith)
level_range (w.index x l i m) = (omega arith, omega arith)
level_range (w.call f l es m) = (omega arith, omega arith)
level_range (w.member e l m x) = (omega arith, omega arith)
level_range (w.arrow e l m x) = (omega arith, omega arith)
level_range (w.post e l op) = (omega arith, omega arith)
level_range (w.name l x) = (omega arith, omega arith)
level_range (w.int l n long) = (omega arith, omega arith)
level_range (w.chr l n) = (omega arith, omega arith)
level_range (w.text l bytes) = (omega arith, omega arith)
level_range (w.bracket l e m) = (omega arith, omega arith)

pub when_true : {A : Type 0} (c : Bool) (x y : A) → c ≡ true → pick c x y ≡ x
when_true true x y is = refl
when_true false x y is = cc

pub when_false : {A : Type 0} (c : Bool) (x y : A) → c ≡ false → pick c x y ≡ y
when_false true x y is = cc
when_false false x y is = refl

none_test : {A : Type 0} (c : Bool) (x : A) → pick c None (Some x) ≡ None → c ≡ true
none_test true x is = refl
none_test false x is = cc

at_least_none : (l m : ℕ) (o : Option BinaryOp) → ((op : BinaryOp) → binary_level op < m → binary_level op < l) → at_least m o ≡ None → at_least l o ≡ None
at_least_none l m None fewer is = refl
at_least_none l m (Some op) fewer is =
    let lt : binary_level op < m = ltb-true (binary_level op) m (none_test (nat_lt (binary_level op) m) op is) in
    when_true (nat_lt (binary_level op) l) None (Some op) (lt-ltb (binary_level op) l (fewer op lt))

paired_none : {A : Type 0} (ts : List Token) (o : Option A) → paired ts o ≡ None → o ≡ None
paired_none ts None is = refl
paired_none ts (Some a) is = cc

marked_none : {A C : Type 0} (f : ℕ → Option A) (g : ℕ → Option C) (ts : List Token) (x : Tok) → ((m : ℕ) → f m ≡ None → g m ≡ None) → marked f ts x ≡ None → marked g ts x ≡ None
marked_none f g ts (k.name x) fewer is = refl
marked_none f g ts (k.int n long) fewer is = refl
marked_none f g ts (k.chr n) fewer is = refl
marked_none f g ts (k.text bytes) fewer is = refl
marked_none f g ts (k.word v) fewer is = refl
marked_none f g ts (k.mark m) fewer is = ap (paired ts) (fewer m (paired_none ts (f m) is))

-- fewer marks
pub front_none : {A C : Type 0} (f : ℕ → Option A) (g : ℕ → Option C) (ts : List Token) → ((m : ℕ) → f m ≡ None → g m ≡ None) → front_mark f ts ≡ None → front_mark g ts ≡ None
front_none f g [] fewer is = refl
front_none f g (x ∷ ts) fewer is = marked_none f g ts x.kind fewer is

-- no binary operator of the level or above comes next
abbrev pub Stops : ℕ → List Token → Type 0
Stops l ts = operator_at l ts ≡ None

pub stops_from : (l m : ℕ) (ts : List Token) → ((op : BinaryOp) → binary_level op < m → binary_level op < l) → Stops m ts → Stops l ts
stops_from l m ts fewer = front_none (binary_from m) (binary_from l) ts (λ x. at_least_none l m (binary_of x) fewer)

pub stops_low : (l m : ℕ) (ts : List Token) → m ≤ max l 4 → Stops m ts → Stops l ts
stops_low l m ts le = stops_from l m ts (λ op lt. let lo : 4 ≤ binary_level op = (binary_range op).0 in omega arith)

pub stops_above : (l m : ℕ) (ts : List Token) → l ≤ m → Stops l ts → Stops m ts
stops_above l m ts le = stops_from m l ts (λ op lt. omega arith)

-- no binary operator that comes next binds tighter than the level
abbrev pub Binds : List Token → ℕ → Type 0
Binds ts n = (p : BinaryOp × List Token) → operator_at 4 ts ≡ Some p → binary_level p.0 ≤ n

at_least_some : (l m : ℕ) (o : Option BinaryOp) (op : BinaryOp) → at_least m o ≡ Some op → l ≤ binary_level op → at_least l o ≡ Some op
at_least_some l m None op is le = cc
at_least_some l m (Some a) op is le = elim (chosen (nat_lt (binary_level a) m) None (Some a) (Some op) is) [
  | inl h ↦ cc (h.1)
  | inr h ↦
      let same : a ≡ op = some_is h.1 in
      when_false (nat_lt (binary_level a) l) None (Some a) (ap (λ x. nat_lt (binary_level x) l) same ∙ le-ltb (binary_level op) l le) ∙ ap Some same
]

paired_some : {A : Type 0} (ts : List Token) (o q : Option A) (y : A × List Token) → ((a : A) → o ≡ Some a → a ≡ y.0 → q ≡ Some a) → paired ts o ≡ Some y → paired ts q ≡ Some y
paired_some ts None q y more is = cc
paired_some {A = A} ts (Some a) q y more is = let pair : A × List Token = (a, ts) in let same : pair ≡ y = some_is is in ap (paired ts) (more a refl (ap (λ p. p.0) same)) ∙ is

operator_tok : (l m : ℕ) (ts : List Token) (x : Tok) (p : BinaryOp × List Token) → l ≤ binary_level p.0 → marked (binary_from m) ts x ≡ Some p → marked (binary_from l) ts x ≡ Some p
operator_tok l m ts (k.name x) p le is = cc
operator_tok l m ts (k.int n long) p le is = cc
operator_tok l m ts (k.chr n) p le is = cc
operator_tok l m ts (k.text bytes) p le is = cc
operator_tok l m ts (k.word v) p le is = cc
operator_tok l m ts (k.mark x) p le is = paired_some ts (binary_from m x) (binary_from l x) p (λ a e same. at_least_some l m (binary_of x) a e (let s : binary_level a ≡ binary_level p.0 = ap binary_level same in omega arith)) is

pub operator_some : (l m : ℕ) (ts : List Token) (p : BinaryOp × List Token) → l ≤ binary_level p.0 → operator_at m ts ≡ Some p → operator_at l ts ≡ Some p
operator_some l m [] p le is = cc
operator_some l m (x ∷ ts) p le is = operator_tok l m ts x.kind p le is

pub binds_after : (n : ℕ) (ts : List Token) → operator_at (suc n) ts ≡ None → Binds ts n
binds_after n ts none p is = by_test (nat_lt n (binary_level p.0)) refl
  where
    by_test : (c : Bool) → nat_lt n (binary_level p.0) ≡ c → binary_level p.0 ≤ n
    by_test false test = ltb-false n (binary_level p.0) test
    by_test true test =
        let lt : n < binary_level p.0 = ltb-true n (binary_level p.0) test in
        let some : operator_at (suc n) ts ≡ Some p = operator_some (suc n) 4 ts p (omega arith) is in
        cc

-- ---- types behind a bracket

word_begins : (v : TypeWord) → (is_there (type_word_of (type_word v)) || is_there (tag_of (type_word v))) ≡ true
word_begins Unsigned = refl
word_begins Char = refl
word_begins Short = refl
word_begins Long = refl
word_begins Int = refl
word_begins Void = refl

tag_begins : (kind : TagKind) → has_spelling kind ≡ true → (is_there (type_word_of (tag_word kind)) || is_there (tag_of (tag_word kind))) ≡ true
tag_begins Struct h = refl
tag_begins Union h = cc
tag_begins Enum h = refl

parts_begin : (defs : List Name) (p : TypePart) (ps : List TypePart) (rest : List Token) → IsPart defs p → begins_type defs (spell_parts (p ∷ ps) rest) ≡ true
parts_begin defs (word_part l v) ps rest h = word_begins v
parts_begin defs (tag_part l kind m x) ps rest h = tag_begins kind h
parts_begin defs (name_part l x) ps rest h = h

pub name_begins : (defs : List Name) (y : WrittenName) (rest : List Token) → IsName defs y → begins_type defs (spell_name y rest) ≡ true
name_begins defs y rest h = begin y.parts h.0 h.1
  where
    begin : (ps : List TypePart) → spelled ps ≡ Some y.types → AreParts defs ps → begins_type defs (spell_parts ps (spell_stars y.stars rest)) ≡ true
    begin [] s a = cc
    begin (p ∷ ps) s a = parts_begin defs p ps (spell_stars y.stars rest) a.0

pub bracket_again : (defs : List Name) (y : WrittenName) (l : ℕ) (rest : List Token) → IsName defs y → type_bracket defs (mark l 21 ∷ spell_name y rest) ≡ Some (spell_name y rest)
bracket_again defs y l rest h = when_true (begins_type defs (spell_name y rest)) (Some (spell_name y rest)) None (name_begins defs y rest h)
