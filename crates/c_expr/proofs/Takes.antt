-- What is read is spelled so.
use Rattle.std.proofs.Common.{◌≡◌, ℕ, zero, suc, List, [], ◌∷◌, length, Option, Some, None, true, nat_eq, refl, ap, sym, ◌∙◌, inl, inr}
use Rattle.c_type.specs.Names.{Name, pick}
use Rattle.c_type.specs.declared.TagKind.{TagKind}
use Rattle.c_type.specs.declared.TagKind.TheVariants.{Struct, Union, Enum}
use Rattle.c_lex.specs.Tokens.{Tok, Token}
use Rattle.c_lex.specs.Tokens as k
use Rattle.c_grammar.specs.Words.{TypeWord, Unsigned, Char, Short, Long, Int, Void, tok, mark, word, type_word, tag_word}
use Rattle.c_tree.specs.TreeExpr.{TypeName, TypeSpec}
use Rattle.c_grammar.specs.WrittenType.{TypePart, word_part, tag_part, name_part, WrittenName, is_typedef, spelled, has_spelling, IsPart, AreParts, spell_part, spell_parts, spell_stars, spell_name, plain_name, IsName, parts_line, part_line}
use Rattle.c_expr.specs.Front.{Read, ◌>>=◌, eat, line_at, any_name}
use Rattle.c_expr.specs.Typename.{type_word_of, tag_of, part_word, part_tok, part_at, parts, parts_by, stars, stars_by, starred, typename, typed}
use Rattle.c_expr.proofs.Taken.{some_is, bind_some, chosen, Front, eat_takes, any_takes, with_mark_is}

abbrev type_words : List TypeWord
type_words = Unsigned ∷ Char ∷ Short ∷ Long ∷ Int ∷ Void ∷ []

abbrev tags : List TagKind
tags = Struct ∷ Enum ∷ []

-- a part at the front
abbrev pub PartTaken : List Name → List Token → TypePart × List Token → Type 0
PartTaken defs ts y = IsPart defs y.0 × (part_line y.0 ≡ line_at ts) × (ts ≡ spell_part y.0 y.1)

tag_has : (w : ℕ) (kind : TagKind) → tag_of w ≡ Some kind → has_spelling kind ≡ true
tag_has w Struct e = refl
tag_has w Enum e = refl
tag_has w Union e = absurd (no_union w e)
  where
    no_union : (w : ℕ) → tag_of w ≡ Some Union → ⊥
    no_union w e = elim (chosen (nat_eq w 19) (Some Struct) (pick (nat_eq w 8) (Some Enum) None) (Some Union) e) [
      | inl h ↦ cc (h.1)
      | inr h ↦ elim (chosen (nat_eq w 8) (Some Enum) None (Some Union) h.1) [ inl g ↦ cc (g.1) | inr g ↦ cc (g.1) ]
    ]

word_taken : (defs : List Name) (x : Token) (ts : List Token) (w : ℕ) (o : Option TypeWord) (u : Option TagKind) (y : TypePart × List Token) → x.kind ≡ k.word w → type_word_of w ≡ o → tag_of w ≡ u
    → part_word x.line ts o u ≡ Some y → PartTaken defs (x ∷ ts) y
word_taken defs x ts w (Some v) u y is at at2 e =
    let found : PartTaken defs (x ∷ ts) (word_part x.line v, ts) = (tt, refl, ap (λ k. tok x.line k ∷ ts) (is ∙ ap k.word (with_mark_is type_word w type_words v at))) in
    rw (← some_is e) found
word_taken defs x ts w None (Some kind) y is at at2 e =
    let b = bind_some (any_name ts) (λ n. Some (tag_part x.line kind (line_at ts) n.0, n.1)) y e in
    let f = any_takes ts b.0 b.1 in
    let found : PartTaken defs (x ∷ ts) (tag_part x.line kind (line_at ts) b.0.0, b.0.1) =
    (tag_has w kind at2, refl, ap (λ k. tok x.line k ∷ ts) (is ∙ ap k.word (with_mark_is tag_word w tags kind at2)) ∙ ap (λ r. word x.line (tag_word kind) ∷ r) (f.2 ∙ ap (λ l. tok l (k.name b.0.0) ∷ b.0.1) (sym f.1))) in
    rw (← some_is b.2) found
word_taken defs x ts w None None y is at at2 e = cc

tok_taken : (defs : List Name) (x : Token) (ts : List Token) (c : Tok) (y : TypePart × List Token) → x.kind ≡ c → part_tok defs x.line ts c ≡ Some y → PartTaken defs (x ∷ ts) y
tok_taken defs x ts (k.name n) y is e = elim (chosen (is_typedef defs n) (Some (name_part x.line n, ts)) None (Some y) e) [
  | inl h ↦
      let found : PartTaken defs (x ∷ ts) (name_part x.line n, ts) = (h.0, refl, ap (λ k. tok x.line k ∷ ts) is) in
      rw (← some_is h.1) found
  | inr h ↦ cc (h.1)
]
tok_taken defs x ts (k.int n long) y is e = cc
tok_taken defs x ts (k.chr n) y is e = cc
tok_taken defs x ts (k.text bytes) y is e = cc
tok_taken defs x ts (k.word w) y is e = word_taken defs x ts w (type_word_of w) (tag_of w) y is refl refl e
tok_taken defs x ts (k.mark m) y is e = cc

pub part_taken : (defs : List Name) (ts : List Token) (y : TypePart × List Token) → part_at defs ts ≡ Some y → PartTaken defs ts y
part_taken defs [] y e = cc
part_taken defs (x ∷ ts) y e = tok_taken defs x ts x.kind y refl e

-- all parts at the front
abbrev PartsTaken : List Name → List Token → List TypePart × List Token → Type 0
PartsTaken defs ts y = AreParts defs y.0 × (ts ≡ spell_parts y.0 y.1)

parts_by_taken : (defs : List Name) (n : ℕ) (ts : List Token) (o : Read TypePart) (y : List TypePart × List Token) → ((us : List Token) (z : List TypePart × List Token) → parts defs n us ≡ Some z → PartsTaken defs us z)
    → part_at defs ts ≡ o → parts_by (parts defs n) ts o ≡ Some y → PartsTaken defs ts y
parts_by_taken defs n ts None y more at e = rw (← some_is e) (tt, refl)
parts_by_taken defs n ts (Some p) y more at e =
    let b = bind_some (parts defs n p.1) (λ ps. Some (p.0 ∷ ps.0, ps.1)) y e in
    let h = more p.1 b.0 b.1 in
    let f = part_taken defs ts p at in
    let found : PartsTaken defs ts (p.0 ∷ b.0.0, b.0.1) = ((f.0, h.0), f.2 ∙ ap (spell_part p.0) h.1) in
    rw (← some_is b.2) found

parts_taken : (defs : List Name) (n : ℕ) (ts : List Token) (y : List TypePart × List Token) → parts defs n ts ≡ Some y → PartsTaken defs ts y
unfolding parts
parts_taken defs zero ts y e = cc
parts_taken defs (suc n) ts y e = parts_by_taken defs n ts (part_at defs ts) y (parts_taken defs n) refl e

-- all stars at the front
abbrev StarsTaken : List Token → ℕ × List Token → Type 0
StarsTaken ts y = (ls : List ℕ) × (length ls ≡ y.0) × (ts ≡ spell_stars ls y.1)

stars_by_taken : (n : ℕ) (ts : List Token) (o : Option (List Token)) (y : ℕ × List Token) → ((us : List Token) (z : ℕ × List Token) → stars n us ≡ Some z → StarsTaken us z)
    → eat 35 ts ≡ o → stars_by (stars n) ts o ≡ Some y → StarsTaken ts y
stars_by_taken n ts None y more at e = rw (← some_is e) ([], refl, refl)
stars_by_taken n ts (Some after) y more at e =
    let b = bind_some (stars n after) (λ z. Some (suc z.0, z.1)) y e in
    let h = more after b.0 b.1 in
    let f = eat_takes 35 ts after at in
    let found : StarsTaken ts (suc b.0.0, b.0.1) = (f.0 ∷ h.0, ap suc h.1, f.2 ∙ ap (λ r. mark f.0 35 ∷ r) h.2) in
    rw (← some_is b.2) found

stars_taken : (n : ℕ) (ts : List Token) (y : ℕ × List Token) → stars n ts ≡ Some y → StarsTaken ts y
unfolding stars
stars_taken zero ts y e = cc
stars_taken (suc n) ts y e = stars_by_taken n ts (eat 35 ts) y (stars_taken n) refl e

-- The tokens begin with a spelling of the typename.
abbrev pub SpellsName : List Name → TypeName → List Token → List Token → Type 0
SpellsName defs y ts after = (v : WrittenName) × IsName defs v × (plain_name v ≡ y) × (ts ≡ spell_name v after)

line_of_parts : (ps : List TypePart) (z : TypeSpec) (ts rest : List Token) → spelled ps ≡ Some z → ts ≡ spell_parts ps rest → line_at ts ≡ parts_line ps
line_of_parts [] z ts rest s e = cc
line_of_parts (word_part l w ∷ ps) z ts rest s e = ap line_at e
line_of_parts (tag_part l kind m x ∷ ps) z ts rest s e = ap line_at e
line_of_parts (name_part l x ∷ ps) z ts rest s e = ap line_at e

starred_taken : (defs : List Name) (ts mid : List Token) (ps : List TypePart) (o : Option TypeSpec) (y : TypeName × List Token) → AreParts defs ps → ts ≡ spell_parts ps mid → spelled ps ≡ o
    → starred (line_at ts) o mid ≡ Some y → SpellsName defs y.0 ts y.1
starred_taken defs ts mid ps None y a s at e = cc
starred_taken defs ts mid ps (Some z) y a s at e =
    let b = bind_some (stars (suc (length mid)) mid) (λ n. Some (record { line = line_at ts; types = z; stars = n.0 }, n.1)) y e in
    let h = stars_taken (suc (length mid)) mid b.0 b.1 in
    let found : SpellsName defs (record { line = line_at ts; types = z; stars = b.0.0 }) ts b.0.1 = (
      record { parts = ps; types = z; stars = h.0 },
      (at, a),
      ap (λ l. record { line = l; types = z; stars = length h.0 }) (sym (line_of_parts ps z ts mid at s)) ∙ ap (λ n. record { line = line_at ts; types = z; stars = n }) h.1,
      s ∙ ap (spell_parts ps) h.2,
    ) in
    rw (← some_is b.2) found

typename_taken : (defs : List Name) (ts : List Token) (y : TypeName × List Token) → typename defs ts ≡ Some y → SpellsName defs y.0 ts y.1
unfolding typename
typename_taken defs ts y e =
    let b = bind_some (parts defs (suc (length ts)) ts) (λ ps. starred (line_at ts) (spelled ps.0) ps.1) y e in
    let h = parts_taken defs (suc (length ts)) ts b.0 b.1 in
    starred_taken defs ts b.0.1 b.0.0 (spelled b.0.0) y h.0 h.1 refl b.2

-- a typename and the closing bracket
pub typed_takes : (defs : List Name) (ts : List Token) (y : TypeName × List Token) → typed defs ts ≡ Some y → (mid : List Token) × SpellsName defs y.0 ts mid × Front mid (k.mark 22) y.1
typed_takes defs ts y e =
    let b = bind_some (typename defs ts) (λ z. eat 22 z.1 >>= λ after. Some (z.0, after)) y e in
    let s = typename_taken defs ts b.0 b.1 in
    let c = bind_some (eat 22 b.0.1) (λ after. Some (b.0.0, after)) y b.2 in
    let f = eat_takes 22 b.0.1 c.0 c.1 in
    let same : (b.0.0, c.0) ≡ y = some_is c.2 in
    rw (← same) (b.0.1, s, f)
