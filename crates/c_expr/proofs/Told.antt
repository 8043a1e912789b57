-- The type that words make, told from how often each was seen.
use Rattle.std.proofs.Common.{◌≡◌, ℕ, ◌+◌, ◌<◌, zero, suc, List, [], ◌∷◌, ◌++◌, length, Option, Some, None, Bool, true, false, nat_eq, refl, arith, ap, sym, ◌∙◌, append_assoc, add-zero, zero-add, map}
use Rattle.std.proofs.lemmas.List.{length-map}
use Rattle.std.specs.Option.{option_map}
use Rattle.c_type.specs.Names.{Name, pick}
use Rattle.c_lex.specs.Tokens.{Token}
use Rattle.c_grammar.specs.Words.{TypeWord, Unsigned, Char, Short, Long, Int, Void, type_word}
use Rattle.c_tree.specs.TreeExpr.{TypeSpec, TypeName}
use Rattle.c_tree.specs.TreeExpr as t
use Rattle.c_grammar.specs.WrittenType.{TypePart, word_part, tag_part, name_part, row, occurrences, in_order, words_in, spelled, spell_part}
use Rattle.c_lex.specs.Shown.{token_of}
use Rattle.c_lex.specs.declared.Token as code
use Rattle.c_expr.specs.declared.tally.Count.{Count}
use Rattle.c_expr.specs.declared.tally.Count.TheVariants.{Never, Once, Twice}
use Rattle.c_expr.specs.declared.tally.Tally.{Tally}
use Rattle.c_expr.specs.Front.{Read, ◌>>=◌, eat, line_at}
use Rattle.c_expr.specs.Typename as y
use Rattle.c_expr.specs.Part as p
use Rattle.c_expr.specs.Part.{Part, plain_part}
use Rattle.c_expr.specs.Tally.{once_more, no_words, added, copies, listed}
use Rattle.c_expr.specs.Types.{plainly, before, types_at, types_from, stars_at}
use Rattle.c_expr.proofs.Taken.{some_is, eat_takes}
use Rattle.c_expr.proofs.Fronts.{part_longer}
use Rattle.c_expr.proofs.Takes.{part_taken}

-- The words are copies of one, as many as the count says.
pub data IsCount (v : TypeWord) : Count → List TypeWord → Type 0 where
  never : IsCount v Never []
  once : IsCount v Once (v ∷ [])
  twice : (vs : List TypeWord) → IsCount v Twice (v ∷ v ∷ vs)

count_more : {v : TypeWord} {n : Count} {vs : List TypeWord} → IsCount v n vs → IsCount v (once_more n) (vs ++ (v ∷ []))
count_more never = once
count_more once = twice []
count_more {v} (twice vs) = twice (vs ++ (v ∷ []))

count_same : {v : TypeWord} {n : Count} {vs : List TypeWord} → IsCount v n vs → IsCount v n (vs ++ [])
count_same never = never
count_same once = once
count_same (twice vs) = twice (vs ++ [])

occurrences-append : (v : TypeWord) (xs ys : List TypeWord) → occurrences v (xs ++ ys) ≡ occurrences v xs ++ occurrences v ys
occurrences-append v [] ys = refl
occurrences-append v (x ∷ xs) ys = by_test (nat_eq (type_word x) (type_word v)) (occurrences-append v xs ys)
  where
    by_test : (b : Bool) → occurrences v (xs ++ ys) ≡ occurrences v xs ++ occurrences v ys
        → pick b (v ∷ occurrences v (xs ++ ys)) (occurrences v (xs ++ ys)) ≡ pick b (v ∷ occurrences v xs) (occurrences v xs) ++ occurrences v ys
    by_test true e = ap (λ zs. v ∷ zs) e
    by_test false e = e

-- The tally counts the words.
pub record IsTally (t : Tally) (ws : List TypeWord) : Type 0 where
  pub unsigned : IsCount Unsigned t.unsigned (occurrences Unsigned ws)
  pub char : IsCount Char t.char (occurrences Char ws)
  pub short : IsCount Short t.short (occurrences Short ws)
  pub long : IsCount Long t.long (occurrences Long ws)
  pub int : IsCount Int t.int (occurrences Int ws)
  pub void : IsCount Void t.void (occurrences Void ws)

along : (v : TypeWord) (n : Count) (xs ys : List TypeWord) → xs ≡ ys → IsCount v n ys → IsCount v n xs
along v n xs ys e h = rw e h

-- the word at the end, and the words that are no such
seen : (v : TypeWord) (n : Count) (ws : List TypeWord) → occurrences v (v ∷ []) ≡ v ∷ [] → IsCount v n (occurrences v ws) → IsCount v (once_more n) (occurrences v (ws ++ (v ∷ [])))
seen v n ws own h = along v (once_more n) _ (occurrences v ws ++ (v ∷ [])) (occurrences-append v ws (v ∷ []) ∙ ap (λ y. occurrences v ws ++ y) own) (count_more h)

other : (v x : TypeWord) (n : Count) (ws : List TypeWord) → occurrences v (x ∷ []) ≡ [] → IsCount v n (occurrences v ws) → IsCount v n (occurrences v (ws ++ (x ∷ [])))
other v x n ws apart h = along v n _ (occurrences v ws ++ []) (occurrences-append v ws (x ∷ []) ∙ ap (λ y. occurrences v ws ++ y) apart) (count_same h)

tally_more : (x : TypeWord) (t : Tally) (ws : List TypeWord) → IsTally t ws → IsTally (added x t) (ws ++ (x ∷ []))
tally_more Unsigned t ws h = record { unsigned = seen Unsigned t.unsigned ws refl h.unsigned; char = other Char Unsigned t.char ws refl h.char; short = other Short Unsigned t.short ws refl h.short; long = other Long Unsigned t.long ws refl h.long; int = other Int Unsigned t.int ws refl h.int; void = other Void Unsigned t.void ws refl h.void }
tally_more Char t ws h = record { unsigned = other Unsigned Char t.unsigned ws refl h.unsigned; char = seen Char t.char ws refl h.char; short = other Short Char t.short ws refl h.short; long = other Long Char t.long ws refl h.long; int = other Int Char t.int ws refl h.int; void = other Void Char t.void ws refl h.void }
tally_more Short t ws h = record { unsigned = other Unsigned Short t.unsigned ws refl h.unsigned; char = other Char Short t.char ws refl h.char; short = seen Short t.short ws refl h.short; long = other Long Short t.long ws refl h.long; int = other Int Short t.int ws refl h.int; void = other Void Short t.void ws refl h.void }
tally_more Long t ws h = record { unsigned = other Unsigned Long t.unsigned ws refl h.unsigned; char = other Char Long t.char ws refl h.char; short = other Short Long t.short ws refl h.short; long = seen Long t.long ws refl h.long; int = other Int Long t.int ws refl h.int; void = other Void Long t.void ws refl h.void }
tally_more Int t ws h = record { unsigned = other Unsigned Int t.unsigned ws refl h.unsigned; char = other Char Int t.char ws refl h.char; short = other Short Int t.short ws refl h.short; long = other Long Int t.long ws refl h.long; int = seen Int t.int ws refl h.int; void = other Void Int t.void ws refl h.void }
tally_more Void t ws h = record { unsigned = other Unsigned Void t.unsigned ws refl h.unsigned; char = other Char Void t.char ws refl h.char; short = other Short Void t.short ws refl h.short; long = other Long Void t.long ws refl h.long; int = other Int Void t.int ws refl h.int; void = seen Void t.void ws refl h.void }

no_tally : IsTally no_words []
no_tally = record { unsigned = never; char = never; short = never; long = never; int = never; void = never }

-- ---- the table: with a word more than once or two words of size there is no type

table_is : {a b c d e f : Count} {us cs ss ls is vs : List TypeWord} → IsCount Unsigned a us → IsCount Char b cs → IsCount Short c ss → IsCount Long d ls → IsCount Int e is → IsCount Void f vs
    → row (us ++ (cs ++ (ss ++ (ls ++ (is ++ vs))))) ≡ row (copies a Unsigned ++ (copies b Char ++ (copies c Short ++ (copies d Long ++ (copies e Int ++ copies f Void)))))
table_is never never never never never never = refl
table_is never never never never never once = refl
table_is never never never never never (twice vs) = refl
table_is never never never never once never = refl
table_is never never never never once once = refl
table_is never never never never once (twice vs) = refl
table_is never never never never (twice is) hf = refl
table_is never never never once never never = refl
table_is never never never once never once = refl
table_is never never never once never (twice vs) = refl
table_is never never never once once never = refl
table_is never never never once once once = refl
table_is never never never once once (twice vs) = refl
table_is never never never once (twice is) hf = refl
table_is never never never (twice ls) he hf = refl
table_is never never once never never never = refl
table_is never never once never never once = refl
table_is never never once never never (twice vs) = refl
table_is never never once never once never = refl
table_is never never once never once once = refl
table_is never never once never once (twice vs) = refl
table_is never never once never (twice is) hf = refl
table_is never never once once he hf = refl
table_is never never once (twice ls) he hf = refl
table_is never never (twice ss) hd he hf = refl
table_is never once never never never never = refl
table_is never once never never never once = refl
table_is never once never never never (twice vs) = refl
table_is never once never never once hf = refl
table_is never once never never (twice is) hf = refl
table_is never once never once he hf = refl
table_is never once never (twice ls) he hf = refl
table_is never once once hd he hf = refl
table_is never once (twice ss) hd he hf = refl
table_is never (twice cs) hc hd he hf = refl
table_is once never never never never never = refl
table_is once never never never never once = refl
table_is once never never never never (twice vs) = refl
table_is once never never never once never = refl
table_is once never never never once once = refl
table_is once never never never once (twice vs) = refl
table_is once never never never (twice is) hf = refl
table_is once never never once never never = refl
table_is once never never once never once = refl
table_is once never never once never (twice vs) = refl
table_is once never never once once never = refl
table_is once never never once once once = refl
table_is once never never once once (twice vs) = refl
table_is once never never once (twice is) hf = refl
table_is once never never (twice ls) he hf = refl
table_is once never once never never never = refl
table_is once never once never never once = refl
table_is once never once never never (twice vs) = refl
table_is once never once never once never = refl
table_is once never once never once once = refl
table_is once never once never once (twice vs) = refl
table_is once never once never (twice is) hf = refl
table_is once never once once he hf = refl
table_is once never once (twice ls) he hf = refl
table_is once never (twice ss) hd he hf = refl
table_is once once never never never never = refl
table_is once once never never never once = refl
table_is once once never never never (twice vs) = refl
table_is once once never never once hf = refl
table_is once once never never (twice is) hf = refl
table_is once once never once he hf = refl
table_is once once never (twice ls) he hf = refl
table_is once once once hd he hf = refl
table_is once once (twice ss) hd he hf = refl
table_is once (twice cs) hc hd he hf = refl
table_is (twice us) hb hc hd he hf = refl

row_is : (t : Tally) (ws : List TypeWord) → IsTally t ws → row (in_order ws) ≡ row (listed t)
row_is t ws h = table_is h.unsigned h.char h.short h.long h.int h.void

-- the type that the words of the tally and the parts behind them make
abbrev pub told : Tally → List TypePart → Option TypeSpec
told t [] = row (listed t)
told t (word_part l w ∷ ps) = told (added w t) ps
told t (tag_part l kind m x ∷ ps) = None
told t (name_part l x ∷ ps) = None

abbrev after_words : List TypeWord → Option (List TypeWord) → Option TypeSpec
after_words ws None = None
after_words ws (Some vs) = row (in_order (ws ++ vs))

append_nil : (ws : List TypeWord) → ws ++ [] ≡ ws
append_nil [] = refl
append_nil (w ∷ ws) = ap (λ xs. w ∷ xs) (append_nil ws)

told_is : (t : Tally) (ws : List TypeWord) (ps : List TypePart) → IsTally t ws → told t ps ≡ after_words ws (words_in ps)
told_is t ws [] h = sym (row_is t ws h) ∙ ap (λ xs. row (in_order xs)) (sym (append_nil ws))
told_is t ws (word_part l w ∷ ps) h = told_is (added w t) (ws ++ (w ∷ [])) ps (tally_more w t ws h) ∙ by_words (words_in ps) refl
  where
    by_words : (o : Option (List TypeWord)) → words_in ps ≡ o → after_words (ws ++ (w ∷ [])) (words_in ps) ≡ after_words ws (words_in (word_part l w ∷ ps))
    by_words None e = rw e refl
    by_words (Some vs) e = rw e (ap (λ xs. row (in_order xs)) (append_assoc ws (w ∷ []) vs))
told_is t ws (tag_part l kind m x ∷ ps) h = refl
told_is t ws (name_part l x ∷ ps) h = refl

-- the first word, and those behind it
told_first : (w : TypeWord) (ps : List TypePart) → told (added w no_words) ps ≡ spelled (word_part 0 w ∷ ps)
told_first w ps = told_is (added w no_words) (w ∷ []) ps (tally_more w no_words [] no_tally) ∙ by_words (words_in ps) refl
  where
    by_words : (o : Option (List TypeWord)) → words_in ps ≡ o → after_words (w ∷ []) (words_in ps) ≡ spelled (word_part 0 w ∷ ps)
    by_words None e = rw e refl
    by_words (Some vs) e = rw e refl

-- ---- the parts at the front

-- the type that the words of the tally and the parts at the front make
abbrev pub types_told : List Name → Tally → List Token → Read TypeSpec
types_told defs t ts = y.parts defs (suc (length ts)) ts >>= λ ps. before (told t ps.0) ps.1

pub told_begins : (defs : List Name) (w : TypeWord) (ts : List Token) → types_told defs (added w no_words) ts ≡ types_from defs w ts
unfolding types_from
told_begins defs w ts = by_parts (y.parts defs (suc (length ts)) ts)
  where
    by_parts : (o : Read (List TypePart)) → (o >>= λ ps. before (told (added w no_words) ps.0) ps.1) ≡ (o >>= λ ps. before (spelled (word_part 0 w ∷ ps.0)) ps.1)
    by_parts None = refl
    by_parts (Some ps) = ap (λ y. before y ps.1) (told_first w ps.0)

-- a part that the code reads is one at the front
pub plain_front : (o : Read TypePart) (q : Part) (after : List Token) → Some (q, after) ≡ option_map plainly o → (x : TypePart) × (o ≡ Some (x, after)) × (plain_part x ≡ q)
plain_front None q after e = cc
plain_front (Some x) q after e =
    let same : (q, after) ≡ plainly x = some_is e in
    (x.0, ap (λ r. Some (x.0, r)) (sym (ap (λ z. z.1) same)), sym (ap (λ z. z.0) same))

word_only : (x : TypePart) (w : TypeWord) → plain_part x ≡ p.word w → (l : ℕ) × (x ≡ word_part l w)
word_only (word_part l v) w e = let same : v ≡ w = cc in (l, ap (word_part l) same)
word_only (tag_part l kind m x) w e = cc
word_only (name_part l x) w e = cc

pub part_shorter : (defs : List Name) (ts : List Token) (q : Part) (after : List Token) → Some (q, after) ≡ option_map plainly (y.part_at defs ts) → length after < length ts
part_shorter defs ts q after e =
    let f = plain_front (y.part_at defs ts) q after e in
    let t = part_taken defs ts (f.0, after) f.1 in
    let count : length ts ≡ length (spell_part f.0 after) = ap length t.2 in
    omega (arith, part_longer f.0 after, count)

-- the same of the code's tokens
pub part_fewer : (defs : List Name) (xs ys : List code.Token) (q : Part) → Some (q, map token_of ys) ≡ option_map plainly (y.part_at defs (map token_of xs)) → length ys < length xs
part_fewer defs xs ys q e =
    let one : length (map token_of ys) < length (map token_of xs) = part_shorter defs (map token_of xs) q (map token_of ys) e in
    omega (arith, one, length-map xs token_of, length-map ys token_of)

-- the part before those that are read
abbrev with_part : TypePart → Read (List TypePart) → Read (List TypePart)
with_part x o = o >>= λ ps. Some (x ∷ ps.0, ps.1)

turn_by : (t : Tally) (l : ℕ) (w : TypeWord) (o : Read (List TypePart))
    → (with_part (word_part l w) o >>= λ ps. before (told t ps.0) ps.1) ≡ (o >>= λ ps. before (told (added w t) ps.0) ps.1)
turn_by t l w None = refl
turn_by t l w (Some ps) = refl

pub word_turn : (defs : List Name) (t : Tally) (w : TypeWord) (ts after : List Token) → Some (p.word w, after) ≡ option_map plainly (y.part_at defs ts) → types_told defs t ts ≡ types_told defs (added w t) after
unfolding y.parts
word_turn defs t w ts after e =
    let f = plain_front (y.part_at defs ts) (p.word w) after e in
    let o = word_only f.0 w f.2 in
    let at : y.part_at defs ts ≡ Some (word_part o.0 w, after) = f.1 ∙ ap (λ x. Some (x, after)) o.1 in
    let count : length ts ≡ suc (length after) = ap length (part_taken defs ts (word_part o.0 w, after) at).2 in
    ap (λ z. y.parts_by (y.parts defs (length ts)) ts z >>= λ ps. before (told t ps.0) ps.1) at
    ∙ turn_by t o.0 w (y.parts defs (length ts) after)
    ∙ ap (λ n. y.parts defs n after >>= λ ps. before (told (added w t) ps.0) ps.1) count

-- no further part
pub words_end : (defs : List Name) (t : Tally) (ts : List Token) → None ≡ option_map plainly (y.part_at defs ts) → types_told defs t ts ≡ before (row (listed t)) ts
unfolding y.parts
words_end defs t ts e = by_part (y.part_at defs ts) refl e
  where
    by_part : (o : Read TypePart) → y.part_at defs ts ≡ o → None ≡ option_map plainly o → types_told defs t ts ≡ before (row (listed t)) ts
    by_part None at e = ap (λ z. y.parts_by (y.parts defs (length ts)) ts z >>= λ ps. before (told t ps.0) ps.1) at
    by_part (Some x) at e = cc

abbrev pub is_word : Part → Bool
is_word (p.word w) = true
is_word (p.tag t) = false
is_word (p.named x) = false

pub no_word : (q : Part) → None ≡ p.word_in q → is_word q ≡ false
no_word (p.word w) e = cc
no_word (p.tag t) e = refl
no_word (p.named x) e = refl

pub the_word : (q : Part) (w : TypeWord) → Some w ≡ p.word_in q → q ≡ p.word w
the_word (p.word v) w e = ap p.word (sym (some_is e))
the_word (p.tag t) w e = cc
the_word (p.named x) w e = cc

not_told : (t : Tally) (x : TypePart) (ps : List TypePart) → is_word (plain_part x) ≡ false → told t (x ∷ ps) ≡ None
not_told t (word_part l w) ps e = cc
not_told t (tag_part l kind m x) ps e = refl
not_told t (name_part l x) ps e = refl

-- a part that is no word
pub words_broken : (defs : List Name) (t : Tally) (q : Part) (ts after : List Token) → Some (q, after) ≡ option_map plainly (y.part_at defs ts) → is_word q ≡ false → types_told defs t ts ≡ None
unfolding y.parts
words_broken defs t q ts after e no_word =
    let f = plain_front (y.part_at defs ts) q after e in
    ap (λ z. y.parts_by (y.parts defs (length ts)) ts z >>= λ ps. before (told t ps.0) ps.1) f.1 ∙ by_parts f.0 (ap is_word f.2 ∙ no_word) (y.parts defs (length ts) after)
  where
    by_parts : (x : TypePart) → is_word (plain_part x) ≡ false → (o : Read (List TypePart)) → (with_part x o >>= λ ps. before (told t ps.0) ps.1) ≡ None
    by_parts x e None = refl
    by_parts x e (Some ps) = ap (λ y. before y ps.1) (not_told t x ps.0 e)

-- ---- the whole type

pub type_none : (defs : List Name) (ts : List Token) → None ≡ option_map plainly (y.part_at defs ts) → types_at defs ts ≡ None
unfolding types_at y.parts
type_none defs ts e = by_part (y.part_at defs ts) refl e
  where
    by_part : (o : Read TypePart) → y.part_at defs ts ≡ o → None ≡ option_map plainly o → types_at defs ts ≡ None
    by_part None at e = ap (λ z. y.parts_by (y.parts defs (length ts)) ts z >>= λ ps. before (spelled ps.0) ps.1) at
    by_part (Some x) at e = cc

type_words : (l : ℕ) (w : TypeWord) (o : Read (List TypePart))
    → (with_part (word_part l w) o >>= λ ps. before (spelled ps.0) ps.1) ≡ (o >>= λ ps. before (spelled (word_part 0 w ∷ ps.0)) ps.1)
type_words l w None = refl
type_words l w (Some ps) = refl

pub type_of_words : (defs : List Name) (w : TypeWord) (ts after : List Token) → Some (p.word w, after) ≡ option_map plainly (y.part_at defs ts) → types_at defs ts ≡ types_from defs w after
unfolding types_at types_from y.parts
type_of_words defs w ts after e =
    let f = plain_front (y.part_at defs ts) (p.word w) after e in
    let o = word_only f.0 w f.2 in
    let at : y.part_at defs ts ≡ Some (word_part o.0 w, after) = f.1 ∙ ap (λ x. Some (x, after)) o.1 in
    let count : length ts ≡ suc (length after) = ap length (part_taken defs ts (word_part o.0 w, after) at).2 in
    ap (λ z. y.parts_by (y.parts defs (length ts)) ts z >>= λ ps. before (spelled ps.0) ps.1) at
    ∙ type_words o.0 w (y.parts defs (length ts) after)
    ∙ ap (λ n. y.parts defs n after >>= λ ps. before (spelled (word_part 0 w ∷ ps.0)) ps.1) count

-- the type that one part alone makes
abbrev pub alone : Part → Option TypeSpec
alone (p.word w) = None
alone (p.tag r) = Some (t.tag r)
alone (p.named x) = Some (t.named x)

spelled_alone : (x : TypePart) → is_word (plain_part x) ≡ false → spelled (x ∷ []) ≡ alone (plain_part x)
spelled_alone (word_part l w) e = cc
spelled_alone (tag_part l kind m x) e = refl
spelled_alone (name_part l x) e = refl

spelled_more : (x y : TypePart) (ps : List TypePart) → is_word (plain_part x) ≡ false → spelled (x ∷ y ∷ ps) ≡ None
spelled_more (word_part l w) y ps e = cc
spelled_more (tag_part l kind m x) y ps e = refl
spelled_more (name_part l x) y ps e = refl

parts_start : (defs : List Name) (n : ℕ) (ts : List Token) (o : Read TypePart) → y.part_at defs ts ≡ o → y.parts defs (suc n) ts ≡ y.parts_by (y.parts defs n) ts o
unfolding y.parts
parts_start defs n ts o at = ap (y.parts_by (y.parts defs n) ts) at

-- one part that is no word, and no part behind it
pub type_alone : (defs : List Name) (q : Part) (ts after : List Token) → Some (q, after) ≡ option_map plainly (y.part_at defs ts) → is_word q ≡ false → y.is_there (y.part_at defs after) ≡ false
    → types_at defs ts ≡ before (alone q) after
unfolding types_at
type_alone defs q ts after e no_word last =
    let f = plain_front (y.part_at defs ts) q after e in
    let t = part_taken defs ts (f.0, after) f.1 in
    let count : length ts ≡ length (spell_part f.0 after) = ap length t.2 in
    let longer : length after < length (spell_part f.0 after) = part_longer f.0 after in
    by_length (length ts) refl f.0 f.1 f.2 (omega (arith, count, longer))
  where
    by_last : (o : Read TypePart) → y.is_there o ≡ false → o ≡ None
    by_last None e = refl
    by_last (Some x) e = cc

    by_length : (n : ℕ) → length ts ≡ n → (x : TypePart) → y.part_at defs ts ≡ Some (x, after) → plain_part x ≡ q → 0 < n → types_at defs ts ≡ before (alone q) after
    by_length zero at x is same lt = absurd (omega arith)
    by_length (suc n) at x is same lt =
        ap (λ m. y.parts defs (suc m) ts >>= λ ps. before (spelled ps.0) ps.1) at
        ∙ ap (λ z. z >>= λ ps. before (spelled ps.0) ps.1) (parts_start defs (suc n) ts (Some (x, after)) is)
        ∙ ap (λ z. with_part x z >>= λ ps. before (spelled ps.0) ps.1) (parts_start defs n after None (by_last (y.part_at defs after) last))
        ∙ ap (λ z. before z after) (spelled_alone x (ap is_word same ∙ no_word) ∙ ap alone same)

-- one part that is no word, and a part behind it
pub type_more : (defs : List Name) (q : Part) (ts after : List Token) → Some (q, after) ≡ option_map plainly (y.part_at defs ts) → is_word q ≡ false → y.is_there (y.part_at defs after) ≡ true
    → types_at defs ts ≡ None
unfolding types_at y.parts
type_more defs q ts after e no_word next =
    let f = plain_front (y.part_at defs ts) q after e in
    let g = there (y.part_at defs after) next in
    ap (λ z. z >>= λ ps. before (spelled ps.0) ps.1) (parts_start defs (length ts) ts (Some (f.0, after)) f.1) ∙ by_length (length ts) f.0 g.0.0 g.0.1 g.1 (ap is_word f.2 ∙ no_word)
  where
    by_parts : (x v : TypePart) → is_word (plain_part x) ≡ false → (o : Read (List TypePart)) → (with_part x (with_part v o) >>= λ ps. before (spelled ps.0) ps.1) ≡ None
    by_parts x v e None = refl
    by_parts x v e (Some ps) = ap (λ y. before y ps.1) (spelled_more x v ps.0 e)

    there : (o : Read TypePart) → y.is_there o ≡ true → (z : TypePart × List Token) × (o ≡ Some z)
    there None e = cc
    there (Some z) e = (z, refl)

    by_length : (n : ℕ) (x v : TypePart) (rest : List Token) → y.part_at defs after ≡ Some (v, rest) → is_word (plain_part x) ≡ false → (with_part x (y.parts defs n after) >>= λ ps. before (spelled ps.0) ps.1) ≡ None
    by_length zero x v rest at e = refl
    by_length (suc n) x v rest at e = ap (λ z. with_part x z >>= λ ps. before (spelled ps.0) ps.1) (parts_start defs n after (Some (v, rest)) at) ∙ by_parts x v e (y.parts defs n rest)

-- ---- stars

pub star_shorter : (ts after : List Token) → Some after ≡ eat 35 ts → length ts ≡ suc (length after)
star_shorter ts after at = ap length (eat_takes 35 ts after (sym at)).2

-- the same of the code's tokens
pub star_fewer : (xs ys : List code.Token) → Some (map token_of ys) ≡ eat 35 (map token_of xs) → length xs ≡ suc (length ys)
star_fewer xs ys at = sym (length-map xs token_of) ∙ star_shorter (map token_of xs) (map token_of ys) at ∙ ap suc (length-map ys token_of)

-- the stars at the front with those before them
abbrev pub with_stars : ℕ → Read ℕ → Read ℕ
with_stars n o = o >>= λ x. Some (n + x.0, x.1)

pub star_turn : (n : ℕ) (ts after : List Token) → Some after ≡ eat 35 ts → with_stars n (stars_at ts) ≡ with_stars (n + 1) (stars_at after)
unfolding stars_at y.stars
star_turn n ts after at =
    ap (λ z. with_stars n (y.stars_by (y.stars (length ts)) ts z)) (sym at) ∙ by_stars (y.stars (length ts) after) ∙ ap (λ m. with_stars (n + 1) (y.stars m after)) (star_shorter ts after at)
  where
    by_stars : (o : Read ℕ) → with_stars n (o >>= λ x. Some (suc x.0, x.1)) ≡ with_stars (n + 1) o
    by_stars None = refl
    by_stars (Some x) = ap (λ m. Some (m, x.1)) (omega arith)

pub star_end : (n : ℕ) (ts : List Token) → None ≡ eat 35 ts → with_stars n (stars_at ts) ≡ Some (n, ts)
unfolding stars_at y.stars
star_end n ts at = ap (λ z. with_stars n (y.stars_by (y.stars (length ts)) ts z)) (sym at) ∙ ap (λ m. Some (m, ts)) (add-zero n)

pub stars_begin : (ts : List Token) → with_stars 0 (stars_at ts) ≡ stars_at ts
stars_begin ts = by_stars (stars_at ts)
  where
    by_stars : (o : Read ℕ) → with_stars 0 o ≡ o
    by_stars None = refl
    by_stars (Some x) = ap (λ m. Some (m, x.1)) (zero-add x.0)

-- ---- the typename

-- the type with the stars behind it
abbrev starred_type : ℕ → Read TypeSpec → Read TypeName
starred_type line o = o >>= λ x. stars_at x.1 >>= λ n. Some (record { line = line; types = x.0; stars = n.0 }, n.1)

-- the typename with the closing bracket behind it
abbrev closed_name : Read TypeName → Read TypeName
closed_name o = o >>= λ v. eat 22 v.1 >>= λ after. Some (v.0, after)

typename_is : (defs : List Name) (ts : List Token) → y.typename defs ts ≡ starred_type (line_at ts) (types_at defs ts)
unfolding y.typename types_at stars_at
typename_is defs ts = by_parts (y.parts defs (suc (length ts)) ts)
  where
    by_type : (o : Option TypeSpec) (us : List Token) → y.starred (line_at ts) o us ≡ starred_type (line_at ts) (before o us)
    by_type None us = refl
    by_type (Some z) us = refl

    by_parts : (o : Read (List TypePart)) → (o >>= λ ps. y.starred (line_at ts) (spelled ps.0) ps.1) ≡ starred_type (line_at ts) (o >>= λ ps. before (spelled ps.0) ps.1)
    by_parts None = refl
    by_parts (Some ps) = by_type (spelled ps.0) ps.1

pub typed_none : (defs : List Name) (ts : List Token) → types_at defs ts ≡ None → y.typed defs ts ≡ None
typed_none defs ts none = ap closed_name (typename_is defs ts ∙ ap (starred_type (line_at ts)) none)

starred_found : (defs : List Name) (ts : List Token) (x : TypeSpec × List Token) (n : ℕ × List Token) → types_at defs ts ≡ Some x → stars_at x.1 ≡ Some n
    → y.typename defs ts ≡ Some (record { line = line_at ts; types = x.0; stars = n.0 }, n.1)
starred_found defs ts x n is stars = typename_is defs ts ∙ ap (starred_type (line_at ts)) is ∙ ap (λ (z : Read ℕ). z >>= λ n. Some (record { line = line_at ts; types = x.0; stars = n.0 }, n.1)) stars

pub typed_open : (defs : List Name) (ts : List Token) (x : TypeSpec × List Token) (n : ℕ × List Token) → types_at defs ts ≡ Some x → stars_at x.1 ≡ Some n → None ≡ eat 22 n.1 → y.typed defs ts ≡ None
typed_open defs ts x n is stars end = ap closed_name (starred_found defs ts x n is stars) ∙ ap (λ (z : Option (List Token)). z >>= λ after. Some (record { line = line_at ts; types = x.0; stars = n.0 }, after)) (sym end)

pub typed_whole : (defs : List Name) (ts : List Token) (x : TypeSpec × List Token) (n : ℕ × List Token) (after : List Token) → types_at defs ts ≡ Some x → stars_at x.1 ≡ Some n → Some after ≡ eat 22 n.1
    → y.typed defs ts ≡ Some (record { line = line_at ts; types = x.0; stars = n.0 }, after)
typed_whole defs ts x n after is stars end = ap closed_name (starred_found defs ts x n is stars) ∙ ap (λ (z : Option (List Token)). z >>= λ after. Some (record { line = line_at ts; types = x.0; stars = n.0 }, after)) (sym end)
