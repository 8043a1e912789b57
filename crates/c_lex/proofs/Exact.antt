-- What stands at the front of a text is what is read there.
use Rattle.std.proofs.Common.{◌≡◌, ℕ, suc, ◌+◌, ◌<◌, ◌≤◌, ◌⊎◌, inl, inr, min, List, [], ◌∷◌, ◌++◌, length, drop, Option, Some, None, Bool, true, false, refl, ap, ◌∙◌, arith, append_assoc}
use Rattle.std.specs.Prelude.{nat_eq, nat_lt, ◌&&◌, ◌||◌, not}
use Rattle.std.proofs.lemmas.Bool.{and_parts, or_parts, lt-ltb, le-ltb, not-true, eqb-true, ne_eqb, false_from_ne_true}
use Rattle.std.proofs.lemmas.List.{length-append, take_at, drop_at}
use Rattle.c_type.specs.Names.{at_or, pick}
use Rattle.c_lex.specs.Tokens.{Tok, int, words, marks}
use Rattle.c_lex.specs.Tokens as t
use Rattle.c_lex.specs.Bytes.{is_white, is_digit, is_octal, is_hexadecimal, is_between, begins_name, is_name_byte, is_run_byte, begins, are}
use Rattle.c_lex.specs.Pieces.{Item, items_bytes, item_bytes, item_value, IsOpen, Number, decimal, octal, hexadecimal, number_bytes, number_value, IsNumber, suffix_bytes, IsSuffix, is_long, Piece, white, name, number, comment, text, mark, piece_bytes, IsPiece, IsLongest, token_of, word_from, name_or_word}
use Rattle.c_lex.specs.Pieces as p
use Rattle.c_lex.specs.Falls.{IsBadByte, IsTooLarge, IsOpenComment, IsOpenText, is_mark_in, begins_piece}
use Rattle.c_lex.specs.Reading as r
use Rattle.c_lex.specs.Reading.{Front, found, bad_byte, too_large, open_comment, open_text, front, run_length, name_front, number_front, number_of, chr_front, text_front, other_front, comment_front, mark_front, mark_from, begins_comment, eat, ◌>>=◌}
use Rattle.c_lex.proofs.Closed.{chr_is, chr_at, text_is, text_at, items_long, comment_at, closes}
use Rattle.c_lex.proofs.Values.{number_is, NumberAt, number_at, read_as}
use Rattle.c_lex.proofs.Apart.{name_no_white, digit_alone, octal_run, hexadecimal_run, are_both, are_also}
use Rattle.c_lex.proofs.Fronts.{run_byte}
use Rattle.c_lex.proofs.Longest.{mark_is, longest_no_comment, begin_at, mark_none}

taken : (t : Bool) (A B C : Front) → t ≡ true → A ≡ C → pick t A B ≡ C
taken true A B C e h = h
taken false A B C e h = cc

passed : (t : Bool) (A B C : Front) → t ≡ false → B ≡ C → pick t A B ≡ C
passed true A B C e h = cc
passed false A B C e h = h

front_white : (b : ℕ) (bs : List ℕ) → is_white b ≡ true → front (b ∷ bs) ≡ found None bs
unfolding front
front_white b bs w = taken (is_white b) (found None bs) _ (found None bs) w refl

front_name : (b : ℕ) (bs : List ℕ) → begins_name b ≡ true → front (b ∷ bs) ≡ name_front (run_length is_name_byte (b ∷ bs)) (b ∷ bs)
unfolding front
front_name b bs n = passed (is_white b) (found None bs) _ _ (name_no_white b n) (taken (begins_name b) _ _ _ n refl)

front_digit : (b : ℕ) (bs : List ℕ) → is_digit b ≡ true → front (b ∷ bs) ≡ number_front (run_length is_run_byte (b ∷ bs)) (b ∷ bs)
unfolding front
front_digit b bs d =
    let q = digit_alone b d in
    passed (is_white b) (found None bs) _ _ q.0 (passed (begins_name b) _ _ _ q.1 (taken (is_digit b) _ _ _ d refl))

front_chr : (bs : List ℕ) → front (39 ∷ bs) ≡ chr_front (r.chr bs)
unfolding front
front_chr bs = refl

front_text : (bs : List ℕ) → front (34 ∷ bs) ≡ text_front (r.text (length bs + 1) [] bs)
unfolding front
front_text bs = refl

front_comment : (inside : List ℕ) → front (47 ∷ 42 ∷ inside) ≡ comment_front (r.comment inside)
unfolding front
front_comment inside = refl

-- a byte with which no white byte, name, number, character or text begins
abbrev is_other : ℕ → Bool
is_other b = not (is_white b || (begins_name b || (is_digit b || (nat_eq b 39 || nat_eq b 34))))

front_other : (b : ℕ) (bs : List ℕ) → is_white b ≡ false → begins_name b ≡ false → is_digit b ≡ false → nat_eq b 39 ≡ false → nat_eq b 34 ≡ false
    → front (b ∷ bs) ≡ other_front (b ∷ bs) (begins_comment (b ∷ bs))
unfolding front
front_other b bs w n d c s =
    passed (is_white b) (found None bs) _ _ w
    (passed (begins_name b) _ _ _ n
    (passed (is_digit b) _ _ _ d
    (passed (nat_eq b 39) _ _ _ c
    (passed (nat_eq b 34) _ _ _ s refl))))

other_is : (b : ℕ) (bs : List ℕ) → is_other b ≡ true → front (b ∷ bs) ≡ other_front (b ∷ bs) (begins_comment (b ∷ bs))
other_is b bs e =
    let w = or_parts (is_white b) (begins_name b || (is_digit b || (nat_eq b 39 || nat_eq b 34))) (not-true (is_white b || (begins_name b || (is_digit b || (nat_eq b 39 || nat_eq b 34)))) e) in
    let n = or_parts (begins_name b) (is_digit b || (nat_eq b 39 || nat_eq b 34)) w.1 in
    let d = or_parts (is_digit b) (nat_eq b 39 || nat_eq b 34) n.1 in
    let c = or_parts (nat_eq b 39) (nat_eq b 34) d.1 in
    front_other b bs w.0 n.0 d.0 c.0 c.1

run_is : (q : ℕ → Bool) (run after : List ℕ) → are q run ≡ true → begins q after ≡ false → run_length q (run ++ after) ≡ length run
run_is q [] [] a e = refl
run_is q [] (c ∷ cs) a e = ap (λ t. pick t (run_length q cs + 1) 0) e
run_is q (b ∷ bs) after a e =
    let h = and_parts (q b) (are q bs) a in
    let more : length bs + 1 ≡ suc (length bs) = omega arith in
    ap (λ t. pick t (run_length q (bs ++ after) + 1) 0) h.0 ∙ ap (λ n. n + 1) (run_is q bs after h.1 e) ∙ more

name_read : (run after : List ℕ) → begins begins_name run ≡ true → are is_name_byte run ≡ true → begins is_name_byte after ≡ false → front (run ++ after) ≡ found (token_of (name run)) after
name_read [] after b a e = cc
name_read (c ∷ cs) after b a e =
    front_name c (cs ++ after) b
    ∙ ap (λ n. name_front n (c ∷ cs ++ after)) (run_is is_name_byte (c ∷ cs) after a e)
    ∙ ap (λ x. found (Some (name_or_word x (word_from 0 words x))) (drop (length (c ∷ cs)) (c ∷ cs ++ after))) (take_at (c ∷ cs) after (length (c ∷ cs)) refl)
    ∙ ap (λ y. found (token_of (name (c ∷ cs))) y) (drop_at (c ∷ cs) after (length (c ∷ cs)) refl)

run_read : (run after : List ℕ) → begins is_digit run ≡ true → are is_run_byte run ≡ true → begins is_run_byte after ≡ false → front (run ++ after) ≡ number_of after (r.number run)
run_read [] after b a e = cc
run_read (c ∷ cs) after b a e =
    front_digit c (cs ++ after) b
    ∙ ap (λ n. number_front n (c ∷ cs ++ after)) (run_is is_run_byte (c ∷ cs) after a e)
    ∙ ap (λ x. number_of (drop (length (c ∷ cs)) (c ∷ cs ++ after)) (r.number x)) (take_at (c ∷ cs) after (length (c ∷ cs)) refl)
    ∙ ap (λ y. number_of y (r.number (c ∷ cs))) (drop_at (c ∷ cs) after (length (c ∷ cs)) refl)

begins_both : (xs ys : List ℕ) → begins is_digit xs ≡ true → begins is_digit (xs ++ ys) ≡ true
begins_both [] ys e = cc
begins_both (x ∷ xs) ys e = e

not_zero_digit : (ds : List ℕ) → are is_digit ds ≡ true → begins (is_between 49 57) ds ≡ true → begins is_digit ds ≡ true
not_zero_digit [] a e = cc
not_zero_digit (d ∷ ds) a e = (and_parts (is_digit d) (are is_digit ds) a).0

number_digit : (n : Number) → IsNumber n → begins is_digit (number_bytes n) ≡ true
number_digit (decimal ds) h = not_zero_digit ds h.0 h.1
number_digit (octal ds) h = refl
number_digit (hexadecimal x ds) h = refl

x_run : (x : ℕ) → ((x ≡ 120) ⊎ (x ≡ 88)) → is_run_byte x ≡ true
x_run x (inl e) = ap is_run_byte e
x_run x (inr e) = ap is_run_byte e

number_run : (n : Number) → IsNumber n → are is_run_byte (number_bytes n) ≡ true
number_run (decimal ds) h = are_also is_digit is_run_byte run_byte ds h.0
number_run (octal ds) h = are_also is_octal is_run_byte octal_run ds h
number_run (hexadecimal x ds) h = ap (λ t. t && are is_run_byte ds) (x_run x h.0) ∙ are_also is_hexadecimal is_run_byte hexadecimal_run ds h.1

suffix_run : (l : Option ℕ) → IsSuffix l → are is_run_byte (suffix_bytes l) ≡ true
suffix_run None h = refl
suffix_run (Some l) (inl e) = ap (λ b. is_run_byte b && true) e
suffix_run (Some l) (inr e) = ap (λ b. is_run_byte b && true) e

number_front_is : (n : Number) (l : Option ℕ) (after : List ℕ) → IsNumber n → IsSuffix l → begins is_run_byte after ≡ false → front ((number_bytes n ++ suffix_bytes l) ++ after) ≡ number_of after (read_as n l)
number_front_is n l after h s e =
    run_read (number_bytes n ++ suffix_bytes l) after (begins_both (number_bytes n) (suffix_bytes l) (number_digit n h))
    (are_both is_run_byte (number_bytes n) (suffix_bytes l) (number_run n h) (suffix_run l s)) e
    ∙ ap (λ o. number_of after o) (number_is n l h s)

small_number : (v : ℕ) (long : Bool) (after : List ℕ) → v ≤ 4294967295 → number_of after (Some (min v 4294967296, long)) ≡ found (Some (int v long)) after
small_number v long after le =
    let same : min v 4294967296 ≡ v = omega arith in
    ap (λ x. number_of after (Some (x, long))) same
    ∙ taken (nat_lt v 4294967296) (found (Some (int v long)) after) too_large (found (Some (int v long)) after) (lt-ltb v 4294967296 (omega arith)) refl

large_number : (v : ℕ) (long : Bool) (after : List ℕ) → 4294967295 < v → number_of after (Some (min v 4294967296, long)) ≡ too_large
large_number v long after lt =
    let le : 4294967296 ≤ min v 4294967296 = omega arith in
    passed (nat_lt (min v 4294967296) 4294967296) (found (Some (int (min v 4294967296) long)) after) too_large too_large (le-ltb (min v 4294967296) 4294967296 le) refl

not_closed : (b : ℕ) (bs after : List ℕ) → IsOpen (b ∷ bs) → closes b (bs ++ 42 ∷ 47 ∷ after) ≡ true → ⊥
not_closed b [] after o e = let f : false ≡ true = (and_parts (nat_eq b 42) false e).1 in cc
not_closed b (c ∷ cs) after o e =
    let q = and_parts (nat_eq b 42) (nat_eq c 47) e in
    let f : b ≡ 42 = eqb-true b 42 q.0 in
    let g : c ≡ 47 = eqb-true c 47 q.1 in
    o [] cs cc

comment_is : (inside after : List ℕ) → IsOpen inside → r.comment (inside ++ 42 ∷ 47 ∷ after) ≡ Some after
comment_is [] after o = refl
comment_is (b ∷ bs) after o =
    ap (λ t. pick t (Some (drop 1 (bs ++ 42 ∷ 47 ∷ after))) (r.comment (bs ++ 42 ∷ 47 ∷ after))) (false_from_ne_true (closes b (bs ++ 42 ∷ 47 ∷ after)) (λ e. not_closed b bs after o e))
    ∙ comment_is bs after (λ a c f. o (b ∷ a) c (ap (λ y. b ∷ y) f))

piece_at_mark : (k : ℕ) (m after : List ℕ) → begins is_other m ≡ true → IsLongest k (m ++ after) → m ≡ at_or [] marks k → front (m ++ after) ≡ found (Some (t.mark k)) after
piece_at_mark k [] after b h e = cc
piece_at_mark k (c ∷ cs) after b h e =
    other_is c (cs ++ after) b
    ∙ ap (λ o. other_front (c ∷ cs ++ after) o) (longest_no_comment (c ∷ cs ++ after) k h)
    ∙ ap mark_front (mark_is (c ∷ cs ++ after) k after h (ap (λ x. x ++ after) e))

-- the front of a text at which a piece stands
pub piece_read : (x : Piece) (after : List ℕ) → IsPiece x after → front (piece_bytes x ++ after) ≡ found (token_of x) after
piece_read (white b) after h = front_white b after h
piece_read (comment bs) after h =
    front_comment ((bs ++ 42 ∷ 47 ∷ []) ++ after)
    ∙ ap (λ y. comment_front (r.comment y)) (append_assoc bs (42 ∷ 47 ∷ []) after)
    ∙ ap comment_front (comment_is bs after h)
piece_read (name bs) after h = name_read bs after h.0 h.1 h.2
piece_read (number n l) after h = number_front_is n l after h.0 h.1 h.2 ∙ small_number (number_value n) (is_long l) after h.3
piece_read (p.chr i) after h =
    front_chr ((item_bytes i ++ 39 ∷ []) ++ after)
    ∙ ap (λ y. chr_front (r.chr y)) (append_assoc (item_bytes i) (39 ∷ []) after)
    ∙ ap chr_front (chr_is i after h)
piece_read (text is) after h =
    front_text ((items_bytes is ++ 34 ∷ []) ++ after)
    ∙ ap (λ y. text_front (r.text (length y + 1) [] y)) (append_assoc (items_bytes is) (34 ∷ []) after)
    ∙ ap text_front (text_is (length (items_bytes is ++ 34 ∷ after) + 1) [] is after h
    (let a : length is ≤ length (items_bytes is) = items_long is in
    let b : length (items_bytes is ++ 34 ∷ after) ≡ length (items_bytes is) + suc (length after) = length-append (items_bytes is) (34 ∷ after) in
    omega arith))
piece_read (mark k) after h = piece_at_mark k (at_or [] marks k) after (begin_at is_other marks k refl h.known) h refl

run_none : (run : List ℕ) → ((n : Number) (l : Option ℕ) → IsNumber n → IsSuffix l → run ≡ number_bytes n ++ suffix_bytes l → ⊥) → (NumberAt run ⊎ (r.number run ≡ None)) → r.number run ≡ None
run_none run bad (inl x) = absurd (bad x.n x.l x.is x.suffix x.run_is)
run_none run bad (inr e) = e

nothing_read : (b : ℕ) (bs : List ℕ) → begins_piece b ≡ false → front (b ∷ bs) ≡ bad_byte
nothing_read b bs e =
    let w = or_parts (is_white b) (begins_name b || (is_digit b || (nat_eq b 39 || (nat_eq b 34 || is_mark_in marks b)))) e in
    let n = or_parts (begins_name b) (is_digit b || (nat_eq b 39 || (nat_eq b 34 || is_mark_in marks b))) w.1 in
    let d = or_parts (is_digit b) (nat_eq b 39 || (nat_eq b 34 || is_mark_in marks b)) n.1 in
    let c = or_parts (nat_eq b 39) (nat_eq b 34 || is_mark_in marks b) d.1 in
    let s = or_parts (nat_eq b 34) (is_mark_in marks b) c.1 in
    front_other b bs w.0 n.0 d.0 c.0 s.0
    ∙ ap (λ o. other_front (b ∷ bs) o) (no_comment b bs s.1)
    ∙ ap mark_front (mark_none (λ x. is_mark_in marks x) 0 marks b bs refl s.1)
  where
    no_comment : (b : ℕ) (bs : List ℕ) → is_mark_in marks b ≡ false → begins_comment (b ∷ bs) ≡ None
    no_comment b bs e = ap (λ t. ◌>>=◌ {B = List ℕ} (pick t (Some bs) None) (λ after. eat 42 after)) (ne_eqb b 47 (λ f. (let g : is_mark_in marks b ≡ true = ap (λ x. is_mark_in marks x) f in cc)))

pub byte_read : (rest : List ℕ) → IsBadByte rest → front rest ≡ bad_byte
byte_read [] h = absurd h
byte_read (b ∷ bs) (inl e) = nothing_read b bs e
byte_read (b ∷ bs) (inr x) =
    ap front x.bytes_are ∙ run_read x.run x.after x.digit x.whole x.ends
    ∙ ap (λ o. number_of x.after o) (run_none x.run x.bad (number_at x.run x.digit))

pub large_read : (rest : List ℕ) → IsTooLarge rest → front rest ≡ too_large
large_read rest x = ap front x.bytes_are ∙ number_front_is x.n x.l x.after x.is x.suffix x.ends ∙ large_number (number_value x.n) (is_long x.l) x.after x.large

pub comment_read : (rest : List ℕ) → IsOpenComment rest → front rest ≡ open_comment
comment_read rest x = ap front x.bytes_are ∙ front_comment x.inside ∙ ap comment_front (none (r.comment x.inside) refl)
  where
    none : (o : Option (List ℕ)) → r.comment x.inside ≡ o → r.comment x.inside ≡ None
    none None e = e
    none (Some after) e = let c = comment_at x.inside after e in absurd (x.never c.inside after c.bytes_are)

chr_never : (inside : List ℕ) → ((i : Item) (after : List ℕ) → p.IsItem 39 i (39 ∷ after) → inside ≡ item_bytes i ++ 39 ∷ after → ⊥) → (o : Option (ℕ × List ℕ)) → r.chr inside ≡ o → r.chr inside ≡ None
chr_never inside never None e = e
chr_never inside never (Some x) e = let c = chr_at inside x.0 x.1 e in absurd (never c.i x.1 c.is c.bytes_are)

text_never : (inside : List ℕ) → ((is : List Item) (after : List ℕ) → p.AreItems 34 is (34 ∷ after) → inside ≡ items_bytes is ++ 34 ∷ after → ⊥)
    → (o : Option (List ℕ × List ℕ)) → r.text (length inside + 1) [] inside ≡ o → r.text (length inside + 1) [] inside ≡ None
text_never inside never None e = e
text_never inside never (Some x) e = let c = text_at (length inside + 1) [] inside x.0 x.1 e in absurd (never c.is x.1 c.are c.bytes_are)

pub text_read : (rest : List ℕ) → IsOpenText rest → front rest ≡ open_text
text_read rest (inl x) = ap front x.bytes_are ∙ front_chr x.inside ∙ ap chr_front (chr_never x.inside x.never (r.chr x.inside) refl)
text_read rest (inr x) = ap front x.bytes_are ∙ front_text x.inside ∙ ap text_front (text_never x.inside x.never (r.text (length x.inside + 1) [] x.inside) refl)
