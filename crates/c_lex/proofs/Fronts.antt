-- What is read at the front of a text is a piece of it, or what is bad there.
use Rattle.std.proofs.Common.{◌≡◌, ℕ, ◌+◌, ◌<◌, ◌≤◌, ◌⊎◌, inl, inr, min, List, [], ◌∷◌, ◌++◌, length, take, drop, Option, Some, None, Bool, true, false, refl, sym, ap, ◌∙◌, subst, arith, append_assoc}
use Rattle.std.specs.Prelude.{nat_eq, nat_lt, ◌||◌}
use Rattle.std.proofs.lemmas.Bool.{eqb-true, ltb-true, ltb-false}
use Rattle.std.proofs.lemmas.List.{take-append-drop}
use Rattle.c_type.specs.Names.{pick}
use Rattle.c_lex.specs.Tokens.{Tok, int, marks}
use Rattle.c_lex.specs.Tokens as t
use Rattle.c_lex.specs.Bytes.{is_white, is_digit, begins_name, is_name_byte, is_run_byte, is_letter, begins, are}
use Rattle.c_lex.specs.Pieces.{Piece, white, name, number, comment, text, mark, piece_bytes, IsPiece, token_of, word_from, name_or_word, number_value, is_long}
use Rattle.c_lex.specs.Pieces as p
use Rattle.c_lex.specs.Falls.{IsBadByte, IsBadRun, IsTooLarge, IsOpenComment, IsOpenText, is_mark_in, begins_piece}
use Rattle.c_lex.specs.Reading as r
use Rattle.c_lex.specs.Reading.{Front, found, bad_byte, too_large, open_comment, open_text, front, run_length, name_front, number_front, number_of, chr_front, text_front, other_front, comment_front, mark_front, mark_from, begins_comment, eat, ◌>>=◌}
use Rattle.c_lex.proofs.Runs.{run_take, run_drop, run_first}
use Rattle.c_lex.proofs.Closed.{chr_at, never_chr, text_at, never_text, comment_at, never_comment, eat_here}
use Rattle.c_lex.proofs.Values.{NumberAt, number_at, number_read, never_number}
use Rattle.c_lex.proofs.Fits.{FirstAt, NoneFits, mark_at, longest_of, no_mark}

-- A piece with that token stands at the front.
pub record PieceAt (ts : List ℕ) (k : Option Tok) (after : List ℕ) : Type 0 where
  pub piece : Piece
  pub is : IsPiece piece after
  pub bytes_are : ts ≡ piece_bytes piece ++ after
  pub token_is : k ≡ token_of piece

abbrev pub Holds : List ℕ → Front → Type 0
Holds ts (found k after) = PieceAt ts k after
Holds ts bad_byte = IsBadByte ts
Holds ts too_large = IsTooLarge ts
Holds ts open_comment = IsOpenComment ts
Holds ts open_text = IsOpenText ts

choose : (ts : List ℕ) (t : Bool) (A B : Front) → (t ≡ true → Holds ts A) → (t ≡ false → Holds ts B) → Holds ts (pick t A B)
choose ts true A B f g = f refl
choose ts false A B f g = g refl

white_at : (b : ℕ) (bs : List ℕ) → is_white b ≡ true → PieceAt (b ∷ bs) None bs
white_at b bs e = record { piece = white b; is = e; bytes_are = refl; token_is = refl }

name_byte : (b : ℕ) → begins_name b ≡ true → is_name_byte b ≡ true
name_byte b e = ap (λ t. t || is_digit b) e

name_at : (b : ℕ) (bs : List ℕ) → begins_name b ≡ true → Holds (b ∷ bs) (name_front (run_length is_name_byte (b ∷ bs)) (b ∷ bs))
name_at b bs e = record {
  piece = name (take (run_length is_name_byte (b ∷ bs)) (b ∷ bs));
  is = (run_first is_name_byte begins_name b bs (name_byte b e) e, run_take is_name_byte (b ∷ bs), run_drop is_name_byte (b ∷ bs));
  bytes_are = sym (take-append-drop (run_length is_name_byte (b ∷ bs)) (b ∷ bs));
  token_is = refl;
}

pub run_byte : (b : ℕ) → is_digit b ≡ true → is_run_byte b ≡ true
run_byte b e = or_second (is_letter b) (is_digit b) e
  where
    or_second : (x y : Bool) → y ≡ true → (x || y) ≡ true
    or_second true y e = refl
    or_second false y e = e

large_at : (ts run after : List ℕ) (x : NumberAt run) → ts ≡ run ++ after → begins is_run_byte after ≡ false → 4294967296 ≤ min (number_value x.n) 4294967296 → IsTooLarge ts
large_at ts run after x e f le = record { n = x.n; l = x.l; after = after; is = x.is; suffix = x.suffix; bytes_are = e ∙ ap (λ y. y ++ after) x.run_is; ends = f; large = omega arith }

small_at : (ts run after : List ℕ) (x : NumberAt run) → ts ≡ run ++ after → begins is_run_byte after ≡ false → min (number_value x.n) 4294967296 < 4294967296 → PieceAt ts (Some (int (min (number_value x.n) 4294967296) (is_long x.l))) after
small_at ts run after x e f lt = record {
  piece = number x.n x.l;
  is = (x.is, x.suffix, f, omega arith);
  bytes_are = e ∙ ap (λ y. y ++ after) x.run_is;
  token_is = (let h : min (number_value x.n) 4294967296 ≡ number_value x.n = omega arith in ap (λ n. Some (int n (is_long x.l))) h);
}

read_number : (ts run after : List ℕ) → ts ≡ run ++ after → begins is_digit run ≡ true → are is_run_byte run ≡ true → begins is_run_byte after ≡ false
    → (IsBadRun ts → IsBadByte ts) → (NumberAt run ⊎ (r.number run ≡ None)) → Holds ts (number_of after (r.number run))
read_number ts run after e d a f bad (inl x) =
    subst (λ o. Holds ts (number_of after o)) (sym (number_read run x))
    (choose ts (nat_lt (min (number_value x.n) 4294967296) 4294967296) (found (Some (int (min (number_value x.n) 4294967296) (is_long x.l))) after) too_large
    (λ q. small_at ts run after x e f (ltb-true (min (number_value x.n) 4294967296) 4294967296 q))
    (λ q. large_at ts run after x e f (ltb-false (min (number_value x.n) 4294967296) 4294967296 q)))
read_number ts run after e d a f bad (inr n) =
    subst (λ o. Holds ts (number_of after o)) (sym n) (bad (record { run = run; after = after; bytes_are = e; digit = d; whole = a; ends = f; bad = never_number run n }))

digit_at : (b : ℕ) (bs : List ℕ) → is_digit b ≡ true → Holds (b ∷ bs) (number_front (run_length is_run_byte (b ∷ bs)) (b ∷ bs))
digit_at b bs e =
    read_number (b ∷ bs) (take (run_length is_run_byte (b ∷ bs)) (b ∷ bs)) (drop (run_length is_run_byte (b ∷ bs)) (b ∷ bs))
    (sym (take-append-drop (run_length is_run_byte (b ∷ bs)) (b ∷ bs))) (run_first is_run_byte is_digit b bs (run_byte b e) e) (run_take is_run_byte (b ∷ bs)) (run_drop is_run_byte (b ∷ bs))
    (λ x. inr x) (number_at (take (run_length is_run_byte (b ∷ bs)) (b ∷ bs)) (run_first is_run_byte is_digit b bs (run_byte b e) e))

read_chr : (bs : List ℕ) (o : Option (ℕ × List ℕ)) → r.chr bs ≡ o → Holds (39 ∷ bs) (chr_front o)
read_chr bs None e = inl (record { inside = bs; bytes_are = refl; never = never_chr bs e })
read_chr bs (Some x) e =
    let c = chr_at bs x.0 x.1 e in
    record { piece = p.chr c.i; is = c.is; bytes_are = ap (λ y. 39 ∷ y) (c.bytes_are ∙ sym (append_assoc (p.item_bytes c.i) (39 ∷ []) x.1)); token_is = ap (λ v. Some (t.chr v)) c.value_is }

read_text : (bs : List ℕ) (o : Option (List ℕ × List ℕ)) → r.text (length bs + 1) [] bs ≡ o → Holds (34 ∷ bs) (text_front o)
read_text bs None e = inr (record { inside = bs; bytes_are = refl; never = never_text bs e })
read_text bs (Some x) e =
    let c = text_at (length bs + 1) [] bs x.0 x.1 e in
    record { piece = text c.is; is = c.are; bytes_are = ap (λ y. 34 ∷ y) (c.bytes_are ∙ sym (append_assoc (p.items_bytes c.is) (34 ∷ []) x.1)); token_is = ap (λ v. Some (t.text v)) c.values_are }

read_comment : (inside : List ℕ) (o : Option (List ℕ)) → r.comment inside ≡ o → Holds (47 ∷ 42 ∷ inside) (comment_front o)
read_comment inside None e = record { inside = inside; bytes_are = refl; never = never_comment inside e }
read_comment inside (Some after) e =
    let c = comment_at inside after e in
    record { piece = comment c.inside; is = c.open_is; bytes_are = ap (λ y. 47 ∷ 42 ∷ y) (c.bytes_are ∙ sym (append_assoc c.inside (42 ∷ 47 ∷ []) after)); token_is = refl }

read_mark : (ts : List ℕ) → begins_comment ts ≡ None → (NoneFits marks ts → IsBadByte ts) → (FirstAt 0 marks ts ⊎ ((mark_from 0 marks ts ≡ None) × NoneFits marks ts)) → Holds ts (mark_front (mark_from 0 marks ts))
read_mark ts e bad (inl x) =
    subst (λ o. Holds ts (mark_front o)) (sym x.read)
    (record { piece = mark x.i; is = longest_of ts x.i x.after x.first e; bytes_are = x.first.bytes_are; token_is = (let h : 0 + x.i ≡ x.i = omega arith in ap (λ n. Some (t.mark n)) h) })
read_mark ts e bad (inr n) = subst (λ o. Holds ts (mark_front o)) (sym n.0) (bad n.1)

pub comment_here : (ts inside : List ℕ) → begins_comment ts ≡ Some inside → ts ≡ 47 ∷ 42 ∷ inside
comment_here ts inside e = here (eat 47 ts) refl e
  where
    here : (o : Option (List ℕ)) → eat 47 ts ≡ o → ◌>>=◌ {B = List ℕ} o (λ after. eat 42 after) ≡ Some inside → ts ≡ 47 ∷ 42 ∷ inside
    here None f g = cc
    here (Some after) f g = eat_here 47 ts after f ∙ ap (λ y. 47 ∷ y) (eat_here 42 after inside g)

read_other : (ts : List ℕ) (o : Option (List ℕ)) → begins_comment ts ≡ o → (NoneFits marks ts → IsBadByte ts) → Holds ts (other_front ts o)
read_other ts None e bad = read_mark ts e bad (mark_at ts)
read_other ts (Some inside) e bad = subst (λ x. Holds x (comment_front (r.comment inside))) (sym (comment_here ts inside e)) (read_comment inside (r.comment inside) refl)

nothing_begins : (b : ℕ) → is_white b ≡ false → begins_name b ≡ false → is_digit b ≡ false → nat_eq b 39 ≡ false → nat_eq b 34 ≡ false → is_mark_in marks b ≡ false → begins_piece b ≡ false
nothing_begins b w n d c s m =
    ap (λ x. x || (begins_name b || (is_digit b || (nat_eq b 39 || (nat_eq b 34 || is_mark_in marks b))))) w
    ∙ ap (λ x. x || (is_digit b || (nat_eq b 39 || (nat_eq b 34 || is_mark_in marks b)))) n
    ∙ ap (λ x. x || (nat_eq b 39 || (nat_eq b 34 || is_mark_in marks b))) d
    ∙ ap (λ x. x || (nat_eq b 34 || is_mark_in marks b)) c
    ∙ ap (λ x. x || is_mark_in marks b) s
    ∙ m

-- the front of a text that isn't at its end
pub front_holds : (b : ℕ) (bs : List ℕ) → Holds (b ∷ bs) (front (b ∷ bs))
unfolding front
front_holds b bs =
    choose (b ∷ bs) (is_white b) (found None bs) _ (λ w. white_at b bs w) (λ w.
    choose (b ∷ bs) (begins_name b) (name_front (run_length is_name_byte (b ∷ bs)) (b ∷ bs)) _ (λ n. name_at b bs n) (λ n.
    choose (b ∷ bs) (is_digit b) (number_front (run_length is_run_byte (b ∷ bs)) (b ∷ bs)) _ (λ d. digit_at b bs d) (λ d.
    choose (b ∷ bs) (nat_eq b 39) (chr_front (r.chr bs)) _ (λ c. subst (λ x. Holds (x ∷ bs) (chr_front (r.chr bs))) (sym (eqb-true b 39 c)) (read_chr bs (r.chr bs) refl)) (λ c.
    choose (b ∷ bs) (nat_eq b 34) (text_front (r.text (length bs + 1) [] bs)) _ (λ s. subst (λ x. Holds (x ∷ bs) (text_front (r.text (length bs + 1) [] bs))) (sym (eqb-true b 34 s)) (read_text bs (r.text (length bs + 1) [] bs) refl)) (λ s.
    read_other (b ∷ bs) (begins_comment (b ∷ bs)) refl (λ m. inl (nothing_begins b w n d c s (no_mark b bs m))))))))
