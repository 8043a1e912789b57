-- What the front of a text is: its token, if it has one, and the bytes after it, or what is bad there.
use Rattle.std.specs.Prelude.{ℕ, zero, suc, ◌+◌, ◌-◌, ◌*◌, ◌%◌, min, List, [], ◌∷◌, ◌++◌, length, take, drop, Bool, true, false, ◌&&◌, ◌||◌, nat_eq, nat_lt, Option, Some, None}
use Rattle.std.specs.List.{starts_with}
use Rattle.c_type.specs.Names.{pick}
use Rattle.c_lex.specs.Tokens.{Tok, int, word, words, marks}
use Rattle.c_lex.specs.Tokens as t
use Rattle.c_lex.specs.Bytes.{is_white, is_digit, is_octal, is_hexadecimal, begins_name, is_name_byte, is_run_byte, begins, digit_value}
use Rattle.c_lex.specs.Pieces.{escaped, name_or_word, word_from}

infixl 10 ◌>>=◌
abbrev pub ◌>>=◌ : {A B : Type 0} → Option A → (A → Option B) → Option B
None >>= f = None
(Some x) >>= f = f x

-- the byte after this one
abbrev pub eat : ℕ → List ℕ → Option (List ℕ)
eat m [] = None
eat m (b ∷ bs) = pick (nat_eq b m) (Some bs) None

-- the length of the longest beginning of such bytes
abbrev pub run_length : (ℕ → Bool) → List ℕ → ℕ
run_length p [] = 0
run_length p (b ∷ bs) = pick (p b) (run_length p bs + 1) 0

-- the value of an octal digit, and what follows it
abbrev pub octal_digit : List ℕ → Option (ℕ × List ℕ)
octal_digit [] = None
octal_digit (b ∷ bs) = pick (is_octal b) (Some (b - 48, bs)) None

abbrev pub octal_by : (ℕ → List ℕ → ℕ × List ℕ) → ℕ → List ℕ → Option (ℕ × List ℕ) → ℕ × List ℕ
octal_by more v ts None = (v, ts)
octal_by more v ts (Some x) = more ((v * 8 + x.0) % 256) x.1

-- the low byte of at most that many octal digits, after those of a number
unfoldable pub octal_from : ℕ → ℕ → List ℕ → ℕ × List ℕ
octal_from zero v ts = (v, ts)
octal_from (suc k) v ts = octal_by (octal_from k) v ts (octal_digit ts)

-- behind a backslash
unfoldable pub escape : List ℕ → Option (ℕ × List ℕ)
escape [] = None
escape (b ∷ bs) = pick (is_octal b) (Some (octal_from 3 0 (b ∷ bs))) (pick (nat_eq b 10) None (Some (escaped b, bs)))

-- the byte that stands before the closing mark
unfoldable pub item : ℕ → List ℕ → Option (ℕ × List ℕ)
item close [] = None
item close (b ∷ bs) = pick (nat_eq b 92) (escape bs) (pick (nat_eq b 10 || nat_eq b close) None (Some (b, bs)))

-- behind the first mark of a character
unfoldable pub chr : List ℕ → Option (ℕ × List ℕ)
chr ts = item 39 ts >>= λ x. eat 39 x.1 >>= λ after. Some (x.0, after)

abbrev pub text_by : (List ℕ → List ℕ → Option (List ℕ × List ℕ)) → List ℕ → List ℕ → Option (List ℕ) → Option (List ℕ × List ℕ)
text_by more bs ts (Some after) = Some (bs, after)
text_by more bs ts None = item 34 ts >>= λ x. more (bs ++ x.0 ∷ []) x.1

-- behind the first mark of a text, after these bytes of it
unfoldable pub text : ℕ → List ℕ → List ℕ → Option (List ℕ × List ℕ)
text zero bs ts = None
text (suc k) bs ts = text_by (text k) bs ts (eat 34 ts)

-- what follows the first `*/`
abbrev pub comment : List ℕ → Option (List ℕ)
comment [] = None
comment (b ∷ bs) = pick (nat_eq b 42 && begins (λ c. nat_eq c 47) bs) (Some (drop 1 bs)) (comment bs)

-- one more digit of a number, which counts up to 4294967296
abbrev pub more_digits : ℕ → ℕ → ℕ → ℕ
more_digits base n b = min (n * base + digit_value b) 4294967296

abbrev pub is_suffix : ℕ → Bool
is_suffix b = nat_eq b 108 || nat_eq b 76

abbrev pub ended : ℕ → ℕ → List ℕ → Option (ℕ × Bool)
ended n b [] = pick (is_suffix b) (Some (n, true)) None
ended n b (c ∷ cs) = None

-- a digit of base 8, 10 or 16
abbrev pub is_digit_of : ℕ → ℕ → Bool
is_digit_of base b = pick (nat_eq base 8) (is_octal b) (pick (nat_eq base 10) (is_digit b) (is_hexadecimal b))

-- the digits of the base up to the end of the run, where a suffix may stand
abbrev pub digits : ℕ → ℕ → List ℕ → Option (ℕ × Bool)
digits base n [] = Some (n, false)
digits base n (b ∷ bs) = pick (is_digit_of base b) (digits base (more_digits base n b) bs) (ended n b bs)

abbrev pub after_x : List ℕ → Option (ℕ × Bool)
after_x [] = None
after_x (b ∷ bs) = pick (is_hexadecimal b) (digits 16 0 (b ∷ bs)) None

abbrev pub after_zero : List ℕ → Option (ℕ × Bool)
after_zero [] = Some (0, false)
after_zero (b ∷ bs) = pick (nat_eq b 120 || nat_eq b 88) (after_x bs) (digits 8 0 (b ∷ bs))

-- the number of a run of letters and digits
abbrev pub number : List ℕ → Option (ℕ × Bool)
number [] = None
number (b ∷ bs) = pick (nat_eq b 48) (after_zero bs) (digits 10 0 (b ∷ bs))

-- What stands at the front of a text that isn't at its end.
pub data Front : Type 0 where
  found : (token : Option Tok) (after : List ℕ) → Front
  bad_byte : Front
  too_large : Front
  open_comment : Front
  open_text : Front

abbrev pub name_front : ℕ → List ℕ → Front
name_front n ts = found (Some (name_or_word (take n ts) (word_from 0 words (take n ts)))) (drop n ts)

abbrev pub number_of : List ℕ → Option (ℕ × Bool) → Front
number_of after None = bad_byte
number_of after (Some x) = pick (nat_lt x.0 4294967296) (found (Some (int x.0 x.1)) after) too_large

abbrev pub number_front : ℕ → List ℕ → Front
number_front n ts = number_of (drop n ts) (number (take n ts))

abbrev pub chr_front : Option (ℕ × List ℕ) → Front
chr_front None = open_text
chr_front (Some x) = found (Some (t.chr x.0)) x.1

abbrev pub text_front : Option (List ℕ × List ℕ) → Front
text_front None = open_text
text_front (Some x) = found (Some (t.text x.0)) x.1

-- the first of these marks that the bytes begin with, its place counted from k, and what follows it
abbrev pub mark_from : ℕ → List (List ℕ) → List ℕ → Option (ℕ × List ℕ)
mark_from k [] ts = None
mark_from k (m ∷ ms) ts = pick (starts_with nat_eq ts m) (Some (k, drop (length m) ts)) (mark_from (k + 1) ms ts)

abbrev pub mark_front : Option (ℕ × List ℕ) → Front
mark_front None = bad_byte
mark_front (Some x) = found (Some (t.mark x.0)) x.1

abbrev pub comment_front : Option (List ℕ) → Front
comment_front None = open_comment
comment_front (Some after) = found None after

-- `/*` at the front, and what follows it
abbrev pub begins_comment : List ℕ → Option (List ℕ)
begins_comment ts = eat 47 ts >>= λ after. eat 42 after

abbrev pub other_front : List ℕ → Option (List ℕ) → Front
other_front ts (Some inside) = comment_front (comment inside)
other_front ts None = mark_front (mark_from 0 marks ts)

abbrev pub front_by : ℕ → List ℕ → Front
front_by b bs =
    pick (is_white b) (found None bs)
    (pick (begins_name b) (name_front (run_length is_name_byte (b ∷ bs)) (b ∷ bs))
    (pick (is_digit b) (number_front (run_length is_run_byte (b ∷ bs)) (b ∷ bs))
    (pick (nat_eq b 39) (chr_front (chr bs))
    (pick (nat_eq b 34) (text_front (text (length bs + 1) [] bs))
    (other_front (b ∷ bs) (begins_comment (b ∷ bs)))))))

-- the front of a text
unfoldable pub front : List ℕ → Front
front [] = bad_byte
front (b ∷ bs) = front_by b bs
