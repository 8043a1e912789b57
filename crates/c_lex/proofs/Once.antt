-- A text is read in one way, up to its end or to what is bad in it.
use Rattle.std.proofs.Common.{◌≡◌, ℕ, zero, suc, ◌+◌, ◌-◌, ◌<◌, ◌≤◌, ◌⊎◌, inl, inr, List, [], ◌∷◌, ◌++◌, length, take, Option, None, Bool, true, false, refl, sym, ap, ◌∙◌, subst, arith}
use Rattle.std.proofs.lemmas.List.{append_cancel_right}
use Rattle.c_lex.specs.Tokens.{Tok, Token}
use Rattle.c_lex.specs.Bytes.{newlines}
use Rattle.c_lex.specs.Pieces.{Piece, piece_bytes, token_of}
use Rattle.c_lex.specs.Falls.{Falls, ArePieces, spelled, tokens_from, line_after, with_token, IsBad, IsBadByte, IsTooLarge, IsOpenComment, IsOpenText}
use Rattle.c_lex.specs.declared.reader.LexErr.{LexErr}
use Rattle.c_lex.specs.declared.reader.LexErr.TheVariants.{BadByte, OpenComment, OpenText, NumberTooLarge, Memory}
use Rattle.c_lex.specs.Reading.{Front, found, bad_byte, too_large, open_comment, open_text, front}
use Rattle.c_lex.specs.Refusals.{Refuses, HasRead}
use Rattle.c_lex.specs.Laws.{IsRefused, FallsOnce, FallsOrBad, BadOnce, FallsAlways}
use Rattle.c_lex.proofs.Fronts.{Holds, front_holds}
use Rattle.c_lex.proofs.Growing.{read_more, none_read, all_read, bad_there, shorter}
use Rattle.c_lex.proofs.Exact.{piece_read, byte_read, large_read, comment_read, text_read}

abbrev is_found : Front → Bool
is_found (found k after) = true
is_found bad_byte = false
is_found too_large = false
is_found open_comment = false
is_found open_text = false

abbrev found_token : Front → Option Tok
found_token (found k after) = k
found_token bad_byte = None
found_token too_large = None
found_token open_comment = None
found_token open_text = None

abbrev found_rest : Front → List ℕ
found_rest (found k after) = after
found_rest bad_byte = []
found_rest too_large = []
found_rest open_comment = []
found_rest open_text = []

-- Two lists of pieces say the same of a text.
record Same (line : ℕ) (ps qs : List Piece) (r s : List ℕ) : Type 0 where
  pub tokens_same : tokens_from line ps ≡ tokens_from line qs
  pub line_same : line_after line ps ≡ line_after line qs
  pub rest_same : r ≡ s

not_both : (x : Piece) (after r : List ℕ) → front (piece_bytes x ++ after) ≡ found (token_of x) after → r ≡ piece_bytes x ++ after → is_found (front r) ≡ false → ⊥
not_both x after r e f g = let h : is_found (front r) ≡ true = ap (λ y. is_found (front y)) f ∙ ap is_found e in cc

same_pieces : (line : ℕ) (ps qs : List Piece) (r s : List ℕ) → ArePieces ps r → ArePieces qs s → spelled ps r ≡ spelled qs s → is_found (front r) ≡ false → is_found (front s) ≡ false → Same line ps qs r s
same_pieces line [] [] r s a b e f g = record { tokens_same = refl; line_same = refl; rest_same = e }
same_pieces line [] (q ∷ qs) r s a b e f g = absurd (not_both q (spelled qs s) r (piece_read q (spelled qs s) b.0) e f)
same_pieces line (p ∷ ps) [] r s a b e f g = absurd (not_both p (spelled ps r) s (piece_read p (spelled ps r) a.0) (sym e) g)
same_pieces line (p ∷ ps) (q ∷ qs) r s a b e f g =
    let x : found (token_of p) (spelled ps r) ≡ found (token_of q) (spelled qs s) = sym (piece_read p (spelled ps r) a.0) ∙ ap front e ∙ piece_read q (spelled qs s) b.0 in
    let token : token_of p ≡ token_of q = ap found_token x in
    let rest : spelled ps r ≡ spelled qs s = ap found_rest x in
    let bytes : piece_bytes p ≡ piece_bytes q = append_cancel_right (piece_bytes p) (piece_bytes q) (spelled qs s) (ap (λ y. piece_bytes p ++ y) (sym rest) ∙ e) in
    let more = same_pieces (line + newlines (piece_bytes p)) ps qs r s a.1 b.1 rest f g in
    record {
      tokens_same = ap (λ ts. with_token line (token_of p) ts) more.tokens_same
          ∙ ap (λ k. with_token line k (tokens_from (line + newlines (piece_bytes p)) qs)) token
          ∙ ap (λ bs. with_token line (token_of q) (tokens_from (line + newlines bs) qs)) bytes;
      line_same = more.line_same ∙ ap (λ bs. line_after (line + newlines bs) qs) bytes;
      rest_same = more.rest_same;
    }

empty_stops : is_found (front []) ≡ false
unfolding front
empty_stops = refl

pub falls_once : FallsOnce
falls_once bytes ts us h k =
    let x = same_pieces 1 h.pieces k.pieces [] [] h.are k.are (sym h.bytes_are ∙ k.bytes_are) empty_stops empty_stops in
    h.tokens_are ∙ x.tokens_same ∙ sym k.tokens_are

-- the refusal for what is bad at the front
abbrev told : Front → ℕ → LexErr
told (found k after) line = Memory
told bad_byte line = BadByte line
told too_large line = NumberTooLarge line
told open_comment line = OpenComment line
told open_text line = OpenText line

-- The text is pieces up to a place where no piece stands, which that refusal names.
record Stopped (bytes : List ℕ) (e : LexErr) : Type 0 where
  pub pieces : List Piece
  pub rest : List ℕ
  pub are : ArePieces pieces rest
  pub bytes_are : bytes ≡ spelled pieces rest
  pub some : rest ≡ [] → ⊥
  pub stops : is_found (front rest) ≡ false
  pub told_is : e ≡ told (front rest) (line_after 1 pieces)

stopped_there : (Bad : List ℕ → Type 0) (x : Front) → is_found x ≡ false → ((rest : List ℕ) → Bad rest → front rest ≡ x) → (Bad [] → ⊥) → (bytes : List ℕ) (line : ℕ) → IsBad Bad bytes line → Stopped bytes (told x line)
stopped_there Bad x stop read some bytes line h = record {
  pieces = h.pieces;
  rest = h.rest;
  are = h.are;
  bytes_are = h.bytes_are;
  some = λ e. some (subst Bad e h.bad);
  stops = ap is_found (read h.rest h.bad) ∙ stop;
  told_is = ap (λ y. told y line) (sym (read h.rest h.bad)) ∙ ap (λ l. told (front h.rest) l) h.line_is;
}

empty_front : front [] ≡ bad_byte
unfolding front
empty_front = refl

not_empty : (x : Front) → (bad_byte ≡ x → ⊥) → front [] ≡ x → ⊥
not_empty x h e = h (sym empty_front ∙ e)

stopped : (e : LexErr) (bytes : List ℕ) → IsRefused e bytes → Stopped bytes e
stopped (BadByte l) bytes h = stopped_there IsBadByte bad_byte refl byte_read (λ b. b) bytes l h.1
stopped (OpenComment l) bytes h = stopped_there IsOpenComment open_comment refl comment_read (λ b. not_empty open_comment (λ f. cc) (comment_read [] b)) bytes l h.1
stopped (OpenText l) bytes h = stopped_there IsOpenText open_text refl text_read (λ b. not_empty open_text (λ f. cc) (text_read [] b)) bytes l h.1
stopped (NumberTooLarge l) bytes h = stopped_there IsTooLarge too_large refl large_read (λ b. not_empty too_large (λ f. cc) (large_read [] b)) bytes l h.1
stopped Memory bytes h = absurd (h.0 refl)

pub falls_or_bad : FallsOrBad
falls_or_bad bytes ts e h k =
    let x = stopped e bytes k in
    x.some (sym (same_pieces 1 h.pieces x.pieces [] x.rest h.are x.are (sym h.bytes_are ∙ x.bytes_are) empty_stops x.stops).rest_same)

pub bad_once : BadOnce
bad_once bytes e f h k =
    let x = stopped e bytes h in
    let y = stopped f bytes k in
    let s = same_pieces 1 x.pieces y.pieces x.rest y.rest x.are y.are (sym x.bytes_are ∙ y.bytes_are) x.stops y.stops in
    x.told_is ∙ ap (λ r. told (front r) (line_after 1 x.pieces)) s.rest_same ∙ ap (λ l. told (front y.rest) l) s.line_same ∙ sym y.told_is

abbrev Ends : List ℕ → Type 0
Ends bytes = ((ts : List Token) × Falls bytes ts) ⊎ ((e : LexErr) × IsRefused e bytes)

refused_there : (e : LexErr) (bytes : List ℕ) → (e ≡ Memory → ⊥) → Refuses e bytes → Ends bytes
refused_there e bytes n h = inr (e, (n, h))

one_more : (bytes rest : List ℕ) (ts : List Token) (line : ℕ) → HasRead bytes ts line rest
    → ((after : List ℕ) (us : List Token) (l : ℕ) → length after < length rest → HasRead bytes us l after → Ends bytes) → (f : Front) → Holds rest f → Ends bytes
one_more bytes rest ts line h more (found k after) x =
    more after (ts ++ with_token line k []) (line + newlines (take (length rest - length after) rest)) (shorter rest after k x) (read_more bytes rest after ts line k h x)
one_more bytes rest ts line h more bad_byte x = refused_there (BadByte line) bytes (λ e. cc) (bad_there IsBadByte bytes rest ts line h x)
one_more bytes rest ts line h more too_large x = refused_there (NumberTooLarge line) bytes (λ e. cc) (bad_there IsTooLarge bytes rest ts line h x)
one_more bytes rest ts line h more open_comment x = refused_there (OpenComment line) bytes (λ e. cc) (bad_there IsOpenComment bytes rest ts line h x)
one_more bytes rest ts line h more open_text x = refused_there (OpenText line) bytes (λ e. cc) (bad_there IsOpenText bytes rest ts line h x)

all_ends : (n : ℕ) (bytes rest : List ℕ) (ts : List Token) (line : ℕ) → length rest ≤ n → HasRead bytes ts line rest → Ends bytes
all_ends n bytes [] ts line le h = inl (ts, all_read bytes [] ts line h refl)
all_ends zero bytes (b ∷ bs) ts line le h = absurd (omega arith)
all_ends (suc n) bytes (b ∷ bs) ts line le h = one_more bytes (b ∷ bs) ts line h (λ after us l lt k. all_ends n bytes after us l (omega arith) k) (front (b ∷ bs)) (front_holds b bs)

pub falls_always : FallsAlways
falls_always bytes = all_ends (length bytes) bytes bytes [] 1 (omega arith) (none_read bytes)
