-- One piece more of a text.
use Rattle.std.proofs.Common.{◌≡◌, ℕ, zero, suc, ◌+◌, ◌-◌, ◌<◌, ◌≤◌, List, [], ◌∷◌, ◌++◌, length, take, Option, Some, None, Bool, true, refl, sym, ap, ◌∙◌, subst, arith}
use Rattle.std.specs.Prelude.{nat_le, ◌&&◌}
use Rattle.std.proofs.lemmas.Bool.{and_parts, leb-true}
use Rattle.std.proofs.lemmas.List.{length-append, take_at}
use Rattle.c_type.specs.Names.{at_or}
use Rattle.c_lex.specs.Tokens.{Tok, Token, marks}
use Rattle.c_lex.specs.Bytes.{newlines, begins, begins_name, is_between}
use Rattle.c_lex.specs.Pieces.{Piece, white, name, number, comment, text, mark, chr, piece_bytes, IsPiece, token_of, Number, decimal, octal, hexadecimal, number_bytes, suffix_bytes, IsNumber}
use Rattle.c_lex.specs.Falls.{Falls, IsBad, ArePieces, spelled, tokens_from, line_after, with_token}
use Rattle.c_lex.specs.Refusals.{HasRead}
use Rattle.c_lex.proofs.Fronts.{PieceAt}

spelled_push : (ps : List Piece) (p : Piece) (after : List ℕ) → spelled (ps ++ p ∷ []) after ≡ spelled ps (piece_bytes p ++ after)
spelled_push [] p after = refl
spelled_push (q ∷ ps) p after = ap (λ x. piece_bytes q ++ x) (spelled_push ps p after)

are_push : (ps : List Piece) (p : Piece) (after : List ℕ) → ArePieces ps (piece_bytes p ++ after) → IsPiece p after → ArePieces (ps ++ p ∷ []) after
are_push [] p after a h = (h, tt)
are_push (q ∷ ps) p after a h = (subst (λ x. IsPiece q x) (sym (spelled_push ps p after)) a.0, are_push ps p after a.1 h)

with_more : (l : ℕ) (k : Option Tok) (xs ys : List Token) → with_token l k (xs ++ ys) ≡ with_token l k xs ++ ys
with_more l None xs ys = refl
with_more l (Some k) xs ys = refl

tokens_push : (l : ℕ) (ps : List Piece) (p : Piece) → tokens_from l (ps ++ p ∷ []) ≡ tokens_from l ps ++ with_token (line_after l ps) (token_of p) []
tokens_push l [] p = refl
tokens_push l (q ∷ ps) p =
    ap (λ x. with_token l (token_of q) x) (tokens_push (l + newlines (piece_bytes q)) ps p)
    ∙ with_more l (token_of q) (tokens_from (l + newlines (piece_bytes q)) ps) (with_token (line_after (l + newlines (piece_bytes q)) ps) (token_of p) [])

line_push : (l : ℕ) (ps : List Piece) (p : Piece) → line_after l (ps ++ p ∷ []) ≡ line_after l ps + newlines (piece_bytes p)
line_push l [] p = refl
line_push l (q ∷ ps) p = line_push (l + newlines (piece_bytes q)) ps p

front_bytes : (bytes after : List ℕ) (n : ℕ) → n ≡ length (bytes ++ after) - length after → take n (bytes ++ after) ≡ bytes
front_bytes bytes after n e = let l : length (bytes ++ after) ≡ length bytes + length after = length-append bytes after in take_at bytes after n (omega arith)

pub read_more : (bytes rest after : List ℕ) (ts : List Token) (line : ℕ) (k : Option Tok) → HasRead bytes ts line rest → PieceAt rest k after
    → HasRead bytes (ts ++ with_token line k []) (line + newlines (take (length rest - length after) rest)) after
read_more bytes rest after ts line k h x = record {
  pieces = h.pieces ++ x.piece ∷ [];
  are = are_push h.pieces x.piece after (subst (λ y. ArePieces h.pieces y) x.bytes_are h.are) x.is;
  bytes_are = h.bytes_are ∙ ap (λ y. spelled h.pieces y) x.bytes_are ∙ sym (spelled_push h.pieces x.piece after);
  tokens_are = ap (λ y. y ++ with_token line k []) h.tokens_are ∙ ap (λ l. tokens_from 1 h.pieces ++ with_token l k []) h.line_is ∙ ap (λ o. tokens_from 1 h.pieces ++ with_token (line_after 1 h.pieces) o []) x.token_is ∙ sym (tokens_push 1 h.pieces x.piece);
  line_is = ap (λ l. l + newlines (take (length rest - length after) rest)) h.line_is
      ∙ ap (λ y. line_after 1 h.pieces + newlines y) (ap (λ y. take (length rest - length after) y) x.bytes_are ∙ front_bytes (piece_bytes x.piece) after (length rest - length after) (ap (λ y. length y - length after) x.bytes_are))
      ∙ sym (line_push 1 h.pieces x.piece);
}

pub none_read : (bytes : List ℕ) → HasRead bytes [] 1 bytes
none_read bytes = record { pieces = []; are = tt; bytes_are = refl; tokens_are = refl; line_is = refl }

pub all_read : (bytes rest : List ℕ) (ts : List Token) (line : ℕ) → HasRead bytes ts line rest → rest ≡ [] → Falls bytes ts
all_read bytes rest ts line h e = record { pieces = h.pieces; are = subst (λ x. ArePieces h.pieces x) e h.are; bytes_are = h.bytes_are ∙ ap (λ x. spelled h.pieces x) e; tokens_are = h.tokens_are }

pub bad_there : (Bad : List ℕ → Type 0) (bytes rest : List ℕ) (ts : List Token) (line : ℕ) → HasRead bytes ts line rest → Bad rest → IsBad Bad bytes line
bad_there Bad bytes rest ts line h b = record { pieces = h.pieces; rest = rest; are = h.are; bytes_are = h.bytes_are; bad = b; line_is = h.line_is }

begun : (p : ℕ → Bool) (bs : List ℕ) → begins p bs ≡ true → 1 ≤ length bs
begun p [] e = cc
begun p (b ∷ bs) e = omega arith

number_long : (n : Number) → IsNumber n → 1 ≤ length (number_bytes n)
number_long (decimal ds) h = begun (is_between 49 57) ds h.1
number_long (octal ds) h = omega arith
number_long (hexadecimal x ds) h = omega arith

abbrev all_long : List (List ℕ) → Bool
all_long [] = true
all_long (m ∷ ms) = nat_le 1 (length m) && all_long ms

one_long : (ms : List (List ℕ)) (k : ℕ) → all_long ms ≡ true → k < length ms → 1 ≤ length (at_or [] ms k)
one_long [] k e lt = absurd (omega arith)
one_long (m ∷ ms) zero e lt = leb-true 1 (length m) (and_parts (nat_le 1 (length m)) (all_long ms) e).0
one_long (m ∷ ms) (suc k) e lt = one_long ms k (and_parts (nat_le 1 (length m)) (all_long ms) e).1 (omega arith)

piece_long : (p : Piece) (after : List ℕ) → IsPiece p after → 1 ≤ length (piece_bytes p)
piece_long (white b) after h = omega arith
piece_long (comment bs) after h = omega arith
piece_long (name bs) after h = begun begins_name bs h.0
piece_long (number n l) after h = let a : 1 ≤ length (number_bytes n) = number_long n h.0 in let e : length (number_bytes n ++ suffix_bytes l) ≡ length (number_bytes n) + length (suffix_bytes l) = length-append (number_bytes n) (suffix_bytes l) in omega arith
piece_long (chr i) after h = omega arith
piece_long (text is) after h = omega arith
piece_long (mark k) after h = one_long marks k refl h.known

pub shorter : (rest after : List ℕ) (k : Option Tok) → PieceAt rest k after → length after < length rest
shorter rest after k x =
    let a : 1 ≤ length (piece_bytes x.piece) = piece_long x.piece after x.is in
    let e : length rest ≡ length (piece_bytes x.piece ++ after) = ap length x.bytes_are in
    let l : length (piece_bytes x.piece ++ after) ≡ length (piece_bytes x.piece) + length after = length-append (piece_bytes x.piece) after in
    omega arith
