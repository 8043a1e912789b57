-- A text has at least as many bytes as tokens.
use Rattle.std.proofs.Common.{ℕ, suc, ◌+◌, ◌≤◌, List, [], ◌∷◌, ◌++◌, length, refl, ap, arith}
use Rattle.std.specs.Prelude.{Option, Some, None}
use Rattle.c_lex.specs.Tokens.{Token, Tok}
use Rattle.c_lex.specs.Pieces.{Piece, piece_bytes, token_of}
use Rattle.c_lex.specs.Falls.{Falls, ArePieces, spelled, tokens_from, with_token}
use Rattle.c_lex.specs.Bytes.{newlines}
use Rattle.c_lex.proofs.Growing.{shorter}

piece_tokens : (l : ℕ) (o : Option Tok) (ts : List Token) → length (with_token l o ts) ≤ suc (length ts)
piece_tokens l None ts = omega arith
piece_tokens l (Some x) ts = omega arith

tokens_short : (l : ℕ) (ps : List Piece) → ArePieces ps [] → length (tokens_from l ps) ≤ length (spelled ps [])
tokens_short l [] are = omega arith
tokens_short l (p ∷ ps) are =
    let rest = tokens_short (l + newlines (piece_bytes p)) ps are.1 in
    let one = piece_tokens l (token_of p) (tokens_from (l + newlines (piece_bytes p)) ps) in
    let more = shorter (piece_bytes p ++ spelled ps []) (spelled ps []) (token_of p) (record { piece = p; is = are.0; bytes_are = refl; token_is = refl }) in
    omega arith

pub falls_short : (text : List ℕ) (ts : List Token) → Falls text ts → length ts ≤ length text
falls_short text ts f =
    let short = tokens_short 1 f.pieces f.are in
    omega (arith, short, ap length f.bytes_are, ap length f.tokens_are)
