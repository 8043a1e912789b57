-- What stands at a place is the front of the tokens from there on.
use Rattle.std.proofs.Common.{◌≡◌, ◌<◌, ◌≤◌, ℕ, zero, suc, List, [], ◌∷◌, length, map, drop, get_or, Option, Some, None, ap, sym, ◌∙◌, Bor, arith}
use Rattle.std.specs.Option.{IfSome, MatchOption}
use Rattle.std.proofs.Math.Seq.{drop-cons}
use Rattle.std.proofs.Math.ListN.{drop_of_length-le}
use Rattle.std.specs.List.{HoldsAt, drop-map}
use Rattle.std.proofs.lemmas.List.{length-map}
use Rattle.c_lex.specs.declared.Token.{Token}
use Rattle.c_lex.specs.Shown.{token_of, tokens_of}
use Rattle.c_lex.specs.Tokens as k
use Rattle.c_expr.specs.Front.{eat}
use Rattle.c_decl.specs.Answers.{Stands, rest}
use Rattle.c_decl.specs.declared.reader.Reader.{Reader}

pub stands : (r : Reader) (at : ℕ) (xs : List Token) (o : Option (Bor Token)) → xs ≡ r.tokens.now.list.items
    → IfSome o (λ x. x.now ≡ get_or xs at x.now) → MatchOption o (length xs ≤ at) (λ x. (at < length xs) × HoldsAt (λ y. x.now ≡ y) xs at) → Stands o r at
unfolding rest
stands r at xs None same there is = rw (← same) (drop-map token_of at xs ∙ ap (map token_of) (drop_of_length-le xs is))
stands r at xs (Some x) same there is =
    rw (← same) (
      drop-map token_of at xs ∙ ap (map token_of) (drop-cons xs at x.now is.0) ∙ ap (λ y. token_of y ∷ map token_of (drop (suc at) xs)) (sym there) ∙ ap (λ ys. token_of x.now ∷ ys) (sym (drop-map token_of (suc at) xs)),
      rw (length-map xs token_of) (is.0),
    )

below : (m at : ℕ) (ts : List k.Token) (after : List k.Token) → eat m (drop at ts) ≡ Some after → at ≤ length ts
below m zero ts after is = omega arith
below m (suc i) [] after is = cc
below m (suc i) (x ∷ ts) after is = omega (arith, below m i ts after is)

-- A mark that stands at a place is one of the tokens.
pub eaten_within : (r : Reader) (m at : ℕ) (after : List k.Token) → eat m (rest r at) ≡ Some after → at ≤ length (tokens_of r.tokens.now)
unfolding rest
eaten_within r m at after is = below m at (tokens_of r.tokens.now) after is
