-- What is cut at marks, as the tokens of the definitions.
use Rattle.std.proofs.Common.{◌≡◌, List, [], ◌∷◌, Bool, true, false, cond, Bor, Result, Ok, Err, refl, ap, ◌∙◌}
use Rattle.std.specs.Prelude.{map, IfOk}
use Rattle.std.specs.List.{slice_split, onto_first}
use Rattle.asm_read.specs.declared.token.Token.{Token}
use Rattle.asm_read.specs.Tokens.{Tok}
use Rattle.asm_read.specs.Lex.{shown, all_shown}

onto_shown : (t : Token) (parts : List (List Token)) → map all_shown (onto_first t parts) ≡ onto_first (shown t) (map all_shown parts)
onto_shown t [] = refl
onto_shown t (part ∷ parts) = refl

split_shown : (p : Tok → Bool) (ts : List Token) → map all_shown (slice_split (λ t. p (shown t)) ts) ≡ slice_split p (all_shown ts)
split_shown p [] = refl
split_shown p (t ∷ ts) = by (split_shown p ts) (p (shown t))
  where
    by : map all_shown (slice_split (λ t. p (shown t)) ts) ≡ slice_split p (all_shown ts) → (b : Bool) → map all_shown (cond b ([] ∷ slice_split (λ t. p (shown t)) ts) (onto_first t (slice_split (λ t. p (shown t)) ts))) ≡ cond b ([] ∷ slice_split p (all_shown ts)) (onto_first (shown t) (slice_split p (all_shown ts)))
    by deep true = ap (λ x. [] ∷ x) deep
    by deep false = onto_shown t (slice_split (λ t. p (shown t)) ts) ∙ ap (onto_first (shown t)) deep

map_now : (vs : List (Bor (List Token))) → map (λ x. all_shown x.now) vs ≡ map all_shown (map (λ x. x.now) vs)
map_now [] = refl
map_now (v ∷ vs) = ap (λ x. all_shown v.now ∷ x) (map_now vs)

-- borrowed parts, each by its tokens
pub parts_shown : (p : Tok → Bool) (ts : List Token) (vs : List (Bor (List Token))) → map (λ x. x.now) vs ≡ slice_split (λ t. p (shown t)) ts → map (λ x. all_shown x.now) vs ≡ slice_split p (all_shown ts)
parts_shown p ts vs e = map_now vs ∙ ap (map all_shown) e ∙ split_shown p ts

pub ok_shown : {X E : Type 0} (p : Tok → Bool) (ts : List Token) (now : X → List (Bor (List Token))) (r : Result X E) → IfOk r (λ v. map (λ x. x.now) (now v) ≡ slice_split (λ t. p (shown t)) ts) → IfOk r (λ v. map (λ x. all_shown x.now) (now v) ≡ slice_split p (all_shown ts))
ok_shown p ts now (Ok v) e = parts_shown p ts (now v) e
ok_shown p ts now (Err x) e = tt
