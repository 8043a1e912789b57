-- A text has at most one line more than bytes.
use Rattle.std.proofs.Common.{ℕ, ◌+◌, ◌≤◌, List, [], ◌∷◌, length, Bool, true, false, cond, arith}
use Rattle.std.specs.List.{slice_split, onto_first}

onto_length : (x : ℕ) (parts : List (List ℕ)) → length (onto_first x parts) ≤ length parts + 1
onto_length x [] = omega arith
onto_length x (part ∷ parts) = omega arith

pub few_parts : (p : ℕ → Bool) (xs : List ℕ) → length (slice_split p xs) ≤ length xs + 1
few_parts p [] = omega arith
few_parts p (x ∷ xs) = by (few_parts p xs) (p x)
  where
    by : length (slice_split p xs) ≤ length xs + 1 → (b : Bool) → length (cond b ([] ∷ slice_split p xs) (onto_first x (slice_split p xs))) ≤ length (x ∷ xs) + 1
    by h true = omega (arith, h)
    by h false = let a = onto_length x (slice_split p xs) in omega (arith, a, h)
