-- Tests joined by `&&`, and of all elements.
use Rattle.std.proofs.Common.{◌≡◌, ℕ, List, [], ◌∷◌, Bool, true, false, refl}
use Rattle.std.specs.Prelude.{◌&&◌}
use Rattle.std.specs.List.{list_all}
use Rattle.std.proofs.lemmas.Bool.{and_from}

pub and_left : (a b : Bool) → (a && b) ≡ true → a ≡ true
and_left true b h = refl
and_left false b h = h

pub and_right : (a b : Bool) → (a && b) ≡ true → b ≡ true
and_right true b h = h
and_right false b h = absurd cc

pub all_weaker : (p q : ℕ → Bool) → ((c : ℕ) → p c ≡ true → q c ≡ true) → (w : List ℕ) → list_all p w ≡ true → list_all q w ≡ true
all_weaker p q f [] h = refl
all_weaker p q f (c ∷ w) h = and_from (q c) (list_all q w) (f c (and_left (p c) (list_all p w) h)) (all_weaker p q f w (and_right (p c) (list_all p w) h))
