-- Lists that count up from one number to another.
use Rattle.std.proofs.Common.{◌≡◌, ℕ, suc, ◌+◌, List, [], ◌∷◌, ◌++◌, length, sym, subst, arith}
use Rattle.c_run.specs.Numbers.{IsCounted}

-- n, n + 1 and so on, below m
abbrev pub Counts : ℕ → List ℕ → ℕ → Type 0
Counts n [] m = n ≡ m
Counts n (k ∷ ks) m = (k ≡ n) × Counts (suc n) ks m

pub counts_both : (n m l : ℕ) (ks js : List ℕ) → Counts n ks m → Counts m js l → Counts n (ks ++ js) l
counts_both n m l [] js h g = subst (λ i. Counts i js l) (sym h) g
counts_both n m l (k ∷ ks) js h g = (h.0, counts_both (suc n) m l ks js h.1 g)

pub counts_counted : (n m : ℕ) (ks : List ℕ) → Counts n ks m → IsCounted n ks
counts_counted n m [] h = tt
counts_counted n m (k ∷ ks) h = (h.0, counts_counted (suc n) m ks h.1)

pub counts_length : (n m : ℕ) (ks : List ℕ) → Counts n ks m → n + length ks ≡ m
counts_length n m [] h = let q : n ≡ m = h in omega arith
counts_length n m (k ∷ ks) h = let q = counts_length (suc n) m ks h.1 in omega arith
