-- Going along the symbols of a table.
use Rattle.std.proofs.Common.{◌≡◌, ℕ, zero, suc, ◌+◌, ◌-◌, ◌<◌, ◌≤◌, [], ◌∷◌, map, cond, ltb, refl, sym, ap, ◌∙◌, arith}
use Rattle.std.proofs.lemmas.Bool.{lt-ltb, le-ltb}
use Rattle.coff_walk.specs.Walk.{Symtab, record_at, symbol_at, next_of, indexes, symbols_after, records_after}

-- enough steps are enough
enough : (t : Symtab) (k m n : ℕ) → t.count ≤ n + k → t.count ≤ n + m → indexes t k n ≡ indexes t m n
enough t zero zero n a b = refl
enough t zero (suc m) n a b = sym (ap (λ x. cond x (n ∷ indexes t m (next_of t n)) []) (le-ltb n t.count (omega arith)))
enough t (suc k) zero n a b = ap (λ x. cond x (n ∷ indexes t k (next_of t n)) []) (le-ltb n t.count (omega arith))
enough t (suc k) (suc m) n a b =
    ap (λ is. cond (ltb n t.count) (n ∷ is) []) (enough t k m (next_of t n) (omega arith) (omega arith))

next_one : (t : Symtab) (n : ℕ) → n < t.count → indexes t (t.count - n) n ≡ n ∷ indexes t (t.count - next_of t n) (next_of t n)
next_one t n lt =
    let k : t.count - n ≡ suc (t.count - n - 1) = omega arith in
    ap (λ k. indexes t k n) k
    ∙ ap (λ x. cond x (n ∷ indexes t (t.count - n - 1) (next_of t n)) []) (lt-ltb n t.count lt)
    ∙ ap (λ is. n ∷ is) (enough t (t.count - n - 1) (t.count - next_of t n) (next_of t n) (omega arith) (omega arith))

none_left : (t : Symtab) (n : ℕ) → t.count ≤ n → indexes t (t.count - n) n ≡ []
none_left t n le = let k : t.count - n ≡ 0 = omega arith in ap (λ k. indexes t k n) k

pub next_is : (t : Symtab) (n : ℕ) → (symbol_at t n).next ≡ next_of t n
unfolding symbol_at
next_is t n = refl

pub index_is : (t : Symtab) (n : ℕ) → (symbol_at t n).index ≡ n
unfolding symbol_at
index_is t n = refl

pub rises : (t : Symtab) (n : ℕ) → n < (symbol_at t n).next
rises t n = let e = next_is t n in omega (arith, e)

pub first_symbol : (t : Symtab) (n : ℕ) → n < t.count → symbols_after t n ≡ symbol_at t n ∷ symbols_after t (symbol_at t n).next
unfolding symbols_after
first_symbol t n lt =
    ap (map (symbol_at t)) (next_one t n lt)
    ∙ ap (λ m. symbol_at t n ∷ map (symbol_at t) (indexes t (t.count - m) m)) (sym (next_is t n))

pub no_symbol : (t : Symtab) (n : ℕ) → t.count ≤ n → symbols_after t n ≡ []
unfolding symbols_after
no_symbol t n le = ap (map (symbol_at t)) (none_left t n le)

pub first_record : (t : Symtab) (n : ℕ) → n < t.count → records_after t n ≡ record_at t n ∷ records_after t (next_of t n)
unfolding records_after
first_record t n lt = ap (map (record_at t)) (next_one t n lt)

pub no_record : (t : Symtab) (n : ℕ) → t.count ≤ n → records_after t n ≡ []
unfolding records_after
no_record t n le = ap (map (record_at t)) (none_left t n le)
