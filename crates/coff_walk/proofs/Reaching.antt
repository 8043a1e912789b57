-- What the walk from a symbol comes to.
use Rattle.std.proofs.Common.{◌≡◌, ℕ, zero, suc, ◌+◌, ◌-◌, ◌<◌, ◌≤◌, List, [], ◌∷◌, map, Bool, true, false, cond, ltb, Some, None, refl, sym, ap, subst, ◌∙◌, arith, eq-eqb, length, get_or, ◌++◌, ◌⊎◌, inl, inr}
use Rattle.std.proofs.lemmas.Bool.{ltb-true}
use Rattle.std.specs.Prelude.{nat_eq, is_some}
use Rattle.coff_rec.specs.Symbols.{Symbol}
use Rattle.coff_rec.specs.declared.records.SymRec.{SymRec}
use Rattle.coff_walk.specs.Walk.{Symtab, record_at, symbol_at, next_of, indexes, symbols_after, found_if, find_symbol, is_index, IsReached}
use Rattle.coff_walk.proofs.Walk.{first_symbol, index_is, next_is}

other : (n m : ℕ) → (m ≡ n → ⊥) → nat_eq m n ≡ false
other n m ne = grind arith

pub passes : (t : Symtab) (n m : ℕ) → m < n → m < t.count → is_index n (symbols_after t m) ≡ is_index n (symbols_after t (symbol_at t m).next)
passes t n m lt inside =
    ap (is_index n) (first_symbol t m inside)
    ∙ ap (λ b. is_some (found_if b (symbol_at t m) (find_symbol n (symbols_after t (symbol_at t m).next))))
    (ap (λ k. nat_eq k n) (index_is t m) ∙ other n m (omega arith))

pub begins : (t : Symtab) → IsReached t 0
unfolding IsReached
begins t n le = refl

pub reaches : (t : Symtab) (m : ℕ) → m < t.count → IsReached t m → IsReached t (next_of t m)
unfolding IsReached
reaches t m inside r n le =
    let a : m < n = omega arith in
    let b : m ≤ n = omega arith in
    ap (λ k. is_index n (symbols_after t k)) (sym (next_is t m)) ∙ sym (passes t n m a inside) ∙ r n b

pub at_reached : (t : Symtab) (m n : ℕ) → IsReached t m → m ≤ n → is_index n (symbols_after t m) ≡ is_index n (symbols_after t 0)
unfolding IsReached
at_reached t m n r le = r n le

-- a symbol is found at its index
pub found : (t : Symtab) (n : ℕ) → n < t.count → find_symbol n (symbols_after t n) ≡ Some (symbol_at t n)
found t n inside =
    ap (find_symbol n) (first_symbol t n inside)
    ∙ ap (λ b. found_if b (symbol_at t n) (find_symbol n (symbols_after t (symbol_at t n).next)))
    (ap (λ k. nat_eq k n) (index_is t n) ∙ eq-eqb n n refl)

-- no symbol behind stands at an earlier index
none_among : (t : Symtab) (k n m : ℕ) → n < m → find_symbol n (map (symbol_at t) (indexes t k m)) ≡ None
none_among t zero n m lt = refl
none_among t (suc k) n m lt =
    let rest = none_among t k n (next_of t m) (omega arith) in
    by (ltb m t.count) rest
  where
    by : (b : Bool) → find_symbol n (map (symbol_at t) (indexes t k (next_of t m))) ≡ None → find_symbol n (map (symbol_at t) (cond b (m ∷ indexes t k (next_of t m)) [])) ≡ None
    by false rest = refl
    by true rest =
        ap (λ b. found_if b (symbol_at t m) (find_symbol n (map (symbol_at t) (indexes t k (next_of t m)))))
        (ap (λ k. nat_eq k n) (index_is t m) ∙ other n m (omega arith))
        ∙ rest

pub none_before : (t : Symtab) (n m : ℕ) → n < m → find_symbol n (symbols_after t m) ≡ None
unfolding symbols_after
none_before t n m lt = none_among t (t.count - m) n m lt

some_is : (x y : Symbol) → Some x ≡ Some y → y ≡ x
some_is x y e = cc

equal_of : (m n : ℕ) → nat_eq m n ≡ true → m ≡ n
equal_of m n e = grind arith

-- every symbol is that of its index
pub is_at : (t : Symtab) (k n m : ℕ) (s : Symbol) → find_symbol n (map (symbol_at t) (indexes t k m)) ≡ Some s → s ≡ symbol_at t n
is_at t zero n m s e = absurd cc
is_at t (suc k) n m s e = by (λ e. is_at t k n (next_of t m) s e) (ltb m t.count) e
  where
    hit : (find_symbol n (map (symbol_at t) (indexes t k (next_of t m))) ≡ Some s → s ≡ symbol_at t n) → (b : Bool) → nat_eq (symbol_at t m).index n ≡ b
        → found_if b (symbol_at t m) (find_symbol n (map (symbol_at t) (indexes t k (next_of t m)))) ≡ Some s → s ≡ symbol_at t n
    hit rest false is e = rest e
    hit rest true is e = let same : m ≡ n = equal_of m n (ap (λ k. nat_eq k n) (sym (index_is t m)) ∙ is) in some_is (symbol_at t m) s e ∙ ap (symbol_at t) same

    by : (find_symbol n (map (symbol_at t) (indexes t k (next_of t m))) ≡ Some s → s ≡ symbol_at t n) → (b : Bool)
        → find_symbol n (map (symbol_at t) (cond b (m ∷ indexes t k (next_of t m)) [])) ≡ Some s → s ≡ symbol_at t n
    by rest false e = absurd cc
    by rest true e = hit rest (nat_eq (symbol_at t m).index n) refl e

-- one more mark, or none
pub marked : (t : Symtab) (old new : List ℕ) (n : ℕ) → IsReached t n → ((k : ℕ) → k < length old → IsReached t (get_or old k 0)) → (new ≡ old) ⊎ (new ≡ old ++ n ∷ [])
    → (k : ℕ) → k < length new → IsReached t (get_or new k 0)
marked t old new n here all (inl e) = subst (λ l. (k : ℕ) → k < length l → IsReached t (get_or l k 0)) (sym e) all
marked t old new n here all (inr e) = subst (λ l. (k : ℕ) → k < length l → IsReached t (get_or l k 0)) (sym e) (more old all)
  where
    more : (l : List ℕ) → ((k : ℕ) → k < length l → IsReached t (get_or l k 0)) → (k : ℕ) → k < length (l ++ n ∷ []) → IsReached t (get_or (l ++ n ∷ []) k 0)
    more [] all zero lt = here
    more [] all (suc k) lt = absurd (omega arith)
    more (x ∷ l) all zero lt = all 0 (omega arith)
    more (x ∷ l) all (suc k) lt = more l (λ k lt. all (suc k) (omega (arith, lt))) k (omega (arith, lt))

-- ---- one step of a walk towards an index

pub stepped : (t : Symtab) (m : ℕ) (r : SymRec) → r ≡ record_at t m → m + (1 + r.n_numaux) ≡ next_of t m
stepped t m r e = ap (λ (r : SymRec). m + (1 + r.n_numaux)) e ∙ omega arith

pub nearer : (t : Symtab) (n m : ℕ) (r : SymRec) (total : Bool) → r ≡ record_at t m → m < n → n < t.count
    → is_index n (symbols_after t m) ≡ total → is_index n (symbols_after t (m + (1 + r.n_numaux))) ≡ total
nearer t n m r total e lt inside so_far =
    ap (λ k. is_index n (symbols_after t k)) (stepped t m r e ∙ sym (next_is t m)) ∙ sym (passes t n m lt (omega arith)) ∙ so_far

pub arrived : (t : Symtab) (n m : ℕ) (total : Bool) → n ≤ m → n < t.count → is_index n (symbols_after t m) ≡ total → nat_eq m n ≡ total
arrived t n m total le inside so_far = by (nat_eq m n) refl
  where
    here : nat_eq m n ≡ true → true ≡ total
    here e = let same : m ≡ n = equal_of m n e in sym (ap is_some (found t n inside)) ∙ sym (ap (λ k. is_index n (symbols_after t k)) same) ∙ so_far

    past : nat_eq m n ≡ false → n < m
    past e = grind arith

    by : (b : Bool) → nat_eq m n ≡ b → nat_eq m n ≡ total
    by true e = e ∙ here e
    by false e = e ∙ sym (ap is_some (none_before t n m (past e))) ∙ so_far

none_of : (t : Symtab) (k n m : ℕ) → t.count ≤ n → find_symbol n (map (symbol_at t) (indexes t k m)) ≡ None
none_of t zero n m le = refl
none_of t (suc k) n m le = by (ltb m t.count) refl (none_of t k n (next_of t m) le)
  where
    by : (b : Bool) → ltb m t.count ≡ b → find_symbol n (map (symbol_at t) (indexes t k (next_of t m))) ≡ None → find_symbol n (map (symbol_at t) (cond b (m ∷ indexes t k (next_of t m)) [])) ≡ None
    by false e rest = refl
    by true e rest =
        let lt : m < t.count = ltb-true m t.count e in
        ap (λ b. found_if b (symbol_at t m) (find_symbol n (map (symbol_at t) (indexes t k (next_of t m)))))
        (ap (λ k. nat_eq k n) (index_is t m) ∙ other n m (omega arith))
        ∙ rest

pub behind_all : (t : Symtab) (n : ℕ) → t.count ≤ n → false ≡ is_index n (symbols_after t 0)
unfolding symbols_after
behind_all t n le = sym (ap is_some (none_of t (t.count - 0) n 0 le))
