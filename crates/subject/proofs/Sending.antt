-- Bytes on their way to a sink, one piece after the other.
use Rattle.std.proofs.Common.{◌≡◌, ℕ, suc, ◌+◌, List, [], ◌∷◌, ◌++◌, length, take, inl, inr, refl, sym, ap, ◌∙◌, append_assoc, append-nil, arith}
use Rattle.std.specs.Prelude.{Option}
use Rattle.std.specs.Io.KnownBytes.{Appends}
use Rattle.std.proofs.KnownBytes.{Appends-nil, Appends-trans}
use Rattle.std.proofs.lemmas.Bool.{cases_lt}
use Rattle.std.proofs.lemmas.List.{take_all, take-append-le}
use Rattle.subject.specs.Output.{Moves, GainsFront}

-- nothing came, and nothing was sent
pub moves-nil : (a : Option (List ℕ)) (xs : List ℕ) → Moves a a xs xs []
moves-nil a xs = record { sent = []; gained = Appends-nil a; whole = append-nil xs }

-- two pieces came, one behind the other
pub moves-trans : (a b c : Option (List ℕ)) (u v w xs ys : List ℕ) → Moves a b u v xs → Moves b c v w ys → Moves a c u w (xs ++ ys)
moves-trans a b c u v w xs ys p q = record {
  sent = p.sent ++ q.sent;
  gained = Appends-trans a b c p.sent q.sent p.gained q.gained;
  whole = sym (append_assoc u xs ys) ∙ ap (λ l. l ++ ys) p.whole ∙ append_assoc p.sent v ys ∙ ap (λ l. p.sent ++ l) q.whole ∙ sym (append_assoc p.sent q.sent w);
}

-- a front behind a whole is a front
take_behind : (n : ℕ) (xs ys : List ℕ) → take (length xs + n) (xs ++ ys) ≡ xs ++ take n ys
take_behind n [] ys = let e : length {A = ℕ} [] + n ≡ n = omega arith in rw e refl
take_behind n (x ∷ xs) ys =
    let e : length (x ∷ xs) + n ≡ suc (length xs + n) = omega arith in
    rw e (ap (λ l. x ∷ l) (take_behind n xs ys))

-- a front of a front is a front
front_of : (n : ℕ) (xs ys : List ℕ) → (m : ℕ) × (take m (xs ++ ys) ≡ take n xs)
front_of n xs ys =
    elim (cases_lt n (length xs)) [
      | inl h ↦ (n, take-append-le n xs ys (omega arith))
      | inr h ↦ (length xs, take-append-le (length xs) xs ys (omega arith) ∙ take_all (length xs) xs (omega arith) ∙ sym (take_all n xs h))
    ]

pub front_more : (a b : Option (List ℕ)) (xs ys : List ℕ) → GainsFront a b xs → GainsFront a b (xs ++ ys)
front_more a b xs ys f = let m = front_of f.0 xs ys in (m.0, rw (m.1) (f.1))

-- a front of what still waited was sent last
pub moves_front : (a b c : Option (List ℕ)) (u v xs : List ℕ) → Moves a b u v xs → GainsFront b c v → GainsFront a c (u ++ xs)
moves_front a b c u v xs p f =
    (length p.sent + f.0, rw (p.whole) (rw (take_behind f.0 p.sent v) (Appends-trans a b c p.sent (take f.0 v) p.gained f.1)))

-- the same where more was about to come
pub moves_front_more : (a b c : Option (List ℕ)) (u v xs ys : List ℕ) → Moves a b u v xs → GainsFront b c (v ++ ys) → GainsFront a c ((u ++ xs) ++ ys)
moves_front_more a b c u v xs ys p f =
    let whole : (u ++ xs) ++ ys ≡ p.sent ++ (v ++ ys) = ap (λ l. l ++ ys) p.whole ∙ append_assoc p.sent v ys in
    (length p.sent + f.0, rw whole (rw (take_behind f.0 p.sent (v ++ ys)) (Appends-trans a b c p.sent (take f.0 (v ++ ys)) p.gained f.1)))

-- all was sent
pub moved_all : (a b c : Option (List ℕ)) (v w xs : List ℕ) → Moves a b [] v xs → Moves b c v w [] → w ≡ [] → Appends a c xs
moved_all a b c v w xs p q none =
    let whole : xs ≡ p.sent ++ q.sent = p.whole ∙ ap (λ l. p.sent ++ l) (sym (append-nil v) ∙ q.whole ∙ ap (λ l. q.sent ++ l) none ∙ append-nil q.sent) in
    rw whole (Appends-trans a b c p.sent q.sent p.gained q.gained)
