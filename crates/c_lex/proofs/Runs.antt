-- The longest beginning of bytes of one kind.
use Rattle.std.proofs.Common.{◌≡◌, ℕ, ◌+◌, List, [], ◌∷◌, take, drop, Bool, true, false, refl, add-one}
use Rattle.std.proofs.lemmas.Bool.{and_from}
use Rattle.c_type.specs.Names.{pick}
use Rattle.c_lex.specs.Bytes.{are, begins}
use Rattle.c_lex.specs.Reading.{run_length}

take_by : (p : ℕ → Bool) (b n : ℕ) (bs : List ℕ) (t : Bool) → p b ≡ t → are p (take n bs) ≡ true → are p (take (pick t (n + 1) 0) (b ∷ bs)) ≡ true
take_by p b n bs true e h = rw add-one (and_from (p b) (are p (take n bs)) e h)
take_by p b n bs false e h = refl

pub run_take : (p : ℕ → Bool) (ts : List ℕ) → are p (take (run_length p ts) ts) ≡ true
run_take p [] = refl
run_take p (b ∷ bs) = take_by p b (run_length p bs) bs (p b) refl (run_take p bs)

drop_by : (p : ℕ → Bool) (b n : ℕ) (bs : List ℕ) (t : Bool) → p b ≡ t → begins p (drop n bs) ≡ false → begins p (drop (pick t (n + 1) 0) (b ∷ bs)) ≡ false
drop_by p b n bs true e h = rw add-one h
drop_by p b n bs false e h = e

pub run_drop : (p : ℕ → Bool) (ts : List ℕ) → begins p (drop (run_length p ts) ts) ≡ false
run_drop p [] = refl
run_drop p (b ∷ bs) = drop_by p b (run_length p bs) bs (p b) refl (run_drop p bs)

first_by : (p : ℕ → Bool) (n : ℕ) (bs : List ℕ) (q : ℕ → Bool) (b : ℕ) (t : Bool) → t ≡ true → q b ≡ true → begins q (take (pick t (n + 1) 0) (b ∷ bs)) ≡ true
first_by p n bs q b true e h = rw add-one h
first_by p n bs q b false e h = cc

-- the first byte of the beginning is the first of all
pub run_first : (p q : ℕ → Bool) (b : ℕ) (bs : List ℕ) → p b ≡ true → q b ≡ true → begins q (take (run_length p (b ∷ bs)) (b ∷ bs)) ≡ true
run_first p q b bs e h = first_by p (run_length p bs) bs q b (p b) e h
