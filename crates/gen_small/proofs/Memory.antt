-- What memory tells after a write.
use Rattle.std.proofs.Common.{◌≡◌, ℕ, zero, suc, ◌+◌, ◌-◌, ◌*◌, ◌/◌, ◌%◌, ◌<◌, ◌≤◌, ◌≢◌, ◌⊎◌, inl, inr, List, [], ◌∷◌, Bool, true, false, Option, Some, None, length, refl, sym, ap, ◌∙◌, subst, arith}
use Rattle.std.specs.Prelude.{nat_lt, nat_le, if◌then◌else◌, slice_get, slice_set, ◌&&◌}
use Rattle.std.proofs.lemmas.Bool.{ltb-true, ltb-false, lt-ltb}
use Rattle.mach_mem.specs.Addresses.{text_start, statics_start, stack_start, stack_end, stack_room}
use Rattle.mach_mem.specs.Space.{Space, byte_at, is_writable, with_byte, is_writable4, with_number, number_at, number_of}
use Rattle.gen_small.specs.Spelled.{bytes, Tells}
use Rattle.gen_small.specs.Agree.{CanWrite}

get_set_same : (xs : List ℕ) (i v : ℕ) → i < length xs → slice_get (slice_set xs i v) i ≡ Some v
get_set_same [] i v h = absurd (omega arith)
get_set_same (x ∷ xs) zero v h = refl
get_set_same (x ∷ xs) (suc i) v h = get_set_same xs i v (omega arith)

get_set_other : (xs : List ℕ) (i j v : ℕ) → j ≢ i → slice_get (slice_set xs i v) j ≡ slice_get xs j
get_set_other [] i j v h = refl
get_set_other (x ∷ xs) zero zero v h = absurd (h refl)
get_set_other (x ∷ xs) zero (suc j) v h = refl
get_set_other (x ∷ xs) (suc i) zero v h = refl
get_set_other (x ∷ xs) (suc i) (suc j) v h = get_set_other xs i j v (omega arith)

length_set : (xs : List ℕ) (i v : ℕ) → length (slice_set xs i v) ≡ length xs
length_set [] i v = refl
length_set (x ∷ xs) zero v = refl
length_set (x ∷ xs) (suc i) v = ap suc (length_set xs i v)

-- an address as a region and a distance from its beginning
data Region : Type 0 where
  Nowhere : Region
  InText : (i : ℕ) → Region
  InStatics : (i : ℕ) → Region
  InStack : (i : ℕ) → Region

region : ℕ → Region
region a = if nat_le stack_end a then Nowhere else if nat_le stack_start a then InStack (a - stack_start) else if nat_le statics_start a then InStatics (a - statics_start) else if nat_le text_start a then InText (a - text_start) else Nowhere

abbrev tell_in : Space → Region → Option ℕ
tell_in m Nowhere = None
tell_in m (InText i) = slice_get m.text i
tell_in m (InStatics i) = slice_get m.statics i
tell_in m (InStack i) = slice_get m.stack i

abbrev can_put : Space → Region → Bool
can_put m Nowhere = false
can_put m (InText i) = false
can_put m (InStatics i) = nat_lt i (length m.statics)
can_put m (InStack i) = nat_lt i (length m.stack)

abbrev put_in : Space → Region → ℕ → Space
put_in m Nowhere v = m
put_in m (InText i) v = m
put_in m (InStatics i) v = record { text = m.text; statics = slice_set m.statics i v; stack = m.stack }
put_in m (InStack i) v = record { text = m.text; statics = m.statics; stack = slice_set m.stack i v }

tell_region : (m : Space) (a : ℕ) → byte_at m a ≡ tell_in m (region a)
unfolding region
tell_region m a = go (nat_le stack_end a) (nat_le stack_start a) (nat_le statics_start a) (nat_le text_start a)
  where
    go : (b1 b2 b3 b4 : Bool) → (if b1 then None else if b2 then slice_get m.stack (a - stack_start) else if b3 then slice_get m.statics (a - statics_start) else if b4 then slice_get m.text (a - text_start) else None) ≡ tell_in m (if b1 then Nowhere else if b2 then InStack (a - stack_start) else if b3 then InStatics (a - statics_start) else if b4 then InText (a - text_start) else Nowhere)
    go true b2 b3 b4 = refl
    go false true b3 b4 = refl
    go false false true b4 = refl
    go false false false true = refl
    go false false false false = refl

can_region : (m : Space) (a : ℕ) → is_writable m a ≡ can_put m (region a)
unfolding region
can_region m a = go (nat_le stack_end a) (nat_le stack_start a) (nat_le statics_start a) (nat_le text_start a)
  where
    go : (b1 b2 b3 b4 : Bool) → (if b1 then false else if b2 then nat_lt (a - stack_start) (length m.stack) else if b3 then nat_lt (a - statics_start) (length m.statics) else false) ≡ can_put m (if b1 then Nowhere else if b2 then InStack (a - stack_start) else if b3 then InStatics (a - statics_start) else if b4 then InText (a - text_start) else Nowhere)
    go true b2 b3 b4 = refl
    go false true b3 b4 = refl
    go false false true b4 = refl
    go false false false true = refl
    go false false false false = refl

put_region : (m : Space) (a v : ℕ) → with_byte m a v ≡ put_in m (region a) v
unfolding region
put_region m a v = go (nat_le stack_end a) (nat_le stack_start a) (nat_le statics_start a) (nat_le text_start a)
  where
    go : (b1 b2 b3 b4 : Bool) → (if b1 then m else if b2 then record { text = m.text; statics = m.statics; stack = slice_set m.stack (a - stack_start) v } else if b3 then record { text = m.text; statics = slice_set m.statics (a - statics_start) v; stack = m.stack } else m) ≡ put_in m (if b1 then Nowhere else if b2 then InStack (a - stack_start) else if b3 then InStatics (a - statics_start) else if b4 then InText (a - text_start) else Nowhere) v
    go true b2 b3 b4 = refl
    go false true b3 b4 = refl
    go false false true b4 = refl
    go false false false true = refl
    go false false false false = refl

-- a region knows its address
abbrev At : Region → ℕ → Type 0
At Nowhere a = (a < text_start) ⊎ (stack_end ≤ a)
At (InText i) a = (a ≡ text_start + i) × (a < statics_start)
At (InStatics i) a = (a ≡ statics_start + i) × (a < stack_start)
At (InStack i) a = (a ≡ stack_start + i) × (a < stack_end)

region_at : (a : ℕ) → At (region a) a
unfolding region
region_at a = one (nat_le stack_end a) refl
  where
    four : (b : Bool) → nat_le text_start a ≡ b → a < statics_start → At (if b then InText (a - text_start) else Nowhere) a
    four true e h = let l = ltb-true _ _ e in (omega arith, h)
    four false e h = let l = ltb-false _ _ e in inl (omega arith)

    three : (b : Bool) → nat_le statics_start a ≡ b → a < stack_start → At (if b then InStatics (a - statics_start) else if nat_le text_start a then InText (a - text_start) else Nowhere) a
    three true e h = let l = ltb-true _ _ e in (omega arith, h)
    three false e h = let l = ltb-false _ _ e in four (nat_le text_start a) refl (omega arith)

    two : (b : Bool) → nat_le stack_start a ≡ b → a < stack_end → At (if b then InStack (a - stack_start) else if nat_le statics_start a then InStatics (a - statics_start) else if nat_le text_start a then InText (a - text_start) else Nowhere) a
    two true e h = let l = ltb-true _ _ e in (omega arith, h)
    two false e h = let l = ltb-false _ _ e in three (nat_le statics_start a) refl (omega arith)

    one : (b : Bool) → nat_le stack_end a ≡ b → At (if b then Nowhere else if nat_le stack_start a then InStack (a - stack_start) else if nat_le statics_start a then InStatics (a - statics_start) else if nat_le text_start a then InText (a - text_start) else Nowhere) a
    one true e = let l = ltb-true _ _ e in inr (omega arith)
    one false e = let l = ltb-false _ _ e in two (nat_le stack_start a) refl (omega arith)

put_same : (m : Space) (r : Region) (v : ℕ) → can_put m r ≡ true → tell_in (put_in m r v) r ≡ Some v
put_same m Nowhere v e = absurd (cc)
put_same m (InText i) v e = absurd (cc)
put_same m (InStatics i) v e = get_set_same m.statics i v (ltb-true _ _ e)
put_same m (InStack i) v e = get_set_same m.stack i v (ltb-true _ _ e)

put_other : (m : Space) (r q : Region) (a b v : ℕ) → At r a → At q b → b ≢ a → tell_in (put_in m r v) q ≡ tell_in m q
put_other m Nowhere q a b v ra qb ne = refl
put_other m (InText i) q a b v ra qb ne = refl
put_other m (InStatics i) Nowhere a b v ra qb ne = refl
put_other m (InStatics i) (InText j) a b v ra qb ne = refl
put_other m (InStatics i) (InStack j) a b v ra qb ne = refl
put_other m (InStatics i) (InStatics j) a b v ra qb ne = get_set_other m.statics i j v (omega (arith, ra.0, qb.0))
put_other m (InStack i) Nowhere a b v ra qb ne = refl
put_other m (InStack i) (InText j) a b v ra qb ne = refl
put_other m (InStack i) (InStatics j) a b v ra qb ne = refl
put_other m (InStack i) (InStack j) a b v ra qb ne = get_set_other m.stack i j v (omega (arith, ra.0, qb.0))

-- what a write leaves of a memory's shape
pub record Shaped (m m' : Space) : Type 0 where
  pub text : m'.text ≡ m.text
  pub stack : length m'.stack ≡ length m.stack
  pub statics : length m'.statics ≡ length m.statics

pub shaped_on : (m m1 m2 : Space) → Shaped m m1 → Shaped m1 m2 → Shaped m m2
shaped_on m m1 m2 a b = record { text = b.text ∙ a.text; stack = b.stack ∙ a.stack; statics = b.statics ∙ a.statics }

put_shaped : (m : Space) (r : Region) (v : ℕ) → Shaped m (put_in m r v)
put_shaped m Nowhere v = record { text = refl; stack = refl; statics = refl }
put_shaped m (InText i) v = record { text = refl; stack = refl; statics = refl }
put_shaped m (InStatics i) v = record { text = refl; stack = refl; statics = length_set m.statics i v }
put_shaped m (InStack i) v = record { text = refl; stack = length_set m.stack i v; statics = refl }

pub byte_same : (m : Space) (a v : ℕ) → is_writable m a ≡ true → byte_at (with_byte m a v) a ≡ Some v
byte_same m a v e =
    ap (λ (w : Space). byte_at w a) (put_region m a v)
    ∙ tell_region (put_in m (region a) v) a
    ∙ put_same m (region a) v (sym (can_region m a) ∙ e)

pub byte_other : (m : Space) (a b v : ℕ) → b ≢ a → byte_at (with_byte m a v) b ≡ byte_at m b
byte_other m a b v ne =
    ap (λ (w : Space). byte_at w b) (put_region m a v)
    ∙ tell_region (put_in m (region a) v) b
    ∙ put_other m (region a) (region b) a b v (region_at a) (region_at b) ne
    ∙ sym (tell_region m b)

pub byte_shaped : (m : Space) (a v : ℕ) → Shaped m (with_byte m a v)
byte_shaped m a v = subst (λ w. Shaped m w) (sym (put_region m a v)) (put_shaped m (region a) v)

-- what can be written stays so
can_shaped : (m m' : Space) (r : Region) → Shaped m m' → can_put m' r ≡ can_put m r
can_shaped m m' Nowhere s = refl
can_shaped m m' (InText i) s = refl
can_shaped m m' (InStatics i) s = ap (nat_lt i) s.statics
can_shaped m m' (InStack i) s = ap (nat_lt i) s.stack

pub writable_shaped : (m m' : Space) (a : ℕ) → Shaped m m' → is_writable m' a ≡ is_writable m a
writable_shaped m m' a s = can_region m' a ∙ can_shaped m m' (region a) s ∙ sym (can_region m a)

-- what a write of bytes from an address on did
pub record Wrote (m : Space) (a : ℕ) (bs : List ℕ) (m' : Space) : Type 0 where
  pub tells : Tells (byte_at m') a bs
  pub below : (b : ℕ) → b < a → byte_at m' b ≡ byte_at m b
  pub above : (b : ℕ) → a + length bs ≤ b → byte_at m' b ≡ byte_at m b
  pub shaped : Shaped m m'

-- bytes one after the other
abbrev pub puts : Space → ℕ → List ℕ → Space
puts m a [] = m
puts m a (b ∷ bs) = puts (with_byte m a b) (suc a) bs

pub can_write_shaped : (n : ℕ) (m m' : Space) (a : ℕ) → Shaped m m' → CanWrite m a n → CanWrite m' a n
can_write_shaped zero m m' a s h = tt
can_write_shaped (suc n) m m' a s h = (writable_shaped m m' a s ∙ h.0, can_write_shaped n m m' (suc a) s h.1)

pub puts_wrote : (bs : List ℕ) (m : Space) (a : ℕ) → CanWrite m a (length bs) → Wrote m a bs (puts m a bs)
puts_wrote [] m a h = record { tells = tt; below = λ b h. refl; above = λ b h. refl; shaped = record { text = refl; stack = refl; statics = refl } }
puts_wrote (x ∷ xs) m a h =
    let m1 = with_byte m a x in
    let s : Shaped m m1 = byte_shaped m a x in
    let r : Wrote m1 (suc a) xs (puts m1 (suc a) xs) = puts_wrote xs m1 (suc a) (can_write_shaped (length xs) m m1 (suc a) s h.1) in
    record {
      tells = (r.below a (omega arith) ∙ byte_same m a x h.0, r.tells);
      below = λ b lt. r.below b (omega arith) ∙ byte_other m a b x (omega arith);
      above = λ b le. r.above b (omega arith) ∙ byte_other m a b x (omega arith);
      shaped = shaped_on m m1 _ s r.shaped;
    }

-- the stack is whole
abbrev pub IsWhole : Space → Type 0
IsWhole m = length m.stack ≡ stack_room

writable_stack : (m : Space) (a : ℕ) → IsWhole m → stack_start ≤ a → a < stack_end → is_writable m a ≡ true
writable_stack m a w lo hi = can_region m a ∙ go (region a) (region_at a)
  where
    go : (r : Region) → At r a → can_put m r ≡ true
    go Nowhere h = absurd (omega arith)
    go (InText i) h = absurd (omega (arith, h.1))
    go (InStatics i) h = absurd (omega (arith, h.1))
    go (InStack i) h = lt-ltb _ _ (omega (arith, h.0, w))

pub can_write_stack : (n : ℕ) (m : Space) (a : ℕ) → IsWhole m → stack_start ≤ a → a + n ≤ stack_end → CanWrite m a n
can_write_stack zero m a w lo hi = tt
can_write_stack (suc n) m a w lo hi = (writable_stack m a w lo (omega arith), can_write_stack n m (suc a) w (omega arith) (omega arith))

pub length-bytes : (k n : ℕ) → length (bytes k n) ≡ k
length-bytes zero n = refl
length-bytes (suc k) n = ap suc (length-bytes k (n / 256))

pub tells_keep : (cs : List ℕ) (m m' : ℕ → Option ℕ) (c : ℕ) → ((b : ℕ) → c ≤ b → b < c + length cs → m' b ≡ m b) → Tells m c cs → Tells m' c cs
tells_keep [] m m' c same h = tt
tells_keep (x ∷ xs) m m' c same h = (same c (omega arith) (omega arith) ∙ h.0, tells_keep xs m m' (suc c) (λ b lo hi. same b (omega arith) (omega arith)) h.1)

next_is : (a : ℕ) → (a + 1 ≡ suc a) × (a + 2 ≡ suc (suc a)) × (a + 3 ≡ suc (suc (suc a)))
next_is a = (omega arith, omega arith, omega arith)

parts : (v : ℕ) → v < 4294967296 → (v / 65536 % 256 ≡ v / 256 / 256 % 256) × (v / 16777216 ≡ v / 256 / 256 / 256 % 256)
parts v lt = (omega arith, omega arith)

number_parts : (n : ℕ) → n < 4294967296 → n % 256 + 256 * (n / 256 % 256 + 256 * (n / 256 / 256 % 256 + 256 * (n / 256 / 256 / 256 % 256))) ≡ n
number_parts n h = omega arith

-- the number whose bytes stand at an address
pub number_told : (told : ℕ → Option ℕ) (a n : ℕ) → n < 4294967296 → Tells told a (bytes 4 n) → number_at told a ≡ Some n
number_told told a n lt h =
    let s = next_is a in
    ap (λ o. number_of o (told (a + 1)) (told (a + 2)) (told (a + 3))) h.0
    ∙ ap (λ o. number_of (Some (n % 256)) o (told (a + 2)) (told (a + 3))) (ap told s.0 ∙ h.1.0)
    ∙ ap (λ o. number_of (Some (n % 256)) (Some (n / 256 % 256)) o (told (a + 3))) (ap told s.1 ∙ h.1.1.0)
    ∙ ap (λ o. number_of (Some (n % 256)) (Some (n / 256 % 256)) (Some (n / 256 / 256 % 256)) o) (ap told s.2 ∙ h.1.1.1.0)
    ∙ ap Some (number_parts n lt)

-- a number written is its four bytes written
pub number_puts : (m : Space) (a v : ℕ) → v < 4294967296 → with_number m a v ≡ puts m a (bytes 4 v)
unfolding with_number
number_puts m a v lt =
    let s = next_is a in
    let q = parts v lt in
    ap (λ z. with_byte (with_byte (with_byte (with_byte m a (v % 256)) z (v / 256 % 256)) (a + 2) (v / 65536 % 256)) (a + 3) (v / 16777216)) s.0
    ∙ ap (λ z. with_byte (with_byte (with_byte (with_byte m a (v % 256)) (suc a) (v / 256 % 256)) z (v / 65536 % 256)) (a + 3) (v / 16777216)) s.1
    ∙ ap (λ z. with_byte (with_byte (with_byte (with_byte m a (v % 256)) (suc a) (v / 256 % 256)) (suc (suc a)) (v / 65536 % 256)) z (v / 16777216)) s.2
    ∙ ap (λ z. with_byte (with_byte (with_byte (with_byte m a (v % 256)) (suc a) (v / 256 % 256)) (suc (suc a)) z) (suc (suc (suc a))) (v / 16777216)) q.0
    ∙ ap (λ z. with_byte (with_byte (with_byte (with_byte m a (v % 256)) (suc a) (v / 256 % 256)) (suc (suc a)) (v / 256 / 256 % 256)) (suc (suc (suc a))) z) q.1

pub writable4 : (m : Space) (a : ℕ) → CanWrite m a 4 → is_writable4 m a ≡ true
unfolding is_writable4
writable4 m a h =
    let s = next_is a in
    ap (λ b. b && is_writable m (a + 1) && is_writable m (a + 2) && is_writable m (a + 3)) h.0
    ∙ ap (λ b. true && b && is_writable m (a + 2) && is_writable m (a + 3)) (ap (λ z. is_writable m z) s.0 ∙ h.1.0)
    ∙ ap (λ b. true && true && b && is_writable m (a + 3)) (ap (λ z. is_writable m z) s.1 ∙ h.1.1.0)
    ∙ ap (λ b. true && true && true && b) (ap (λ z. is_writable m z) s.2 ∙ h.1.1.1.0)

pub number_wrote : (m : Space) (a v : ℕ) → v < 4294967296 → CanWrite m a 4 → Wrote m a (bytes 4 v) (with_number m a v)
number_wrote m a v lt h = subst (λ w. Wrote m a (bytes 4 v) w) (sym (number_puts m a v lt)) (puts_wrote (bytes 4 v) m a h)
