-- What holds of n bytes one after the other, and of one more.
use Rattle.std.proofs.Common.{inl, inr, sym, ◌≡◌, ℕ, zero, suc, ◌+◌, ◌<◌, Bool, true, false, refl, ap, ◌∙◌, add-one, arith}
use Rattle.std.specs.Prelude.{◌&&◌}
use Rattle.mach_mem.specs.Space.{Space, with_byte}
use Rattle.mach_exec.specs.Word.{add32}
use Rattle.mach_exec.specs.Strings.{each_byte, copied, with_copy, filled}

and_false : (a : Bool) → (a && false) ≡ false
and_false true = refl
and_false false = refl

pub each_byte-zero : (test : ℕ → Bool) (at : ℕ) → each_byte test at 0 ≡ true
unfolding each_byte
each_byte-zero test at = refl

pub each_byte-more : (test : ℕ → Bool) (at k : ℕ) → each_byte test at k ≡ true → test (add32 at k) ≡ true → each_byte test at (k + 1) ≡ true
unfolding each_byte
each_byte-more test at k front here = rw add-one (ap (λ b. b && test (add32 at k)) front ∙ here)

pub each_byte-false : (test : ℕ → Bool) (at k n : ℕ) → k < n → test (add32 at k) ≡ false → each_byte test at n ≡ false
unfolding each_byte
each_byte-false test at k zero below here = absurd (omega arith)
each_byte-false test at k (suc n) below here = elim (Rattle.std.proofs.lemmas.Bool.cases_lt k n) [ inl lt ↦ ap (λ b. b && test (add32 at n)) (each_byte-false test at k n lt here) | inr le ↦ let e : k ≡ n = omega arith in ap (λ b. each_byte test at n && b) (ap (λ j. test (add32 at j)) (sym e) ∙ here) ∙ and_false (each_byte test at n) ]

pub copied-zero : (m : Space) (from to : ℕ) → copied m from to 0 ≡ m
unfolding copied
copied-zero m from to = refl

pub copied-more : (m : Space) (from to k : ℕ) → copied m from to (k + 1) ≡ with_copy (copied m from to k) (add32 from k) (add32 to k)
unfolding copied
copied-more m from to k = rw add-one refl

pub filled-zero : (m : Space) (at b : ℕ) → filled m at b 0 ≡ m
unfolding filled
filled-zero m at b = refl

pub filled-more : (m : Space) (at b k : ℕ) → filled m at b (k + 1) ≡ with_byte (filled m at b k) (add32 at k) b
unfolding filled
filled-more m at b k = rw add-one refl

pub ruleset each_byte_steps = (each_byte-zero, each_byte-more, each_byte-false)

pub ruleset moves = (copied-zero, copied-more, filled-zero, filled-more)
