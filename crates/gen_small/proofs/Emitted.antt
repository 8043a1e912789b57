-- Code stands where its bytes are.
use Rattle.std.proofs.Common.{◌≡◌, ℕ, zero, suc, ◌+◌, ◌-◌, ◌%◌, ◌<◌, ◌≤◌, List, [], ◌∷◌, ◌++◌, length, drop, refl, sym, ap, ◌∙◌, subst, arith, append_assoc}
use Rattle.std.specs.Prelude.{if◌then◌else◌}
use Rattle.std.specs.Int.{w32, cast_unsigned}
use Rattle.std.proofs.lemmas.Bool.{le-leb}
use Rattle.std.proofs.lemmas.Int.{of_z-to_z}
use Rattle.std.proofs.Math.Seq.{drop-append_seam}
use Rattle.mach_mem.specs.Addresses.{text_start}
use Rattle.isa386.specs.declared.Callee.TheVariants.{Relative}
use Rattle.isa386.specs.declared.Target.TheVariants.{Near}
use Rattle.isa386.specs.declared.PlainOp.TheVariants.{Nop}
use Rattle.isa386.specs.declared.Ins.{Ins}
use Rattle.isa386.specs.declared.Ins.TheVariants.{Call, Jump, Branch, Plain}
use Rattle.isa386.specs.Encoding.{encoding}
use Rattle.isa386.specs.Row.{IsRow}
use Rattle.isa_dec.specs.Decoded.{decoded}
use Rattle.isa_dec.proofs.Forth.{decoded-encoding}
use Rattle.isa_dec.proofs.Numbers.{word_fits}
use Rattle.mach_exec.specs.Word.{add32, sub32}
use Rattle.gen_small.specs.Ghost.{Prog}
use Rattle.gen_small.specs.Items.{Item, Start, Open, Op, Label, Goto, If, CallTo, Layout, code_from, Stored, Stands}
use Rattle.gen_small.specs.Emitted.{distance, width, emitted, end_of, Marked}

drop_nil : {A : Type 0} (n : ℕ) → drop {A = A} n [] ≡ []
drop_nil zero = refl
drop_nil (suc n) = refl

drops : {A : Type 0} (n k : ℕ) (xs : List A) → drop n (drop k xs) ≡ drop (k + n) xs
drops n zero xs = let e : n ≡ 0 + n = omega arith in ap (λ z. drop z xs) e
drops n (suc k) [] = drop_nil n ∙ sym (drop_nil (suc k + n))
drops n (suc k) (x ∷ xs) = let e : suc (k + n) ≡ suc k + n = omega arith in drops n k xs ∙ ap (λ z. drop z (x ∷ xs)) e

-- what stands behind an instruction
behind : (text front rest : List ℕ) (a : ℕ) → text_start ≤ a → code_from text a ≡ front ++ rest → code_from text (a + length front) ≡ rest
behind text front rest a low e =
    let here : code_from text a ≡ drop (a - text_start) text = ap (λ b. if b then drop (a - text_start) text else []) (le-leb text_start a low) in
    let there : code_from text (a + length front) ≡ drop (a + length front - text_start) text = ap (λ b. if b then drop (a + length front - text_start) text else []) (le-leb text_start (a + length front) (omega arith)) in
    there
    ∙ ap (λ z. drop z text) (apart a (length front) low)
    ∙ sym (drops (length front) (a - text_start) text)
    ∙ ap (λ z. drop (length front) z) (sym here ∙ e)
    ∙ drop-append_seam front rest
  where
    apart : (a n : ℕ) → text_start ≤ a → a + n - text_start ≡ a - text_start + n
    apart a n low = omega arith

stored_at : (text : List ℕ) (a c : ℕ) (i : Ins) (rest : List ℕ) → code_from text a ≡ encoding i ++ rest → IsRow i → c ≡ a + length (encoding i) → c < 4294967296 → Stored text a i c
stored_at text a c i rest e row next lt = record { size = length (encoding i); read = ap decoded e ∙ decoded-encoding i rest row; next = next ∙ small (a + length (encoding i)) (omega arith) }
  where
    small : (n : ℕ) → n < 4294967296 → n ≡ n % 4294967296
    small n lt = omega arith

-- a jump by its distance comes to its label
comes_to : (next label : ℕ) → next < 4294967296 → label < 4294967296 → add32 next (cast_unsigned w32 (distance next label)) ≡ label
comes_to next label lt small = ap (λ z. add32 next z) (of_z-to_z w32 (sub32 label next) (within label next)) ∙ round next label lt small
  where
    within : (a b : ℕ) → (a + (4294967296 - b)) % 4294967296 < 4294967296
    within a b = omega arith

    round : (b a : ℕ) → b < 4294967296 → a < 4294967296 → (b + (a + (4294967296 - b)) % 4294967296) % 4294967296 ≡ a
    round b a lt small = omega arith

fits : (a b : ℕ) → (a + (4294967296 - b)) % 4294967296 < 4294967296
fits a b = omega arith

end_above : (a : ℕ) (xs : List Item) → a ≤ end_of a xs
end_above a [] = omega arith
end_above a (x ∷ xs) = let r = end_above (a + width x) xs in omega arith

pub emitted_stands : (p : Prog) (l : Layout) (f k : ℕ) (xs : List Item) (rest : List ℕ) (a : ℕ) → text_start ≤ a → end_of a xs < 4294967296 → code_from p.text a ≡ emitted l.label a xs ++ rest → Marked p l f k a xs → Stands p l f k a xs (end_of a xs)
emitted_stands p l f k [] rest a low top e mk = refl
emitted_stands p l f k (Start j ∷ xs) rest a low top e mk =
    let up = end_above (a + 1) xs in
    let e1 : code_from p.text a ≡ encoding (Plain Nop) ++ (emitted l.label (a + 1) xs ++ rest) = e ∙ append_assoc (encoding (Plain Nop)) (emitted l.label (a + 1) xs) rest in
    let b = mk.0 in
    (a + 1, record { is_start = b.is_start; opens = b.opens; start = b.start; owned = b.owned; stored = stored_at p.text a (a + 1) (Plain Nop) (emitted l.label (a + 1) xs ++ rest) e1 tt refl (omega arith) }, emitted_stands p l f j xs rest (a + 1) (omega arith) top (behind p.text (encoding (Plain Nop)) (emitted l.label (a + 1) xs ++ rest) a low e1) mk.1)
emitted_stands p l f k (Open j ∷ xs) rest a low top e mk =
    let up = end_above (a + 1) xs in
    let e1 : code_from p.text a ≡ encoding (Plain Nop) ++ (emitted l.label (a + 1) xs ++ rest) = e ∙ append_assoc (encoding (Plain Nop)) (emitted l.label (a + 1) xs) rest in
    let b = mk.0 in
    (a + 1, record { is_start = b.is_start; opens = b.opens; start = b.start; owned = b.owned; stored = stored_at p.text a (a + 1) (Plain Nop) (emitted l.label (a + 1) xs ++ rest) e1 tt refl (omega arith) }, emitted_stands p l f j xs rest (a + 1) (omega arith) top (behind p.text (encoding (Plain Nop)) (emitted l.label (a + 1) xs ++ rest) a low e1) mk.1)
emitted_stands p l f k (Op i ∷ xs) rest a low top e mk =
    let c = a + length (encoding i) in
    let up = end_above c xs in
    let e1 : code_from p.text a ≡ encoding i ++ (emitted l.label c xs ++ rest) = e ∙ append_assoc (encoding i) (emitted l.label c xs) rest in
    (c, record { no_start = mk.1.no_start; owned = mk.1.owned; stored = stored_at p.text a c i (emitted l.label c xs ++ rest) e1 mk.0 refl (omega arith) }, emitted_stands p l f k xs rest c (omega arith) top (behind p.text (encoding i) (emitted l.label c xs ++ rest) a low e1) mk.2)
emitted_stands p l f k (Label n ∷ xs) rest a low top e mk =
    let flat : a + 0 ≡ a = omega arith in
    (mk.0, subst (λ z. Stands p l f k z xs (end_of (a + 0) xs)) flat (emitted_stands p l f k xs rest (a + 0) (omega arith) top (ap (code_from p.text) flat ∙ e) mk.1))
emitted_stands p l f k (Goto n ∷ xs) rest a low top e mk =
    let c = a + 5 in
    let d = distance c (l.label n) in
    let up = end_above c xs in
    let e1 : code_from p.text a ≡ encoding (Jump (Near d)) ++ (emitted l.label c xs ++ rest) = e ∙ append_assoc (encoding (Jump (Near d))) (emitted l.label c xs) rest in
    (c, d, record { no_start = mk.1.no_start; owned = mk.1.owned; stored = stored_at p.text a c (Jump (Near d)) (emitted l.label c xs ++ rest) e1 (word_fits (sub32 (l.label n) c) (fits (l.label n) c)) refl (omega arith) }, comes_to c (l.label n) (omega arith) mk.0, emitted_stands p l f k xs rest c (omega arith) top (behind p.text (encoding (Jump (Near d))) (emitted l.label c xs ++ rest) a low e1) mk.2)
emitted_stands p l f k (If cc n ∷ xs) rest a low top e mk =
    let c = a + 6 in
    let d = distance c (l.label n) in
    let up = end_above c xs in
    let e1 : code_from p.text a ≡ encoding (Branch cc (Near d)) ++ (emitted l.label c xs ++ rest) = e ∙ append_assoc (encoding (Branch cc (Near d))) (emitted l.label c xs) rest in
    (c, d, record { no_start = mk.1.no_start; owned = mk.1.owned; stored = stored_at p.text a c (Branch cc (Near d)) (emitted l.label c xs ++ rest) e1 (word_fits (sub32 (l.label n) c) (fits (l.label n) c)) refl (omega arith) }, comes_to c (l.label n) (omega arith) mk.0, emitted_stands p l f k xs rest c (omega arith) top (behind p.text (encoding (Branch cc (Near d))) (emitted l.label c xs ++ rest) a low e1) mk.2)
emitted_stands p l f k (CallTo n ∷ xs) rest a low top e mk =
    let c = a + 5 in
    let d = distance c (l.label n) in
    let up = end_above c xs in
    let e1 : code_from p.text a ≡ encoding (Call (Relative d)) ++ (emitted l.label c xs ++ rest) = e ∙ append_assoc (encoding (Call (Relative d))) (emitted l.label c xs) rest in
    (c, d, record { no_start = mk.1.no_start; owned = mk.1.owned; stored = stored_at p.text a c (Call (Relative d)) (emitted l.label c xs ++ rest) e1 (word_fits (sub32 (l.label n) c) (fits (l.label n) c)) refl (omega arith) }, comes_to c (l.label n) (omega arith) mk.0, emitted_stands p l f k xs rest c (omega arith) top (behind p.text (encoding (Call (Relative d))) (emitted l.label c xs ++ rest) a low e1) mk.2)
