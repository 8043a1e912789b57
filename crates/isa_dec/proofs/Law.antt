-- The decoder gives the one reading of the bytes.
use Rattle.std.proofs.Common.{◌≡◌, ℕ, ◌+◌, ◌<◌, List, [], ◌∷◌, ◌++◌, length, refl, sym, ap, ◌∙◌, arith, append_assoc, length-append}
use Rattle.isa_dec.proofs.Numbers.{append_nil}
use Rattle.isa386.specs.declared.Ins.{Ins}
use Rattle.isa_dec.specs.declared.dec.Dec.{Dec}
use Rattle.isa_dec.specs.declared.dec.Dec.TheVariants.{Ins as IsIns, Short, Unknown}
use Rattle.isa_dec.specs.Decoded.{found, decoded}
use Rattle.isa386.specs.Encoding.{encoding}
use Rattle.isa386.specs.Row.{IsRow}
use Rattle.std.specs.Prelude.{slice_index}
use Rattle.isa_dec.proofs.Numbers.{all_bytes}
use Rattle.isa_dec.proofs.Back.{DecReads, decoded_back}
use Rattle.isa_dec.proofs.Forth.{decoded-encoding}
use Rattle.isa_dec.proofs.More.{decoded_more}
use Rattle.isa_dec.specs.Reads.{Begins, IsCut, Reads}

-- a row that stands first is found
begun : (b : List ℕ) (i : Ins) → Begins b i → decoded b ≡ found i
begun b i h = ap decoded h.bytes ∙ decoded-encoding i h.rest h.row

whole_found : (i : Ins) → IsRow i → decoded (encoding i) ≡ found i
whole_found i h = ap decoded (sym (append_nil (encoding i))) ∙ decoded-encoding i [] h

-- bytes that were not an instruction's are no front of one
not_cut : (b : List ℕ) → decoded b ≡ Unknown → IsCut b → ⊥
not_cut b e h =
    let more : decoded (b ++ h.next ∷ h.rest) ≡ Unknown = decoded_more b (h.next ∷ h.rest) e in
    let whole : decoded (encoding h.whole) ≡ found h.whole = whole_found h.whole h.row in
    let same : decoded (encoding h.whole) ≡ decoded (b ++ h.next ∷ h.rest) = ap decoded h.bytes in
    cc

not_begun : (b : List ℕ) → decoded b ≡ Unknown → (i : Ins) → Begins b i → ⊥
not_begun b e i h = let f = begun b i h in cc

-- a row is no proper front of a row
no_front : (b : List ℕ) (i : Ins) (rest : List ℕ) → IsRow i → b ≡ encoding i ++ rest → IsCut b → ⊥
no_front b i rest row e h =
    let longer : encoding h.whole ≡ encoding i ++ (rest ++ h.next ∷ h.rest) = h.bytes ∙ ap (λ l. l ++ h.next ∷ h.rest) e ∙ append_assoc (encoding i) rest (h.next ∷ h.rest) in
    let f : decoded (encoding h.whole) ≡ found h.whole = whole_found h.whole h.row in
    let g : decoded (encoding h.whole) ≡ found i = ap decoded longer ∙ decoded-encoding i (rest ++ h.next ∷ h.rest) row in
    let same : h.whole ≡ i = cc in
    let l1 : length (encoding h.whole) ≡ length (encoding i) + length (rest ++ h.next ∷ h.rest) = ap length longer ∙ length-append (encoding i) (rest ++ h.next ∷ h.rest) in
    let l2 : length (rest ++ h.next ∷ h.rest) ≡ length rest + length (h.next ∷ h.rest) = length-append rest (h.next ∷ h.rest) in
    let l3 : length (encoding h.whole) ≡ length (encoding i) = ap (λ j. length (encoding j)) same in
    let l4 : length (h.next ∷ h.rest) ≡ length h.rest + 1 = omega arith in
    omega arith

pub decoded-reads : (b : List ℕ) → ((k : ℕ) → slice_index b k < 256) → Reads b (decoded b)
decoded-reads b bytes = from (decoded b) refl (decoded_back b (all_bytes b bytes))
  where
    from : (d : Dec) → decoded b ≡ d → DecReads b d → Reads b d
    from (IsIns i k) e h = (record { row = h.0; rest = h.2.0; bytes = h.2.1 }, h.1)
    from Short e h = record { whole = h.0; row = h.3; next = h.1; rest = h.2; bytes = h.4 }
    from Unknown e h = (not_begun b e, not_cut b e)

pub decoded-only : (b : List ℕ) (d : Dec) → ((k : ℕ) → slice_index b k < 256) → Reads b d → d ≡ decoded b
decoded-only b (IsIns i k) bytes h = ap (IsIns i) h.1 ∙ sym (begun b i h.0)
decoded-only b Short bytes h = from (decoded b) refl (decoded-reads b bytes)
  where
    from : (d : Dec) → decoded b ≡ d → Reads b d → Short ≡ d
    from (IsIns i k) e r = absurd (no_front b i r.0.rest r.0.row r.0.bytes h)
    from Short e r = refl
    from Unknown e r = absurd (r.1 h)
decoded-only b Unknown bytes h = from (decoded b) refl (decoded-reads b bytes)
  where
    from : (d : Dec) → decoded b ≡ d → Reads b d → Unknown ≡ d
    from (IsIns i k) e r = absurd (h.0 i r.0)
    from Short e r = absurd (h.1 r)
    from Unknown e r = refl
