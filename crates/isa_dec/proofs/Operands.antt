-- Reading operands.
use Rattle.std.proofs.Common.{◌≡◌, ◌≢◌, ℕ, zero, suc, ◌+◌, ◌-◌, ◌*◌, ◌/◌, ◌%◌, ◌^◌, ◌<◌, ◌≤◌, List, [], ◌∷◌, ◌++◌, Bool, true, false, cond, Option, Some, None, length, refl, sym, ap, subst, ◌∙◌, arith, inl, inr}
use Rattle.std.specs.Prelude.{nat_eq, not, ◌&&◌, ℤ, pos}
use Rattle.std.proofs.lemmas.Bool.{eqb-true, eqb-false, ne_eqb, and_parts, and_cases, eq-eqb, cond_both, cond-false, not-false}
use Rattle.isa386.specs.Encoding.{modrm, sib, mode, displacement, operand}
use Rattle.isa386.specs.Row.{IsDisplacement, IsBased, IsIndex, IsMemory, IsOperand}
use Rattle.isa386.specs.declared.Dw.{Dw}
use Rattle.isa386.specs.declared.Dw.TheVariants.{D0, D8, D32}
use Rattle.isa386.specs.declared.Opnd.{Opnd}
use Rattle.isa386.specs.declared.Opnd.TheVariants.{Reg, Mem}
use Rattle.isa_dec.specs.declared.operand.OperandPart.{OperandPart}
use Rattle.isa_dec.specs.declared.operand.OperandPart.TheVariants.{Is, Cut, Wrong}
use Rattle.isa_dec.specs.OperandAt.{displacement_at, with_displacement, memory_at, width_of, scaled_at, behind_sib, operand_at}
use Rattle.isa_dec.specs.Decoded.{digit_of, extra, width_bytes}
use Rattle.isa_dec.proofs.Numbers.{AllBytes, DisplacementReads, displacement_forth, displacement_back, byte_fits}

-- the ModRM byte of an operand
abbrev pub operand_head : ℕ → Opnd → ℕ
operand_head reg (Reg r) = modrm 3 reg r
operand_head reg (Mem None None d w) = modrm 0 reg 5
operand_head reg (Mem (Some base) None d w) = modrm (mode w) reg base
operand_head reg (Mem None (Some index) d w) = modrm 0 reg 4
operand_head reg (Mem (Some base) (Some index) d w) = modrm (mode w) reg 4

-- the bytes behind the ModRM byte
abbrev pub operand_tail : Opnd → List ℕ
operand_tail (Reg r) = []
operand_tail (Mem None None d w) = displacement w d
operand_tail (Mem (Some base) None d w) = displacement w d
operand_tail (Mem None (Some index) d w) = sib index 5 ∷ displacement w d
operand_tail (Mem (Some base) (Some index) d w) = sib index base ∷ displacement w d

pub operand-split : (reg : ℕ) (rm : Opnd) → operand reg rm ≡ operand_head reg rm ∷ operand_tail rm
operand-split reg (Reg r) = refl
operand-split reg (Mem None None d w) = refl
operand-split reg (Mem (Some base) None d w) = refl
operand-split reg (Mem None (Some index) d w) = refl
operand-split reg (Mem (Some base) (Some index) d w) = refl

length-displacement : (w : Dw) (d : ℤ) → length (displacement w d) ≡ width_bytes w
length-displacement D0 d = refl
length-displacement D8 d = refl
length-displacement D32 d = refl

pub length-tail : (rm : Opnd) → length (operand_tail rm) ≡ extra rm
length-tail (Reg r) = refl
length-tail (Mem None None d w) = length-displacement w d
length-tail (Mem (Some base) None d w) = length-displacement w d
length-tail (Mem None (Some index) d w) = let e = length-displacement w d in omega arith
length-tail (Mem (Some base) (Some index) d w) = let e = length-displacement w d in omega arith

-- operand_at by the parts of the ModRM byte
abbrev by_parts : ℕ → ℕ → List ℕ → OperandPart
by_parts top rm bytes =
    cond (nat_eq top 3) (Is (Reg rm))
    (cond (nat_eq rm 4) (behind_sib top bytes)
    (cond (nat_eq top 0 && nat_eq rm 5) (memory_at None None D32 bytes)
    (memory_at (Some rm) None (width_of top) bytes)))

at_parts : (top reg rm : ℕ) (bytes : List ℕ) → reg < 8 → rm < 8 → operand_at (modrm top reg rm) bytes ≡ by_parts top rm bytes
at_parts top reg rm bytes hr hm =
    let e : modrm top reg rm / 64 ≡ top = omega arith in
    let f : modrm top reg rm % 8 ≡ rm = omega arith in
    ap (λ x. by_parts x (modrm top reg rm % 8) bytes) e ∙ ap (λ x. by_parts top x bytes) f

-- scaled_at by the parts of the SIB byte
abbrev by_sib : ℕ → ℕ → ℕ → ℕ → List ℕ → OperandPart
by_sib top index scale base bytes =
    cond (nat_eq index 4 && not (nat_eq scale 0)) Wrong
    (cond (nat_eq top 0 && nat_eq base 5) (memory_at None (Some (index, scale)) D32 bytes)
    (memory_at (Some base) (Some (index, scale)) (width_of top) bytes))

sib_parts : (top : ℕ) (index : ℕ × ℕ) (base : ℕ) (bytes : List ℕ) → IsIndex index → base < 8 → scaled_at top (sib index base) bytes ≡ by_sib top index.0 index.1 base bytes
sib_parts top index base bytes hi hb =
    let h0 : index.0 < 8 = hi.0 in
    let h1 : index.1 < 4 = hi.1 in
    let e : sib index base / 8 % 8 ≡ index.0 = omega arith in
    let f : sib index base / 64 ≡ index.1 = omega arith in
    let g : sib index base % 8 ≡ base = omega arith in
    ap (λ x. by_sib top x (sib index base / 64) (sib index base % 8) bytes) e
    ∙ ap (λ x. by_sib top index.0 x (sib index base % 8) bytes) f
    ∙ ap (λ x. by_sib top index.0 index.1 x bytes) g

memory_forth : (base : Option ℕ) (index : Option (ℕ × ℕ)) (w : Dw) (d : ℤ) (rest : List ℕ) → IsDisplacement w d → memory_at base index w (displacement w d ++ rest) ≡ Is (Mem base index d w)
memory_forth base index w d rest h = ap (with_displacement base index w) (displacement_forth w d rest h)

-- with a base register
width_mode : (w : Dw) → width_of (mode w) ≡ w
width_mode D0 = refl
width_mode D8 = refl
width_mode D32 = refl

mode_not_3 : (w : Dw) → nat_eq (mode w) 3 ≡ false
mode_not_3 D0 = refl
mode_not_3 D8 = refl
mode_not_3 D32 = refl

not_absolute : (w : Dw) (base : ℕ) → (base ≡ 5 → w ≢ D0) → (nat_eq (mode w) 0 && nat_eq base 5) ≡ false
not_absolute D0 base h = ne_eqb base 5 (λ e. h e refl)
not_absolute D8 base h = refl
not_absolute D32 base h = refl

based_forth : (base : ℕ) (w : Dw) (d : ℤ) (rest : List ℕ) → base ≢ 4 → IsBased base w d → by_parts (mode w) base (displacement w d ++ rest) ≡ Is (Mem (Some base) None d w)
based_forth base w d rest ne h =
    let bytes = displacement w d ++ rest in
    cond-false (nat_eq (mode w) 3) (Is (Reg base)) (cond (nat_eq base 4) (behind_sib (mode w) bytes) (cond (nat_eq (mode w) 0 && nat_eq base 5) (memory_at None None D32 bytes) (memory_at (Some base) None (width_of (mode w)) bytes))) (mode_not_3 w)
    ∙ cond-false (nat_eq base 4) (behind_sib (mode w) bytes) (cond (nat_eq (mode w) 0 && nat_eq base 5) (memory_at None None D32 bytes) (memory_at (Some base) None (width_of (mode w)) bytes)) (ne_eqb base 4 ne)
    ∙ cond-false (nat_eq (mode w) 0 && nat_eq base 5) (memory_at None None D32 bytes) (memory_at (Some base) None (width_of (mode w)) bytes) (not_absolute w base h.1)
    ∙ ap (λ x. memory_at (Some base) None x bytes) (width_mode w)
    ∙ memory_forth (Some base) None w d rest h.2

no_scale : (index : ℕ × ℕ) → IsIndex index → (nat_eq index.0 4 && not (nat_eq index.1 0)) ≡ false
no_scale index h = from (nat_eq index.0 4) refl
  where
    from : (t : Bool) → nat_eq index.0 4 ≡ t → (t && not (nat_eq index.1 0)) ≡ false
    from false e = refl
    from true e = ap not (eq-eqb index.1 0 (h.2 (eqb-true _ _ e)))

scaled_forth : (base : ℕ) (index : ℕ × ℕ) (w : Dw) (d : ℤ) (rest : List ℕ) → IsIndex index → IsBased base w d → scaled_at (mode w) (sib index base) (displacement w d ++ rest) ≡ Is (Mem (Some base) (Some index) d w)
scaled_forth base index w d rest hi h =
    let bytes = displacement w d ++ rest in
    sib_parts (mode w) index base bytes hi h.0
    ∙ cond-false (nat_eq index.0 4 && not (nat_eq index.1 0)) Wrong (cond (nat_eq (mode w) 0 && nat_eq base 5) (memory_at None (Some index) D32 bytes) (memory_at (Some base) (Some index) (width_of (mode w)) bytes)) (no_scale index hi)
    ∙ cond-false (nat_eq (mode w) 0 && nat_eq base 5) (memory_at None (Some index) D32 bytes) (memory_at (Some base) (Some index) (width_of (mode w)) bytes) (not_absolute w base h.1)
    ∙ ap (λ x. memory_at (Some base) (Some index) x bytes) (width_mode w)
    ∙ memory_forth (Some base) (Some index) w d rest h.2

indexed_forth : (index : ℕ × ℕ) (w : Dw) (d : ℤ) (rest : List ℕ) → IsIndex index → IsDisplacement D32 d → scaled_at 0 (sib index 5) (displacement D32 d ++ rest) ≡ Is (Mem None (Some index) d D32)
indexed_forth index w d rest hi h =
    let bytes = displacement D32 d ++ rest in
    sib_parts 0 index 5 bytes hi (omega arith)
    ∙ cond-false (nat_eq index.0 4 && not (nat_eq index.1 0)) Wrong (memory_at None (Some index) D32 bytes) (no_scale index hi)
    ∙ memory_forth None (Some index) D32 d rest h

mode_small : (w : Dw) → mode w < 3
mode_small D0 = omega arith
mode_small D8 = omega arith
mode_small D32 = omega arith

-- an operand's bytes are read as the operand
pub operand_forth : (reg : ℕ) (rm : Opnd) (rest : List ℕ) → reg < 8 → IsOperand rm → operand_at (operand_head reg rm) (operand_tail rm ++ rest) ≡ Is rm
operand_forth reg (Reg r) rest hr h = at_parts 3 reg r rest hr h
operand_forth reg (Mem None None d D0) rest hr h = absurd (cc (h.0))
operand_forth reg (Mem None None d D8) rest hr h = absurd (cc (h.0))
operand_forth reg (Mem None None d D32) rest hr h = at_parts 0 reg 5 (displacement D32 d ++ rest) hr (omega arith) ∙ memory_forth None None D32 d rest h.1
operand_forth reg (Mem (Some base) None d w) rest hr h = at_parts (mode w) reg base (displacement w d ++ rest) hr h.1.0 ∙ based_forth base w d rest h.0 h.1
operand_forth reg (Mem None (Some index) d D0) rest hr h = absurd (cc (h.1.0))
operand_forth reg (Mem None (Some index) d D8) rest hr h = absurd (cc (h.1.0))
operand_forth reg (Mem None (Some index) d D32) rest hr h = at_parts 0 reg 4 (sib index 5 ∷ (displacement D32 d ++ rest)) hr (omega arith) ∙ indexed_forth index D32 d rest h.0 h.1.1
operand_forth reg (Mem (Some base) (Some index) d w) rest hr h =
    let bytes = sib index base ∷ (displacement w d ++ rest) in
    at_parts (mode w) reg 4 bytes hr (omega arith)
    ∙ cond-false (nat_eq (mode w) 3) (Is (Reg 4)) (behind_sib (mode w) bytes) (mode_not_3 w)
    ∙ scaled_forth base index w d rest h.0 h.1

digit_modrm : (top reg rm : ℕ) → reg < 8 → rm < 8 → digit_of (modrm top reg rm) ≡ reg
digit_modrm top reg rm hr hm = omega arith

-- the reg field of its ModRM byte
pub digit-head : (reg : ℕ) (rm : Opnd) → reg < 8 → IsOperand rm → digit_of (operand_head reg rm) ≡ reg
digit-head reg (Reg r) hr h = digit_modrm 3 reg r hr h
digit-head reg (Mem None None d w) hr h = digit_modrm 0 reg 5 hr (omega arith)
digit-head reg (Mem (Some base) None d w) hr h = digit_modrm (mode w) reg base hr h.1.0
digit-head reg (Mem None (Some index) d w) hr h = digit_modrm 0 reg 4 hr (omega arith)
digit-head reg (Mem (Some base) (Some index) d w) hr h = digit_modrm (mode w) reg 4 hr (omega arith)

-- memory has no mod field of 3
pub memory-head : (reg : ℕ) (base : Option ℕ) (index : Option (ℕ × ℕ)) (d : ℤ) (w : Dw) → reg < 8 → IsMemory base index d w → operand_head reg (Mem base index d w) < 192
memory-head reg None None d w hr h = omega arith
memory-head reg (Some base) None d w hr h = let m = mode_small w in let b : base < 8 = h.1.0 in omega arith
memory-head reg None (Some index) d w hr h = omega arith
memory-head reg (Some base) (Some index) d w hr h = let m = mode_small w in omega arith

-- what was read of memory
abbrev MemoryReads : Option ℕ → Option (ℕ × ℕ) → Dw → List ℕ → OperandPart → Type 0
MemoryReads base index w bs (Is rm) = (d : ℤ) × (rest : List ℕ) × (rm ≡ Mem base index d w) × IsDisplacement w d × (bs ≡ displacement w d ++ rest)
MemoryReads base index w bs Cut = (d : ℤ) × (c : ℕ) × (cs : List ℕ) × IsDisplacement w d × (displacement w d ≡ bs ++ c ∷ cs)
MemoryReads base index w bs Wrong = ⊥

memory_back : (base : Option ℕ) (index : Option (ℕ × ℕ)) (w : Dw) (bs : List ℕ) → AllBytes bs → MemoryReads base index w bs (memory_at base index w bs)
memory_back base index w bs all = from (displacement_at w bs) (displacement_back w bs all)
  where
    from : (o : Option ℤ) → DisplacementReads w bs o → MemoryReads base index w bs (with_displacement base index w o)
    from None h = h
    from (Some d) h = (d, h.1.0, refl, h.0, h.1.1)

-- what was read of an operand behind its ModRM byte
abbrev pub OperandReads : ℕ → List ℕ → OperandPart → Type 0
OperandReads m bs (Is rm) = IsOperand rm × (m ≡ operand_head (digit_of m) rm) × ((rest : List ℕ) × (bs ≡ operand_tail rm ++ rest))
OperandReads m bs Cut = (rm : Opnd) × (c : ℕ) × (cs : List ℕ) × IsOperand rm × (m ≡ operand_head (digit_of m) rm) × (operand_tail rm ≡ bs ++ c ∷ cs)
OperandReads m bs Wrong = Unit {0}

-- memory as an operand, where the bytes before its displacement are these
memory_operand : (m : ℕ) (base : Option ℕ) (index : Option (ℕ × ℕ)) (w : Dw) (front bs : List ℕ) (o : OperandPart)
    → ((d : ℤ) → IsDisplacement w d → IsOperand (Mem base index d w) × (m ≡ operand_head (digit_of m) (Mem base index d w)) × (operand_tail (Mem base index d w) ≡ front ++ displacement w d))
    → MemoryReads base index w bs o → OperandReads m (front ++ bs) o
memory_operand m base index w front bs Wrong f h = absurd h
memory_operand m base index w front bs Cut f h =
    let g = f h.0 h.3 in
    (Mem base index h.0 w, h.1, h.2, g.0, g.1, g.2 ∙ ap (λ l. front ++ l) h.4 ∙ sym (Rattle.std.proofs.Common.append_assoc front bs (h.1 ∷ h.2)))
memory_operand m base index w front bs (Is rm) f h =
    let g = f h.0 h.3 in
    subst (λ z. OperandReads m (front ++ bs) (Is z)) (sym h.2)
    (g.0, g.1, (h.1, ap (λ l. front ++ l) h.4 ∙ sym (Rattle.std.proofs.Common.append_assoc front (displacement w h.0) h.1) ∙ ap (λ l. l ++ h.1) (sym g.2)))

mode_width : (x : ℕ) → x < 3 → mode (width_of x) ≡ x
mode_width zero h = refl
mode_width (suc zero) h = refl
mode_width (suc (suc zero)) h = refl
mode_width (suc (suc (suc n))) h = absurd (omega arith)

zero_fits : (w : Dw) → IsDisplacement w (pos 0)
zero_fits D0 = refl
zero_fits D8 = byte_fits 0 (omega arith)
zero_fits D32 = Rattle.isa_dec.proofs.Numbers.word_fits 0 (omega arith)

not_d0 : (top base : ℕ) → top < 3 → (nat_eq top 0 && nat_eq base 5) ≡ false → base ≡ 5 → width_of top ≢ D0
not_d0 top base small h e w =
    let z : top ≡ 0 = sym (mode_width top small) ∙ ap mode w in
    elim (and_cases (nat_eq top 0) (nat_eq base 5) h) [ inl f ↦ eqb-false _ _ f z | inr f ↦ eqb-false _ _ f e ]

scale_fits : (index scale : ℕ) → index < 8 → scale < 4 → (nat_eq index 4 && not (nat_eq scale 0)) ≡ false → IsIndex (index, scale)
scale_fits index scale hi hs h = (hi, hs, λ e. elim (and_cases (nat_eq index 4) (not (nat_eq scale 0)) h) [ inl f ↦ absurd (eqb-false _ _ f e) | inr f ↦ eqb-true _ _ (not-false (nat_eq scale 0) f) ])

sib_back : (m s : ℕ) (bs : List ℕ) → m < 192 → m % 8 ≡ 4 → s < 256 → AllBytes bs → OperandReads m (s ∷ bs) (scaled_at (m / 64) s bs)
sib_back m s bs hm e4 hs all =
    let top : m / 64 < 3 = omega arith in
    let wm = mode_width (m / 64) top in
    cond_both (nat_eq (s / 8 % 8) 4 && not (nat_eq (s / 64) 0)) _ _ (OperandReads m (s ∷ bs)) (λ w. tt) (λ spelled.
    let index = scale_fits (s / 8 % 8) (s / 64) (omega arith) (omega arith) spelled in
    cond_both (nat_eq (m / 64) 0 && nat_eq (s % 8) 5) _ _ (OperandReads m (s ∷ bs)) (λ absolute.
    let parts = and_parts (nat_eq (m / 64) 0) (nat_eq (s % 8) 5) absolute in
    let z = eqb-true _ _ parts.0 in
    let five = eqb-true _ _ parts.1 in
    memory_operand m None (Some (s / 8 % 8, s / 64)) D32 (s ∷ []) bs _ (λ d hd.
    let head : m ≡ modrm 0 (digit_of m) 4 = omega arith in
    let byte : sib (s / 8 % 8, s / 64) 5 ≡ s = omega arith in
    ((index, (refl, hd)), head, ap (λ x. x ∷ displacement D32 d) byte)) (memory_back None (Some (s / 8 % 8, s / 64)) D32 bs all)) (λ based.
    memory_operand m (Some (s % 8)) (Some (s / 8 % 8, s / 64)) (width_of (m / 64)) (s ∷ []) bs _ (λ d hd.
    let head : m ≡ modrm (m / 64) (digit_of m) 4 = omega arith in
    let byte : sib (s / 8 % 8, s / 64) (s % 8) ≡ s = omega arith in
    ((index, (omega arith, not_d0 (m / 64) (s % 8) top based, hd)), head ∙ ap (λ x. modrm x (digit_of m) 4) (sym wm), ap (λ x. x ∷ displacement (width_of (m / 64)) d) byte)) (memory_back (Some (s % 8)) (Some (s / 8 % 8, s / 64)) (width_of (m / 64)) bs all)))

behind_back : (m : ℕ) (bs : List ℕ) → m < 192 → m % 8 ≡ 4 → AllBytes bs → OperandReads m bs (behind_sib (m / 64) bs)
behind_back m [] hm e4 all =
    let w = width_of (m / 64) in
    let top : m / 64 < 3 = omega arith in
    let head : m ≡ modrm (m / 64) (digit_of m) 4 = omega arith in
    (Mem (Some 0) (Some (0, 0)) (pos 0) w, 0, displacement w (pos 0), ((omega arith, omega arith, λ e. refl), (omega arith, (λ e. absurd (omega arith)), zero_fits w)), head ∙ ap (λ x. modrm x (digit_of m) 4) (sym (mode_width (m / 64) top)), refl)
behind_back m (s ∷ bs) hm e4 all = sib_back m s bs hm e4 all.0 all.1

-- what operand_at gives is spelled so
pub operand_back : (m : ℕ) (bs : List ℕ) → m < 256 → AllBytes bs → OperandReads m bs (operand_at m bs)
operand_back m bs hm all =
    cond_both (nat_eq (m / 64) 3) _ _ (OperandReads m bs) (λ three.
    let e = eqb-true _ _ three in
    let head : m ≡ modrm 3 (digit_of m) (m % 8) = omega arith in
    (omega arith, head, (bs, refl))) (λ memory.
    let ne = eqb-false _ _ memory in
    let small : m < 192 = omega arith in
    let top : m / 64 < 3 = omega arith in
    cond_both (nat_eq (m % 8) 4) _ _ (OperandReads m bs) (λ four. behind_back m bs small (eqb-true _ _ four) all) (λ plain.
    let n4 = eqb-false _ _ plain in
    cond_both (nat_eq (m / 64) 0 && nat_eq (m % 8) 5) _ _ (OperandReads m bs) (λ absolute.
    let parts = and_parts (nat_eq (m / 64) 0) (nat_eq (m % 8) 5) absolute in
    let z = eqb-true _ _ parts.0 in
    let five = eqb-true _ _ parts.1 in
    let head : m ≡ modrm 0 (digit_of m) 5 = omega arith in
    memory_operand m None None D32 [] bs _ (λ d hd. ((refl, hd), head, refl)) (memory_back None None D32 bs all)) (λ based.
    let head : m ≡ modrm (m / 64) (digit_of m) (m % 8) = omega arith in
    memory_operand m (Some (m % 8)) None (width_of (m / 64)) [] bs _ (λ d hd.
    ((n4, (omega arith, not_d0 (m / 64) (m % 8) top based, hd)), head ∙ ap (λ x. modrm x (digit_of m) (m % 8)) (sym (mode_width (m / 64) top)), refl)) (memory_back (Some (m % 8)) None (width_of (m / 64)) bs all))))
