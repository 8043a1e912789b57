-- Small texts and what they lay, by hand.
use Rattle.std.specs.Prelude.{◌≡◌, ◌-◌, slice_get, ℕ, ℤ, pos, negsuc, List, [], ◌∷◌, codes, Option, Some, None}
use Rattle.isa386.specs.declared.field.Field.{Field}
use Rattle.isa386.specs.declared.field.Field.TheVariants.{Disp, Imm, Target as Distance}
use Rattle.isa386.specs.declared.ins.Dw.TheVariants.{D32}
use Rattle.isa386.specs.declared.ins.Opnd.TheVariants.{Mem}
use Rattle.isa386.specs.declared.ins.Way.TheVariants.{ToRegister}
use Rattle.isa386.specs.declared.ins.Dest.TheVariants.{Register}
use Rattle.isa386.specs.declared.ins.PlainOp.TheVariants.{Nop}
use Rattle.isa386.specs.declared.ins.Target.TheVariants.{Near}
use Rattle.isa386.specs.declared.ins.Ins.TheVariants.{Move, MoveImm, Jump, Plain}
use Rattle.asm_item.specs.declared.model.Label.{Label as Use}
use Rattle.asm_item.specs.declared.model.Word.TheVariants as datum
use Rattle.asm_item.specs.declared.model.Item.{Item}
use Rattle.asm_item.specs.declared.model.Item.TheVariants.{Code, Label, Byte, Long, Zero, Align, Section, Globl, Lcomm, Ln}
use Rattle.asm_item.specs.Stand.{Stand, Counters}
use Rattle.asm_lay.specs.Pieces.{own, section, Relocation, Piece}
use Rattle.asm_lay.specs.Laying.{laid, AreLaid, section_content, section_relocations}
use Rattle.asm_lay.specs.declared.codes.TheConstants.{R_DIR32, R_PCRLONG}

-- ---- statements

abbrev pub l : List ℕ
l = codes "l"

abbrev pub x : List ℕ
x = codes "x"

abbrev nop : Item
nop = Code (Plain Nop) None

abbrev with_name : Field → List ℕ → ℤ → Option Use
with_name f k add = Some (record { field = f; name = k; add = add })

abbrev jmp : List ℕ → Item
jmp k = Code (Jump (Near (pos 0))) (with_name Distance k (pos 0))

abbrev to_eax : List ℕ → Item
to_eax k = Code (MoveImm (Register 0) 0) (with_name Imm k (pos 0))

abbrev load_ecx : List ℕ → ℤ → Item
load_ecx k add = Code (Move ToRegister 1 (Mem None None (pos 0) D32)) (with_name Disp k add)

-- ---- what a text lays in .text and in .data, and what it leaves to the link editor

pub record Lays (xs : List Item) (text init : List ℕ) (text_left init_left : List Relocation) : Type 0 where
  pub pieces : List Piece
  pub laid_so : AreLaid xs pieces
  pub text_is : section_content 1 (laid xs pieces) ≡ text
  pub init_is : section_content 2 (laid xs pieces) ≡ init
  pub text_left_is : section_relocations 1 (laid xs pieces) ≡ text_left
  pub init_left_is : section_relocations 2 (laid xs pieces) ≡ init_left

abbrev jump_on_l : List Relocation
jump_on_l = record { at = 2; type = R_PCRLONG; to = own l } ∷ []

abbrev jump_on_data : List Relocation
jump_on_data = record { at = 1; type = R_PCRLONG; to = section 2 } ∷ []

abbrev use_of_data : ℕ → Relocation
use_of_data a = record { at = a; type = R_DIR32; to = section 2 }

-- memory that holds these bytes from 0x10000 on
abbrev pub loaded : List ℕ → ℕ → Option ℕ
loaded bytes a = slice_get bytes (a - 0x10000)

abbrev pub counted : ℕ → Counters
counted a = record { section = 1; text = a; init = 0x400000 }

pub record TextsAreLaid : Type 0 where
  -- l: nop; jmp l
  pub back : Lays (Label l ∷ nop ∷ jmp l ∷ []) (0x90 ∷ 0xE9 ∷ 0xFA ∷ 0xFF ∷ 0xFF ∷ 0xFF ∷ []) [] [] []
  -- the same, as a short jump
  pub back_short : Lays (Label l ∷ nop ∷ jmp l ∷ []) (0x90 ∷ 0xEB ∷ 0xFD ∷ []) [] [] []
  -- jmp l; .zero 3; l: nop
  pub forward : Lays (jmp l ∷ Zero 3 ∷ Label l ∷ nop ∷ []) (0xE9 ∷ 3 ∷ 0 ∷ 0 ∷ 0 ∷ 0 ∷ 0 ∷ 0 ∷ 0x90 ∷ []) [] [] []
  -- .globl l; l: nop; jmp l
  pub external : Lays (Globl l ∷ Label l ∷ nop ∷ jmp l ∷ []) (0x90 ∷ 0xE9 ∷ 0 ∷ 0 ∷ 0 ∷ 0 ∷ []) [] jump_on_l []
  -- nop; .align 4; nop
  pub fill_in_text : Lays (nop ∷ Align ∷ nop ∷ []) (0x90 ∷ 0x90 ∷ 0x90 ∷ 0x90 ∷ 0x90 ∷ []) [] [] []
  -- .data; .byte 1; .align 4; .byte 2
  pub fill_in_data : Lays (Section 2 ∷ Byte 1 ∷ Align ∷ Byte 2 ∷ []) [] (1 ∷ 0 ∷ 0 ∷ 0 ∷ 2 ∷ []) [] []
  -- .data; x: .byte 1; .long x + 4; .text; movl $x, %eax; movl x + -1, %ecx
  pub addends :
      Lays (Section 2 ∷ Label x ∷ Byte 1 ∷ Long (datum.Label x (pos 4)) ∷ Section 1 ∷ to_eax x ∷ load_ecx x (negsuc 0) ∷ [])
      (0xB8 ∷ 0 ∷ 0 ∷ 0 ∷ 0 ∷ 0x8B ∷ 0x0D ∷ 0xFF ∷ 0xFF ∷ 0xFF ∷ 0xFF ∷ []) (1 ∷ 4 ∷ 0 ∷ 0 ∷ 0 ∷ [])
      (use_of_data 1 ∷ use_of_data 7 ∷ []) (use_of_data 1 ∷ [])
  -- jmp x; .data; .long 1; x: .long 2
  pub into_data :
      Lays (jmp x ∷ Section 2 ∷ Long (datum.Number 1) ∷ Label x ∷ Long (datum.Number 2) ∷ [])
      (0xE9 ∷ 4 ∷ 0 ∷ 0 ∷ 0 ∷ []) (1 ∷ 0 ∷ 0 ∷ 0 ∷ 2 ∷ 0 ∷ 0 ∷ 0 ∷ []) jump_on_data []
  -- .lcomm l, 1; .lcomm x, 4; movl $x, %eax
  pub in_bss :
      Lays (Lcomm l 1 ∷ Lcomm x 4 ∷ to_eax x ∷ []) (0xB8 ∷ 4 ∷ 0 ∷ 0 ∷ 0 ∷ []) [] (record { at = 1; type = R_DIR32; to = section 3 } ∷ []) []
  -- l: .ln 1; nop; jmp l, in memory
  pub stands :
      Stand (loaded (0x90 ∷ 0xE9 ∷ 0xFA ∷ 0xFF ∷ 0xFF ∷ 0xFF ∷ [])) (λ k. 0x10000) (counted 0x10000) (Label l ∷ Ln 1 ∷ nop ∷ jmp l ∷ [])
      (0x10000 ∷ []) (counted 0x10006)
