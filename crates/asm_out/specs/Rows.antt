-- A small text with a function, its lines and a variable, and its object by hand.
use Rattle.std.specs.Prelude.{take, ◌≡◌, ℕ, ◌-◌, ℤ, pos, negsuc, List, [], ◌∷◌, ◌++◌, length, map, codes, Option, Some, None, replicate}
use Rattle.isa386.specs.declared.field.Field.TheVariants.{Disp}
use Rattle.isa386.specs.declared.ins.Dw.TheVariants.{D32}
use Rattle.isa386.specs.declared.ins.Opnd.TheVariants.{Reg, Mem}
use Rattle.isa386.specs.declared.ins.Way.TheVariants.{ToOperand, ToRegister}
use Rattle.isa386.specs.declared.ins.Dest.TheVariants.{Operand}
use Rattle.isa386.specs.declared.ins.StackOp.TheVariants.{Push}
use Rattle.isa386.specs.declared.ins.PlainOp.TheVariants.{Ret, Leave, Nop}
use Rattle.isa386.specs.declared.ins.Ins.TheVariants.{Move, MoveImm, Stack, Plain}
use Rattle.asm_item.specs.declared.model.Label.{Label as Use}
use Rattle.asm_item.specs.declared.model.Val.{Val}
use Rattle.asm_item.specs.declared.model.Val.TheVariants as values
use Rattle.asm_item.specs.declared.model.Word.TheVariants as datum
use Rattle.asm_item.specs.declared.model.Item.{Item}
use Rattle.asm_item.specs.declared.model.Item.TheVariants.{Code, Label, Zero, Long, Section, Globl, Comm, Lcomm, Def, Ln, File}
use Rattle.coff_rec.specs.declared.parts.Parts.{Parts}
use Rattle.coff_rec.specs.declared.parts.Part.TheVariants as part
use Rattle.coff_rec.specs.declared.records.Reloc.{Reloc}
use Rattle.coff_rec.specs.declared.records.LineRec.{LineRec}
use Rattle.coff_rec.specs.declared.records.SymRec.{SymRec}
use Rattle.coff_rec.specs.declared.entry.AuxRec.{AuxRec}
use Rattle.coff_rec.specs.Records.{blank}
use Rattle.coff_rec.specs.Files.{file_of}
use Rattle.asm_out.specs.Object.{ObjectOf}
use Rattle.asm_out.specs.Causes.{Lacks, IsTwice, IsBadGroup, IsLarge}

abbrev pub group : List ℕ → Val → ℤ → ℕ → ℕ → Item
group name v scl ty line = Def (record { name = name; val = v; scl = scl; ty = ty; tag = None; line = line; size = 0; dims = 0 ∷ 0 ∷ 0 ∷ 0 ∷ [] })

abbrev main : List ℕ
main = codes "main"

abbrev pub w : List ℕ
w = codes "w"

abbrev pub a : List ℕ
a = codes "a"

abbrev nop : Item
nop = Code (Plain Nop) None

abbrev use_of_w : Option Use
use_of_w = Some (record { field = Disp; name = w; add = pos 0 })

abbrev pub statements : List Item
statements =
    File (codes "h.c") ∷ Section 1 ∷ Globl main ∷ group main (values.Label main) (pos 2) 0x24 0 ∷ Label main
    ∷ Code (Stack (Push 5)) None ∷ Code (Move ToOperand 4 (Reg 5)) None
    ∷ group (codes ".bf") values.Here (pos 101) 0 2 ∷ Ln 1 ∷ nop
    ∷ Ln 2 ∷ Code (MoveImm (Operand (Mem None None (pos 0) D32)) 7) use_of_w
    ∷ Ln 3 ∷ Code (Move ToRegister 0 (Mem None None (pos 0) D32)) use_of_w
    ∷ group (codes ".ef") values.Here (pos 101) 0 4 ∷ Ln 4 ∷ nop
    ∷ Code (Plain Leave) None ∷ Code (Plain Ret) None ∷ group main values.Here (negsuc 0) 0 0
    ∷ Section 2 ∷ Globl w ∷ group w (values.Label w) (pos 2) 4 0 ∷ Label w ∷ Long (datum.Number 3) ∷ []

abbrev symbol : List ℕ → ℕ → ℤ → ℕ → ℕ → ℕ → SymRec
symbol name value section type class numaux = record {
  n_name = name ++ replicate (8 - length name) 0;
  n_value = value;
  n_scnum = section;
  n_type = type;
  n_sclass = class;
  n_numaux = numaux;
}

abbrev line : ℕ → ℕ → LineRec
line address number = record { l_addr = address; l_lnno = number }

-- the field of a move, left to the link editor on the symbol w
abbrev on_w : ℕ → Reloc
on_w address = record { r_vaddr = address; r_symndx = 14; r_type = 6 }

abbrev contents : ℕ → ℕ → ℕ → AuxRec
contents len relocations lines = record blank { x_scnlen = len; x_nreloc = relocations; x_nlinno = lines }

-- a common with a name of 9 bytes, and a name of another file
abbrev pub externals_used : List Item
externals_used =
    Comm (codes "abcdefghi") 8 ∷ Globl a
    ∷ Code (Move ToRegister 0 (Mem None None (pos 0) D32)) (Some (record { field = Disp; name = a; add = pos 12 })) ∷ []

abbrev long_name : List ℕ
long_name = 0 ∷ 0 ∷ 0 ∷ 0 ∷ 4 ∷ 0 ∷ 0 ∷ 0 ∷ []

-- the externals stand in the order of their first mention
pub record ExternalsAreMade : Type 0 where
  pub made : Parts
  pub object : ObjectOf externals_used made
  pub text : made.text ≡ 0x8B ∷ 5 ∷ 12 ∷ 0 ∷ 0 ∷ 0 ∷ []
  pub relocations : made.text_relocs ≡ record { r_vaddr = 2; r_symndx = 7; r_type = 6 } ∷ []
  pub symbols : made.syms
      ≡ symbol (codes ".text") 0 (pos 1) 0 3 1 ∷ symbol (codes ".data") 8 (pos 2) 0 3 1 ∷ symbol (codes ".bss") 8 (pos 3) 0 3 1
      ∷ symbol long_name 8 (pos 0) 0 2 0 ∷ symbol a 0 (pos 0) 0 2 0 ∷ []
  pub strings : made.strings ≡ 14 ∷ 0 ∷ 0 ∷ 0 ∷ (codes "abcdefghi" ++ (0 ∷ []))
  pub flags : made.head.f_flags ≡ 0x104

abbrev of_tag : List ℕ → Val → ℤ → ℕ → Item
of_tag name v scl ty = Def (record { name = name; val = v; scl = scl; ty = ty; tag = Some (codes "t"); line = 0; size = 8; dims = 0 ∷ 0 ∷ 0 ∷ 0 ∷ [] })

-- a structure of 8 bytes and a static variable of it, without a .file
abbrev pub structure : List Item
structure =
    Def (record { name = codes "t"; val = values.Number 0; scl = pos 10; ty = 8; tag = None; line = 0; size = 8; dims = 0 ∷ 0 ∷ 0 ∷ 0 ∷ [] })
    ∷ group (codes "m") (values.Number 4) (pos 8) 4 0 ∷ of_tag (codes ".eos") (values.Number 8) (pos 102) 0
    ∷ Section 2 ∷ of_tag a (values.Label a) (pos 3) 8 ∷ Label a ∷ Zero 8 ∷ []

-- a tag at index 0 is a tag
pub record TagsAreMade : Type 0 where
  pub made : Parts
  pub object : ObjectOf structure made
  pub symbols : take 4 made.syms
      ≡ symbol (codes "t") 0 (negsuc 1) 8 10 1 ∷ symbol (codes "m") 4 (negsuc 0) 4 8 0 ∷ symbol (codes ".eos") 8 (negsuc 0) 0 102 1
      ∷ symbol a 0 (pos 2) 8 3 1 ∷ []
  pub entries : take 3 made.auxs
      ≡ record blank { x_size = 8; x_endndx = 5 } ∷ record blank { x_size = 8 } ∷ record blank { x_size = 8 } ∷ []

abbrev uses_g : Item
uses_g = group a (values.Label (codes "g")) (pos 3) 4 0

abbrev pub function : Item
function = group main (values.Label main) (pos 2) 0x24 0

abbrev pub body_begin : Item
body_begin = group (codes ".bf") values.Here (pos 101) 0 1

abbrev pub body_end : Item
body_end = group (codes ".ef") values.Here (pos 101) 0 1

abbrev pub block_begin : Item
block_begin = group (codes ".bb") values.Here (pos 100) 0 1

abbrev pub block_end : Item
block_end = group (codes ".eb") values.Here (pos 100) 0 1

abbrev pub mark : Item
mark = group main values.Here (negsuc 0) 0 0

abbrev pub of_class : ℤ → Item
of_class class = group a (values.Number 0) class 4 0

-- a text with these statements behind the label `main`
abbrev pub behind_main : List Item → List Item
behind_main xs = Section 1 ∷ Label main ∷ xs

abbrev bad_at : ℕ → List Item → Type 0
bad_at n xs = IsBadGroup (behind_main xs) n

pub record ObjectsAreMade : Type 0 where
  pub made : Parts
  pub object : ObjectOf statements made
  pub text : made.text ≡ 0x55 ∷ 0x89 ∷ 0xE5 ∷ 0x90 ∷ 0xC7 ∷ 5 ∷ 0 ∷ 0 ∷ 0 ∷ 0 ∷ 7 ∷ 0 ∷ 0 ∷ 0 ∷ 0x8B ∷ 5 ∷ 0 ∷ 0 ∷ 0 ∷ 0 ∷ 0x90 ∷ 0xC9 ∷ 0xC3 ∷ []
  pub init : made.init ≡ 3 ∷ 0 ∷ 0 ∷ 0 ∷ []
  pub relocations : made.text_relocs ≡ on_w 6 ∷ on_w 16 ∷ []
  pub lines : made.lines ≡ line 2 0 ∷ line 3 1 ∷ line 4 2 ∷ line 14 3 ∷ line 20 4 ∷ []
  pub symbols : made.syms
      ≡ symbol (codes ".file") 14 (negsuc 1) 0 103 1 ∷ symbol main 0 (pos 1) 0x24 2 1 ∷ symbol (codes ".bf") 3 (pos 1) 0 101 1
      ∷ symbol (codes ".ef") 20 (pos 1) 0 101 1 ∷ symbol (codes ".text") 0 (pos 1) 0 3 1 ∷ symbol (codes ".data") 24 (pos 2) 0 3 1
      ∷ symbol (codes ".bss") 28 (pos 3) 0 3 1 ∷ symbol w 24 (pos 2) 4 2 0 ∷ []
  pub entries : made.auxs
      ≡ record blank { x_fname = codes "h.c" ++ replicate 11 0 } ∷ record blank { x_fsize = 23; x_lnnoptr = 187; x_endndx = 8 }
      ∷ record blank { x_lnno = 2 } ∷ record blank { x_lnno = 4 } ∷ contents 23 2 5 ∷ contents 4 0 0 ∷ contents 0 0 0 ∷ []
  pub strings : made.strings ≡ 4 ∷ 0 ∷ 0 ∷ 0 ∷ []
  pub head : made.head ≡ record { f_magic = 0x14C; f_nscns = 3; f_timdat = 0; f_symptr = 217; f_nsyms = 15; f_opthdr = 0; f_flags = 0x100 }
  pub pointers : map (λ s. s.s_scnptr ∷ s.s_relptr ∷ s.s_lnnoptr ∷ []) made.secs ≡ (140 ∷ 167 ∷ 187 ∷ []) ∷ (163 ∷ 0 ∷ 0 ∷ []) ∷ (0 ∷ 0 ∷ 0 ∷ []) ∷ []
  pub len : length (file_of made) ≡ 491

-- Texts without an object, each with its cause.
pub record CausesAreFound : Type 0 where
  pub lacks : Lacks (uses_g ∷ []) (codes "g")
  pub twice_label : IsTwice (Label a ∷ nop ∷ Label a ∷ nop ∷ []) a
  pub twice_common : IsTwice (Comm a 4 ∷ Label a ∷ nop ∷ []) a
  pub twice_in_bss : IsTwice (Lcomm a 4 ∷ Comm a 4 ∷ []) a
  pub large_text : IsLarge (Zero 4128769 ∷ []) part.Text
  pub very_large_text : IsLarge (Zero 4294967295 ∷ Zero 4294967295 ∷ []) part.Text
  pub large_init : IsLarge (Section 2 ∷ Zero 16777216 ∷ Lcomm a 1 ∷ []) part.Init
  pub no_class : bad_at 0 (of_class (pos 0) ∷ [])
  pub class_five : bad_at 0 (of_class (pos 5) ∷ [])
  pub of_a_section : bad_at 0 (group (codes ".data") (values.Number 0) (pos 3) 4 0 ∷ [])
  pub open_tag : bad_at 0 (of_class (pos 10) ∷ of_class (pos 8) ∷ [])
  pub lone_member : bad_at 0 (of_class (pos 8) ∷ [])
  pub lone_end : bad_at 0 (of_class (pos 102) ∷ [])
  pub first_begin : bad_at 0 (body_begin ∷ body_end ∷ [])
  pub open_begin : bad_at 1 (function ∷ body_begin ∷ [])
  pub second_begin : bad_at 3 (function ∷ body_begin ∷ body_end ∷ body_begin ∷ body_end ∷ [])
  pub loose_block_end : bad_at 2 (function ∷ body_begin ∷ block_end ∷ body_end ∷ [])
  pub late_block_end : bad_at 2 (function ∷ body_begin ∷ block_begin ∷ body_end ∷ block_end ∷ [])
  pub lone_line : bad_at 0 (Ln 1 ∷ [])
  pub early_line : bad_at 0 (function ∷ Ln 1 ∷ body_begin ∷ body_end ∷ [])
  pub late_line : bad_at 3 (function ∷ body_begin ∷ body_end ∷ mark ∷ Ln 1 ∷ [])
