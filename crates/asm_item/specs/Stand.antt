-- Items that stand in memory: what each statement says of the bytes that are told and of the addresses of names. It knows neither
-- an object file nor who made the items.
use Rattle.std.specs.Prelude.{◌≡◌, ◌⊎◌, ◌<◌, ℕ, ℤ, ◌+◌, ◌%◌, List, [], ◌∷◌, ◌++◌, length, replicate, slice_get, Option, Some, None, nat_eq, if◌then◌else◌}
use Rattle.std.specs.Int.{w8, w32, cast_unsigned}
use Rattle.std.specs.Int.RustNames.{FitsSigned}
use Rattle.byteorder.specs.Endian.{little_bytes}
use Rattle.isa386.specs.Encoding.{encoding}
use Rattle.isa386.specs.Fields.{put}
use Rattle.isa386.specs.declared.field.Field.{Field}
use Rattle.isa386.specs.declared.field.Field.TheVariants.{Disp, Imm, Target as Distance}
use Rattle.isa386.specs.declared.ins.Target.TheVariants.{Near, Short}
use Rattle.isa386.specs.declared.ins.Ins.{Ins}
use Rattle.isa386.specs.declared.ins.Ins.TheVariants.{Jump, Branch}
use Rattle.asm_item.specs.declared.model.Label.{Label}
use Rattle.asm_item.specs.declared.model.Word.{Word}
use Rattle.asm_item.specs.declared.model.Word.TheVariants as datum
use Rattle.asm_item.specs.declared.model.Item.{Item}
use Rattle.asm_item.specs.declared.model.Item.TheVariants as items

-- ---- location counters

-- the present section, and the next place in .text and in .data
pub record Counters : Type 0 where
  pub section : ℕ
  pub text : ℕ
  pub init : ℕ

-- the next place in the present section
abbrev pub counter : Counters → ℕ
counter c = if nat_eq c.section 1 then c.text else c.init

-- the counters with this one as the next place in the present section
abbrev pub counted_to : Counters → ℕ → Counters
counted_to c a = if nat_eq c.section 1 then record c { text = a } else record c { init = a }

-- ---- names in fields

-- an address and a signed number, modulo 2 to the power 32
abbrev pub plus_number : ℕ → ℤ → ℕ
plus_number a n = (a + cast_unsigned w32 n) % 4294967296

-- j is the instruction i, or a jump i in its short form, where that holds the distance
abbrev pub IsFormOf : Ins → Ins → Type 0
IsFormOf (Jump (Near d)) j = (j ≡ Jump (Near d)) ⊎ ((j ≡ Jump (Short d)) × FitsSigned w8 d)
IsFormOf (Branch cc (Near d)) j = (j ≡ Branch cc (Near d)) ⊎ ((j ≡ Branch cc (Short d)) × FitsSigned w8 d)
IsFormOf i j = j ≡ i

-- j is the instruction i with the label's address in the field, or, in a jump or call, with the distance to it from the end e of j
abbrev pub IsSetIn : (List ℕ → ℕ) → ℕ → Ins → Label → Field → Ins → Type 0
IsSetIn at e i l Disp j = j ≡ put Disp (plus_number (at l.name) l.add) i
IsSetIn at e i l Imm j = j ≡ put Imm (plus_number (at l.name) l.add) i
IsSetIn at e i l Distance j = (d : ℕ) × (d < 4294967296) × IsFormOf (put Distance d i) j × ((e + d) % 4294967296 ≡ at l.name)

abbrev pub IsSet : (List ℕ → ℕ) → ℕ → Ins → Option Label → Ins → Type 0
IsSet at e i None j = j ≡ i
IsSet at e i (Some l) j = IsSetIn at e i l l.field j

-- the number in a word of data
abbrev pub datum_number : (List ℕ → ℕ) → Word → ℕ
datum_number at (datum.Number n) = n
datum_number at (datum.Label k add) = plus_number (at k) add

-- ---- statements

-- these bytes are told from an address on
abbrev pub AreTold : (ℕ → Option ℕ) → ℕ → List ℕ → Type 0
AreTold told a bytes = (k : ℕ) → k < length bytes → told (a + k) ≡ slice_get bytes k

-- these bytes are told at the present place, and the counters d are those behind them
abbrev pub Lie : (ℕ → Option ℕ) → Counters → List ℕ → Counters → Type 0
Lie told c bytes d = AreTold told (counter c) bytes × (d ≡ counted_to c (counter c + length bytes))

-- a gap in .text is filled with the code of nop, and any other with 0
abbrev pub fill_byte : ℕ → ℕ
fill_byte section = if nat_eq section 1 then 0x90 else 0

-- what a statement says at the counters c, where d are those behind it
abbrev pub ItemStands : (ℕ → Option ℕ) → (List ℕ → ℕ) → Counters → Item → Counters → Type 0
ItemStands told at c (items.Code i l) d = (j : Ins) × IsSet at (counter d) i l j × Lie told c (encoding j) d
ItemStands told at c (items.Label k) d = (at k ≡ counter c) × (d ≡ c)
ItemStands told at c (items.Byte n) d = Lie told c (n ∷ []) d
ItemStands told at c (items.Value n) d = Lie told c (little_bytes 2 n) d
ItemStands told at c (items.Long w) d = Lie told c (little_bytes 4 (datum_number at w)) d
ItemStands told at c (items.Zero n) d = Lie told c (replicate n 0) d
ItemStands told at c items.Align d = (gap : ℕ) × (gap < 4) × (counter d % 4 ≡ 0) × Lie told c (replicate gap (fill_byte c.section)) d
ItemStands told at c (items.Section s) d = d ≡ record c { section = s }
ItemStands told at c (items.Globl k) d = d ≡ c
ItemStands told at c (items.Comm k n) d = d ≡ c
ItemStands told at c (items.Lcomm k n) d = d ≡ c
ItemStands told at c (items.Def g) d = d ≡ c
ItemStands told at c (items.Ln n) d = d ≡ c
ItemStands told at c (items.File k) d = d ≡ c

-- the places in .text that a statement gives a line
abbrev pub line_places : Counters → Item → List ℕ
line_places c (items.Ln n) = c.text ∷ []
line_places c x = []

-- the items stand from the counters c up to e, their lines begin at these places, and `at` is the address that each name has
abbrev pub Stand : (ℕ → Option ℕ) → (List ℕ → ℕ) → Counters → List Item → List ℕ → Counters → Type 0
Stand told at c [] lines e = (lines ≡ []) × (e ≡ c)
Stand told at c (x ∷ xs) lines e =
    (d : Counters) × ItemStands told at c x d
    × (rest : List ℕ) × (lines ≡ line_places c x ++ rest) × Stand told at d xs rest e
