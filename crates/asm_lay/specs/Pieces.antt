-- What a statement lays: its bytes, and what is left of it to the link editor.
use Rattle.std.specs.Prelude.{◌≡◌, ◌<◌, ℕ, ℤ, ◌+◌, ◌-◌, ◌%◌, List, [], ◌∷◌, length, replicate, Bool, true, false, nat_eq, Option, Some, None, is_none, if◌then◌else◌}
use Rattle.byteorder.specs.Endian.{little_bytes}
use Rattle.isa386.specs.Encoding.{encoding}
use Rattle.isa386.specs.Fields.{put, front}
use Rattle.isa386.specs.declared.field.Field.{Field}
use Rattle.isa386.specs.declared.field.Field.TheVariants.{Disp, Imm, Target as Distance}
use Rattle.isa386.specs.declared.ins.Ins.{Ins}
use Rattle.asm_item.specs.declared.model.Label.{Label}
use Rattle.asm_item.specs.declared.model.Word.{Word}
use Rattle.asm_item.specs.declared.model.Word.TheVariants as datum
use Rattle.asm_item.specs.declared.model.Item.{Item}
use Rattle.asm_item.specs.declared.model.Item.TheVariants as items
use Rattle.asm_item.specs.Stand.{Counters, counter, plus_number, IsFormOf, fill_byte}
use Rattle.asm_lay.specs.Names.{Location, Names}
use Rattle.asm_lay.specs.declared.codes.TheConstants.{R_DIR32, R_PCRLONG}

-- what a relocation names: an external by its own symbol, and any other label by its section's
pub data Aim : Type 0 where
  own : (name : List ℕ) → Aim
  section : (s : ℕ) → Aim

-- the four bytes at this offset of the section are left to the link editor
pub record Relocation : Type 0 where
  pub at : ℕ
  pub type : ℕ
  pub to : Aim

-- the bytes of a statement, with at most one relocation
pub record Piece : Type 0 where
  pub bytes : List ℕ
  pub relocation : Option Relocation

-- bytes that nobody moves
abbrev pub fixed : List ℕ → Piece
fixed bytes = record { bytes = bytes; relocation = None }

-- ---- addends

abbrev pub aim_by : List ℕ → Bool → Option Location → Aim
aim_by k true place = own k
aim_by k false None = own k
aim_by k false (Some place) = section place.section

-- the symbol by which a relocation names k
abbrev pub aim : Names → List ℕ → Aim
aim n k = aim_by k (n.external k) (n.place k)

abbrev pub offset_by : Bool → Option Location → ℕ
offset_by true place = 0
offset_by false None = 0
offset_by false (Some place) = place.offset

-- the addend in the field: what is added to the name, from the begin of what the relocation names
abbrev pub addend : Names → List ℕ → ℤ → ℕ
addend n k add = plus_number (offset_by (n.external k) (n.place k)) add

-- ---- instructions with a label

abbrev pub near_by : ℕ → Bool → Option Location → Option ℕ
near_by s true place = None
near_by s false None = None
near_by s false (Some place) = if nat_eq place.section s then Some place.offset else None

abbrev pub near_in : Names → ℕ → List ℕ → Field → Option ℕ
near_in n s k Disp = None
near_in n s k Imm = None
near_in n s k Distance = near_by s (n.external k) (n.place k)

-- the offset to which a jump or call in section s goes, where its label is of this section and isn't external
abbrev pub near : Names → ℕ → Label → Option ℕ
near n s l = near_in n s l.name l.field

-- a jump or call with a distance that reaches offset o from its end, in a form whose displacement holds it
abbrev pub Resolved : ℕ → Ins → Label → ℕ → Piece → Type 0
Resolved a i l o p =
    (d : ℕ) × (d < 4294967296) × (j : Ins) × IsFormOf (put l.field d i) j
    × ((a + length (encoding j) + d) % 4294967296 ≡ o) × (p ≡ fixed (encoding j))

-- a distance is counted from the end of its field
abbrev pub relocation_type : Field → ℕ
relocation_type Disp = R_DIR32
relocation_type Imm = R_DIR32
relocation_type Distance = R_PCRLONG

-- the addend in the field, and a relocation of the field
abbrev pub left : Names → ℕ → Ins → Label → Piece
left n a i l = record {
  bytes = encoding (put l.field (addend n l.name l.add) i);
  relocation = Some (record { at = a + length (front l.field i); type = relocation_type l.field; to = aim n l.name });
}

abbrev pub Left : Names → ℕ → Ins → Label → Piece → Type 0
Left n a i l p = p ≡ left n a i l

abbrev pub IsLabelPiece : Names → ℕ → Ins → Label → Option ℕ → Piece → Type 0
IsLabelPiece n a i l (Some o) p = Resolved a i l o p
IsLabelPiece n a i l None p = Left n a i l p

-- ---- statements

-- the bytes up to the next multiple of 4
abbrev pub gap : ℕ → ℕ
gap a = (4 - a % 4) % 4

abbrev pub datum_piece : Names → ℕ → Word → Piece
datum_piece n a (datum.Number v) = fixed (little_bytes 4 v)
datum_piece n a (datum.Label k add) = record {
  bytes = little_bytes 4 (addend n k add);
  relocation = Some (record { at = a; type = R_DIR32; to = aim n k });
}

-- what a statement lays at the counters c
abbrev pub IsPiece : Names → Counters → Item → Piece → Type 0
IsPiece n c (items.Code i None) p = p ≡ fixed (encoding i)
IsPiece n c (items.Code i (Some l)) p = IsLabelPiece n (counter c) i l (near n c.section l) p
IsPiece n c (items.Label k) p = p ≡ fixed []
IsPiece n c (items.Byte v) p = p ≡ fixed (v ∷ [])
IsPiece n c (items.Value v) p = p ≡ fixed (little_bytes 2 v)
IsPiece n c (items.Long w) p = p ≡ datum_piece n (counter c) w
IsPiece n c (items.Zero m) p = p ≡ fixed (replicate m 0)
IsPiece n c items.Align p = p ≡ fixed (replicate (gap (counter c)) (fill_byte c.section))
IsPiece n c (items.Section s) p = p ≡ fixed []
IsPiece n c (items.Globl k) p = p ≡ fixed []
IsPiece n c (items.Comm k m) p = p ≡ fixed []
IsPiece n c (items.Lcomm k m) p = p ≡ fixed []
IsPiece n c (items.Def g) p = p ≡ fixed []
IsPiece n c (items.Ln m) p = p ≡ fixed []
IsPiece n c (items.File k) p = p ≡ fixed []

-- whether a statement in section s has a relocation, whatever bytes it lays
abbrev pub is_left : Names → ℕ → Item → Bool
is_left n s (items.Code i (Some l)) = is_none (near n s l)
is_left n s (items.Long (datum.Label k add)) = true
is_left n s x = false

-- how many bytes a statement lays at this offset, where each jump is long
abbrev pub long_len : ℕ → Item → ℕ
long_len a (items.Code i l) = length (encoding i)
long_len a (items.Byte v) = 1
long_len a (items.Value v) = 2
long_len a (items.Long w) = 4
long_len a (items.Zero m) = m
long_len a items.Align = gap a
long_len a x = 0
