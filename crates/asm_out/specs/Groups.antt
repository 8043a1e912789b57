-- What the groups of a text say of symbols, each by itself.
use Rattle.std.specs.Prelude.{ℕ, ℤ, pos, negsuc, ◌+◌, ◌-◌, ◌%◌, List, [], ◌∷◌, length, Bool, true, false, ◌&&◌, ◌||◌, nat_eq, Option, Some, None, if◌then◌else◌}
use Rattle.std.specs.Str.{bytes_eq}
use Rattle.asm_item.specs.declared.model.Val.{Val}
use Rattle.asm_item.specs.declared.model.Val.TheVariants as values
use Rattle.asm_item.specs.declared.model.DefGroup.{DefGroup}
use Rattle.asm_item.specs.declared.model.Item.{Item}
use Rattle.asm_item.specs.declared.model.Item.TheVariants as items
use Rattle.asm_item.specs.Stand.{counter}
use Rattle.asm_lay.specs.Names.{Location}
use Rattle.asm_lay.specs.Laying.{Laid, label_place, section_content, round4}
use Rattle.coff_rec.specs.AuxKinds.{is_tag}
use Rattle.coff_rec.specs.Nesting.{is_member, kind_of}
use Rattle.coff_rec.specs.declared.codes.TheConstants.{C_ARG, C_AUTO, C_EOS, C_FIELD, C_FILE, C_REG, C_TPDEF}
use Rattle.coff_rec.specs.declared.nesting.Kind.{Kind}
use Rattle.coff_rec.specs.declared.nesting.Kind.TheVariants.{Function}

-- ---- values

-- a number, a place, a common of so many bytes, or the place of a name that another file defines
pub data Value : Type 0 where
  number : (n : ℕ) → Value
  place : (l : Location) → Value
  common : (n : ℕ) → Value
  elsewhere : Value

abbrev pub common_by : Bool → ℕ → Value → Value
common_by true n rest = common n
common_by false n rest = rest

abbrev pub common_in : Item → List ℕ → Value → Value
common_in (items.Comm j n) k rest = common_by (bytes_eq j k) n rest
common_in x k rest = rest

-- the value of a name without a label: its .comm
abbrev pub value_without : List Laid → List ℕ → Value
value_without [] k = elsewhere
value_without (x ∷ xs) k = common_in x.item k (value_without xs k)

abbrev pub value_by : Option Location → Value → Value
value_by None rest = rest
value_by (Some l) rest = place l

-- the value of a name in a text
abbrev pub name_value : List Laid → List ℕ → Value
name_value xs k = value_by (label_place xs k) (value_without xs k)

-- the present place
abbrev pub present_place : Laid → Location
present_place x = record { section = x.counters.section; offset = counter x.counters }

-- the value of the group at x
abbrev pub group_value : List Laid → Laid → Val → Value
group_value xs x (values.Number n) = number n
group_value xs x (values.Label k) = name_value xs k
group_value xs x values.Here = place (present_place x)

-- the section of a value; N_ABS is -1, N_UNDEF 0
abbrev pub value_section : Value → ℤ
value_section (number n) = negsuc 0
value_section (place l) = pos l.section
value_section (common n) = pos 0
value_section elsewhere = pos 0

-- ---- addresses: .text at 0, .data at the next multiple of 4, .bss at the next behind it

abbrev pub init_begin : List Laid → ℕ
init_begin xs = round4 (length (section_content 1 xs))

abbrev pub bss_begin : List Laid → ℕ
bss_begin xs = round4 (init_begin xs + length (section_content 2 xs))

abbrev pub section_begin : List Laid → ℕ → ℕ
section_begin xs s = if nat_eq s 1 then 0 else (if nat_eq s 2 then init_begin xs else bss_begin xs)

abbrev pub address_of : List Laid → Location → ℕ
address_of xs l = section_begin xs l.section + l.offset

-- what n_value holds
abbrev pub value_number : List Laid → Value → ℕ
value_number xs (number n) = n
value_number xs (place l) = address_of xs l
value_number xs (common n) = n
value_number xs elsewhere = 0

-- ---- classes

abbrev pub class_by : ℤ → ℕ
class_by (pos n) = n
class_by (negsuc n) = 0

-- the storage class of a group, and 0 where the number is below 0
abbrev pub class_of : DefGroup → ℕ
class_of g = class_by g.scl

abbrev pub is_minus_one : ℤ → Bool
is_minus_one (pos n) = false
is_minus_one (negsuc n) = nat_eq n 0

-- a group that marks a function's physical end and makes no symbol
abbrev pub is_mark : DefGroup → Bool
is_mark g = is_minus_one g.scl

-- a symbol for the debugger alone, without an address
abbrev pub is_debug : ℕ → Bool
is_debug class = nat_eq class C_FILE || is_tag class || nat_eq class C_TPDEF

-- a symbol whose value is a number: an offset, a size or a register
abbrev pub is_absolute : ℕ → Bool
is_absolute class =
    is_member class || nat_eq class C_EOS || nat_eq class C_ARG || nat_eq class C_AUTO || nat_eq class C_REG
    || nat_eq class C_FIELD

-- N_DEBUG is -2
abbrev pub section_for : ℕ → Value → ℤ
section_for class v = if is_debug class then negsuc 1 else (if is_absolute class then negsuc 0 else value_section v)

abbrev pub group_section : List Laid → Laid → DefGroup → ℤ
group_section xs x g = section_for (class_of g) (group_value xs x g.val)

-- what a group is where symbols nest
abbrev pub group_kind : List Laid → Laid → DefGroup → Kind
group_kind xs x g = kind_of (class_of g) g.name (group_section xs x g) g.ty

abbrev pub is_function_kind : Kind → Bool
is_function_kind Function = true
is_function_kind k = false

abbrev pub is_function_by : List Laid → Laid → Item → Bool
is_function_by xs x (items.Def g) = is_function_kind (group_kind xs x g)
is_function_by xs x i = false

-- whether a statement is a function's group
abbrev pub is_function_at : List Laid → Laid → Bool
is_function_at xs x = is_function_by xs x x.item

-- ---- what belongs to a function: the statements behind its group, up to the next function's

abbrev pub up_to_function : List Laid → List Laid → List Laid
up_to_function xs [] = []
up_to_function xs (y ∷ ys) = if is_function_at xs y then [] else y ∷ up_to_function xs ys

abbrev pub mark_by : List Laid → Laid → Item → Option ℕ → Option ℕ
mark_by xs x (items.Def g) rest = if is_mark g then Some (value_number xs (group_value xs x g.val)) else rest
mark_by xs x i rest = rest

-- the value of the first mark
abbrev pub first_mark : List Laid → List Laid → Option ℕ
first_mark xs [] = None
first_mark xs (y ∷ ys) = mark_by xs y y.item (first_mark xs ys)

abbrev pub size_by : ℕ → Option ℕ → ℕ
size_by a None = 0
size_by a (Some e) = (e + (4294967296 - a)) % 4294967296

-- the bytes of a function at address a: up to the first mark, and 0 where there is none
abbrev pub function_size : List Laid → ℕ → List Laid → ℕ
function_size xs a own = size_by a (first_mark xs own)

abbrev pub is_tag_group : List ℕ → DefGroup → Bool
is_tag_group k g = is_tag (class_of g) && bytes_eq g.name k
