-- Why a text has no object.
use Rattle.std.specs.Prelude.{◌≡◌, ◌⊎◌, ◌<◌, ◌≤◌, ℕ, ◌+◌, ◌-◌, List, [], ◌∷◌, ◌++◌, length, reverse, sum_by, count_by, Bool, true, false, not, ◌&&◌, ◌||◌, nat_eq, is_none, Option, Some, None, IsTrue, if◌then◌else◌, codes}
use Rattle.std.specs.List.{list_any}
use Rattle.std.specs.Str.{bytes_eq}
use Rattle.asm_item.specs.declared.model.Word.TheVariants as datum
use Rattle.asm_item.specs.declared.model.Val.{Val}
use Rattle.asm_item.specs.declared.model.Val.TheVariants as values
use Rattle.asm_item.specs.declared.model.DefGroup.{DefGroup}
use Rattle.asm_item.specs.declared.model.Item.{Item}
use Rattle.asm_item.specs.declared.model.Item.TheVariants as items
use Rattle.asm_lay.specs.Names.{makes_external}
use Rattle.asm_lay.specs.Pieces.{is_left}
use Rattle.asm_lay.specs.Laying.{Laid, laid, text_names, bss_len, long_end}
use Rattle.coff_rec.specs.Nesting.{Nested, around, tag_end, body_end, block_end}
use Rattle.coff_rec.specs.declared.nesting.Around.{Around}
use Rattle.coff_rec.specs.AuxKinds.{is_tag, is_variable}
use Rattle.coff_rec.specs.declared.codes.TheConstants.{C_BLOCK, C_EOS, C_FCN, C_FILE}
use Rattle.coff_rec.specs.declared.nesting.Kind.{Kind}
use Rattle.coff_rec.specs.declared.nesting.Kind.TheVariants as kinds
use Rattle.coff_rec.specs.declared.parts.Part.{Part}
use Rattle.coff_rec.specs.declared.parts.Part.TheVariants as parts
use Rattle.coff_rec.specs.declared.parts.Which.{Which}
use Rattle.coff_rec.specs.declared.parts.Which.TheVariants as counts
use Rattle.asm_out.specs.Groups.{class_of, is_mark, is_tag_group, group_kind, is_function_at}
use Rattle.asm_out.specs.declared.codes.TheConstants.{MOST_TEXT, MOST_INIT, MOST_RECORDS}

-- Sections and kinds don't depend on the bytes that are laid: here each statement has an empty piece.
abbrev pub bare : List Item → List Laid
bare xs = laid xs []

-- ---- labels

abbrev pub uses_value : List ℕ → Val → Bool
uses_value k (values.Label j) = bytes_eq j k
uses_value k v = false

-- an instruction, a word or a value that names k
abbrev pub uses : List ℕ → Item → Bool
uses k (items.Code i (Some l)) = bytes_eq l.name k
uses k (items.Long (datum.Label j add)) = bytes_eq j k
uses k (items.Def g) = uses_value k g.val
uses k x = false

-- a label, a .lcomm or a .comm of k
abbrev pub definitions_of : List ℕ → Item → ℕ
definitions_of k (items.Label j) = if bytes_eq j k then 1 else 0
definitions_of k (items.Lcomm j n) = if bytes_eq j k then 1 else 0
definitions_of k (items.Comm j n) = if bytes_eq j k then 1 else 0
definitions_of k x = 0

-- k is named as a label, and is neither defined nor made external
abbrev pub Lacks : List Item → List ℕ → Type 0
Lacks xs k =
    IsTrue (list_any (uses k) xs) × (sum_by (definitions_of k) xs ≡ 0) × (list_any (makes_external k) xs ≡ false)

-- k is defined more than once
abbrev pub IsTwice : List Item → List ℕ → Type 0
IsTwice xs k = 2 ≤ sum_by (definitions_of k) xs

-- ---- groups, numbered from 0 in the order of the text, the marks too

pub record Group : Type 0 where
  pub group : DefGroup
  pub kind : Kind

abbrev pub group_at : List Laid → Laid → Item → List Group
group_at xs x (items.Def g) = record { group = g; kind = group_kind xs x g } ∷ []
group_at xs x i = []

abbrev pub groups_in : List Laid → List Laid → List Group
groups_in xs [] = []
groups_in xs (y ∷ ys) = group_at xs y y.item ++ groups_in xs ys

-- the groups of a text
abbrev pub groups_of : List Item → List Group
groups_of xs = groups_in (bare xs) (bare xs)

-- the groups that nest; the marks are passed over
abbrev pub nested_groups : List Group → List Nested
nested_groups [] = []
nested_groups (g ∷ gs) = if is_mark g.group then nested_groups gs else record { index = 0; next = 0; kind = g.kind } ∷ nested_groups gs

-- a class of syms(4), or that of a mark
abbrev pub is_class : DefGroup → Bool
is_class g =
    is_mark g || is_variable (class_of g) || is_tag (class_of g) || nat_eq (class_of g) C_EOS || nat_eq (class_of g) C_FCN
    || nat_eq (class_of g) C_BLOCK || nat_eq (class_of g) C_FILE

abbrev pub is_section_name : List ℕ → Bool
is_section_name k = bytes_eq k (codes ".text") || bytes_eq k (codes ".data") || bytes_eq k (codes ".bss")

-- a tag without its members and their .eos, or a member or an .eos without a tag
abbrev pub is_loose_tag : Kind → Around → List Nested → Bool
is_loose_tag kinds.Tag a behind = is_none (tag_end behind)
is_loose_tag kinds.Member a behind = not a.tag
is_loose_tag kinds.EndOfTag a behind = not a.tag
is_loose_tag k a behind = false

-- a .bf that doesn't follow a function's group before any other .bf
abbrev pub is_loose_begin : Kind → Around → Bool
is_loose_begin kinds.BodyBegin a = not a.function
is_loose_begin k a = false

-- one of .bf and .ef, or of .bb and .eb, that doesn't pair
abbrev pub is_unpaired : Kind → Around → List Nested → Bool
is_unpaired kinds.BodyBegin a behind = is_none (body_end behind)
is_unpaired kinds.BodyEnd a behind = not a.body
is_unpaired kinds.BlockBegin a behind = not a.body || is_none (block_end behind 0)
is_unpaired kinds.BlockEnd a behind = not a.body || nat_eq a.blocks 0
is_unpaired k a behind = false

abbrev pub lacks_tag_by : List Group → Option (List ℕ) → Bool
lacks_tag_by gs None = false
lacks_tag_by gs (Some k) = not (list_any (λ h. is_tag_group k h.group) gs)

-- a .tag that names no tag's group of the text
abbrev pub lacks_tag : List Group → DefGroup → Bool
lacks_tag gs g = lacks_tag_by gs g.tag

-- the group g of the groups all, between those before it, the nearest first, and those behind it
abbrev pub is_bad : List Group → List Group → Group → List Group → Bool
is_bad all before g behind =
    not (is_class g.group)
    || is_section_name g.group.name
    || is_loose_tag g.kind (around (nested_groups before)) (nested_groups behind)
    || is_loose_begin g.kind (around (nested_groups before))
    || is_unpaired g.kind (around (nested_groups before)) (nested_groups behind)
    || lacks_tag all g.group

-- the n-th group is bad by itself or by its place
abbrev pub IsBadInPlace : List Group → ℕ → Type 0
IsBadInPlace gs n =
    (before : List Group) × (g : Group) × (behind : List Group) × (gs ≡ before ++ (g ∷ behind)) × (length before ≡ n)
    × IsTrue (is_bad gs (reverse before) g behind)

abbrev pub is_body_by : Bool → Kind → Bool → Bool
is_body_by true k rest = false
is_body_by false kinds.BodyBegin rest = true
is_body_by false k rest = rest

-- whether the last .bf or mark of these groups, the nearest first, is a .bf
abbrev pub is_in_body : List Group → Bool
is_in_body [] = false
is_in_body (g ∷ gs) = is_body_by (is_mark g.group) g.kind (is_in_body gs)

-- a .ln that doesn't stand between a .bf and a mark, where n is the last group before it, or 0
abbrev pub IsLooseLine : List Item → ℕ → Type 0
IsLooseLine xs n =
    (before : List Laid) × (x : Laid) × (behind : List Laid) × (bare xs ≡ before ++ (x ∷ behind))
    × (line : ℕ) × (x.item ≡ items.Ln line) × (is_in_body (reverse (groups_in (bare xs) before)) ≡ false)
    × (n ≡ length (groups_in (bare xs) before) - 1)

abbrev pub IsBadGroup : List Item → ℕ → Type 0
IsBadGroup xs n = IsBadInPlace (groups_of xs) n ⊎ IsLooseLine xs n

-- ---- sizes and counts

-- more bytes than a process has room for, each jump counted in its long form
abbrev pub IsLarge : List Item → Part → Type 0
IsLarge xs parts.Text = MOST_TEXT < (long_end xs).text
IsLarge xs parts.Init = MOST_INIT < (long_end xs).init + bss_len xs

abbrev pub left_count : List Item → ℕ → ℕ
left_count xs s = count_by (λ x. nat_eq x.counters.section s && is_left (text_names (bare xs)) s x.item) (bare xs)

abbrev pub is_line : Item → Bool
is_line (items.Ln n) = true
is_line x = false

-- a line entry for each .ln, and one for each function
abbrev pub line_count : List Item → ℕ
line_count xs = count_by is_line xs + count_by (is_function_at (bare xs)) (bare xs)

-- more relocations in a section, or more line entries, than a header counts
abbrev pub IsMany : List Item → Which → Type 0
IsMany xs counts.Relocs = (MOST_RECORDS < left_count xs 1) ⊎ (MOST_RECORDS < left_count xs 2)
IsMany xs counts.Lines = MOST_RECORDS < line_count xs
