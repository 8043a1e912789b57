-- The symbols of an object, with what their entries say.
use Rattle.std.specs.Prelude.{ℕ, ℤ, pos, negsuc, ◌+◌, ◌-◌, List, [], ◌∷◌, ◌++◌, length, map, replicate, filter, flat_map, find, Bool, not, ◌&&◌, nat_eq, unwrap_or, Option, Some, None, if◌then◌else◌, codes}
use Rattle.std.specs.List.{list_any}
use Rattle.std.specs.Str.{bytes_eq}
use Rattle.asm_item.specs.declared.model.Word.TheVariants as datum
use Rattle.asm_item.specs.declared.model.Val.{Val}
use Rattle.asm_item.specs.declared.model.Val.TheVariants as values
use Rattle.asm_item.specs.declared.model.DefGroup.{DefGroup}
use Rattle.asm_item.specs.declared.model.Item.{Item}
use Rattle.asm_item.specs.declared.model.Item.TheVariants as items
use Rattle.asm_lay.specs.Names.{makes_external}
use Rattle.asm_lay.specs.Laying.{Laid}
use Rattle.coff_rec.specs.AuxKinds.{is_tag, kind_for, entries_of}
use Rattle.coff_rec.specs.Records.{blank}
use Rattle.coff_rec.specs.Nesting.{Nested, kind_of, tag_end, function_end, block_end}
use Rattle.coff_rec.specs.declared.codes.TheConstants.{C_EXT, C_FILE, C_STAT}
use Rattle.coff_rec.specs.declared.entry.AuxKind.{AuxKind}
use Rattle.coff_rec.specs.declared.entry.AuxKind.TheVariants as kinds
use Rattle.coff_rec.specs.declared.entry.AuxRec.{AuxRec}
use Rattle.coff_rec.specs.declared.nesting.Kind.{Kind}
use Rattle.coff_rec.specs.declared.nesting.Kind.TheVariants.{BlockBegin, Function}
use Rattle.asm_out.specs.Groups.{class_of, is_mark, group_value, group_section, name_value, value_number, value_section, section_begin, up_to_function, is_function_kind}

-- A symbol that has no index yet. In `fields` stands what doesn't depend on other symbols, and `own` are the statements from a
-- function's group up to the next function's.
pub record Draft : Type 0 where
  pub name : List ℕ
  pub value : ℕ
  pub section : ℤ
  pub type : ℕ
  pub class : ℕ
  pub tag : Option (List ℕ)
  pub fields : AuxRec
  pub own : List Laid

abbrev pub draft_kind : Draft → Kind
draft_kind d = kind_of d.class d.name d.section d.type

abbrev pub is_function_draft : Draft → Bool
is_function_draft d = is_function_kind (draft_kind d)

-- ---- groups

abbrev pub group_fields : DefGroup → AuxRec
group_fields g = record blank { x_lnno = g.line; x_size = g.size; x_dimen = g.dims }

abbrev pub group_draft : List Laid → Laid → List Laid → DefGroup → Draft
group_draft xs x behind g = record {
  name = g.name;
  value = value_number xs (group_value xs x g.val);
  section = group_section xs x g;
  type = g.ty;
  class = class_of g;
  tag = g.tag;
  fields = group_fields g;
  own = up_to_function xs behind;
}

abbrev pub drafts_by : List Laid → Laid → List Laid → Item → List Draft
drafts_by xs x behind (items.Def g) = if is_mark g then [] else group_draft xs x behind g ∷ []
drafts_by xs x behind i = []

abbrev pub drafts_in : List Laid → List Laid → List Draft
drafts_in xs [] = []
drafts_in xs (y ∷ ys) = drafts_by xs y ys y.item ++ drafts_in xs ys

-- a symbol for each group but the marks, in the order of the text
abbrev pub drafts : List Laid → List Draft
drafts xs = drafts_in xs xs

-- an external that isn't a function of this file stands behind the symbols of all files
abbrev pub is_behind : Draft → Bool
is_behind d = nat_eq d.class C_EXT && not (is_function_draft d)

-- ---- the file and its sections

-- bytes, filled up with zero bytes
abbrev pub padded : ℕ → List ℕ → List ℕ
padded n bytes = bytes ++ replicate (n - length bytes) 0

abbrev pub plain_draft : List ℕ → ℕ → ℤ → ℕ → AuxRec → Draft
plain_draft name value section class fields = record {
  name = name;
  value = value;
  section = section;
  type = 0;
  class = class;
  tag = None;
  fields = fields;
  own = [];
}

abbrev pub file_by : ℕ → Item → List Draft
file_by first (items.File k) = plain_draft (codes ".file") first (negsuc 1) C_FILE (record blank { x_fname = padded 14 k }) ∷ []
file_by first x = []

-- the .file symbol, whose value is the index of the first external behind the file
abbrev pub file_drafts : ℕ → List Laid → List Draft
file_drafts first xs = flat_map (λ x. file_by first x.item) xs

-- bytes, relocations and line entries of a section
pub record Contents : Type 0 where
  pub len : ℕ
  pub relocations : ℕ
  pub lines : ℕ

abbrev pub section_draft : List Laid → List ℕ → ℕ → Contents → Draft
section_draft xs name s c =
    plain_draft name (section_begin xs s) (pos s) C_STAT (record blank { x_scnlen = c.len; x_nreloc = c.relocations; x_nlinno = c.lines })

-- ---- externals

abbrev pub value_names : Val → List (List ℕ)
value_names (values.Label k) = k ∷ []
value_names v = []

-- the names that a statement mentions: a label, an operand, a word, a value, and an external's group
abbrev pub mentions : Item → List (List ℕ)
mentions (items.Code i (Some l)) = l.name ∷ []
mentions (items.Label k) = k ∷ []
mentions (items.Long (datum.Label k add)) = k ∷ []
mentions (items.Globl k) = k ∷ []
mentions (items.Comm k n) = k ∷ []
mentions (items.Lcomm k n) = k ∷ []
mentions (items.Def g) = (if nat_eq (class_of g) C_EXT then g.name ∷ [] else []) ++ value_names g.val
mentions x = []

-- each name at its first mention
abbrev pub distinct : List (List ℕ) → List (List ℕ)
distinct [] = []
distinct (k ∷ ks) = k ∷ filter (λ j. not (bytes_eq j k)) (distinct ks)

abbrev pub is_external_of : List ℕ → Draft → Bool
is_external_of k d = nat_eq d.class C_EXT && bytes_eq d.name k

-- an external without a group has the value that its definition gives, and no type
abbrev pub bare_draft : List Laid → List ℕ → Draft
bare_draft xs k = plain_draft k (value_number xs (name_value xs k)) (value_section (name_value xs k)) C_EXT blank

abbrev pub lone_drafts : List Laid → List ℕ → List Draft
lone_drafts xs k =
    if list_any (λ x. makes_external k x.item) xs && not (list_any (is_external_of k) (drafts xs)) then bare_draft xs k ∷ [] else []

-- the symbols of a name behind the file: those of its groups, or one where it is external and has no group
abbrev pub external_drafts : List Laid → List ℕ → List Draft
external_drafts xs k = filter (λ d. is_behind d && bytes_eq d.name k) (drafts xs) ++ lone_drafts xs k

-- the externals, in the order of their first mention
abbrev pub externals : List Laid → List Draft
externals xs = flat_map (external_drafts xs) (distinct (flat_map (λ x. mentions x.item) xs))

-- ---- indexes

-- a symbol with its index and that of the next one
pub record Numbered : Type 0 where
  pub index : ℕ
  pub next : ℕ
  pub draft : Draft

abbrev pub entries_for : Draft → ℕ
entries_for d = entries_of (kind_for d.class d.type)

abbrev pub numbered_from : ℕ → List Draft → List Numbered
numbered_from n [] = []
numbered_from n (d ∷ ds) = record { index = n; next = n + 1 + entries_for d; draft = d } ∷ numbered_from (n + 1 + entries_for d) ds

abbrev pub index_behind : ℕ → List Draft → ℕ
index_behind n [] = n
index_behind n (d ∷ ds) = index_behind (n + 1 + entries_for d) ds

abbrev pub nested_symbol : Numbered → Nested
nested_symbol s = record { index = s.index; next = s.next; kind = draft_kind s.draft }

abbrev pub index_or_zero : Option Numbered → ℕ
index_or_zero None = 0
index_or_zero (Some s) = s.index

-- the first tag of a name, and the first external of a name
abbrev pub tag_index : List Numbered → List ℕ → ℕ
tag_index ss k = index_or_zero (find (λ s. is_tag s.draft.class && bytes_eq s.draft.name k) ss)

abbrev pub external_index : List Numbered → List ℕ → ℕ
external_index ss k = index_or_zero (find (λ s. is_external_of k s.draft) ss)

-- ---- ends

abbrev pub end_by : AuxKind → Kind → ℕ → List Nested → Option ℕ
end_by kinds.Tag k next behind = tag_end behind
end_by kinds.Function Function next behind = function_end next behind
end_by kinds.Function k next behind = Some next
end_by kinds.Block BlockBegin next behind = block_end behind 0
end_by a k next behind = None

-- x_endndx, by what lies behind the symbol
abbrev pub end_index : Numbered → List Numbered → ℕ
end_index s behind = unwrap_or (end_by (kind_for s.draft.class s.draft.type) (draft_kind s.draft) s.next (map nested_symbol behind)) 0

abbrev pub tag_index_of : List Numbered → Option (List ℕ) → ℕ
tag_index_of ss None = 0
tag_index_of ss (Some k) = tag_index ss k
