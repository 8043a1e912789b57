-- The object of a text.
use Rattle.std.specs.Prelude.{◌≡◌, ℕ, ◌+◌, ◌-◌, ◌*◌, List, [], ◌∷◌, ◌++◌, length, map, flat_map, position, ◌&&◌, nat_eq, nat_le, unwrap_or, None, if◌then◌else◌, codes}
use Rattle.byteorder.specs.Endian.{little_bytes}
use Rattle.asm_item.specs.declared.model.Item.{Item}
use Rattle.asm_item.specs.declared.model.Item.TheVariants as items
use Rattle.asm_lay.specs.Pieces.{Aim, own, section, Relocation, Piece}
use Rattle.asm_lay.specs.Laying.{Laid, laid, AreLaid, section_content, section_relocations, bss_len}
use Rattle.coff_rec.specs.AuxKinds.{kind_for}
use Rattle.coff_rec.specs.Records.{aux_of}
use Rattle.coff_rec.specs.declared.entry.AuxRec.{AuxRec}
use Rattle.coff_rec.specs.declared.records.FileHead.{FileHead}
use Rattle.coff_rec.specs.declared.records.SecHead.{SecHead}
use Rattle.coff_rec.specs.declared.records.Reloc.{Reloc}
use Rattle.coff_rec.specs.declared.records.LineRec.{LineRec}
use Rattle.coff_rec.specs.declared.records.SymRec.{SymRec}
use Rattle.coff_rec.specs.declared.parts.Parts.{Parts}
use Rattle.asm_out.specs.Groups.{section_begin, function_size}
use Rattle.asm_out.specs.Symbols.{Draft, Numbered, Contents, drafts, is_behind, is_function_draft, file_drafts, section_draft, externals, padded, entries_for, numbered_from, index_behind, end_index, tag_index_of, external_index}
use Rattle.asm_out.specs.declared.codes.TheConstants.{I386MAGIC, F_AR32WR, F_LNNO, STYP_TEXT, STYP_DATA, STYP_BSS}

-- ---- the order of the symbols: the file, its groups, its sections, the externals

abbrev pub stays : List Draft → List Draft
stays [] = []
stays (d ∷ ds) = if is_behind d then stays ds else d ∷ stays ds

abbrev pub items_of : List Laid → List Item
items_of xs = map (λ x. x.item) xs

-- the index of the symbol of .text: one entry stands behind each section's symbol
abbrev pub text_index : List Laid → ℕ
text_index xs = index_behind 0 (file_drafts 0 xs ++ stays (drafts xs))

abbrev pub section_index : List Laid → ℕ → ℕ
section_index xs s = text_index xs + 2 * (s - 1)

abbrev pub first_external : List Laid → ℕ
first_external xs = text_index xs + 6

-- ---- line entries

abbrev pub line_at : Laid → Item → List LineRec
line_at x (items.Ln n) = record { l_addr = x.counters.text; l_lnno = n } ∷ []
line_at x i = []

-- a function's entries: one with its index and 0, then one for each .ln
abbrev pub function_lines : Numbered → List LineRec
function_lines s = record { l_addr = s.index; l_lnno = 0 } ∷ flat_map (λ x. line_at x x.item) s.draft.own

abbrev pub inserted : Numbered → List Numbered → List Numbered
inserted s [] = s ∷ []
inserted s (t ∷ ts) = if nat_le s.draft.value t.draft.value then s ∷ (t ∷ ts) else t ∷ inserted s ts

-- symbols in order of their addresses, and those of one address in order
abbrev pub by_address : List Numbered → List Numbered
by_address [] = []
by_address (s ∷ ss) = inserted s (by_address ss)

abbrev pub function_symbols : List Numbered → List Numbered
function_symbols [] = []
function_symbols (s ∷ ss) = if is_function_draft s.draft then s ∷ function_symbols ss else function_symbols ss

-- the line entries of all functions, in order of address
abbrev pub line_entries : List Numbered → List LineRec
line_entries ss = flat_map function_lines (by_address (function_symbols ss))

-- ---- the symbols with their indexes

abbrev pub init_contents : List Laid → Contents
init_contents xs = record { len = length (section_content 2 xs); relocations = length (section_relocations 2 xs); lines = 0 }

abbrev pub bss_contents : List Laid → Contents
bss_contents xs = record { len = bss_len (items_of xs); relocations = 0; lines = 0 }

abbrev pub file_part : List Laid → List Draft
file_part xs = file_drafts (first_external xs) xs ++ stays (drafts xs)

-- the line entries don't depend on the symbols behind the groups
abbrev pub lines : List Laid → List LineRec
lines xs = line_entries (numbered_from 0 (file_part xs))

abbrev pub text_contents : List Laid → Contents
text_contents xs = record { len = length (section_content 1 xs); relocations = length (section_relocations 1 xs); lines = length (lines xs) }

abbrev pub section_drafts : List Laid → List Draft
section_drafts xs =
    section_draft xs (codes ".text") 1 (text_contents xs)
    ∷ (section_draft xs (codes ".data") 2 (init_contents xs)
    ∷ (section_draft xs (codes ".bss") 3 (bss_contents xs) ∷ []))

abbrev pub symbols_of : List Laid → List Numbered
symbols_of xs = numbered_from 0 (file_part xs ++ (section_drafts xs ++ externals xs))

-- ---- names: of up to 8 bytes in the symbol, and longer ones in the string table, in the order of the symbols

abbrev pub long_bytes : Draft → List ℕ
long_bytes d = if nat_le (length d.name) 8 then [] else d.name ++ (0 ∷ [])

abbrev pub name_field : ℕ → List ℕ → List ℕ
name_field o name = if nat_le (length name) 8 then padded 8 name else little_bytes 4 0 ++ little_bytes 4 o

abbrev pub records_from : ℕ → List Numbered → List SymRec
records_from o [] = []
records_from o (s ∷ ss) =
    record {
      n_name = name_field o s.draft.name;
      n_value = s.draft.value;
      n_scnum = s.draft.section;
      n_type = s.draft.type;
      n_sclass = s.draft.class;
      n_numaux = entries_for s.draft;
    }
    ∷ records_from (o + length (long_bytes s.draft)) ss

-- the string table begins with its length
abbrev pub string_table : List Numbered → List ℕ
string_table ss = little_bytes 4 (4 + length (flat_map (λ s. long_bytes s.draft) ss)) ++ flat_map (λ s. long_bytes s.draft) ss

-- ---- where the parts of the file begin: behind a header of 20 bytes and three of 40

abbrev pub content_at : ℕ
content_at = 140

abbrev pub init_at : List Laid → ℕ
init_at xs = content_at + length (section_content 1 xs)

abbrev pub text_relocations_at : List Laid → ℕ
text_relocations_at xs = init_at xs + length (section_content 2 xs)

abbrev pub init_relocations_at : List Laid → ℕ
init_relocations_at xs = text_relocations_at xs + 10 * length (section_relocations 1 xs)

abbrev pub lines_at : List Laid → ℕ
lines_at xs = init_relocations_at xs + 10 * length (section_relocations 2 xs)

abbrev pub symbols_at : List Laid → ℕ
symbols_at xs = lines_at xs + 6 * length (lines xs)

-- ---- auxiliary entries

-- a function's entry points at its line entry with 0
abbrev pub line_pointer : List Laid → ℕ → ℕ
line_pointer xs index = lines_at xs + 6 * unwrap_or (position (λ l. nat_eq l.l_lnno 0 && nat_eq l.l_addr index) (lines xs)) 0

abbrev pub of_function : List Laid → Numbered → AuxRec → AuxRec
of_function xs s x =
    if is_function_draft s.draft
    then record x { x_fsize = function_size xs s.draft.value s.draft.own; x_lnnoptr = line_pointer xs s.index }
    else x

-- the fields of a symbol's entry, with those that depend on other symbols
abbrev pub entry_of : List Laid → List Numbered → Numbered → List Numbered → AuxRec
entry_of xs all s behind =
    aux_of (kind_for s.draft.class s.draft.type)
    (of_function xs s (record s.draft.fields { x_tagndx = tag_index_of all s.draft.tag; x_endndx = end_index s behind }))

abbrev pub entries_from : List Laid → List Numbered → List Numbered → List AuxRec
entries_from xs all [] = []
entries_from xs all (s ∷ ss) =
    (if nat_eq (entries_for s.draft) 0 then [] else entry_of xs all s ss ∷ []) ++ entries_from xs all ss

-- ---- relocations

abbrev pub aim_index : List Laid → Aim → ℕ
aim_index xs (own k) = external_index (symbols_of xs) k
aim_index xs (section s) = section_index xs s

abbrev pub relocation_record : List Laid → ℕ → Relocation → Reloc
relocation_record xs s r = record { r_vaddr = section_begin xs s + r.at; r_symndx = aim_index xs r.to; r_type = r.type }

abbrev pub relocation_records : List Laid → ℕ → List Reloc
relocation_records xs s = map (relocation_record xs s) (section_relocations s xs)

-- ---- headers

-- a pointer is 0 where there is nothing to point to
abbrev pub pointer : ℕ → ℕ → ℕ
pointer n at = if nat_eq n 0 then 0 else at

abbrev pub section_head : List Laid → List ℕ → ℕ → Contents → ℕ → ℕ → ℕ → SecHead
section_head xs name s c at relocations_at flags = record {
  s_name = padded 8 name;
  s_paddr = section_begin xs s;
  s_vaddr = section_begin xs s;
  s_size = c.len;
  s_scnptr = pointer c.len at;
  s_relptr = pointer c.relocations relocations_at;
  s_lnnoptr = pointer c.lines (lines_at xs);
  s_nreloc = c.relocations;
  s_nlnno = c.lines;
  s_flags = flags;
}

-- .bss has bytes, but none in the file
abbrev pub section_heads : List Laid → List SecHead
section_heads xs =
    section_head xs (codes ".text") 1 (text_contents xs) content_at (text_relocations_at xs) STYP_TEXT
    ∷ (section_head xs (codes ".data") 2 (init_contents xs) (init_at xs) (init_relocations_at xs) STYP_DATA
    ∷ (section_head xs (codes ".bss") 3 (bss_contents xs) 0 0 STYP_BSS ∷ []))

abbrev pub file_head : List Laid → FileHead
file_head xs = record {
  f_magic = I386MAGIC;
  f_nscns = 3;
  f_timdat = 0;
  f_symptr = symbols_at xs;
  f_nsyms = index_behind 0 (map (λ s. s.draft) (symbols_of xs));
  f_opthdr = 0;
  f_flags = F_AR32WR + (if nat_eq (length (lines xs)) 0 then F_LNNO else 0);
}

-- the object of a text whose statements are laid so
abbrev pub object_of : List Laid → Parts
object_of xs = record {
  head = file_head xs;
  opt = None;
  secs = section_heads xs;
  text = section_content 1 xs;
  init = section_content 2 xs;
  text_relocs = relocation_records xs 1;
  init_relocs = relocation_records xs 2;
  lines = lines xs;
  syms = records_from 4 (symbols_of xs);
  auxs = entries_from xs (symbols_of xs) (symbols_of xs);
  strings = string_table (symbols_of xs);
}

-- the parts are an object of the text: its statements lay pieces, and the parts are made of them
abbrev pub ObjectOf : List Item → Parts → Type 0
ObjectOf xs p = (ps : List Piece) × AreLaid xs ps × (p ≡ object_of (laid xs ps))
