-- The bytes of a whole file.
use Rattle.std.specs.Prelude.{◌≡◌, ℕ, List, [], ◌∷◌, ◌++◌, take, drop, length, Option, Some, None}
use Rattle.std.specs.List.{concat, flat_map, sum_by}
use Rattle.coff_rec.specs.AuxKinds.{kind_for}
use Rattle.coff_rec.specs.Records.{head_bytes, opt_bytes, section_bytes, reloc_bytes, line_bytes, symbol_bytes, aux_bytes}
use Rattle.coff_rec.specs.declared.records.OptHead.{OptHead}
use Rattle.coff_rec.specs.declared.records.SymRec.{SymRec}
use Rattle.coff_rec.specs.declared.entry.AuxRec.{AuxRec}
use Rattle.coff_rec.specs.declared.parts.Parts.{Parts}

abbrev pub opt_or_none : Option OptHead → List ℕ
opt_or_none None = []
opt_or_none (Some o) = opt_bytes o

-- each symbol is followed by as many of the next entries as it says
abbrev pub symbol_table : List SymRec → List AuxRec → List ℕ
symbol_table [] xs = []
symbol_table (s ∷ ss) xs =
    symbol_bytes s
    ++ (flat_map (aux_bytes (kind_for s.n_sclass s.n_type)) (take s.n_numaux xs)
    ++ symbol_table ss (drop s.n_numaux xs))

abbrev pub headers_of : Parts → List ℕ
headers_of p = concat (head_bytes p.head ∷ opt_or_none p.opt ∷ flat_map section_bytes p.secs ∷ [])

-- the bytes of the sections, their relocations and the line entries
abbrev pub contents_of : Parts → List ℕ
contents_of p = concat (
    p.text
    ∷ p.init
    ∷ flat_map reloc_bytes p.text_relocs
    ∷ flat_map reloc_bytes p.init_relocs
    ∷ flat_map line_bytes p.lines
    ∷ [])

-- the parts without gaps, in file order
abbrev pub file_of : Parts → List ℕ
file_of p = concat (headers_of p ∷ contents_of p ∷ symbol_table p.syms p.auxs ∷ p.strings ∷ [])

-- there are as many entries as the symbols say
abbrev pub AreShared : List SymRec → List AuxRec → Type 0
AreShared ss xs = sum_by (λ s. s.n_numaux) ss ≡ length xs
