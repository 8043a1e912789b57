-- The walk of a symbol table by n_numaux, over the bytes of the table.
use Rattle.std.specs.Prelude.{◌≡◌, ◌<◌, ℕ, zero, suc, ◌+◌, ◌-◌, ◌*◌, List, [], ◌∷◌, take, drop, map, min, Bool, true, false, nat_eq, nat_lt, if◌then◌else◌, Option, Some, None, is_some, ◌≤◌}
use Rattle.coff_rec.specs.AuxKinds.{kind_for}
use Rattle.coff_rec.specs.Records.{piece, symbol_in, aux_in}
use Rattle.coff_rec.specs.Symbols.{Symbol, symbol_of}
use Rattle.coff_rec.specs.Nesting.{Nested, nested_of}
use Rattle.coff_rec.specs.declared.records.SymRec.{SymRec}
use Rattle.coff_rec.specs.declared.nesting.Kind.{Kind}
use Rattle.coff_rec.specs.declared.nesting.Kind.TheVariants.{Member, EndOfTag}
use Rattle.coff_rec.specs.declared.entry.AuxRec.{AuxRec}

-- the bytes of a table with this many symbols and entries, and its string table
pub record Symtab : Type 0 where
  pub entries : List ℕ
  pub strings : List ℕ
  pub count : ℕ

-- the n records of w bytes each that stand one behind the other
abbrev pub read_each : {R : Type 0} → (List ℕ → R) → ℕ → ℕ → List ℕ → List R
read_each f w zero b = []
read_each f w (suc n) b = f (take w b) ∷ read_each f w n (drop w b)

-- what stands at an index, read as a symbol
unfoldable pub record_at : Symtab → ℕ → SymRec
record_at t n = symbol_in (piece (18 * n) 18 t.entries)

-- the index of the symbol behind it
abbrev pub next_of : Symtab → ℕ → ℕ
next_of t n = n + 1 + (record_at t n).n_numaux

-- its entries, as far as the table goes
unfoldable pub entries_at : Symtab → ℕ → List AuxRec
entries_at t n =
    read_each (aux_in (kind_for (record_at t n).n_sclass (record_at t n).n_type)) 18
    (min (record_at t n).n_numaux (t.count - (n + 1))) (drop (18 * (n + 1)) t.entries)

unfoldable pub symbol_at : Symtab → ℕ → Symbol
symbol_at t n = symbol_of t.strings n (record_at t n) (entries_at t n)

-- the indexes of the symbols from this one on; k is at least their number
abbrev pub indexes : Symtab → ℕ → ℕ → List ℕ
indexes t zero n = []
indexes t (suc k) n = if nat_lt n t.count then n ∷ indexes t k (next_of t n) else []

-- the symbols from an index on, and their records
unfoldable pub symbols_after : Symtab → ℕ → List Symbol
symbols_after t n = map (symbol_at t) (indexes t (t.count - n) n)

unfoldable pub records_after : Symtab → ℕ → List SymRec
records_after t n = map (record_at t) (indexes t (t.count - n) n)

-- as far as nesting goes
abbrev pub nested_after : Symtab → ℕ → List Nested
nested_after t n = map nested_of (symbols_after t n)

-- the symbol that stands at an index
pub record Stands (t : Symtab) (n next : ℕ) (kind : Kind) : Type 0 where
  pub inside : n < t.count
  pub next_is : next ≡ (nested_of (symbol_at t n)).next
  pub kind_is : kind ≡ (nested_of (symbol_at t n)).kind

-- the .eos behind a tag's members
abbrev pub eos_by : Kind → Symbol → Option Symbol → Option Symbol
eos_by Member s rest = rest
eos_by EndOfTag s rest = Some s
eos_by k s rest = None

abbrev pub eos_of : List Symbol → Option Symbol
eos_of [] = None
eos_of (s ∷ ss) = eos_by (nested_of s).kind s (eos_of ss)

-- the symbol of an index
abbrev pub found_if : Bool → Symbol → Option Symbol → Option Symbol
found_if true s rest = Some s
found_if false s rest = rest

abbrev pub find_symbol : ℕ → List Symbol → Option Symbol
find_symbol n [] = None
find_symbol n (s ∷ ss) = found_if (nat_eq s.index n) s (find_symbol n ss)

abbrev pub is_index : ℕ → List Symbol → Bool
is_index n ss = is_some (find_symbol n ss)

-- the walk from the begin comes to this index, as far as look-ups of what stands there or behind go
unfoldable pub IsReached : Symtab → ℕ → Type 0
IsReached t m = (n : ℕ) → m ≤ n → is_index n (symbols_after t m) ≡ is_index n (symbols_after t 0)
