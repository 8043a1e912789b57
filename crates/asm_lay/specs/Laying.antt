-- The statements of a text, each with its piece and the place where it stands.
use Rattle.std.specs.Prelude.{◌≡◌, ℕ, ◌+◌, ◌*◌, ◌/◌, List, [], ◌∷◌, length, filter_map, find, flat_map, Option, Some, None, nat_eq, option_to_list, if◌then◌else◌}
use Rattle.std.specs.List.{list_any}
use Rattle.std.specs.Option.{option_map}
use Rattle.std.specs.Str.{bytes_eq}
use Rattle.asm_item.specs.declared.model.Item.{Item}
use Rattle.asm_item.specs.declared.model.Item.TheVariants as items
use Rattle.asm_item.specs.Stand.{Counters, counter, counted_to}
use Rattle.asm_lay.specs.Names.{Location, Names, makes_external}
use Rattle.asm_lay.specs.Pieces.{Piece, Relocation, fixed, IsPiece, long_len}

-- a statement with its piece, the counters before it, and the bytes of .bss before it
pub record Laid : Type 0 where
  pub counters : Counters
  pub bss : ℕ
  pub item : Item
  pub piece : Piece

-- the counters behind a statement of so many bytes
abbrev pub counters_behind : Counters → Item → ℕ → Counters
counters_behind c (items.Section s) n = record c { section = s }
counters_behind c x n = counted_to c (counter c + n)

-- the least multiple of 4 that is at least a
abbrev pub round4 : ℕ → ℕ
round4 a = (a + 3) / 4 * 4

-- .bss grows by .lcomm alone, each time from a multiple of 4
abbrev pub bss_behind : ℕ → Item → ℕ
bss_behind b (items.Lcomm k n) = round4 b + n
bss_behind b x = b

abbrev pub first_piece : List Piece → Piece
first_piece [] = fixed []
first_piece (p ∷ ps) = p

abbrev pub other_pieces : List Piece → List Piece
other_pieces [] = []
other_pieces (p ∷ ps) = ps

-- statements that lay these pieces, one behind the other; a piece that is missing is empty
abbrev pub laid_from : Counters → ℕ → List Item → List Piece → List Laid
laid_from c b [] ps = []
laid_from c b (x ∷ xs) ps =
    record { counters = c; bss = b; item = x; piece = first_piece ps }
    ∷ laid_from (counters_behind c x (length (first_piece ps).bytes)) (bss_behind b x) xs (other_pieces ps)

-- a text begins in .text
abbrev pub begin : Counters
begin = record { section = 1; text = 0; init = 0 }

abbrev pub laid : List Item → List Piece → List Laid
laid xs ps = laid_from begin 0 xs ps

-- ---- names

abbrev pub defined_by : Counters → ℕ → Item → Option (List ℕ × Location)
defined_by c b (items.Label k) = Some (k, record { section = c.section; offset = counter c })
defined_by c b (items.Lcomm k n) = Some (k, record { section = 3; offset = round4 b })
defined_by c b x = None

-- a label has the place of what follows, and a name of .lcomm the next multiple of 4 in .bss
abbrev pub defined : Laid → Option (List ℕ × Location)
defined x = defined_by x.counters x.bss x.item

abbrev pub label_place : List Laid → List ℕ → Option Location
label_place xs k = option_map (λ d. d.1) (find (λ d. bytes_eq d.0 k) (filter_map defined xs))

abbrev pub text_names : List Laid → Names
text_names xs = record { place = label_place xs; external = λ k. list_any (λ x. makes_external k x.item) xs }

-- ---- pieces

-- each piece is that of its statement
abbrev pub ArePieces : Names → List Laid → Type 0
ArePieces n [] = Unit {0}
ArePieces n (x ∷ xs) = IsPiece n x.counters x.item x.piece × ArePieces n xs

-- pieces of these statements, as many as the statements
abbrev pub AreLaid : List Item → List Piece → Type 0
AreLaid xs ps = (length ps ≡ length xs) × ArePieces (text_names (laid xs ps)) (laid xs ps)

-- each piece has the length that it has where all jumps are long
abbrev pub AreLong : List Laid → Type 0
AreLong [] = Unit {0}
AreLong (x ∷ xs) = (length x.piece.bytes ≡ long_len (counter x.counters) x.item) × AreLong xs

-- ---- sections

abbrev pub bytes_in : ℕ → Laid → List ℕ
bytes_in s x = if nat_eq x.counters.section s then x.piece.bytes else []

-- the bytes of a section
abbrev pub section_content : ℕ → List Laid → List ℕ
section_content s xs = flat_map (bytes_in s) xs

abbrev pub relocations_in : ℕ → Laid → List Relocation
relocations_in s x = if nat_eq x.counters.section s then option_to_list x.piece.relocation else []

-- the relocations of a section, in the order of their addresses
abbrev pub section_relocations : ℕ → List Laid → List Relocation
section_relocations s xs = flat_map (relocations_in s) xs

abbrev pub bss_from : ℕ → List Item → ℕ
bss_from b [] = b
bss_from b (x ∷ xs) = bss_from (bss_behind b x) xs

-- how many bytes .bss has
abbrev pub bss_len : List Item → ℕ
bss_len xs = bss_from 0 xs

abbrev pub long_from : Counters → List Item → Counters
long_from c [] = c
long_from c (x ∷ xs) = long_from (counters_behind c x (long_len (counter c) x)) xs

-- the counters behind a text in which all jumps are long
abbrev pub long_end : List Item → Counters
long_end xs = long_from begin xs
