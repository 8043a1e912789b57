-- The limits on programs: each quantity with its greatest number, in the order in which they are checked.
-- It states docs/LANGUAGE.md, section Limits.
use Rattle.std.specs.Prelude.{◌≤◌, ℕ, suc, ◌+◌, max, sum, List, [], ◌∷◌, ◌++◌, length, map, Option, Some, None, Bool, true, false, nat_lt, filter, not}
use Rattle.std.specs.List.{flat_map}
use Rattle.c_type.specs.Names.{Name, pick}
use Rattle.c_type.specs.Types.{CType, num, void, ptr, arr, struct, union, enum, fun, Tag}
use Rattle.c_type.specs.Sizes.{size, up_to}
use Rattle.c_tree.specs.TUnit.{TypedUnit, Program, Func, funcs_of}
use Rattle.c_tree.specs.TStmt as st
use Rattle.c_tree.specs.Starts.{starts, lines}
use Rattle.c_tree.specs.Bodies.{BodyAt, bodies}
use Rattle.c_run.specs.Lasting.{Lasting}
use Rattle.c_run.specs.Context.{Linked, linked, context}
use Rattle.c_run.specs.Place.{lasting_size}
use Rattle.c_run.specs.Calls.{frame_of}
use Rattle.type_word.specs.Words.{derivations, dimensions_of}
use Rattle.c_limit.specs.Parts.{Part, Declares, Evaluates, parts}
use Rattle.c_limit.specs.Names.{Named, declared_names}
use Rattle.c_limit.specs.Temporaries.{of_func}

-- the bytes of the automatic object that a declarator makes
abbrev pub auto_bytes : List Tag → st.Local → ℕ
auto_bytes ts (st.auto d i) = up_to 4 (size ts d.ty)
auto_bytes ts (st.auto_init d i k l e) = up_to 4 (size ts d.ty)
auto_bytes ts (st.static_ d k i) = 0
auto_bytes ts (st.extern_ d) = 0
auto_bytes ts (st.function d s) = 0

-- of a part of a body
abbrev pub part_bytes : List Tag → Part → ℕ
part_bytes ts (Declares d) = auto_bytes ts d
part_bytes ts (Evaluates e) = 0

-- the bytes of a body's automatic objects, each rounded up to 4
abbrev pub local_bytes : List Tag → List Part → ℕ
local_bytes ts [] = 0
local_bytes ts (x ∷ xs) = part_bytes ts x + local_bytes ts xs

-- which limit is passed
pub data Excess : Type 0 where
  Total : Excess
  Starts : Excess
  Lines : (file : ℕ) → Excess
  Init : Excess
  Object : (x : Name) → Excess
  Derivations : (x : Name) → Excess
  Dimensions : (x : Name) → Excess
  Temporaries : (x : Name) → Excess
  Frame : (x : Name) → Excess

-- a quantity of a program, its greatest number, and what is answered where it is passed
pub record Limit : Type 0 where
  pub quantity : ℕ
  pub greatest : ℕ
  pub excess : Excess

-- a limit
abbrev pub limit : (quantity greatest : ℕ) → Excess → Limit
limit q g e = record { quantity = q; greatest = g; excess = e }

-- the first limit that is passed
abbrev pub first_passed : List Limit → Option Excess
first_passed [] = None
first_passed (x ∷ xs) = pick (nat_lt x.greatest x.quantity) (Some x.excess) (first_passed xs)

-- no quantity is above its greatest number
abbrev pub AreKept : List Limit → Type 0
AreKept [] = Unit {0}
AreKept (x ∷ xs) = (x.quantity ≤ x.greatest) × AreKept xs

-- starts and functions of a unit
abbrev pub start_count : TypedUnit → ℕ
start_count x = length (starts x) + length (funcs_of x.exts)

-- the greatest line of the starts of a unit
abbrev pub greatest_of : List ℕ → ℕ
greatest_of [] = 0
greatest_of (n ∷ ns) = max n (greatest_of ns)

-- the lines of each file's starts, the first file having the number u
abbrev pub line_limits : ℕ → List TypedUnit → List Limit
line_limits u [] = []
line_limits u (x ∷ xs) = limit (greatest_of (lines (starts x))) 65535 (Lines u) ∷ line_limits (suc u) xs

-- whether an object of static life has an initialiser, as a text has
abbrev pub is_begun : Lasting → Bool
is_begun x = some x.init
  where
    some : Option st.Init → Bool
    some None = false
    some (Some i) = true

-- the address behind the last of objects, each at a multiple of 4, the first at a
abbrev pub laid_end : Linked → ℕ → List Lasting → ℕ
laid_end w a [] = a
laid_end w a (x ∷ []) = a + lasting_size w x
laid_end w a (x ∷ (y ∷ xs)) = laid_end w (up_to 4 (a + lasting_size w x)) (y ∷ xs)

-- the bytes of .data up to its last one, and those of .bss from its rounded begin
abbrev pub data_bytes : Linked → ℕ
data_bytes w = laid_end w 0 (filter is_begun w.lasting)

abbrev pub bss_bytes : Linked → ℕ
bss_bytes w = laid_end w 0 (filter (λ x. not (is_begun x)) w.lasting)

-- the greatest size of an array or structure inside a type, behind a pointer too
abbrev pub greatest_part : List Tag → CType → ℕ
greatest_part ts (num k) = 0
greatest_part ts void = 0
greatest_part ts (ptr t) = greatest_part ts t
greatest_part ts (arr n t) = max (size ts (arr n t)) (greatest_part ts t)
greatest_part ts (struct k) = size ts (struct k)
greatest_part ts (union k) = size ts (union k)
greatest_part ts (enum k) = 0
greatest_part ts (fun t) = greatest_part ts t

-- limits of each declared name of a unit
abbrev pub object_limits : TypedUnit → List Limit
object_limits x = map (λ d. limit (greatest_part x.tags d.ty) 65535 (Object d.name)) (declared_names x)

abbrev pub derivation_limits : TypedUnit → List Limit
derivation_limits x = map (λ d. limit (length (derivations d.ty)) 6 (Derivations d.name)) (declared_names x)

-- array derivations, and each dimension
abbrev pub dimension_limits_of : Named → List Limit
dimension_limits_of d =
    limit (length (dimensions_of d.ty)) 4 (Dimensions d.name) ∷ (limit (greatest_of (dimensions_of d.ty)) 65535 (Dimensions d.name) ∷ [])

abbrev pub dimension_limits : TypedUnit → List Limit
dimension_limits x = flat_map dimension_limits_of (declared_names x)

-- limits of each function
abbrev pub temporary_limits : TypedUnit → List Limit
temporary_limits x = map (λ f. limit (of_func f) 64 (Temporaries f.name)) (funcs_of x.exts)

abbrev pub frame_limits : Linked → List BodyAt → List Limit
frame_limits w bs = map (λ b. limit (frame_of (context w b) b.func) 16777216 (Frame b.func.name)) bs

-- the frames of a unit's functions, from the parts of their bodies
unfoldable pub frame_limit : List Tag → Func → Limit
frame_limit ts f = limit (local_bytes ts (parts f) + 256) 16777216 (Frame f.name)

abbrev pub unit_frames : TypedUnit → List Limit
unit_frames x = map (frame_limit x.tags) (funcs_of x.exts)

-- limits on texts and starts
abbrev pub text_limits : Program → List ℕ → List Limit
text_limits p counts =
    limit (sum counts) 131000 Total ∷ (limit (sum (map start_count p.units)) 65000 Starts ∷ line_limits 0 p.units)

-- the limit on .data and .bss
abbrev pub place_limit : Linked → Limit
place_limit w = limit (data_bytes w + bss_bytes w) 16777216 Init

-- limits on declared names and functions
abbrev pub name_limits : Program → List Limit
name_limits p = flat_map object_limits p.units ++ (flat_map derivation_limits p.units ++ flat_map dimension_limits p.units)

abbrev pub body_limits : Program → List Limit
body_limits p = flat_map temporary_limits p.units ++ frame_limits (linked p) (bodies p)

-- All limits of a program whose texts have these lengths, in the order of the checks.
abbrev pub limits : Program → List ℕ → List Limit
limits p counts = text_limits p counts ++ (place_limit (linked p) ∷ (name_limits p ++ body_limits p))
