-- The objects of static life of a whole program, in the order of their places.
-- It states docs/LANGUAGE.md, section Objects and places.
use Rattle.std.specs.Prelude.{ℕ, suc, List, [], ◌∷◌, ◌++◌, length, Option, Some, None, Bool, false, nat_eq, ◌&&◌, ◌||◌}
use Rattle.std.specs.List.{flat_map}
use Rattle.c_type.specs.Names.{Name, same_name, pick, at_or, or_else}
use Rattle.c_type.specs.declared.Kind.TheVariants.{Char}
use Rattle.c_type.specs.Types.{CType, num, arr}
use Rattle.c_tree.specs.TStmt.{Init, bytes}
use Rattle.c_tree.specs.TUnit.{TypedUnit, Program}
use Rattle.c_run.specs.Mentions.{Mention, Text, Use, Extern, Own, Outside, in_exts}

-- what an object of static life stands for: static k of a unit, an external, text k of a unit
pub data Origin : Type 0 where
  OfUnit : (u k : ℕ) → Origin
  OfName : (x : Name) → Origin
  OfText : (u k : ℕ) → Origin

-- whether two origins are one
abbrev pub same_origin : Origin → Origin → Bool
same_origin (OfUnit u k) (OfUnit v j) = nat_eq u v && nat_eq k j
same_origin (OfName x) (OfName y) = same_name x y
same_origin (OfText u k) (OfText v j) = nat_eq u v && nat_eq k j
same_origin _ _ = false

-- an object of static life, with the unit that says what it begins as
pub record Lasting : Type 0 where
  pub origin : Origin
  pub unit : ℕ
  pub ty : CType
  pub init : Option Init

-- an object of static life
abbrev pub lasting : Origin → ℕ → CType → Option Init → Lasting
lasting o u t i = record { origin = o; unit = u; ty = t; init = i }

-- a string text is an array of char
abbrev pub of_text : ℕ → ℕ → List ℕ → Lasting
of_text u k bs = lasting (OfText u k) u (arr (length bs) (num Char)) (Some (bytes bs))

-- a unit with its number, its texts and what it says
pub record Said : Type 0 where
  pub unit : ℕ
  pub texts : List (List ℕ)
  pub mentions : List Mention

-- what units say, the first of which has the number u
abbrev pub said_from : ℕ → List TypedUnit → List Said
said_from u [] = []
said_from u (t ∷ ts) = record { unit = u; texts = t.texts; mentions = in_exts t.exts } ∷ said_from (suc u) ts

-- .data: the texts and the initialised objects of a unit
abbrev pub begun_in : ℕ → List (List ℕ) → List Mention → List Lasting
begun_in u ts [] = []
begun_in u ts (Text k ∷ ms) = of_text u k (at_or [] ts k) ∷ begun_in u ts ms
begun_in u ts (Own k t (Some i) ∷ ms) = lasting (OfUnit u k) u t (Some i) ∷ begun_in u ts ms
begun_in u ts (Outside x t (Some i) ∷ ms) = lasting (OfName x) u t (Some i) ∷ begun_in u ts ms
begun_in u ts (_ ∷ ms) = begun_in u ts ms

-- .data of all units
abbrev pub all_begun : List Said → List Lasting
all_begun ss = flat_map (λ s. begun_in s.unit s.texts s.mentions) ss

-- whether an object stands already
abbrev pub is_among : List Lasting → Origin → Bool
is_among [] o = false
is_among (x ∷ xs) o = same_origin x.origin o || is_among xs o

-- an object is added once
abbrev pub unless_among : List Lasting → Lasting → List Lasting
unless_among xs x = pick (is_among xs x.origin) xs (xs ++ x ∷ [])

-- .bss: the statics of a unit without initialiser, after the objects that stand already
abbrev pub plain_in : ℕ → List Lasting → List Mention → List Lasting
plain_in u done [] = done
plain_in u done (Own k t i ∷ ms) = plain_in u (unless_among done (lasting (OfUnit u k) u t None)) ms
plain_in u done (_ ∷ ms) = plain_in u done ms

-- the statics without initialiser of all units
abbrev pub all_plain : List Lasting → List Said → List Lasting
all_plain done [] = done
all_plain done (s ∷ ss) = all_plain (plain_in s.unit done s.mentions) ss

-- whether a file mentions an external: it declares it without `extern` or uses it
abbrev pub is_mentioned : Name → List Mention → Bool
is_mentioned x [] = false
is_mentioned x (Use y ∷ ms) = same_name x y || is_mentioned x ms
is_mentioned x (Outside y t i ∷ ms) = same_name x y || is_mentioned x ms
is_mentioned x (_ ∷ ms) = is_mentioned x ms

-- the externals that a file mentions, each at its first declaration or use
abbrev pub names : List Mention → List Mention → List Name
names all [] = []
names all (Use y ∷ ms) = y ∷ names all ms
names all (Outside y t i ∷ ms) = y ∷ names all ms
names all (Extern y ∷ ms) = pick (is_mentioned y all) (y ∷ names all ms) (names all ms)
names all (_ ∷ ms) = names all ms

-- the declaration without `extern` that comes first gives a common its type
abbrev pub common_in : ℕ → Name → List Mention → Option Lasting
common_in u x [] = None
common_in u x (Outside y t i ∷ ms) = pick (same_name x y) (Some (lasting (OfName x) u t None)) (common_in u x ms)
common_in u x (_ ∷ ms) = common_in u x ms

-- a common of that name
abbrev pub first_common : Name → List Said → Option Lasting
first_common x [] = None
first_common x (s ∷ ss) = or_else (common_in s.unit x s.mentions) (first_common x ss)

-- a common that is there and stands not yet is added
abbrev pub add_common : List Lasting → Option Lasting → List Lasting
add_common done None = done
add_common done (Some x) = unless_among done x

-- the commons, in the order of the names given
abbrev pub commons : List Said → List Lasting → List Name → List Lasting
commons all done [] = done
commons all done (x ∷ xs) = commons all (add_common done (first_common x all)) xs

-- the objects of units that say so
abbrev pub lastings_of : List Said → List Lasting
lastings_of ss = commons ss (all_plain (all_begun ss) ss) (flat_map (λ s. names s.mentions s.mentions) ss)

-- all objects of static life: initialised ones and texts, statics without initialiser, commons
abbrev pub lastings : Program → List Lasting
lastings p = lastings_of (said_from 0 p.units)

-- the number of an object of static life
abbrev pub number_in : ℕ → List Lasting → Origin → Option ℕ
number_in n [] o = None
number_in n (x ∷ xs) o = pick (same_origin x.origin o) (Some n) (number_in (suc n) xs o)
