-- What names and tags mean where they stand.
use Rattle.std.specs.Prelude.{ℕ, suc, ◌+◌, List, [], ◌∷◌, ◌++◌, length, Option, Some, None, Bool, true, false, not, nat_lt, ◌&&◌}
use Rattle.c_type.specs.Names.{Name, same_name, pick, or_else}
use Rattle.c_type.specs.declared.TagKind.{TagKind}
use Rattle.c_type.specs.declared.TagKind.TheVariants.{Struct, Union, Enum}
use Rattle.c_type.specs.Types.{CType, arr, struct, union, enum, Tag}
use Rattle.c_type.specs.Sizes.{laid_as}
use Rattle.c_tree.specs.TreeExpr.{Expr}
use Rattle.c_tree.specs.TExpr.{Ref, Func as OwnFunc, Outer}
use Rattle.c_rule.specs.RuleTexts.{texts_in}

-- the outcome of a rule: what it gives, or its number where it fails
pub data Judged (A : Type 0) : Type 0 where
  Is : (a : A) → Judged A
  Fails : (rule : ℕ) → Judged A

-- what follows where no rule failed
abbrev pub onward : {A B : Type 0} → Judged A → (A → Judged B) → Judged B
onward (Is a) go = go a
onward (Fails n) go = Fails n

-- a value where a condition of a rule holds
abbrev pub provided : {A : Type 0} → (rule : ℕ) → Bool → Judged A → Judged A
provided n true a = a
provided n false a = Fails n

-- a typedef, an enumerator with its 32 bits, an object, a function that is static or not
pub data Meaning : Type 0 where
  Alias : (t : CType) → Meaning
  Constant : (n : ℕ) → Meaning
  Thing : (r : Ref) (t : CType) → Meaning
  Function : (is_static : Bool) (r : Ref) (t : CType) → Meaning

pub record Entry : Type 0 where
  pub name : Name
  pub meaning : Meaning

-- a tag that a unit defines, by its name, which is empty where it has none, and its kind
pub record TagHead : Type 0 where
  pub name : Name
  pub kind : TagKind

-- a function body of a unit
pub record Body : Type 0 where
  pub name : Name
  pub is_static : Bool

-- Where a part of a unit stands. `blocks` are the scopes inside a function from the inside, the last of them with its
-- parameters. `file` is the scope of the file up to there. `tags` are those whose body is closed and `texts` the texts that
-- were met up to there; `starts`, `autos` and `statics` count the numbers that were given. `heads` and `bodies` are the tags
-- and the function bodies of the whole unit.
pub record Env : Type 0 where
  pub blocks : List (List Entry)
  pub file : List Entry
  pub tags : List Tag
  pub texts : List (List ℕ)
  pub starts : ℕ
  pub autos : ℕ
  pub statics : ℕ
  pub heads : List TagHead
  pub bodies : List Body

-- behind texts that were met
abbrev pub met : List (List ℕ) → Env → Env
met bs c = record c { texts = c.texts ++ bs }

-- behind an expression
abbrev pub past : Expr → Env → Env
past a c = met (texts_in a) c

-- behind an expression that may be left out
abbrev pub past_option : Option Expr → Env → Env
past_option None c = c
past_option (Some a) c = past a c

-- behind the starts of that number
abbrev pub started : ℕ → Env → Env
started n c = record c { starts = c.starts + n }

-- the number of tags that are closed
abbrev pub known : Env → ℕ
known c = length c.tags

-- behind the closing brace of a tag's body; its sizes and offsets are those that its members' types give
abbrev pub close : Tag → Env → Env
close r c = record c { tags = c.tags ++ laid_as r.kind c.tags r ∷ [] }

-- what a name means in one scope; the latest declaration stands first
abbrev pub in_scope : Name → List Entry → Option Meaning
in_scope x [] = None
in_scope x (e ∷ es) = pick (same_name x e.name) (Some e.meaning) (in_scope x es)

abbrev pub in_scopes : Name → List (List Entry) → Option Meaning
in_scopes x [] = None
in_scopes x (es ∷ rest) = or_else (in_scope x es) (in_scopes x rest)

-- what a name means: blocks from the inside, then the file
abbrev pub meaning_of : Env → Name → Option Meaning
meaning_of c x = or_else (in_scopes x c.blocks) (in_scope x c.file)

abbrev pub same_kind : TagKind → TagKind → Bool
same_kind Struct Struct = true
same_kind Union Union = true
same_kind Enum Enum = true
same_kind _ _ = false

abbrev pub type_of_tag : TagKind → ℕ → CType
type_of_tag Struct k = struct k
type_of_tag Union k = union k
type_of_tag Enum k = enum k

-- rule 3: a tag that is named is defined in the unit, with that kind; its number is its place among the closing braces
abbrev pub tag_from : ℕ → List TagHead → TagKind → Name → Judged CType
tag_from k [] kind x = Fails 3
tag_from k (t ∷ ts) kind x = pick (same_name x t.name) (provided 3 (same_kind kind t.kind) (Is (type_of_tag kind k))) (tag_from (suc k) ts kind x)

abbrev pub same_bool : Bool → Bool → Bool
same_bool true b = b
same_bool false b = not b

-- the number of a function body of the unit, static or external
abbrev pub body_from : ℕ → List Body → Bool → Name → Option ℕ
body_from k [] is_static x = None
body_from k (f ∷ fs) is_static x = pick (same_name x f.name && same_bool is_static f.is_static) (Some k) (body_from (suc k) fs is_static x)

-- body k of the unit, or a function that the unit does not define
abbrev pub ref_or_outer : Name → Option ℕ → Ref
ref_or_outer x None = Outer x
ref_or_outer x (Some k) = OwnFunc k

-- what a function's name is bound to
abbrev pub function_ref : Env → Bool → Name → Ref
function_ref c is_static x = ref_or_outer x (body_from 0 c.bodies is_static x)

-- the whole size of a type is known: each structure that it holds by value is closed
abbrev pub is_sized : ℕ → CType → Bool
is_sized n (arr m t) = is_sized n t
is_sized n (struct k) = nat_lt k n
is_sized n (union k) = nat_lt k n
is_sized n _ = true
