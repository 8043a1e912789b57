-- From a declarator and an initialiser to their spellings.
use Rattle.std.specs.Prelude.{◌≡◌, ℕ, List, [], ◌∷◌, Bool, true, false, Option, Some, None}
use Rattle.c_type.specs.Names.{Name}
use Rattle.c_lex.specs.Tokens.{Token}
use Rattle.c_lex.specs.Tokens as k
use Rattle.c_grammar.specs.Words.{Separated, listed, AreAll, spell_separated, tok, mark, open_round, close_round, open_square, close_square, open_brace, close_brace, comma_mark, equals, star}
use Rattle.c_tree.specs.TreeDecl.{Declr, Init, Inits, Item}
use Rattle.c_tree.specs.TreeDecl as t
use Rattle.c_grammar.specs.WrittenType.{is_typedef}
use Rattle.c_grammar.specs.WrittenExpr.{Written, IsAtLevel}
use Rattle.c_grammar.specs.WrittenExpr as w

-- a name with its line
pub record Named : Type 0 where
  pub line : ℕ
  pub name : Name

abbrev pub named : Named → Name
named x = x.name

abbrev pub spell_named : Named → List Token → List Token
spell_named x after = tok x.line (k.name x.name) ∷ after

-- A function's suffix has names only in the head of a function's definition.
pub data WrittenDeclr : Type 0 where
  pointer : (l : ℕ) (d : WrittenDeclr) → WrittenDeclr
  name : (l : ℕ) (x : Name) → WrittenDeclr
  array : (d : WrittenDeclr) (l : ℕ) (e : Option Written) (m : ℕ) → WrittenDeclr
  function : (d : WrittenDeclr) (l : ℕ) (xs : Option (Separated Named)) (m : ℕ) → WrittenDeclr
  bracket : (l : ℕ) (d : WrittenDeclr) (m : ℕ) → WrittenDeclr

abbrev pub declr_line : WrittenDeclr → ℕ
declr_line (pointer l d) = l
declr_line (name l x) = l
declr_line (array d l e m) = declr_line d
declr_line (function d l xs m) = declr_line d
declr_line (bracket l d m) = l

abbrev pub plain_if : {A B : Type 0} → (A → B) → Option A → Option B
plain_if f None = None
plain_if f (Some x) = Some (f x)

abbrev pub plain_names : Option (Separated Named) → List Name
plain_names None = []
plain_names (Some xs) = listed named xs

abbrev pub plain_declr : WrittenDeclr → Declr
plain_declr (pointer l d) = t.pointer l (plain_declr d)
plain_declr (name l x) = t.name l x
plain_declr (array d l e m) = t.array (declr_line d) (plain_declr d) (plain_if w.plain e)
plain_declr (function d l xs m) = t.function (declr_line d) (plain_declr d) (plain_names xs)
plain_declr (bracket l d m) = plain_declr d

-- a suffix binds tighter than `*`
abbrev pub is_pointer : WrittenDeclr → Bool
is_pointer (pointer l d) = true
is_pointer (name l x) = false
is_pointer (array d l e m) = false
is_pointer (function d l xs m) = false
is_pointer (bracket l d m) = false

-- a fact that holds of a part where it stands
abbrev pub IfThere : {A : Type 0} → (A → Type 0) → Option A → Type 0
IfThere P None = Unit {0}
IfThere P (Some x) = P x

abbrev pub IsDeclr : List Name → WrittenDeclr → Type 0
IsDeclr defs (pointer l d) = IsDeclr defs d
IsDeclr defs (name l x) = is_typedef defs x ≡ false
IsDeclr defs (array d l e m) = (is_pointer d ≡ false) × IsDeclr defs d × IfThere (IsAtLevel defs 1) e
IsDeclr defs (function d l xs m) = (is_pointer d ≡ false) × IsDeclr defs d × (xs ≡ None)
IsDeclr defs (bracket l d m) = IsDeclr defs d

-- the name itself, maybe in brackets
abbrev pub is_bare : WrittenDeclr → Bool
is_bare (pointer l d) = false
is_bare (name l x) = true
is_bare (array d l e m) = false
is_bare (function d l xs m) = false
is_bare (bracket l d m) = is_bare d

abbrev pub IsParameter : List Name → Named → Type 0
IsParameter defs x = is_typedef defs x.name ≡ false

-- the first fact where the test holds, and otherwise the second
abbrev pub Chosen : Bool → Type 0 → Type 0 → Type 0
Chosen true P Q = P
Chosen false P Q = Q

-- The head of a function: the suffix next to the name has the list of parameters.
abbrev pub IsHead : List Name → WrittenDeclr → Type 0
IsHead defs (pointer l d) = IsHead defs d
IsHead defs (name l x) = ⊥
IsHead defs (array d l e m) = (is_pointer d ≡ false) × IsHead defs d × IfThere (IsAtLevel defs 1) e
IsHead defs (function d l xs m) =
    Chosen (is_bare d) (IsDeclr defs d × IfThere (AreAll (IsParameter defs)) xs) ((is_pointer d ≡ false) × IsHead defs d × (xs ≡ None))
IsHead defs (bracket l d m) = IsHead defs d

abbrev pub spell_if : {A : Type 0} → (A → List Token → List Token) → Option A → List Token → List Token
spell_if spell None after = after
spell_if spell (Some x) after = spell x after

abbrev pub spell_declr : WrittenDeclr → List Token → List Token
spell_declr (pointer l d) after = mark l star ∷ spell_declr d after
spell_declr (name l x) after = tok l (k.name x) ∷ after
spell_declr (array d l e m) after = spell_declr d (mark l open_square ∷ spell_if w.spell e (mark m close_square ∷ after))
spell_declr (function d l xs m) after = spell_declr d (mark l open_round ∷ spell_if (spell_separated spell_named) xs (mark m close_round ∷ after))
spell_declr (bracket l d m) after = mark l open_round ∷ spell_declr d (mark m close_round ∷ after)

-- ---- initialisers

-- A group has at least one member, and the line of a last comma if there is one. Each further member has the line of the
-- comma before it.
mutual
  pub data WrittenInit : Type 0 where
    single : (e : Written) → WrittenInit
    group : (l : ℕ) (i : WrittenInit) (is : WrittenInits) (last : Option ℕ) (m : ℕ) → WrittenInit

  pub data WrittenInits : Type 0 where
    no_inits : WrittenInits
    more_inits : (l : ℕ) (i : WrittenInit) (is : WrittenInits) → WrittenInits

abbrev mutual
  pub plain_init : WrittenInit → Init
  plain_init (single e) = t.single (w.plain e)
  plain_init (group l i is last m) = t.group l (t.more_inits (plain_init i) (plain_inits is))

  pub plain_inits : WrittenInits → Inits
  plain_inits no_inits = t.no_inits
  plain_inits (more_inits l i is) = t.more_inits (plain_init i) (plain_inits is)

abbrev mutual
  pub IsInit : List Name → WrittenInit → Type 0
  IsInit defs (single e) = IsAtLevel defs 2 e
  IsInit defs (group l i is last m) = IsInit defs i × AreInits defs is

  pub AreInits : List Name → WrittenInits → Type 0
  AreInits defs no_inits = Unit {0}
  AreInits defs (more_inits l i is) = IsInit defs i × AreInits defs is

abbrev pub spell_comma : ℕ → List Token → List Token
spell_comma l after = mark l comma_mark ∷ after

abbrev mutual
  pub spell_init : WrittenInit → List Token → List Token
  spell_init (single e) after = w.spell e after
  spell_init (group l i is last m) after = mark l open_brace ∷ spell_init i (spell_inits is (spell_if spell_comma last (mark m close_brace ∷ after)))

  pub spell_inits : WrittenInits → List Token → List Token
  spell_inits no_inits after = after
  spell_inits (more_inits l i is) after = mark l comma_mark ∷ spell_init i (spell_inits is after)

-- ---- items

-- an initialiser with the line of the `=` before it
pub record Given : Type 0 where
  pub line : ℕ
  pub init : WrittenInit

pub record WrittenItem : Type 0 where
  pub declr : WrittenDeclr
  pub given : Option Given

abbrev pub plain_given : Given → Init
plain_given g = plain_init g.init

abbrev pub plain_item : WrittenItem → Item
plain_item i = record { declr = plain_declr i.declr; init = plain_if plain_given i.given }

abbrev pub IsGiven : List Name → Given → Type 0
IsGiven defs g = IsInit defs g.init

abbrev pub IsItem : List Name → WrittenItem → Type 0
IsItem defs i = IsDeclr defs i.declr × IfThere (IsGiven defs) i.given

abbrev pub spell_given : Given → List Token → List Token
spell_given g after = mark g.line equals ∷ spell_init g.init after

abbrev pub spell_item : WrittenItem → List Token → List Token
spell_item i after = spell_declr i.declr (spell_if spell_given i.given after)
