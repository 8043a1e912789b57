-- From the words before the declarators, tags' bodies and the declarations of members and parameters to their spellings.
use Rattle.std.specs.Prelude.{◌≡◌, ℕ, zero, suc, List, [], ◌∷◌, length, Bool, true, false, Option, Some, None}
use Rattle.c_type.specs.Names.{Name, or_else, or_default}
use Rattle.c_type.specs.declared.TagKind.TheVariants.{Struct, Enum}
use Rattle.c_lex.specs.Tokens.{Token}
use Rattle.c_lex.specs.Tokens as k
use Rattle.c_tree.specs.declared.decl.Storage.TheVariants.{Auto, Register, Static, Extern}
use Rattle.c_grammar.specs.Words.{Separated, listed, AreAll, spell_separated, tok, mark, word, storage_word, tag_word, typedef_word, open_brace, close_brace, semicolon, equals}
use Rattle.c_tree.specs.TreeExpr.{Expr, TypeSpec}
use Rattle.c_tree.specs.TreeExpr as x
use Rattle.c_tree.specs.declared.decl.Storage.{Storage}
use Rattle.c_tree.specs.TreeDecl.{Types, TagDef, Mem, Mems, En, TagSpec, FileSpecs, LocalSpecs, ParDecl, LocalDecl}
use Rattle.c_tree.specs.TreeDecl as t
use Rattle.c_grammar.specs.WrittenType.{TypePart, is_typedef, spelled, IsPart, part_line, spell_part}
use Rattle.c_grammar.specs.WrittenExpr.{Written, IsAtLevel}
use Rattle.c_grammar.specs.WrittenExpr as w
use Rattle.c_grammar.specs.WrittenDeclr.{Named, named, spell_named, WrittenDeclr, plain_if, IfThere, spell_if, plain_declr, IsDeclr, spell_declr}

-- an expression with the line of the `=` before it
pub record Value : Type 0 where
  pub line : ℕ
  pub value : Written

-- an enumerator
pub record WrittenEn : Type 0 where
  pub line : ℕ
  pub name : Name
  pub value : Option Value

-- The words outside of blocks, in their order: storage words, `typedef`, parts of a type, and tags with their bodies.
mutual
  pub data Part : Type 0 where
    storage : (l : ℕ) (s : Storage) → Part
    typedef : (l : ℕ) → Part
    typed : (p : TypePart) → Part
    tagged : (d : WrittenDef) → Part

  pub data Parts : Type 0 where
    no_parts : Parts
    more_parts : (p : Part) (ps : Parts) → Parts

  pub data WrittenDef : Type 0 where
    struct : (l : ℕ) (x : Option Named) (m : ℕ) (ms : WrittenMems) (n : ℕ) → WrittenDef
    enum : (l : ℕ) (x : Option Named) (m : ℕ) (es : Separated WrittenEn) (n : ℕ) → WrittenDef

  -- at least one declaration of members, each with the line of its semicolon
  pub data WrittenMems : Type 0 where
    last_mem : (m : WrittenMem) → WrittenMems
    more_mems : (m : WrittenMem) (ms : WrittenMems) → WrittenMems

  pub data WrittenMem : Type 0 where
    mem : (ps : Parts) (ds : Separated WrittenDeclr) (l : ℕ) → WrittenMem

-- ---- what stands among the words

abbrev pub storages : Parts → List Storage
storages no_parts = []
storages (more_parts (storage l s) ps) = s ∷ storages ps
storages (more_parts (typedef l) ps) = storages ps
storages (more_parts (typed p) ps) = storages ps
storages (more_parts (tagged d) ps) = storages ps

abbrev pub typedefs : Parts → ℕ
typedefs no_parts = 0
typedefs (more_parts (storage l s) ps) = typedefs ps
typedefs (more_parts (typedef l) ps) = suc (typedefs ps)
typedefs (more_parts (typed p) ps) = typedefs ps
typedefs (more_parts (tagged d) ps) = typedefs ps

abbrev pub type_parts : Parts → List TypePart
type_parts no_parts = []
type_parts (more_parts (storage l s) ps) = type_parts ps
type_parts (more_parts (typedef l) ps) = type_parts ps
type_parts (more_parts (typed p) ps) = p ∷ type_parts ps
type_parts (more_parts (tagged d) ps) = type_parts ps

abbrev pub bodies : Parts → List WrittenDef
bodies no_parts = []
bodies (more_parts (storage l s) ps) = bodies ps
bodies (more_parts (typedef l) ps) = bodies ps
bodies (more_parts (typed p) ps) = bodies ps
bodies (more_parts (tagged d) ps) = d ∷ bodies ps

abbrev pub def_line : WrittenDef → ℕ
def_line (struct l x m ms n) = l
def_line (enum l x m es n) = l

abbrev pub first_line : Parts → ℕ
first_line no_parts = 0
first_line (more_parts (storage l s) ps) = l
first_line (more_parts (typedef l) ps) = l
first_line (more_parts (typed p) ps) = part_line p
first_line (more_parts (tagged d) ps) = def_line d

-- ---- the trees

abbrev pub plain_value : Value → Expr
plain_value v = w.plain v.value

abbrev pub plain_en : WrittenEn → En
plain_en e = record { line = e.line; name = e.name; value = plain_if plain_value e.value }

-- the type of a tag's body if there is one, and otherwise what the parts of a type spell
abbrev mutual
  pub plain_body : Parts → Option Types
  plain_body no_parts = None
  plain_body (more_parts (storage l s) ps) = plain_body ps
  plain_body (more_parts (typedef l) ps) = plain_body ps
  plain_body (more_parts (typed p) ps) = plain_body ps
  plain_body (more_parts (tagged d) ps) = Some (t.def (plain_def d))

  pub plain_def : WrittenDef → TagDef
  plain_def (struct l x m ms n) = t.struct l (plain_if named x) (plain_mems ms)
  plain_def (enum l x m es n) = t.enum l (plain_if named x) (listed plain_en es)

  pub plain_mems : WrittenMems → Mems
  plain_mems (last_mem m) = t.more_mems (plain_mem m) t.no_mems
  plain_mems (more_mems m ms) = t.more_mems (plain_mem m) (plain_mems ms)

  pub plain_mem : WrittenMem → Mem
  plain_mem (mem ps ds l) = t.mem (first_line ps) (or_default (t.spec x.void) (or_else (plain_body ps) (plain_if t.spec (spelled (type_parts ps))))) (listed plain_declr ds)

abbrev pub plain_types : Parts → Option Types
plain_types ps = or_else (plain_body ps) (plain_if t.spec (spelled (type_parts ps)))

abbrev pub first_of : {A : Type 0} → List A → Option A
first_of [] = None
first_of (x ∷ xs) = Some x

abbrev pub plain_specs : Parts → FileSpecs
plain_specs ps = record { storage = first_of (storages ps); types = plain_types ps }

-- ---- what is well written

abbrev pub is_some : {A : Type 0} → Option A → Bool
is_some None = false
is_some (Some x) = true

-- one type: a tag's body or what the parts spell, where so many bodies stand among the words
abbrev pub is_type : ℕ → List TypePart → Bool
is_type zero ps = is_some (spelled ps)
is_type (suc zero) [] = true
is_type (suc zero) (p ∷ ps) = false
is_type (suc (suc n)) ps = false

-- at most one type
abbrev pub is_type_or_none : ℕ → List TypePart → Bool
is_type_or_none zero [] = true
is_type_or_none zero (p ∷ ps) = is_type zero (p ∷ ps)
is_type_or_none (suc n) ps = is_type (suc n) ps

-- at most one storage word, which may stand outside of blocks
abbrev pub is_file_storage : List Storage → Bool
is_file_storage [] = true
is_file_storage (Auto ∷ ss) = false
is_file_storage (Register ∷ ss) = false
is_file_storage (Static ∷ []) = true
is_file_storage (Static ∷ s ∷ ss) = false
is_file_storage (Extern ∷ []) = true
is_file_storage (Extern ∷ s ∷ ss) = false

abbrev pub IsNamed : List Name → Named → Type 0
IsNamed defs x = is_typedef defs x.name ≡ false

abbrev pub IsValue : List Name → Value → Type 0
IsValue defs v = IsAtLevel defs 3 v.value

abbrev pub IsEn : List Name → WrittenEn → Type 0
IsEn defs e = (is_typedef defs e.name ≡ false) × IfThere (IsValue defs) e.value

abbrev mutual
  pub AreParts : List Name → Parts → Type 0
  AreParts defs no_parts = Unit {0}
  AreParts defs (more_parts (storage l s) ps) = AreParts defs ps
  AreParts defs (more_parts (typedef l) ps) = AreParts defs ps
  AreParts defs (more_parts (typed p) ps) = IsPart defs p × AreParts defs ps
  AreParts defs (more_parts (tagged d) ps) = IsDef defs d × AreParts defs ps

  -- the tag's name may be a typedef name
  pub IsDef : List Name → WrittenDef → Type 0
  IsDef defs (struct l x m ms n) = AreMems defs ms
  IsDef defs (enum l x m es n) = AreAll (IsEn defs) es

  pub AreMems : List Name → WrittenMems → Type 0
  AreMems defs (last_mem m) = IsMem defs m
  AreMems defs (more_mems m ms) = IsMem defs m × AreMems defs ms

  pub IsMem : List Name → WrittenMem → Type 0
  IsMem defs (mem ps ds l) = (storages ps ≡ []) × (typedefs ps ≡ 0) × (is_type (length (bodies ps)) (type_parts ps) ≡ true) × AreParts defs ps × AreAll (IsDeclr defs) ds

abbrev pub is_empty : Parts → Bool
is_empty no_parts = true
is_empty (more_parts p ps) = false

-- the words of an object or a function outside of blocks
pub record AreSpecs (defs : List Name) (ps : Parts) : Type 0 where
  pub some : is_empty ps ≡ false
  pub storage : is_file_storage (storages ps) ≡ true
  pub no_typedef : typedefs ps ≡ 0
  pub types : is_type_or_none (length (bodies ps)) (type_parts ps) ≡ true
  pub parts : AreParts defs ps

-- the words of a typedef: `typedef` is its storage word
pub record AreTypedef (defs : List Name) (ps : Parts) : Type 0 where
  pub no_storage : storages ps ≡ []
  pub one_typedef : typedefs ps ≡ 1
  pub types : is_type_or_none (length (bodies ps)) (type_parts ps) ≡ true
  pub parts : AreParts defs ps

-- a type alone
pub record AreTypes (defs : List Name) (ps : Parts) : Type 0 where
  pub no_storage : storages ps ≡ []
  pub no_typedef : typedefs ps ≡ 0
  pub types : is_type (length (bodies ps)) (type_parts ps) ≡ true
  pub parts : AreParts defs ps

-- ---- the tokens

abbrev pub spell_value : Value → List Token → List Token
spell_value v after = mark v.line equals ∷ w.spell v.value after

abbrev pub spell_en : WrittenEn → List Token → List Token
spell_en e after = tok e.line (k.name e.name) ∷ spell_if spell_value e.value after

abbrev mutual
  pub spell_specs : Parts → List Token → List Token
  spell_specs no_parts after = after
  spell_specs (more_parts (storage l s) ps) after = word l (storage_word s) ∷ spell_specs ps after
  spell_specs (more_parts (typedef l) ps) after = word l typedef_word ∷ spell_specs ps after
  spell_specs (more_parts (typed p) ps) after = spell_part p (spell_specs ps after)
  spell_specs (more_parts (tagged d) ps) after = spell_def d (spell_specs ps after)

  pub spell_def : WrittenDef → List Token → List Token
  spell_def (struct l x m ms n) after = word l (tag_word Struct) ∷ spell_if spell_named x (mark m open_brace ∷ spell_mems ms (mark n close_brace ∷ after))
  spell_def (enum l x m es n) after = word l (tag_word Enum) ∷ spell_if spell_named x (mark m open_brace ∷ spell_separated spell_en es (mark n close_brace ∷ after))

  pub spell_mems : WrittenMems → List Token → List Token
  spell_mems (last_mem m) after = spell_mem m after
  spell_mems (more_mems m ms) after = spell_mem m (spell_mems ms after)

  pub spell_mem : WrittenMem → List Token → List Token
  spell_mem (mem ps ds l) after = spell_specs ps (spell_separated spell_declr ds (mark l semicolon ∷ after))
