-- From declarations of parameters and in blocks, and from tags alone, to their spellings.
use Rattle.std.specs.Prelude.{◌≡◌, ℕ, List, [], ◌∷◌, Bool, true, false, Option}
use Rattle.c_type.specs.Names.{Name, or_default}
use Rattle.c_type.specs.declared.TagKind.{TagKind}
use Rattle.c_lex.specs.Tokens.{Token}
use Rattle.c_lex.specs.Tokens as k
use Rattle.c_grammar.specs.Words.{Separated, listed, AreAll, spell_separated, tok, mark, word, storage_word, tag_word, register_word, semicolon}
use Rattle.c_tree.specs.TreeExpr as x
use Rattle.c_tree.specs.declared.decl.Storage.{Storage}
use Rattle.c_tree.specs.TreeDecl.{TagSpec, ParDecl, LocalSpecs, LocalDecl}
use Rattle.c_tree.specs.TreeDecl as t
use Rattle.c_grammar.specs.WrittenType.{TypePart, spelled, has_spelling, IsPart, part_line, spell_part}
use Rattle.c_grammar.specs.WrittenDeclr.{WrittenDeclr, WrittenItem, spell_if, plain_declr, IsDeclr, spell_declr, plain_item, IsItem, spell_item}
use Rattle.c_grammar.specs.WrittenSpecs.{Parts, WrittenDef, AreTypes, IsDef, first_line, def_line, plain_types, plain_def, is_some, is_type_or_none, first_of, spell_specs, spell_def}

-- ---- a tag alone

pub data WrittenTag : Type 0 where
  ref : (l : ℕ) (kind : TagKind) (m : ℕ) (x : Name) → WrittenTag
  body : (d : WrittenDef) → WrittenTag

abbrev pub plain_tag : WrittenTag → TagSpec
plain_tag (ref l kind m x) = t.ref (record { line = l; kind = kind; name = x })
plain_tag (body d) = t.body (plain_def d)

abbrev pub IsTag : List Name → WrittenTag → Type 0
IsTag defs (ref l kind m x) = has_spelling kind ≡ true
IsTag defs (body d) = IsDef defs d

abbrev pub tag_line : WrittenTag → ℕ
tag_line (ref l kind m x) = l
tag_line (body d) = def_line d

abbrev pub spell_tag : WrittenTag → List Token → List Token
spell_tag (ref l kind m x) after = word l (tag_word kind) ∷ tok m (k.name x) ∷ after
spell_tag (body d) after = spell_def d after

-- ---- parameters

-- with the line of the word `register`, if there is one, and of the semicolon
pub record WrittenPar : Type 0 where
  pub register : Option ℕ
  pub parts : Parts
  pub declrs : Separated WrittenDeclr
  pub line : ℕ

abbrev pub plain_par : WrittenPar → ParDecl
plain_par p = record {
  line = or_default (first_line p.parts) p.register;
  register = is_some p.register;
  types = or_default (t.spec x.void) (plain_types p.parts);
  declrs = listed plain_declr p.declrs;
}

abbrev pub IsPar : List Name → WrittenPar → Type 0
IsPar defs p = AreTypes defs p.parts × AreAll (IsDeclr defs) p.declrs

abbrev pub spell_register : ℕ → List Token → List Token
spell_register l after = word l register_word ∷ after

abbrev pub spell_par : WrittenPar → List Token → List Token
spell_par p after = spell_if spell_register p.register (spell_specs p.parts (spell_separated spell_declr p.declrs (mark p.line semicolon ∷ after)))

-- ---- declarations in a block

-- the words in a block, where no tag has a body
pub data LocalPart : Type 0 where
  storage : (l : ℕ) (s : Storage) → LocalPart
  typed : (p : TypePart) → LocalPart

abbrev pub local_storages : List LocalPart → List Storage
local_storages [] = []
local_storages (storage l s ∷ ps) = s ∷ local_storages ps
local_storages (typed p ∷ ps) = local_storages ps

abbrev pub local_types : List LocalPart → List TypePart
local_types [] = []
local_types (storage l s ∷ ps) = local_types ps
local_types (typed p ∷ ps) = p ∷ local_types ps

abbrev pub plain_local_specs : List LocalPart → LocalSpecs
plain_local_specs ps = record { storage = first_of (local_storages ps); types = spelled (local_types ps) }

abbrev pub local_line : List LocalPart → ℕ
local_line [] = 0
local_line (storage l s ∷ ps) = l
local_line (typed p ∷ ps) = part_line p

-- at most one word
abbrev pub is_at_most_one : List Storage → Bool
is_at_most_one [] = true
is_at_most_one (s ∷ []) = true
is_at_most_one (s ∷ r ∷ ss) = false

abbrev pub AreLocalParts : List Name → List LocalPart → Type 0
AreLocalParts defs [] = Unit {0}
AreLocalParts defs (storage l s ∷ ps) = AreLocalParts defs ps
AreLocalParts defs (typed p ∷ ps) = IsPart defs p × AreLocalParts defs ps

abbrev pub is_none : List LocalPart → Bool
is_none [] = true
is_none (p ∷ ps) = false

pub record AreLocalSpecs (defs : List Name) (ps : List LocalPart) : Type 0 where
  pub some : is_none ps ≡ false
  pub storage : is_at_most_one (local_storages ps) ≡ true
  pub types : is_type_or_none 0 (local_types ps) ≡ true
  pub parts : AreLocalParts defs ps

abbrev pub spell_local_parts : List LocalPart → List Token → List Token
spell_local_parts [] after = after
spell_local_parts (storage l s ∷ ps) after = word l (storage_word s) ∷ spell_local_parts ps after
spell_local_parts (typed p ∷ ps) after = spell_part p (spell_local_parts ps after)

-- with the line of the semicolon
pub record WrittenLocal : Type 0 where
  pub parts : List LocalPart
  pub items : Separated WrittenItem
  pub line : ℕ

abbrev pub plain_local : WrittenLocal → LocalDecl
plain_local d = record { line = local_line d.parts; specs = plain_local_specs d.parts; items = listed plain_item d.items }

abbrev pub IsLocal : List Name → WrittenLocal → Type 0
IsLocal defs d = AreLocalSpecs defs d.parts × AreAll (IsItem defs) d.items

abbrev pub spell_local : WrittenLocal → List Token → List Token
spell_local d after = spell_local_parts d.parts (spell_separated spell_item d.items (mark d.line semicolon ∷ after))
