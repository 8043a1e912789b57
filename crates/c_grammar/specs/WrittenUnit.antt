-- From a unit to its spellings.
use Rattle.std.specs.Prelude.{ℕ, List, [], ◌∷◌, ◌++◌, map, Option, Some, None}
use Rattle.c_type.specs.Names.{Name}
use Rattle.c_lex.specs.Tokens.{Token}
use Rattle.c_grammar.specs.Words.{Separated, listed, AreAll, spell_separated, mark, semicolon}
use Rattle.c_tree.specs.TreeDecl.{FileSpecs, declared}
use Rattle.c_tree.specs.TreeUnit.{Ext, FuncHead}
use Rattle.c_tree.specs.TreeUnit as t
use Rattle.c_grammar.specs.WrittenDeclr.{WrittenDeclr, WrittenItem, declr_line, plain_declr, IsDeclr, IsHead, spell_declr, plain_item, IsItem, spell_item}
use Rattle.c_grammar.specs.WrittenSpecs.{Parts, no_parts, more_parts, AreSpecs, AreTypedef, first_line, plain_types, plain_specs, spell_specs}
use Rattle.c_grammar.specs.WrittenDecl.{WrittenTag, plain_tag, IsTag, tag_line, spell_tag, WrittenPar, plain_par, IsPar, spell_par}
use Rattle.c_grammar.specs.WrittenStmt.{WrittenBlock, plain_block, IsBlock, spell_block}

-- The head of a function: its words, of which there may be none, its declarator and the declarations of its parameters.
pub record WrittenHead : Type 0 where
  pub parts : Parts
  pub declr : WrittenDeclr
  pub params : List WrittenPar

-- the lines are those of the semicolons
pub data WrittenExt : Type 0 where
  typedef : (ps : Parts) (ds : Separated WrittenDeclr) (l : ℕ) → WrittenExt
  tag_only : (g : WrittenTag) (l : ℕ) → WrittenExt
  object : (ps : Parts) (is : Separated WrittenItem) (l : ℕ) → WrittenExt
  func : (h : WrittenHead) (b : WrittenBlock) → WrittenExt

abbrev pub specs_or_none : Parts → Option FileSpecs
specs_or_none no_parts = None
specs_or_none (more_parts p ps) = Some (plain_specs (more_parts p ps))

abbrev pub head_line : Parts → WrittenDeclr → ℕ
head_line no_parts d = declr_line d
head_line (more_parts p ps) d = first_line (more_parts p ps)

abbrev pub plain_head : WrittenHead → FuncHead
plain_head h = record { line = head_line h.parts h.declr; specs = specs_or_none h.parts; declr = plain_declr h.declr; params = map plain_par h.params }

abbrev pub plain_ext : WrittenExt → Ext
plain_ext (typedef ps ds l) = t.typedef (first_line ps) (plain_types ps) (listed plain_declr ds)
plain_ext (tag_only g l) = t.tag_only (tag_line g) (plain_tag g)
plain_ext (object ps is l) = t.object (first_line ps) (plain_specs ps) (listed plain_item is)
plain_ext (func h b) = t.func (head_line h.parts h.declr) (specs_or_none h.parts) (plain_declr h.declr) (map plain_par h.params) (plain_block b)

abbrev pub ArePars : List Name → List WrittenPar → Type 0
ArePars defs [] = Unit {0}
ArePars defs (p ∷ ps) = IsPar defs p × ArePars defs ps

-- the words of a function, if there are any
abbrev pub AreHeadSpecs : List Name → Parts → Type 0
AreHeadSpecs defs no_parts = Unit {0}
AreHeadSpecs defs (more_parts p ps) = AreSpecs defs (more_parts p ps)

abbrev pub IsFuncHead : List Name → WrittenHead → Type 0
IsFuncHead defs h = AreHeadSpecs defs h.parts × IsHead defs h.declr × ArePars defs h.params

abbrev pub IsExt : List Name → WrittenExt → Type 0
IsExt defs (typedef ps ds l) = AreTypedef defs ps × AreAll (IsDeclr defs) ds
IsExt defs (tag_only g l) = IsTag defs g
IsExt defs (object ps is l) = AreSpecs defs ps × AreAll (IsItem defs) is
IsExt defs (func h b) = IsFuncHead defs h × IsBlock defs b

abbrev pub spell_pars : List WrittenPar → List Token → List Token
spell_pars [] after = after
spell_pars (p ∷ ps) after = spell_par p (spell_pars ps after)

abbrev pub spell_head : WrittenHead → List Token → List Token
spell_head h after = spell_specs h.parts (spell_declr h.declr (spell_pars h.params after))

abbrev pub spell_ext : WrittenExt → List Token → List Token
spell_ext (typedef ps ds l) after = spell_specs ps (spell_separated spell_declr ds (mark l semicolon ∷ after))
spell_ext (tag_only g l) after = spell_tag g (mark l semicolon ∷ after)
spell_ext (object ps is l) after = spell_specs ps (spell_separated spell_item is (mark l semicolon ∷ after))
spell_ext (func h b) after = spell_head h (spell_block b after)

-- the typedef names after an external declaration
abbrev pub with_typedefs : List Name → Ext → List Name
with_typedefs defs (t.typedef l y ds) = defs ++ map declared ds
with_typedefs defs (t.tag_only l g) = defs
with_typedefs defs (t.object l s is) = defs
with_typedefs defs (t.func l s d ps b) = defs

-- A typedef name is one in the external declarations behind its own.
abbrev pub AreExts : List Name → List WrittenExt → Type 0
AreExts defs [] = Unit {0}
AreExts defs (e ∷ es) = IsExt defs e × AreExts (with_typedefs defs (plain_ext e)) es

abbrev pub spell_exts : List WrittenExt → List Token → List Token
spell_exts [] after = after
spell_exts (e ∷ es) after = spell_ext e (spell_exts es after)

abbrev pub plain_unit : List WrittenExt → t.Unit
plain_unit es = record { exts = map plain_ext es }
