-- The tokens behind a declaration are those from a place on.
use Rattle.std.proofs.Common.{◌≡◌, ℕ, ◌+◌, ◌≤◌, true, List, [], ◌∷◌, length, drop, Option, Some, None, sym, ◌∙◌, drop-drop}
use Rattle.c_lex.specs.Tokens.{Token}
use Rattle.c_grammar.specs.Words.{Separated, After, spell_others, spell_separated, mark, open_round, close_round, open_square, close_square, open_brace, close_brace, semicolon}
use Rattle.c_grammar.specs.WrittenExpr as w
use Rattle.c_grammar.specs.WrittenDeclr as d
use Rattle.c_grammar.specs.WrittenSpecs as p
use Rattle.c_grammar.specs.WrittenDecl as l
use Rattle.c_grammar.specs.WrittenUnit as u
use Rattle.c_grammar.specs.Reads.{is_declaration}
use Rattle.c_decl.proofs.Behind.{Behind, here, next, beyond, within, part_behind, expr_behind}

-- what is spelled stands before the others
abbrev Stands : (List Token → List Token) → Type 0
Stands spell = (ts : List Token) → Behind (spell ts) ts

if_behind : {A : Type 0} (spell : A → List Token → List Token) → ((x : A) → Stands (spell x)) → (o : Option A) → Stands (d.spell_if spell o)
if_behind spell each None ts = here ts
if_behind spell each (Some x) ts = each x ts

others_behind : {A : Type 0} (spell : A → List Token → List Token) → ((x : A) → Stands (spell x)) → (xs : List (After A)) → Stands (spell_others spell xs)
others_behind spell each [] ts = here ts
others_behind spell each (x ∷ xs) ts = next _ _ ts (beyond _ (spell_others spell xs ts) ts (each x.member _) (others_behind spell each xs ts))

separated_behind : {A : Type 0} (spell : A → List Token → List Token) → ((x : A) → Stands (spell x)) → (xs : Separated A) → Stands (spell_separated spell xs)
separated_behind spell each xs ts = beyond _ (spell_others spell xs.others ts) ts (each xs.first _) (others_behind spell each xs.others ts)

named_behind : (x : d.Named) → Stands (d.spell_named x)
named_behind x ts = next _ ts ts (here ts)

names_behind : (xs : Separated d.Named) → Stands (spell_separated d.spell_named xs)
names_behind = separated_behind d.spell_named named_behind

declr_behind : (x : d.WrittenDeclr) → Stands (d.spell_declr x)
declr_behind (d.pointer n x) ts = next _ (d.spell_declr x ts) ts (declr_behind x ts)
declr_behind (d.name n x) ts = next _ ts ts (here ts)
declr_behind (d.array x n e m) ts =
    beyond _ (mark n open_square ∷ d.spell_if w.spell e (mark m close_square ∷ ts)) ts (declr_behind x _)
    (next _ _ ts (beyond _ (mark m close_square ∷ ts) ts (if_behind w.spell expr_behind e _) (next _ ts ts (here ts))))
declr_behind (d.function x n xs m) ts =
    beyond _ (mark n open_round ∷ d.spell_if (spell_separated d.spell_named) xs (mark m close_round ∷ ts)) ts (declr_behind x _)
    (next _ _ ts (beyond _ (mark m close_round ∷ ts) ts (if_behind (spell_separated d.spell_named) names_behind xs _) (next _ ts ts (here ts))))
declr_behind (d.bracket n x m) ts = next _ _ ts (beyond _ (mark m close_round ∷ ts) ts (declr_behind x _) (next _ ts ts (here ts)))

comma_behind : (n : ℕ) → Stands (d.spell_comma n)
comma_behind n ts = next _ ts ts (here ts)

mutual
  init_behind : (x : d.WrittenInit) → Stands (d.spell_init x)
  init_behind (d.single e) ts = expr_behind e ts
  init_behind (d.group n x xs last m) ts =
      next _ _ ts (beyond _ (d.spell_inits xs (d.spell_if d.spell_comma last (mark m close_brace ∷ ts))) ts (init_behind x _)
      (beyond _ (d.spell_if d.spell_comma last (mark m close_brace ∷ ts)) ts (inits_behind xs _) (beyond _ (mark m close_brace ∷ ts) ts (if_behind d.spell_comma comma_behind last _) (next _ ts ts (here ts)))))

  inits_behind : (xs : d.WrittenInits) → Stands (d.spell_inits xs)
  inits_behind d.no_inits ts = here ts
  inits_behind (d.more_inits n x xs) ts = next _ _ ts (beyond _ (d.spell_inits xs ts) ts (init_behind x _) (inits_behind xs ts))

given_behind : (x : d.Given) → Stands (d.spell_given x)
given_behind x ts = next _ (d.spell_init x.init ts) ts (init_behind x.init ts)

item_behind : (x : d.WrittenItem) → Stands (d.spell_item x)
item_behind x ts = beyond _ (d.spell_if d.spell_given x.given ts) ts (declr_behind x.declr _) (if_behind d.spell_given given_behind x.given ts)

value_behind : (x : p.Value) → Stands (p.spell_value x)
value_behind x ts = next _ (w.spell x.value ts) ts (expr_behind x.value ts)

en_behind : (x : p.WrittenEn) → Stands (p.spell_en x)
en_behind x ts = next _ (d.spell_if p.spell_value x.value ts) ts (if_behind p.spell_value value_behind x.value ts)

mutual
  specs_behind : (xs : p.Parts) → Stands (p.spell_specs xs)
  specs_behind p.no_parts ts = here ts
  specs_behind (p.more_parts (p.storage n c) xs) ts = next _ (p.spell_specs xs ts) ts (specs_behind xs ts)
  specs_behind (p.more_parts (p.typedef n) xs) ts = next _ (p.spell_specs xs ts) ts (specs_behind xs ts)
  specs_behind (p.more_parts (p.typed x) xs) ts = beyond _ (p.spell_specs xs ts) ts (part_behind x _) (specs_behind xs ts)
  specs_behind (p.more_parts (p.tagged x) xs) ts = beyond _ (p.spell_specs xs ts) ts (def_behind x _) (specs_behind xs ts)

  def_behind : (x : p.WrittenDef) → Stands (p.spell_def x)
  def_behind (p.struct n x m ms o) ts =
      next _ _ ts (beyond _ (mark m open_brace ∷ p.spell_mems ms (mark o close_brace ∷ ts)) ts (if_behind d.spell_named named_behind x _)
      (next _ _ ts (beyond _ (mark o close_brace ∷ ts) ts (mems_behind ms _) (next _ ts ts (here ts)))))
  def_behind (p.enum n x m es o) ts =
      next _ _ ts (beyond _ (mark m open_brace ∷ spell_separated p.spell_en es (mark o close_brace ∷ ts)) ts (if_behind d.spell_named named_behind x _)
      (next _ _ ts (beyond _ (mark o close_brace ∷ ts) ts (separated_behind p.spell_en en_behind es _) (next _ ts ts (here ts)))))

  mems_behind : (xs : p.WrittenMems) → Stands (p.spell_mems xs)
  mems_behind (p.last_mem m) ts = mem_behind m ts
  mems_behind (p.more_mems m ms) ts = beyond _ (p.spell_mems ms ts) ts (mem_behind m _) (mems_behind ms ts)

  mem_behind : (x : p.WrittenMem) → Stands (p.spell_mem x)
  mem_behind (p.mem xs ds n) ts =
      beyond _ (spell_separated d.spell_declr ds (mark n semicolon ∷ ts)) ts (specs_behind xs _)
      (beyond _ (mark n semicolon ∷ ts) ts (separated_behind d.spell_declr declr_behind ds _) (next _ ts ts (here ts)))

tag_behind : (x : l.WrittenTag) → Stands (l.spell_tag x)
tag_behind (l.ref n kind m x) ts = next _ _ ts (next _ ts ts (here ts))
tag_behind (l.body x) ts = def_behind x ts

register_behind : (n : ℕ) → Stands (l.spell_register n)
register_behind n ts = next _ ts ts (here ts)

-- declarators with commas between them and a semicolon
declrs_behind : (ds : Separated d.WrittenDeclr) (n : ℕ) (ts : List Token) → Behind (spell_separated d.spell_declr ds (mark n semicolon ∷ ts)) ts
declrs_behind ds n ts = beyond _ (mark n semicolon ∷ ts) ts (separated_behind d.spell_declr declr_behind ds _) (next _ ts ts (here ts))

items_behind : (is : Separated d.WrittenItem) (n : ℕ) (ts : List Token) → Behind (spell_separated d.spell_item is (mark n semicolon ∷ ts)) ts
items_behind is n ts = beyond _ (mark n semicolon ∷ ts) ts (separated_behind d.spell_item item_behind is _) (next _ ts ts (here ts))

par_behind : (x : l.WrittenPar) → Stands (l.spell_par x)
par_behind x ts =
    beyond _ (p.spell_specs x.parts (spell_separated d.spell_declr x.declrs (mark x.line semicolon ∷ ts))) ts (if_behind l.spell_register register_behind x.register _)
    (beyond _ (spell_separated d.spell_declr x.declrs (mark x.line semicolon ∷ ts)) ts (specs_behind x.parts _) (declrs_behind x.declrs x.line ts))

pars_behind : (xs : List l.WrittenPar) → Stands (u.spell_pars xs)
pars_behind [] ts = here ts
pars_behind (x ∷ xs) ts = beyond _ (u.spell_pars xs ts) ts (par_behind x _) (pars_behind xs ts)

local_parts_behind : (xs : List l.LocalPart) → Stands (l.spell_local_parts xs)
local_parts_behind [] ts = here ts
local_parts_behind (l.storage n c ∷ xs) ts = next _ (l.spell_local_parts xs ts) ts (local_parts_behind xs ts)
local_parts_behind (l.typed x ∷ xs) ts = beyond _ (l.spell_local_parts xs ts) ts (part_behind x _) (local_parts_behind xs ts)

pub local_behind : (x : l.WrittenLocal) (ts : List Token) → Behind (l.spell_local x ts) ts
local_behind x ts = beyond _ (spell_separated d.spell_item x.items (mark x.line semicolon ∷ ts)) ts (local_parts_behind x.parts _) (items_behind x.items x.line ts)

pub head_behind : (x : u.WrittenHead) (ts : List Token) → Behind (u.spell_head x ts) ts
head_behind x ts =
    beyond _ (d.spell_declr x.declr (u.spell_pars x.params ts)) ts (specs_behind x.parts _) (beyond _ (u.spell_pars x.params ts) ts (declr_behind x.declr _) (pars_behind x.params ts))

pub declaration_behind : (x : u.WrittenExt) (ts : List Token) → is_declaration x ≡ true → Behind (u.spell_ext x ts) ts
declaration_behind (u.typedef ps ds n) ts is = beyond _ (spell_separated d.spell_declr ds (mark n semicolon ∷ ts)) ts (specs_behind ps _) (declrs_behind ds n ts)
declaration_behind (u.tag_only g n) ts is = beyond _ (mark n semicolon ∷ ts) ts (tag_behind g _) (next _ ts ts (here ts))
declaration_behind (u.object ps xs n) ts is = beyond _ (spell_separated d.spell_item xs (mark n semicolon ∷ ts)) ts (specs_behind ps _) (items_behind xs n ts)
declaration_behind (u.func h b) ts is = cc

-- The tokens behind those from a place on are those from a place within the tokens on.
pub place : (at : ℕ) (ts after : List Token) → Behind (drop at ts) after → (k : ℕ) × (k ≤ length ts) × (drop k ts ≡ after)
place at ts after b = let p = within (at + b.0) ts in (p.0, p.1, p.2 ∙ sym (drop-drop b.0 at ts) ∙ b.1)
