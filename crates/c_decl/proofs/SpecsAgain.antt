-- The words before declarators, and the bodies of tags, that are spelled are read.
use Rattle.std.proofs.Common.{◌≡◌, ℕ, ◌+◌, ◌<◌, ◌≤◌, max, zero, suc, List, [], ◌∷◌, length, map, Option, Some, None, true, refl, arith, sym, true≢false}
use Rattle.c_type.specs.Names.{Name, or_else}
use Rattle.c_type.specs.declared.TagKind.{TagKind}
use Rattle.c_type.specs.declared.TagKind.TheVariants.{Struct, Union, Enum}
use Rattle.c_lex.specs.Tokens.{Token}
use Rattle.c_tree.specs.declared.decl.Storage.{Storage}
use Rattle.c_tree.specs.declared.decl.Storage.TheVariants.{Auto, Register, Static, Extern}
use Rattle.c_grammar.specs.Words.{TypeWord, Unsigned, Char, Short, Long, Int, Void, Separated, mark, storage_word, tag_word, type_word, open_brace, close_brace, semicolon, spell_separated, spell_others}
use Rattle.c_tree.specs.TreeExpr.{optional}
use Rattle.c_tree.specs.TreeDecl.{Types, TagDef, Mem, Mems, En, Declr, types_depth, def_depth, mem_depth, mems_depth, en_depth, declr_depth}
use Rattle.c_tree.specs.TreeDecl as t
use Rattle.c_grammar.specs.WrittenType.{TypePart, word_part, tag_part, name_part, spelled, has_spelling}
use Rattle.c_grammar.specs.WrittenDeclr.{Named, named, spell_named, WrittenDeclr, plain_declr, plain_if, IsDeclr, IfThere, spell_declr, spell_if}
use Rattle.c_grammar.specs.WrittenDeclr as d
use Rattle.c_grammar.specs.WrittenSpecs.{Parts, WrittenDef, WrittenMem, WrittenMems, WrittenEn, Value, storages, typedefs, type_parts, bodies, first_line, def_line, plain_value, plain_en, plain_body, plain_def, plain_mems, plain_mem, plain_types, first_of, is_some, is_type, IsValue, IsEn, AreParts, IsDef, AreMems, IsMem, spell_value, spell_en, spell_specs, spell_def, spell_mems, spell_mem}
use Rattle.c_grammar.specs.WrittenSpecs as p
use Rattle.c_grammar.specs.WrittenDecl.{LocalPart, local_storages, local_types, AreLocalParts, spell_local_parts}
use Rattle.c_grammar.specs.WrittenDecl as l
use Rattle.c_expr.specs.Front.{Read, ◌>>=◌, eat, line_at}
use Rattle.c_decl.specs.ReadSpecs.{Found, nothing, Start, word_start, start_at, words, no_body, types_found, no_storage, only_types, en, en_by, mem, mem_by, mems, body_by, file_words}
use Rattle.c_decl.specs.ReadSpecs as s
use Rattle.c_expr.proofs.Fronts.{expr_longer, part_longer}
use Rattle.c_decl.proofs.SeparatedAgain.{members_longer}
use Rattle.c_decl.proofs.DeclrAgain.{IsLoose, declr_longer}

pub storage_start : (c : Storage) → word_start (storage_word c) ≡ s.storage c
storage_start Auto = refl
storage_start Register = refl
storage_start Static = refl
storage_start Extern = refl

pub typed_start : (v : TypeWord) → word_start (type_word v) ≡ s.typed v
typed_start Unsigned = refl
typed_start Char = refl
typed_start Short = refl
typed_start Long = refl
typed_start Int = refl
typed_start Void = refl

pub tag_start : (kind : TagKind) → has_spelling kind ≡ true → word_start (tag_word kind) ≡ s.tag kind
tag_start Struct is = refl
tag_start Union is = absurd (true≢false (sym is))
tag_start Enum is = refl

-- no further word comes next, and no tag's body
pub record NoMore (defs : List Name) (ts : List Token) : Type 0 where
  pub stops : start_at defs ts ≡ s.ends
  pub no_brace : eat open_brace ts ≡ None

pub declr_no_more : (defs : List Name) (e : WrittenDeclr) (after : List Token) → IsLoose defs e → NoMore defs (spell_declr e after)
declr_no_more defs (d.pointer l1 e) after ok = record { stops = refl; no_brace = refl }
declr_no_more defs (d.name l1 n) after ok = record { stops = rw ok refl; no_brace = refl }
declr_no_more defs (d.array e l1 n m) after ok = declr_no_more defs e _ ok.1
declr_no_more defs (d.function e l1 xs m) after ok = declr_no_more defs e _ ok.1
declr_no_more defs (d.bracket l1 e m) after ok = record { stops = refl; no_brace = refl }

-- ---- words in a block

abbrev pub local_found : List LocalPart → Found
local_found ps = record { storages = local_storages ps; typedefs = 0; parts = local_types ps; bodies = [] }

local_no_brace : (ps : List LocalPart) (after : List Token) → eat open_brace after ≡ None → eat open_brace (spell_local_parts ps after) ≡ None
local_no_brace [] after none = none
local_no_brace (l.storage l1 c ∷ ps) after none = refl
local_no_brace (l.typed (word_part l1 v) ∷ ps) after none = refl
local_no_brace (l.typed (tag_part l1 kind m n) ∷ ps) after none = refl
local_no_brace (l.typed (name_part l1 n) ∷ ps) after none = refl

pub local_words_again : (defs : List Name) (n : ℕ) (ps : List LocalPart) (after : List Token) → AreLocalParts defs ps → NoMore defs after → length ps < n
    → words defs no_body n (spell_local_parts ps after) ≡ Some (local_found ps, after)
unfolding words
local_words_again defs zero ps after ok ends room = absurd (omega arith)
local_words_again defs (suc n) [] after ok ends room = rw ends.stops refl
local_words_again defs (suc n) (l.storage l1 c ∷ ps) after ok ends room = rw (storage_start c, local_words_again defs n ps after ok ends (omega arith)) refl
local_words_again defs (suc n) (l.typed (word_part l1 v) ∷ ps) after ok ends room = rw (typed_start v, local_words_again defs n ps after ok.1 ends (omega arith)) refl
local_words_again defs (suc n) (l.typed (tag_part l1 kind m y) ∷ ps) after ok ends room =
    rw (tag_start kind ok.0, local_no_brace ps after ends.no_brace, local_words_again defs n ps after ok.1 ends (omega arith)) refl
local_words_again defs (suc n) (l.typed (name_part l1 y) ∷ ps) after ok ends room = rw (ok.0, local_words_again defs n ps after ok.1 ends (omega arith)) refl

pub local_parts_longer : (ps : List LocalPart) (ts : List Token) → length ps + length ts ≤ length (spell_local_parts ps ts)
local_parts_longer [] ts = omega arith
local_parts_longer (l.storage l1 c ∷ ps) ts = omega (arith, local_parts_longer ps ts)
local_parts_longer (l.typed q ∷ ps) ts = omega (arith, part_longer q (spell_local_parts ps ts), local_parts_longer ps ts)

-- ---- words outside of blocks

abbrev pub found : Parts → Found
found ps = record { storages = storages ps; typedefs = typedefs ps; parts = type_parts ps; bodies = map plain_def (bodies ps) }

abbrev pub count : Parts → ℕ
count p.no_parts = 0
count (p.more_parts q ps) = suc (count ps)

-- how deep bodies stand in one another
abbrev mutual
  pub parts_nest : Parts → ℕ
  parts_nest p.no_parts = 0
  parts_nest (p.more_parts (p.storage l1 c) ps) = parts_nest ps
  parts_nest (p.more_parts (p.typedef l1) ps) = parts_nest ps
  parts_nest (p.more_parts (p.typed q) ps) = parts_nest ps
  parts_nest (p.more_parts (p.tagged e) ps) = max (def_nest e) (parts_nest ps)

  pub def_nest : WrittenDef → ℕ
  def_nest (p.struct l1 y m ms n) = suc (mems_nest ms)
  def_nest (p.enum l1 y m es n) = 1

  pub mems_nest : WrittenMems → ℕ
  mems_nest (p.last_mem m) = mem_nest m
  mems_nest (p.more_mems m ms) = max (mem_nest m) (mems_nest ms)

  pub mem_nest : WrittenMem → ℕ
  mem_nest (p.mem ps ds l1) = parts_nest ps

-- each body among the words is no deeper than the number
abbrev pub AreLow : ℕ → Parts → Type 0
AreLow most p.no_parts = Unit {0}
AreLow most (p.more_parts (p.storage l1 c) ps) = AreLow most ps
AreLow most (p.more_parts (p.typedef l1) ps) = AreLow most ps
AreLow most (p.more_parts (p.typed q) ps) = AreLow most ps
AreLow most (p.more_parts (p.tagged e) ps) = (def_depth (plain_def e) ≤ most) × AreLow most ps

low_none : (most : ℕ) (ps : Parts) → length (bodies ps) ≤ 0 → AreLow most ps
low_none most p.no_parts none = tt
low_none most (p.more_parts (p.storage l1 c) ps) none = low_none most ps none
low_none most (p.more_parts (p.typedef l1) ps) none = low_none most ps none
low_none most (p.more_parts (p.typed q) ps) none = low_none most ps none
low_none most (p.more_parts (p.tagged e) ps) none = absurd (omega (arith, none))

low_body : (most : ℕ) (ps : Parts) → length (bodies ps) ≤ 1 → optional types_depth (plain_body ps) ≤ most → AreLow most ps
low_body most p.no_parts one low = tt
low_body most (p.more_parts (p.storage l1 c) ps) one low = low_body most ps one low
low_body most (p.more_parts (p.typedef l1) ps) one low = low_body most ps one low
low_body most (p.more_parts (p.typed q) ps) one low = low_body most ps one low
low_body most (p.more_parts (p.tagged e) ps) one low = (low, low_none most ps (omega (arith, one)))

body_low : (most : ℕ) (a b : Option Types) → optional types_depth (or_else a b) ≤ most → optional types_depth a ≤ most
body_low most None b low = omega arith
body_low most (Some y) b low = low

-- where at most one body stands, what is no deeper than the number
pub low_types : (most : ℕ) (ps : Parts) → length (bodies ps) ≤ 1 → optional types_depth (plain_types ps) ≤ most → AreLow most ps
low_types most ps one low = low_body most ps one (body_low most (plain_body ps) (plain_if t.spec (spelled (type_parts ps))) low)

pub one_body : (n : ℕ) (ps : List TypePart) → is_type n ps ≡ true → n ≤ 1
one_body zero ps is = omega arith
one_body (suc zero) ps is = omega arith
one_body (suc (suc n)) ps is = absurd (true≢false (sym is))

specs_no_brace : (ps : Parts) (after : List Token) → eat open_brace after ≡ None → eat open_brace (spell_specs ps after) ≡ None
specs_no_brace p.no_parts after none = none
specs_no_brace (p.more_parts (p.storage l1 c) ps) after none = refl
specs_no_brace (p.more_parts (p.typedef l1) ps) after none = refl
specs_no_brace (p.more_parts (p.typed (word_part l1 v)) ps) after none = refl
specs_no_brace (p.more_parts (p.typed (tag_part l1 kind m n)) ps) after none = refl
specs_no_brace (p.more_parts (p.typed (name_part l1 n)) ps) after none = refl
specs_no_brace (p.more_parts (p.tagged (p.struct l1 y m ms n)) ps) after none = refl
specs_no_brace (p.more_parts (p.tagged (p.enum l1 y m es n)) ps) after none = refl

abbrev pub kind_of : WrittenDef → TagKind
kind_of (p.struct l1 y m ms n) = Struct
kind_of (p.enum l1 y m es n) = Enum

abbrev pub name_of : WrittenDef → Option Name
name_of (p.struct l1 y m ms n) = plain_if named y
name_of (p.enum l1 y m es n) = plain_if named y

-- the tokens behind the opening brace
abbrev pub inside : WrittenDef → List Token → List Token
inside (p.struct l1 y m ms n) after = spell_mems ms (mark n close_brace ∷ after)
inside (p.enum l1 y m es n) after = spell_separated spell_en es (mark n close_brace ∷ after)

module _ (defs : List Name) (most n : ℕ) (body : TagKind → ℕ → Option Name → List Token → Read TagDef)
    (body_again : (e : WrittenDef) (after : List Token) → IsDef defs e → def_nest e ≤ n → def_depth (plain_def e) ≤ most → body (kind_of e) (def_line e) (name_of e) (inside e after) ≡ Some (plain_def e, after)) where
  body_step : (e : WrittenDef) (more : List Token → Read Found) (rest : List Token) (f : Found) (after : List Token) → IsDef defs e → def_nest e ≤ n → def_depth (plain_def e) ≤ most → more rest ≡ Some (f, after)
      → (s.word_by defs body (def_line e) (s.behind (spell_def e rest)) (spell_def e rest) (start_at defs (spell_def e rest)) >>= λ v. s.words_by defs body more v.0 v.1) ≡ Some (record f { bodies = plain_def e ∷ f.bodies }, after)
  body_step (p.struct l1 None m ms n1) more rest f after ok small low is = rw (body_again (p.struct l1 None m ms n1) rest ok small low, is) refl
  body_step (p.struct l1 (Some y) m ms n1) more rest f after ok small low is = rw (body_again (p.struct l1 (Some y) m ms n1) rest ok small low, is) refl
  body_step (p.enum l1 None m es n1) more rest f after ok small low is = rw (body_again (p.enum l1 None m es n1) rest ok small low, is) refl
  body_step (p.enum l1 (Some y) m es n1) more rest f after ok small low is = rw (body_again (p.enum l1 (Some y) m es n1) rest ok small low, is) refl

  def_line_at : (e : WrittenDef) (rest : List Token) → line_at (spell_def e rest) ≡ def_line e
  def_line_at (p.struct l1 y m ms n1) rest = refl
  def_line_at (p.enum l1 y m es n1) rest = refl

  pub words_again : (j : ℕ) (ps : Parts) (after : List Token) → AreParts defs ps → parts_nest ps ≤ n → AreLow most ps → NoMore defs after → count ps < j
      → words defs body j (spell_specs ps after) ≡ Some (found ps, after)
  unfolding words
  words_again zero ps after ok small low ends room = absurd (omega arith)
  words_again (suc j) p.no_parts after ok small low ends room = rw ends.stops refl
  words_again (suc j) (p.more_parts (p.storage l1 c) ps) after ok small low ends room = rw (storage_start c, words_again j ps after ok small low ends (omega arith)) refl
  words_again (suc j) (p.more_parts (p.typedef l1) ps) after ok small low ends room = rw (words_again j ps after ok small low ends (omega arith)) refl
  words_again (suc j) (p.more_parts (p.typed (word_part l1 v)) ps) after ok small low ends room = rw (typed_start v, words_again j ps after ok.1 small low ends (omega arith)) refl
  words_again (suc j) (p.more_parts (p.typed (tag_part l1 kind m y)) ps) after ok small low ends room =
      rw (tag_start kind ok.0, specs_no_brace ps after ends.no_brace, words_again j ps after ok.1 small low ends (omega arith)) refl
  words_again (suc j) (p.more_parts (p.typed (name_part l1 y)) ps) after ok small low ends room = rw (ok.0, words_again j ps after ok.1 small low ends (omega arith)) refl
  words_again (suc j) (p.more_parts (p.tagged e) ps) after ok small low ends room =
      rw (def_line_at e (spell_specs ps after)) (body_step e (words defs body j) (spell_specs ps after) (found ps) after ok.0 (omega arith) low.0 (words_again j ps after ok.1 (omega arith) low.1 ends (omega arith)))

-- ---- lengths

value_longer : (v : Option Value) (ts : List Token) → length ts ≤ length (spell_if spell_value v ts)
value_longer None ts = omega arith
value_longer (Some v) ts = omega (arith, expr_longer v.value ts)

pub en_longer : (e : WrittenEn) (ts : List Token) → length ts < length (spell_en e ts)
en_longer e ts = omega (arith, value_longer e.value ts)

abbrev pub mem_count : WrittenMems → ℕ
mem_count (p.last_mem m) = 1
mem_count (p.more_mems m ms) = suc (mem_count ms)

named_longer : (y : Option Named) (ts : List Token) → length ts ≤ length (spell_if spell_named y ts)
named_longer None ts = omega arith
named_longer (Some y) ts = omega arith

pub separated_longer : {W : Type 0} (spell : W → List Token → List Token) → ((y : W) (ts : List Token) → length ts < length (spell y ts)) → (ys : Separated W) (ts : List Token)
    → length ys.others + suc (length ts) ≤ length (spell_separated spell ys ts)
separated_longer spell longer ys ts = omega (arith, longer ys.first (spell_others spell ys.others ts), members_longer spell longer ys.others ts)

mutual
  pub specs_longer : (ps : Parts) (ts : List Token) → count ps + length ts ≤ length (spell_specs ps ts)
  specs_longer p.no_parts ts = omega arith
  specs_longer (p.more_parts (p.storage l1 c) ps) ts = omega (arith, specs_longer ps ts)
  specs_longer (p.more_parts (p.typedef l1) ps) ts = omega (arith, specs_longer ps ts)
  specs_longer (p.more_parts (p.typed q) ps) ts = omega (arith, part_longer q (spell_specs ps ts), specs_longer ps ts)
  specs_longer (p.more_parts (p.tagged e) ps) ts = omega (arith, def_longer e (spell_specs ps ts), specs_longer ps ts)

  pub def_longer : (e : WrittenDef) (ts : List Token) → def_nest e + length ts < length (spell_def e ts)
  def_longer (p.struct l1 y m ms n) ts = omega (arith, named_longer y (mark m open_brace ∷ spell_mems ms (mark n close_brace ∷ ts)), mems_longer ms (mark n close_brace ∷ ts))
  def_longer (p.enum l1 y m es n) ts = omega (arith, named_longer y (mark m open_brace ∷ spell_separated spell_en es (mark n close_brace ∷ ts)), separated_longer spell_en en_longer es (mark n close_brace ∷ ts))

  mems_longer : (ms : WrittenMems) (ts : List Token) → mems_nest ms + length ts ≤ length (spell_mems ms ts)
  mems_longer (p.last_mem m) ts = mem_longer m ts
  mems_longer (p.more_mems m ms) ts = omega (arith, mem_longer m (spell_mems ms ts), mems_longer ms ts)

  mem_longer : (m : WrittenMem) (ts : List Token) → mem_nest m + length ts ≤ length (spell_mem m ts)
  mem_longer (p.mem ps ds l1) ts = omega (arith, nest_short ps (spell_separated spell_declr ds (mark l1 semicolon ∷ ts)), separated_longer spell_declr declr_longer ds (mark l1 semicolon ∷ ts))

  pub nest_short : (ps : Parts) (ts : List Token) → parts_nest ps + length ts ≤ length (spell_specs ps ts)
  nest_short p.no_parts ts = omega arith
  nest_short (p.more_parts (p.storage l1 c) ps) ts = omega (arith, nest_short ps ts)
  nest_short (p.more_parts (p.typedef l1) ps) ts = omega (arith, nest_short ps ts)
  nest_short (p.more_parts (p.typed q) ps) ts = omega (arith, part_longer q (spell_specs ps ts), nest_short ps ts)
  nest_short (p.more_parts (p.tagged e) ps) ts = omega (arith, def_longer e (spell_specs ps ts), nest_short ps ts)

mem_shorter : (m : WrittenMem) (ts : List Token) → length ts < length (spell_mem m ts)
mem_shorter (p.mem ps ds l1) ts = omega (arith, specs_longer ps (spell_separated spell_declr ds (mark l1 semicolon ∷ ts)), separated_longer spell_declr declr_longer ds (mark l1 semicolon ∷ ts))

pub mems_shorter : (ms : WrittenMems) (ts : List Token) → mem_count ms + length ts ≤ length (spell_mems ms ts)
mems_shorter (p.last_mem m) ts = omega (arith, mem_shorter m ts)
mems_shorter (p.more_mems m ms) ts = omega (arith, mem_shorter m (spell_mems ms ts), mems_shorter ms ts)
