-- Declarations of parameters and in blocks that are spelled are read.
use Rattle.std.proofs.Common.{◌≡◌, ℕ, ◌+◌, ◌<◌, ◌≤◌, zero, suc, List, [], ◌∷◌, length, map, Option, Some, None, Bool, true, false, nat_eq, refl, arith, ap, sym, true≢false}
use Rattle.std.proofs.lemmas.Bool.{eqb-true}
use Rattle.c_type.specs.Names.{Name, or_default}
use Rattle.c_type.specs.declared.TagKind.{TagKind}
use Rattle.c_type.specs.declared.TagKind.TheVariants.{Struct, Union, Enum}
use Rattle.c_lex.specs.Tokens.{Tok, Token}
use Rattle.c_lex.specs.Tokens as k
use Rattle.c_tree.specs.declared.decl.Storage.{Storage}
use Rattle.c_grammar.specs.Words.{TypeWord, Unsigned, Char, Short, Long, Int, Void, Separated, listed, mark, tok, tag_word, type_word, register_word, open_brace, semicolon, spell_separated, spell_others, AreAll}
use Rattle.c_tree.specs.TreeExpr.{Expr, expr_depth, deepest, optional}
use Rattle.c_tree.specs.TreeExpr as x
use Rattle.c_tree.specs.TreeDecl.{Types, ParDecl, LocalSpecs, LocalDecl, types_depth, declr_depth, item_depth, par_depth, local_depth}
use Rattle.c_tree.specs.TreeDecl as t
use Rattle.c_grammar.specs.WrittenType.{TypePart, word_part, tag_part, name_part}
use Rattle.c_grammar.specs.WrittenExpr.{Written, IsAtLevel}
use Rattle.c_grammar.specs.WrittenExpr as w
use Rattle.c_grammar.specs.WrittenDeclr.{WrittenDeclr, WrittenItem, plain_declr, plain_item, IsDeclr, IsItem, spell_declr, spell_item, spell_given, spell_if}
use Rattle.c_grammar.specs.WrittenSpecs.{Parts, storages, typedefs, type_parts, bodies, first_line, plain_types, first_of, is_some, is_type, is_type_or_none, is_empty, AreTypes, spell_specs}
use Rattle.c_grammar.specs.WrittenSpecs as p
use Rattle.c_grammar.specs.WrittenDecl.{WrittenPar, LocalPart, WrittenLocal, plain_par, IsPar, spell_par, spell_register, local_storages, local_types, plain_local_specs, local_line, is_at_most_one, is_none, AreLocalSpecs, spell_local_parts, plain_local, IsLocal, spell_local}
use Rattle.c_grammar.specs.WrittenDecl as l
use Rattle.c_grammar.specs.WrittenUnit.{ArePars, spell_pars}
use Rattle.c_grammar.specs.Reads.{may_follow, begins_block, is_brace}
use Rattle.c_expr.specs.Front.{Read, eat, eat_word, line_at}
use Rattle.c_decl.specs.Separated.{separated}
use Rattle.c_decl.specs.ReadInit as i
use Rattle.c_decl.specs.ReadDecl as e
use Rattle.c_expr.proofs.Fronts.{grown_again}
use Rattle.c_decl.proofs.SeparatedAgain.{separated_again}
use Rattle.c_decl.proofs.DeclrAgain.{declr_loose, declr_longer}
use Rattle.c_decl.proofs.InitAgain.{EndsItem, item_again, item_longer}
use Rattle.c_decl.proofs.SpecsAgain.{NoMore, declr_no_more, local_found, local_words_again, local_parts_longer, specs_longer, separated_longer}
use Rattle.c_decl.proofs.BodiesAgain.{each_low, only_types_again, only_low, not_empty, specs_line_at, specs_no_mark, declrs_again, separated_no_more, file_words_at_again}

-- ---- parameters

type_no_register : (v : TypeWord) → nat_eq (type_word v) register_word ≡ false
type_no_register Unsigned = refl
type_no_register Char = refl
type_no_register Short = refl
type_no_register Long = refl
type_no_register Int = refl
type_no_register Void = refl

tag_no_register : (kind : TagKind) → nat_eq (tag_word kind) register_word ≡ false
tag_no_register Struct = refl
tag_no_register Union = refl
tag_no_register Enum = refl

no_register : (ps : Parts) (ts : List Token) → storages ps ≡ [] → is_empty ps ≡ false → eat_word register_word (spell_specs ps ts) ≡ None
no_register p.no_parts ts none is = absurd (true≢false is)
no_register (p.more_parts (p.storage l1 c) ps) ts none is = cc
no_register (p.more_parts (p.typedef l1) ps) ts none is = refl
no_register (p.more_parts (p.typed (word_part l1 v)) ps) ts none is = rw (type_no_register v) refl
no_register (p.more_parts (p.typed (tag_part l1 kind m y)) ps) ts none is = rw (tag_no_register kind) refl
no_register (p.more_parts (p.typed (name_part l1 y)) ps) ts none is = refl
no_register (p.more_parts (p.tagged (p.struct l1 y m ms n)) ps) ts none is = refl
no_register (p.more_parts (p.tagged (p.enum l1 y m es n)) ps) ts none is = refl

brace_mark : (t : Tok) → is_brace t ≡ true → t ≡ k.mark open_brace
brace_mark (k.name n) is = absurd (true≢false (sym is))
brace_mark (k.int n long) is = absurd (true≢false (sym is))
brace_mark (k.chr n) is = absurd (true≢false (sym is))
brace_mark (k.text bytes) is = absurd (true≢false (sym is))
brace_mark (k.word v) is = absurd (true≢false (sym is))
brace_mark (k.mark n) is = ap k.mark (eqb-true n open_brace is)

-- a block begins with a brace
pub block_front : (ts : List Token) → begins_block ts ≡ true → (l1 : ℕ) × (rest : List Token) × (ts ≡ mark l1 open_brace ∷ rest)
block_front [] is = absurd (true≢false (sym is))
block_front (y ∷ ts) is = (y.line, ts, ap (λ z. tok y.line z ∷ ts) (brace_mark y.kind is))

par_line : (ps : Parts) (reg : Option ℕ) (ts : List Token) → is_empty ps ≡ false → line_at (spell_if spell_register reg (spell_specs ps ts)) ≡ or_default (first_line ps) reg
par_line ps None ts is = specs_line_at ps ts is
par_line ps (Some l1) ts is = refl

specs_shorter : (ps : Parts) (ds : Separated WrittenDeclr) (n : ℕ) (ts : List Token) → length ts < length (spell_specs ps (spell_separated spell_declr ds (mark n semicolon ∷ ts)))
specs_shorter ps ds n ts = omega (arith, specs_longer ps (spell_separated spell_declr ds (mark n semicolon ∷ ts)), separated_longer spell_declr declr_longer ds (mark n semicolon ∷ ts))

register_longer : (reg : Option ℕ) (ts : List Token) → length ts ≤ length (spell_if spell_register reg ts)
register_longer None ts = omega arith
register_longer (Some l1) ts = omega arith

par_longer : (q : WrittenPar) (ts : List Token) → length ts < length (spell_par q ts)
par_longer q ts =
    omega (arith, register_longer q.register (spell_specs q.parts (spell_separated spell_declr q.declrs (mark q.line semicolon ∷ ts))), specs_shorter q.parts q.declrs q.line ts)

pub pars_longer : (qs : List WrittenPar) (ts : List Token) → length qs + length ts ≤ length (spell_pars qs ts)
pars_longer [] ts = omega arith
pars_longer (q ∷ qs) ts = omega (arith, par_longer q (spell_pars qs ts), pars_longer qs ts)

pub par_no_mark : (m : ℕ) (reg : Option ℕ) (ps : Parts) (ts : List Token) → is_empty ps ≡ false → eat m (spell_if spell_register reg (spell_specs ps ts)) ≡ None
par_no_mark m None ps ts is = specs_no_mark m ps ts is
par_no_mark m (Some l1) ps ts is = refl

-- ---- declarations in a block

any_types : (cs : List Storage) (q : TypePart) (qs : List TypePart) → e.is_any cs (q ∷ qs) [] ≡ true
any_types [] q qs = refl
any_types (c ∷ cs) q qs = refl

local_any : (ps : List LocalPart) → is_none ps ≡ false → e.is_any (local_storages ps) (local_types ps) [] ≡ true
local_any [] is = absurd (true≢false is)
local_any (l.storage l1 c ∷ ps) is = refl
local_any (l.typed q ∷ ps) is = any_types (local_storages ps) q (local_types ps)

pub local_line_at : (ps : List LocalPart) (ts : List Token) → is_none ps ≡ false → line_at (spell_local_parts ps ts) ≡ local_line ps
local_line_at [] ts is = absurd (true≢false is)
local_line_at (l.storage l1 c ∷ ps) ts is = refl
local_line_at (l.typed (word_part l1 v) ∷ ps) ts is = refl
local_line_at (l.typed (tag_part l1 kind m y) ∷ ps) ts is = refl
local_line_at (l.typed (name_part l1 y) ∷ ps) ts is = refl

local_specs_again : (defs : List Name) (ps : List LocalPart) → AreLocalSpecs defs ps → e.local_specs (local_found ps) ≡ Some (plain_local_specs ps)
local_specs_again defs ps ok = rw (local_any ps ok.some, ok.storage, ok.types) refl

pub local_longer : (q : WrittenLocal) (ts : List Token) → length ts < length (spell_local q ts)
local_longer q ts =
    omega (arith, local_parts_longer q.parts (spell_separated spell_item q.items (mark q.line semicolon ∷ ts)), separated_longer spell_item item_longer q.items (mark q.line semicolon ∷ ts))

module _ (defs : List Name) (most : ℕ) (expr : ℕ → List Token → Read Expr)
    (expr_again : (l : ℕ) (e : Written) (after : List Token) → 1 ≤ l → l ≤ 3 → IsAtLevel defs l e → expr_depth (w.plain e) ≤ most → may_follow l after ≡ true → expr l (w.spell e after) ≡ Some (w.plain e, after)) where
  par_behind_again : (l1 : ℕ) (register : Bool) (ps : Parts) (ds : Separated WrittenDeclr) (n : ℕ) (after : List Token) → AreTypes defs ps → AreAll (IsDeclr defs) ds
      → par_depth (record { line = l1; register = register; types = or_default (t.spec x.void) (plain_types ps); declrs = listed plain_declr ds }) ≤ most
      → e.par_behind defs most expr l1 register (spell_specs ps (spell_separated spell_declr ds (mark n semicolon ∷ after)))
      ≡ Some (record { line = l1; register = register; types = or_default (t.spec x.void) (plain_types ps); declrs = listed plain_declr ds }, after)
  par_behind_again l1 register ps ds n after ok oks low =
      rw (
        file_words_at_again defs most expr expr_again ps (spell_separated spell_declr ds (mark n semicolon ∷ after)) ok.parts (only_low most ps ok.types (omega arith)) (separated_no_more defs most expr expr_again ds (mark n semicolon ∷ after) oks),
        only_types_again ps ok.no_storage ok.no_typedef ok.types,
        declrs_again defs most expr expr_again ds (mark n semicolon ∷ after) oks (omega arith) (record { no_array = refl; no_function = refl }) refl,
        grown_again par_depth most (record { line = l1; register = register; types = or_default (t.spec x.void) (plain_types ps); declrs = listed plain_declr ds }) after low,
      ) refl

  register_again : (reg : Option ℕ) (ps : Parts) (ds : Separated WrittenDeclr) (n : ℕ) (after : List Token) → AreTypes defs ps → AreAll (IsDeclr defs) ds
      → par_depth (record { line = or_default (first_line ps) reg; register = is_some reg; types = or_default (t.spec x.void) (plain_types ps); declrs = listed plain_declr ds }) ≤ most
      → e.par defs most expr (spell_if spell_register reg (spell_specs ps (spell_separated spell_declr ds (mark n semicolon ∷ after))))
      ≡ Some (record { line = or_default (first_line ps) reg; register = is_some reg; types = or_default (t.spec x.void) (plain_types ps); declrs = listed plain_declr ds }, after)
  register_again None ps ds n after ok oks low =
      rw (no_register ps (spell_separated spell_declr ds (mark n semicolon ∷ after)) ok.no_storage (not_empty ps ok.types), specs_line_at ps (spell_separated spell_declr ds (mark n semicolon ∷ after)) (not_empty ps ok.types))
      (par_behind_again (first_line ps) false ps ds n after ok oks low)
  register_again (Some l1) ps ds n after ok oks low = par_behind_again l1 true ps ds n after ok oks low

  -- A declaration of parameters that is spelled is read.
  pub par_again : (q : WrittenPar) (after : List Token) → IsPar defs q → par_depth (plain_par q) ≤ most → e.par defs most expr (spell_par q after) ≡ Some (plain_par q, after)
  par_again q after ok low = register_again q.register q.parts q.declrs q.line after ok.0 ok.1 low

  pub pars_again : (j : ℕ) (qs : List WrittenPar) (after : List Token) → ArePars defs qs → deepest par_depth (map plain_par qs) ≤ most → begins_block after ≡ true → length qs < j
      → e.pars defs most expr j (spell_pars qs after) ≡ Some (map plain_par qs, after)
  unfolding e.pars
  pars_again zero qs after ok low block room = absurd (omega arith)
  pars_again (suc j) [] after ok low block room = let f = block_front after block in rw (f.2) refl
  pars_again (suc j) (q ∷ qs) after ok low block room =
      rw (
        par_no_mark open_brace q.register q.parts (spell_separated spell_declr q.declrs (mark q.line semicolon ∷ spell_pars qs after)) (not_empty q.parts (ok.0.0.types)),
        par_again q (spell_pars qs after) ok.0 (omega arith),
        pars_again j qs after ok.1 (omega arith) block (omega arith),
      ) refl

  item_each : (q : WrittenItem) (after : List Token) → IsItem defs q × (item_depth (plain_item q) ≤ most) → EndsItem after → i.item defs most expr (spell_item q after) ≡ Some (plain_item q, after)
  item_each q after ok ends = item_again defs most expr expr_again q after ok.0 ok.1 ends

  -- items up to a semicolon
  pub items_again : (qs : Separated WrittenItem) (n : ℕ) (after : List Token) → AreAll (IsItem defs) qs → deepest item_depth (listed plain_item qs) ≤ most
      → separated (i.item defs most expr) (length (spell_separated spell_item qs (mark n semicolon ∷ after))) (spell_separated spell_item qs (mark n semicolon ∷ after)) ≡ Some (listed plain_item qs, mark n semicolon ∷ after)
  items_again qs n after ok low =
      let room = separated_longer spell_item item_longer qs (mark n semicolon ∷ after) in
      separated_again plain_item spell_item (i.item defs most expr) (λ q. IsItem defs q × (item_depth (plain_item q) ≤ most)) EndsItem
      (λ l1 ts. record { no_suffix = record { no_array = refl; no_function = refl }; not_given = refl; ends = refl }) item_each
      (length (spell_separated spell_item qs (mark n semicolon ∷ after))) qs.first qs.others (mark n semicolon ∷ after) (ok.0, omega arith) (each_low plain_item item_depth most (IsItem defs) qs.others ok.1 (omega arith))
      (record { no_suffix = record { no_array = refl; no_function = refl }; not_given = refl; ends = refl }) refl (omega (arith, room))

  pub items_no_more : (qs : Separated WrittenItem) (after : List Token) → AreAll (IsItem defs) qs → NoMore defs (spell_separated spell_item qs after)
  items_no_more qs after ok = declr_no_more defs qs.first.declr (spell_if spell_given qs.first.given (spell_others spell_item qs.others after)) (declr_loose defs qs.first.declr ok.0.0)

  -- A declaration in a block that is spelled is read.
  pub local_again : (q : WrittenLocal) (after : List Token) → IsLocal defs q → local_depth (plain_local q) ≤ most → e.local defs most expr (spell_local q after) ≡ Some (plain_local q, after)
  local_again q after ok low =
      let room = local_parts_longer q.parts (spell_separated spell_item q.items (mark q.line semicolon ∷ after)) in
      rw (
        local_words_again defs (suc (length (spell_local q after))) q.parts (spell_separated spell_item q.items (mark q.line semicolon ∷ after)) (ok.0.parts) (items_no_more q.items (mark q.line semicolon ∷ after) ok.1) (omega (arith, room)),
        local_line_at q.parts (spell_separated spell_item q.items (mark q.line semicolon ∷ after)) (ok.0.some),
        local_specs_again defs q.parts ok.0,
        items_again q.items q.line after ok.1 (omega arith),
        grown_again local_depth most (plain_local q) after low,
      ) refl
