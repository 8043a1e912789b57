-- The bodies of tags, and with them all words outside of blocks, that are spelled are read.
use Rattle.std.proofs.Common.{◌≡◌, ℕ, ◌≤◌, zero, suc, List, [], ◌∷◌, length, map, Option, Some, None, true, false, refl, arith, ap, sym, ◌∙◌, true≢false}
use Rattle.c_type.specs.Names.{Name, or_else, or_default}
use Rattle.c_lex.specs.Tokens.{Token}
use Rattle.c_grammar.specs.Words.{Separated, After, listed, members_of, mark, close_brace, comma_mark, semicolon, equals, spell_separated, spell_others, AreAll, AreEach}
use Rattle.c_tree.specs.TreeExpr.{Expr, TypeSpec, expr_depth, deepest, optional}
use Rattle.c_tree.specs.TreeExpr as x
use Rattle.c_tree.specs.TreeDecl.{Types, TagDef, Mem, Mems, En, types_depth, def_depth, mem_depth, mems_depth, en_depth, declr_depth}
use Rattle.c_tree.specs.TreeDecl as t
use Rattle.c_grammar.specs.WrittenType.{TypePart, word_part, tag_part, name_part, spelled}
use Rattle.c_grammar.specs.WrittenExpr.{Written, IsAtLevel}
use Rattle.c_grammar.specs.WrittenExpr as w
use Rattle.c_grammar.specs.WrittenDeclr.{WrittenDeclr, plain_declr, plain_if, IsDeclr, IfThere, spell_declr, spell_if}
use Rattle.c_grammar.specs.WrittenSpecs.{Parts, WrittenDef, WrittenMem, WrittenMems, WrittenEn, Value, storages, typedefs, type_parts, bodies, first_line, def_line, plain_value, plain_en, plain_body, plain_def, plain_mems, plain_mem, plain_types, first_of, is_some, is_type, is_empty, IsValue, IsEn, AreParts, IsDef, AreMems, IsMem, spell_value, spell_en, spell_specs, spell_def, spell_mems, spell_mem}
use Rattle.c_grammar.specs.WrittenSpecs as p
use Rattle.c_grammar.specs.Reads.{may_follow}
use Rattle.c_expr.specs.Front.{Read, eat, line_at}
use Rattle.c_decl.specs.Separated.{separated}
use Rattle.c_decl.specs.ReadDeclr as r
use Rattle.c_decl.specs.ReadSpecs.{Found, no_body, types_found, only_types}
use Rattle.c_decl.specs.ReadSpecs as s
use Rattle.c_expr.proofs.Fronts.{grown_again}
use Rattle.c_decl.proofs.SeparatedAgain.{separated_again}
use Rattle.c_decl.proofs.DeclrAgain.{declr_loose, NoSuffix, plain_declr_again, declr_longer}
use Rattle.c_decl.proofs.SpecsAgain.{NoMore, declr_no_more, found, parts_nest, def_nest, mems_nest, mem_nest, AreLow, low_types, one_body, kind_of, name_of, inside, words_again, mem_count, en_longer, specs_longer, mems_shorter, nest_short, separated_longer}

-- a fact that holds of each member, with the depth
pub each_low : {W A : Type 0} (plain : W → A) (depth : A → ℕ) (most : ℕ) (P : W → Type 0) (ws : List (After W)) → AreEach P ws → deepest depth (members_of plain ws) ≤ most
    → AreEach (λ y. P y × (depth (plain y) ≤ most)) ws
each_low plain depth most P [] ok low = tt
each_low plain depth most P (y ∷ ys) ok low = ((ok.0, omega arith), each_low plain depth most P ys ok.1 (omega arith))

-- ---- the type that is found

body_found : (ps : Parts) → plain_if t.def (first_of (map plain_def (bodies ps))) ≡ plain_body ps
body_found p.no_parts = refl
body_found (p.more_parts (p.storage l c) ps) = body_found ps
body_found (p.more_parts (p.typedef l) ps) = body_found ps
body_found (p.more_parts (p.typed q) ps) = body_found ps
body_found (p.more_parts (p.tagged e) ps) = refl

pub types_are_found : (ps : Parts) → types_found (found ps) ≡ plain_types ps
types_are_found ps = ap (λ o. or_else o (plain_if t.spec (spelled (type_parts ps)))) (body_found ps)

pub bodies_count : (es : List WrittenDef) → length (map plain_def es) ≡ length es
bodies_count [] = refl
bodies_count (e ∷ es) = omega (arith, bodies_count es)

spelled_some : (o : Option TypeSpec) → is_some o ≡ true → is_some (plain_if t.spec o) ≡ true
spelled_some None is = absurd (true≢false (sym is))
spelled_some (Some y) is = refl

type_some : (es : List WrittenDef) (qs : List TypePart) → is_type (length es) qs ≡ true → is_some (or_else (plain_if t.def (first_of (map plain_def es))) (plain_if t.spec (spelled qs))) ≡ true
type_some [] qs is = spelled_some (spelled qs) is
type_some (e ∷ es) qs is = refl

some_default : {A : Type 0} (y : A) (o : Option A) → is_some o ≡ true → o ≡ Some (or_default y o)
some_default y None is = absurd (true≢false (sym is))
some_default y (Some z) is = refl

-- the type of a declaration of members or parameters
pub only_types_again : (ps : Parts) → storages ps ≡ [] → typedefs ps ≡ 0 → is_type (length (bodies ps)) (type_parts ps) ≡ true
    → only_types (found ps) ≡ Some (or_default (t.spec x.void) (plain_types ps))
only_types_again ps none zero_of is =
    rw (none, zero_of, bodies_count (bodies ps), is)
    (some_default (t.spec x.void) (types_found (found ps)) (type_some (bodies ps) (type_parts ps) is) ∙ ap (λ o. Some (or_default (t.spec x.void) o)) (types_are_found ps))

default_low : (most : ℕ) (o : Option Types) → types_depth (or_default (t.spec x.void) o) ≤ most → optional types_depth o ≤ most
default_low most None low = omega arith
default_low most (Some y) low = low

pub only_low : (most : ℕ) (ps : Parts) → is_type (length (bodies ps)) (type_parts ps) ≡ true → types_depth (or_default (t.spec x.void) (plain_types ps)) ≤ most → AreLow most ps
only_low most ps is low = low_types most ps (one_body (length (bodies ps)) (type_parts ps) is) (default_low most (plain_types ps) low)

pub not_empty : (ps : Parts) → is_type (length (bodies ps)) (type_parts ps) ≡ true → is_empty ps ≡ false
not_empty p.no_parts is = absurd (true≢false (sym is))
not_empty (p.more_parts q ps) is = refl

pub specs_line_at : (ps : Parts) (ts : List Token) → is_empty ps ≡ false → line_at (spell_specs ps ts) ≡ first_line ps
specs_line_at p.no_parts ts is = absurd (true≢false is)
specs_line_at (p.more_parts (p.storage l c) ps) ts is = refl
specs_line_at (p.more_parts (p.typedef l) ps) ts is = refl
specs_line_at (p.more_parts (p.typed (word_part l v)) ps) ts is = refl
specs_line_at (p.more_parts (p.typed (tag_part l kind m y)) ps) ts is = refl
specs_line_at (p.more_parts (p.typed (name_part l y)) ps) ts is = refl
specs_line_at (p.more_parts (p.tagged (p.struct l y m ms n)) ps) ts is = refl
specs_line_at (p.more_parts (p.tagged (p.enum l y m es n)) ps) ts is = refl

-- no mark comes first among words
pub specs_no_mark : (m : ℕ) (ps : Parts) (ts : List Token) → is_empty ps ≡ false → eat m (spell_specs ps ts) ≡ None
specs_no_mark m p.no_parts ts is = absurd (true≢false is)
specs_no_mark m (p.more_parts (p.storage l c) ps) ts is = refl
specs_no_mark m (p.more_parts (p.typedef l) ps) ts is = refl
specs_no_mark m (p.more_parts (p.typed (word_part l v)) ps) ts is = refl
specs_no_mark m (p.more_parts (p.typed (tag_part l kind n y)) ps) ts is = refl
specs_no_mark m (p.more_parts (p.typed (name_part l y)) ps) ts is = refl
specs_no_mark m (p.more_parts (p.tagged (p.struct l y n ms o)) ps) ts is = refl
specs_no_mark m (p.more_parts (p.tagged (p.enum l y n es o)) ps) ts is = refl

mem_no_close : (defs : List Name) (e : WrittenMem) (ts : List Token) → IsMem defs e → eat close_brace (spell_mem e ts) ≡ None
mem_no_close defs (p.mem ps ds l) ts ok = specs_no_mark close_brace ps (spell_separated spell_declr ds (mark l semicolon ∷ ts)) (not_empty ps ok.2)

mems_no_close : (defs : List Name) (ms : WrittenMems) (ts : List Token) → AreMems defs ms → eat close_brace (spell_mems ms ts) ≡ None
mems_no_close defs (p.last_mem e) ts ok = mem_no_close defs e ts ok
mems_no_close defs (p.more_mems e ms) ts ok = mem_no_close defs e (spell_mems ms ts) ok.0

def_positive : (e : WrittenDef) → 1 ≤ def_nest e
def_positive (p.struct l y m ms n) = omega arith
def_positive (p.enum l y m es n) = omega arith

-- what may follow an enumerator
record EndsEn (ts : List Token) : Type 0 where
  not_given : eat equals ts ≡ None
  ends : may_follow 3 ts ≡ true

module _ (defs : List Name) (most : ℕ) (expr : ℕ → List Token → Read Expr)
    (expr_again : (l : ℕ) (e : Written) (after : List Token) → 1 ≤ l → l ≤ 3 → IsAtLevel defs l e → expr_depth (w.plain e) ≤ most → may_follow l after ≡ true → expr l (w.spell e after) ≡ Some (w.plain e, after)) where
  en_by_again : (l : ℕ) (y : Name) (v : Option Value) (after : List Token) → IfThere (IsValue defs) v → en_depth (record { line = l; name = y; value = plain_if plain_value v }) ≤ most → EndsEn after
      → s.en_by defs most expr l y (spell_if spell_value v after) (eat equals (spell_if spell_value v after)) ≡ Some (record { line = l; name = y; value = plain_if plain_value v }, after)
  en_by_again l y None after ok low ends = rw (ends.not_given, grown_again en_depth most (record { line = l; name = y; value = None }) after low) refl
  en_by_again l y (Some v) after ok low ends =
      rw (expr_again 3 v.value after (omega arith) (omega arith) ok (omega arith) ends.ends, grown_again en_depth most (record { line = l; name = y; value = Some (w.plain v.value) }) after low) refl

  en_again : (e : WrittenEn) (after : List Token) → IsEn defs e × (en_depth (plain_en e) ≤ most) → EndsEn after → s.en defs most expr (spell_en e after) ≡ Some (plain_en e, after)
  en_again e after ok ends = rw (ok.0.0) (en_by_again e.line e.name e.value after ok.0.1 ok.1 ends)

  declr_each : (e : WrittenDeclr) (after : List Token) → IsDeclr defs e × (declr_depth (plain_declr e) ≤ most) → NoSuffix after → r.plain_declr defs most expr (spell_declr e after) ≡ Some (plain_declr e, after)
  declr_each e after ok ends = plain_declr_again defs most expr expr_again e after ok.0 ok.1 ends

  -- declarators up to a mark that is no suffix and no comma
  pub declrs_again : (ds : Separated WrittenDeclr) (after : List Token) → AreAll (IsDeclr defs) ds → deepest declr_depth (listed plain_declr ds) ≤ most → NoSuffix after → eat comma_mark after ≡ None
      → separated (r.plain_declr defs most expr) (length (spell_separated spell_declr ds after)) (spell_separated spell_declr ds after) ≡ Some (listed plain_declr ds, after)
  declrs_again ds after ok low ends none =
      let room = separated_longer spell_declr declr_longer ds after in
      separated_again plain_declr spell_declr (r.plain_declr defs most expr) (λ e. IsDeclr defs e × (declr_depth (plain_declr e) ≤ most)) NoSuffix (λ l ts. record { no_array = refl; no_function = refl }) declr_each
      (length (spell_separated spell_declr ds after)) ds.first ds.others after (ok.0, omega arith) (each_low plain_declr declr_depth most (IsDeclr defs) ds.others ok.1 (omega arith)) ends none (omega (arith, room))

  pub separated_no_more : (ds : Separated WrittenDeclr) (after : List Token) → AreAll (IsDeclr defs) ds → NoMore defs (spell_separated spell_declr ds after)
  separated_no_more ds after ok = declr_no_more defs ds.first (spell_others spell_declr ds.others after) (declr_loose defs ds.first ok.0)

  module _ (n : ℕ) (inner : List Token → Read Found)
      (inner_again : (ps : Parts) (after : List Token) → AreParts defs ps → parts_nest ps ≤ n → AreLow most ps → NoMore defs after → inner (spell_specs ps after) ≡ Some (found ps, after)) where
    mem_again : (e : WrittenMem) (after : List Token) → IsMem defs e → mem_nest e ≤ n → mem_depth (plain_mem e) ≤ most → s.mem defs most expr inner (spell_mem e after) ≡ Some (plain_mem e, after)
    mem_again (p.mem ps ds l) after ok small low =
        rw (
          inner_again ps (spell_separated spell_declr ds (mark l semicolon ∷ after)) ok.3 small (only_low most ps ok.2 (omega arith)) (separated_no_more ds (mark l semicolon ∷ after) ok.4),
          specs_line_at ps (spell_separated spell_declr ds (mark l semicolon ∷ after)) (not_empty ps ok.2),
          only_types_again ps ok.0 ok.1 ok.2,
          declrs_again ds (mark l semicolon ∷ after) ok.4 (omega arith) (record { no_array = refl; no_function = refl }) refl,
          grown_again mem_depth most (plain_mem (p.mem ps ds l)) after low,
        ) refl

    mems_again : (j : ℕ) (ms : WrittenMems) (m : ℕ) (after : List Token) → AreMems defs ms → mems_nest ms ≤ n → mems_depth (plain_mems ms) ≤ most → mem_count ms ≤ j
        → s.mems defs most expr inner j (spell_mems ms (mark m close_brace ∷ after)) ≡ Some (plain_mems ms, after)
    unfolding s.mems
    mems_again zero (p.last_mem e) m after ok small low room = absurd (omega (arith, room))
    mems_again zero (p.more_mems e ms) m after ok small low room = absurd (omega (arith, room))
    mems_again (suc j) (p.last_mem e) m after ok small low room = rw (mem_again e (mark m close_brace ∷ after) ok small (omega arith)) refl
    mems_again (suc j) (p.more_mems e ms) m after ok small low room =
        rw (
          mem_again e (spell_mems ms (mark m close_brace ∷ after)) ok.0 (omega arith) (omega arith),
          mems_no_close defs ms (mark m close_brace ∷ after) ok.1,
          mems_again j ms m after ok.1 (omega arith) (omega arith) (omega arith),
        ) refl

    body_again : (e : WrittenDef) (after : List Token) → IsDef defs e → def_nest e ≤ suc n → def_depth (plain_def e) ≤ most
        → s.body_by defs most expr inner (kind_of e) (def_line e) (name_of e) (inside e after) ≡ Some (plain_def e, after)
    body_again (p.struct l y m ms o) after ok small low =
        let room = mems_shorter ms (mark o close_brace ∷ after) in
        rw (
          mems_again (length (spell_mems ms (mark o close_brace ∷ after))) ms o after ok (omega arith) (omega arith) (omega (arith, room)),
          grown_again def_depth most (plain_def (p.struct l y m ms o)) after low,
        ) refl
    body_again (p.enum l y m es o) after ok small low =
        let room = separated_longer spell_en en_longer es (mark o close_brace ∷ after) in
        rw (
          separated_again plain_en spell_en (s.en defs most expr) (λ e. IsEn defs e × (en_depth (plain_en e) ≤ most)) EndsEn (λ l ts. record { not_given = refl; ends = refl }) en_again
              (length (spell_separated spell_en es (mark o close_brace ∷ after))) es.first es.others (mark o close_brace ∷ after) (ok.0, omega arith) (each_low plain_en en_depth most (IsEn defs) es.others ok.1 (omega arith))
              (record { not_given = refl; ends = refl }) refl (omega (arith, room)),
          grown_again def_depth most (plain_def (p.enum l y m es o)) after low,
        ) refl

  file_words_again : (n : ℕ) (ps : Parts) (after : List Token) → AreParts defs ps → parts_nest ps ≤ n → AreLow most ps → NoMore defs after
      → s.file_words defs most expr n (spell_specs ps after) ≡ Some (found ps, after)
  unfolding s.file_words
  file_words_again zero ps after ok small low ends =
      words_again defs most 0 no_body (λ e rest ok1 small1 low1. absurd (omega (arith, def_positive e, small1)))
      (suc (length (spell_specs ps after))) ps after ok small low ends (omega (arith, specs_longer ps after))
  file_words_again (suc n) ps after ok small low ends =
      words_again defs most (suc n) (s.body_by defs most expr (s.file_words defs most expr n)) (body_again n (s.file_words defs most expr n) (file_words_again n))
      (suc (length (spell_specs ps after))) ps after ok small low ends (omega (arith, specs_longer ps after))

  -- The words that are spelled are read.
  pub file_words_at_again : (ps : Parts) (after : List Token) → AreParts defs ps → AreLow most ps → NoMore defs after
      → s.file_words_at defs most expr (spell_specs ps after) ≡ Some (found ps, after)
  file_words_at_again ps after ok low ends = file_words_again (length (spell_specs ps after)) ps after ok (omega (arith, nest_short ps after)) low ends
