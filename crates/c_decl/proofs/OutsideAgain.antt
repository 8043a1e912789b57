-- Declarations outside of blocks, and the heads of functions, that are spelled are read.
use Rattle.std.proofs.Common.{◌≡◌, ℕ, ◌<◌, ◌≤◌, zero, suc, List, [], ◌∷◌, length, map, Option, Some, None, Bool, true, false, nat_eq, ◌||◌, refl, arith, ap, sym, true≢false}
use Rattle.c_type.specs.Names.{Name}
use Rattle.c_lex.specs.Tokens.{Token}
use Rattle.c_tree.specs.declared.decl.Storage.{Storage}
use Rattle.c_grammar.specs.Words.{Separated, After, mark, open_square, open_round, semicolon, star, spell_separated, spell_others, AreAll}
use Rattle.c_tree.specs.TreeExpr.{Expr, expr_depth, optional}
use Rattle.c_tree.specs.TreeDecl.{TagDef, file_specs_depth}
use Rattle.c_tree.specs.TreeUnit.{ext_depth, head_depth}
use Rattle.c_grammar.specs.WrittenType.{TypePart, word_part, tag_part, name_part}
use Rattle.c_grammar.specs.WrittenExpr.{Written, IsAtLevel}
use Rattle.c_grammar.specs.WrittenExpr as w
use Rattle.c_grammar.specs.WrittenDeclr.{WrittenDeclr, WrittenItem, Given, declr_line, plain_declr, plain_item, is_bare, IsDeclr, IsHead, IsItem, IfThere, Chosen, IsParameter, Named, is_pointer, spell_declr, spell_item, spell_given, spell_if}
use Rattle.c_grammar.specs.WrittenDeclr as d
use Rattle.c_grammar.specs.WrittenSpecs.{Parts, WrittenDef, storages, typedefs, type_parts, bodies, first_line, plain_def, plain_types, plain_specs, first_of, is_type_or_none, is_empty, AreParts, AreSpecs, AreTypedef, spell_specs}
use Rattle.c_grammar.specs.WrittenSpecs as p
use Rattle.c_grammar.specs.WrittenDecl.{WrittenTag, WrittenPar, plain_tag, IsTag, spell_tag, spell_par, spell_register}
use Rattle.c_grammar.specs.WrittenDecl as g
use Rattle.c_grammar.specs.WrittenUnit.{WrittenExt, WrittenHead, plain_ext, plain_head, specs_or_none, head_line, IsExt, IsFuncHead, AreHeadSpecs, ArePars, spell_ext, spell_head, spell_pars}
use Rattle.c_grammar.specs.WrittenStmt.{WrittenBlock, spell_block}
use Rattle.c_grammar.specs.WrittenUnit as u
use Rattle.c_grammar.specs.Reads.{may_follow, begins_block, is_declaration}
use Rattle.c_expr.specs.Front.{Read, eat, line_at}
use Rattle.c_decl.specs.ReadDecl as e
use Rattle.c_decl.specs.Named as named
use Rattle.c_expr.proofs.Fronts.{grown_again}
use Rattle.c_decl.proofs.DeclrAgain.{IsLoose, NoSuffix, declr_loose, declr_line_at, declr_longer, loose_declr_again}
use Rattle.c_decl.proofs.InitAgain.{item_longer}
use Rattle.c_decl.proofs.SpecsAgain.{declr_no_more, found, AreLow, low_types, one_body, specs_longer, def_longer, separated_longer}
use Rattle.c_decl.proofs.BodiesAgain.{not_empty, types_are_found, bodies_count, specs_line_at, declrs_again, separated_no_more, file_words_at_again}
use Rattle.c_decl.proofs.DeclAgain.{block_front, par_no_mark, pars_longer, pars_again, items_again, items_no_more}

declr_no_mark : (m : ℕ) (q : WrittenDeclr) (after : List Token) → nat_eq star m ≡ false → nat_eq open_round m ≡ false → eat m (spell_declr q after) ≡ None
declr_no_mark m (d.pointer l q) after no_star no_round = rw no_star refl
declr_no_mark m (d.name l y) after no_star no_round = refl
declr_no_mark m (d.array q l n o) after no_star no_round = declr_no_mark m q _ no_star no_round
declr_no_mark m (d.function q l xs o) after no_star no_round = declr_no_mark m q _ no_star no_round
declr_no_mark m (d.bracket l q o) after no_star no_round = rw no_round refl

-- ---- what the words say

count_test : (n m : ℕ) → n ≡ m → nat_eq n 0 ≡ nat_eq m 0
count_test n m same = ap (λ j. nat_eq j 0) same

pub any_parts : (cs : List Storage) (q : TypePart) (qs : List TypePart) (ds : List TagDef) → e.is_any cs (q ∷ qs) ds ≡ true
any_parts [] q qs ds = refl
any_parts (c ∷ cs) q qs ds = refl

pub any_bodies : (cs : List Storage) (qs : List TypePart) (b : TagDef) (ds : List TagDef) → e.is_any cs qs (b ∷ ds) ≡ true
any_bodies [] [] b ds = refl
any_bodies [] (q ∷ qs) b ds = refl
any_bodies (c ∷ cs) qs b ds = refl

any_found : (ps : Parts) → is_empty ps ≡ false → typedefs ps ≡ 0 → e.is_any (storages ps) (type_parts ps) (map plain_def (bodies ps)) ≡ true
any_found p.no_parts some none = absurd (true≢false some)
any_found (p.more_parts (p.storage l c) ps) some none = refl
any_found (p.more_parts (p.typedef l) ps) some none = absurd (omega (arith, none))
any_found (p.more_parts (p.typed q) ps) some none = any_parts (storages ps) q (type_parts ps) (map plain_def (bodies ps))
any_found (p.more_parts (p.tagged b) ps) some none = any_bodies (storages ps) (type_parts ps) (plain_def b) (map plain_def (bodies ps))

file_specs_again : (defs : List Name) (ps : Parts) → AreSpecs defs ps → e.file_specs (found ps) ≡ Some (plain_specs ps)
file_specs_again defs ps ok = rw (any_found ps ok.some ok.no_typedef, ok.no_typedef, ok.storage, bodies_count (bodies ps), ok.types, types_are_found ps) refl

typedef_types_again : (defs : List Name) (ps : Parts) → AreTypedef defs ps → e.typedef_types (found ps) ≡ Some (plain_types ps)
typedef_types_again defs ps ok = rw (ok.no_storage, ok.one_typedef, bodies_count (bodies ps), ok.types, types_are_found ps) refl

one_or_none : (n : ℕ) (ps : List TypePart) → is_type_or_none n ps ≡ true → n ≤ 1
one_or_none zero ps is = omega arith
one_or_none (suc n) ps is = one_body (suc n) ps is

typedef_some : (ps : Parts) → typedefs ps ≡ 1 → is_empty ps ≡ false
typedef_some p.no_parts one = absurd (omega (arith, one))
typedef_some (p.more_parts q ps) one = refl

-- ---- the heads of functions

bare_direct : (q : WrittenDeclr) → is_bare q ≡ true → is_pointer q ≡ false
bare_direct (d.pointer l q) is = absurd (true≢false (sym is))
bare_direct (d.name l y) is = refl
bare_direct (d.array q l n m) is = absurd (true≢false (sym is))
bare_direct (d.function q l xs m) is = absurd (true≢false (sym is))
bare_direct (d.bracket l q m) is = refl

bare_name : (q : WrittenDeclr) → is_bare q ≡ true → named.is_name (plain_declr q) ≡ true
bare_name (d.pointer l q) is = absurd (true≢false (sym is))
bare_name (d.name l y) is = refl
bare_name (d.array q l n m) is = absurd (true≢false (sym is))
bare_name (d.function q l xs m) is = absurd (true≢false (sym is))
bare_name (d.bracket l q m) is = bare_name q is

or_right : (a b : Bool) → b ≡ true → (a || b) ≡ true
or_right true b is = refl
or_right false b is = is

suffix_loose : (defs : List Name) (q : WrittenDeclr) (l : ℕ) (xs : Option (Separated Named)) (m : ℕ) (b : Bool) → is_bare q ≡ b → (IsHead defs q → IsLoose defs q)
    → Chosen b (IsDeclr defs q × IfThere (AreAll (IsParameter defs)) xs) ((is_pointer q ≡ false) × IsHead defs q × (xs ≡ None)) → IsLoose defs (d.function q l xs m)
suffix_loose defs q l xs m true is inner ok = (bare_direct q is, declr_loose defs q ok.0, rw is ok.1)
suffix_loose defs q l xs m false is inner ok = (ok.0, inner ok.1, rw is ok.2)

pub head_loose : (defs : List Name) (q : WrittenDeclr) → IsHead defs q → IsLoose defs q
head_loose defs (d.pointer l q) ok = head_loose defs q ok
head_loose defs (d.name l y) ok = absurd ok
head_loose defs (d.array q l n m) ok = (ok.0, head_loose defs q ok.1, ok.2)
head_loose defs (d.function q l xs m) ok = suffix_loose defs q l xs m (is_bare q) refl (head_loose defs q) ok
head_loose defs (d.bracket l q m) ok = head_loose defs q ok

suffix_is : (defs : List Name) (q : WrittenDeclr) (xs : Option (Separated Named)) (b : Bool) → is_bare q ≡ b → (IsHead defs q → named.declares_function (plain_declr q) ≡ true)
    → Chosen b (IsDeclr defs q × IfThere (AreAll (IsParameter defs)) xs) ((is_pointer q ≡ false) × IsHead defs q × (xs ≡ None)) → (named.is_name (plain_declr q) || named.declares_function (plain_declr q)) ≡ true
suffix_is defs q xs true is inner ok = rw (bare_name q is) refl
suffix_is defs q xs false is inner ok = or_right (named.is_name (plain_declr q)) (named.declares_function (plain_declr q)) (inner ok.1)

head_is : (defs : List Name) (q : WrittenDeclr) → IsHead defs q → named.declares_function (plain_declr q) ≡ true
head_is defs (d.pointer l q) ok = head_is defs q ok
head_is defs (d.name l y) ok = absurd ok
head_is defs (d.array q l n m) ok = head_is defs q ok.1
head_is defs (d.function q l xs m) ok = suffix_is defs q xs (is_bare q) refl (head_is defs q) ok
head_is defs (d.bracket l q m) ok = head_is defs q ok

head_specs_again : (defs : List Name) (ps : Parts) → AreHeadSpecs defs ps → e.head_specs (found ps) ≡ Some (specs_or_none ps)
head_specs_again defs p.no_parts ok = refl
head_specs_again defs (p.more_parts q ps) ok =
    rw (file_specs_again defs (p.more_parts q ps) ok, count_test (typedefs (p.more_parts q ps)) 0 ok.no_typedef, any_found (p.more_parts q ps) ok.some ok.no_typedef) refl

head_parts : (defs : List Name) (ps : Parts) → AreHeadSpecs defs ps → AreParts defs ps
head_parts defs p.no_parts ok = tt
head_parts defs (p.more_parts q ps) ok = ok.parts

head_no_typedef : (defs : List Name) (ps : Parts) → AreHeadSpecs defs ps → typedefs ps ≡ 0
head_no_typedef defs p.no_parts ok = refl
head_no_typedef defs (p.more_parts q ps) ok = ok.no_typedef

head_low : (defs : List Name) (most : ℕ) (ps : Parts) → AreHeadSpecs defs ps → optional file_specs_depth (specs_or_none ps) ≤ most → AreLow most ps
head_low defs most p.no_parts ok low = tt
head_low defs most (p.more_parts q ps) ok low =
    low_types most (p.more_parts q ps) (one_or_none (length (bodies (p.more_parts q ps))) (type_parts (p.more_parts q ps)) ok.types) low

head_line_at : (ps : Parts) (q : WrittenDeclr) (ts : List Token) → line_at (spell_specs ps (spell_declr q ts)) ≡ head_line ps q
head_line_at p.no_parts q ts = declr_line_at q ts
head_line_at (p.more_parts r1 ps) q ts = specs_line_at (p.more_parts r1 ps) (spell_declr q ts) refl

specs_no_item : (ps : Parts) (ts : List Token) → is_empty ps ≡ false → e.is_item (spell_specs ps ts) ≡ false
specs_no_item p.no_parts ts is = absurd (true≢false is)
specs_no_item (p.more_parts (p.storage l c) ps) ts is = refl
specs_no_item (p.more_parts (p.typedef l) ps) ts is = refl
specs_no_item (p.more_parts (p.typed (word_part l v)) ps) ts is = refl
specs_no_item (p.more_parts (p.typed (tag_part l kind m y)) ps) ts is = refl
specs_no_item (p.more_parts (p.typed (name_part l y)) ps) ts is = refl
specs_no_item (p.more_parts (p.tagged (p.struct l y m ms n)) ps) ts is = refl
specs_no_item (p.more_parts (p.tagged (p.enum l y m es n)) ps) ts is = refl

par_no_item : (reg : Option ℕ) (ps : Parts) (ts : List Token) → is_empty ps ≡ false → e.is_item (spell_if spell_register reg (spell_specs ps ts)) ≡ false
par_no_item None ps ts is = specs_no_item ps ts is
par_no_item (Some l) ps ts is = refl

-- what follows the declarator of a function
record EndsHead (ts : List Token) : Type 0 where
  no_suffix : NoSuffix ts
  no_item : e.is_item ts ≡ false

pars_end : (defs : List Name) (qs : List WrittenPar) (after : List Token) → ArePars defs qs → begins_block after ≡ true → EndsHead (spell_pars qs after)
pars_end defs [] after ok block =
    let f = block_front after block in
    rw (f.2) (record { no_suffix = record { no_array = refl; no_function = refl }; no_item = refl })
pars_end defs (q ∷ qs) after ok block =
    let some = not_empty q.parts (ok.0.0.types) in
    record {
      no_suffix = record {
        no_array = par_no_mark open_square q.register q.parts (spell_separated spell_declr q.declrs (mark q.line semicolon ∷ spell_pars qs after)) some;
        no_function = par_no_mark open_round q.register q.parts (spell_separated spell_declr q.declrs (mark q.line semicolon ∷ spell_pars qs after)) some;
      };
      no_item = par_no_item q.register q.parts (spell_separated spell_declr q.declrs (mark q.line semicolon ∷ spell_pars qs after)) some;
    }

-- what follows the first declarator of an object
record EndsFirst (ts : List Token) : Type 0 where
  no_suffix : NoSuffix ts
  item : e.is_item ts ≡ true

item_end : (given : Option Given) (qs : List (After WrittenItem)) (l : ℕ) (after : List Token) → EndsFirst (spell_if spell_given given (spell_others spell_item qs (mark l semicolon ∷ after)))
item_end None [] l after = record { no_suffix = record { no_array = refl; no_function = refl }; item = refl }
item_end None (q ∷ qs) l after = record { no_suffix = record { no_array = refl; no_function = refl }; item = refl }
item_end (Some given) qs l after = record { no_suffix = record { no_array = refl; no_function = refl }; item = refl }

tag_longer : (y : WrittenTag) (ts : List Token) → length ts < length (spell_tag y ts)
tag_longer (g.ref l kind m y) ts = omega arith
tag_longer (g.body b) ts = omega (arith, def_longer b ts)

head_longer : (h : WrittenHead) (ts : List Token) → length ts < length (spell_head h ts)
head_longer h ts =
    omega (arith, specs_longer h.parts (spell_declr h.declr (spell_pars h.params ts)), declr_longer h.declr (spell_pars h.params ts), pars_longer h.params ts)

pub ext_longer : ((b : WrittenBlock) (ts : List Token) → length ts < length (spell_block b ts)) → (q : WrittenExt) (ts : List Token) → length ts < length (spell_ext q ts)
ext_longer block_longer (u.typedef ps ds l) ts =
    omega (arith, specs_longer ps (spell_separated spell_declr ds (mark l semicolon ∷ ts)), separated_longer spell_declr declr_longer ds (mark l semicolon ∷ ts))
ext_longer block_longer (u.tag_only y l) ts = omega (arith, tag_longer y (mark l semicolon ∷ ts))
ext_longer block_longer (u.object ps qs l) ts =
    omega (arith, specs_longer ps (spell_separated spell_item qs (mark l semicolon ∷ ts)), separated_longer spell_item item_longer qs (mark l semicolon ∷ ts))
ext_longer block_longer (u.func h b) ts = omega (arith, head_longer h (spell_block b ts), block_longer b ts)

module _ (defs : List Name) (most : ℕ) (expr : ℕ → List Token → Read Expr)
    (expr_again : (l : ℕ) (e : Written) (after : List Token) → 1 ≤ l → l ≤ 3 → IsAtLevel defs l e → expr_depth (w.plain e) ≤ most → may_follow l after ≡ true → expr l (w.spell e after) ≡ Some (w.plain e, after)) where
  typedef_again : (ps : Parts) (ds : Separated WrittenDeclr) (l : ℕ) (after : List Token) → IsExt defs (u.typedef ps ds l) → ext_depth (plain_ext (u.typedef ps ds l)) ≤ most
      → e.outside defs most expr (spell_ext (u.typedef ps ds l) after) ≡ Some (e.whole (plain_ext (u.typedef ps ds l)), after)
  typedef_again ps ds l after ok low =
      rw (
        file_words_at_again defs most expr expr_again ps (spell_separated spell_declr ds (mark l semicolon ∷ after)) (ok.0.parts)
            (low_types most ps (one_or_none (length (bodies ps)) (type_parts ps) (ok.0.types)) (omega arith)) (separated_no_more defs most expr expr_again ds (mark l semicolon ∷ after) ok.1),
        declr_no_mark semicolon ds.first (spell_others spell_declr ds.others (mark l semicolon ∷ after)) refl refl,
        count_test (typedefs ps) 1 (ok.0.one_typedef),
        specs_line_at ps (spell_separated spell_declr ds (mark l semicolon ∷ after)) (typedef_some ps (ok.0.one_typedef)),
        typedef_types_again defs ps ok.0,
        declrs_again defs most expr expr_again ds (mark l semicolon ∷ after) ok.1 (omega arith) (record { no_array = refl; no_function = refl }) refl,
        grown_again ext_depth most (plain_ext (u.typedef ps ds l)) after low,
      ) refl

  tag_again : (y : WrittenTag) (l : ℕ) (after : List Token) → IsTag defs y → ext_depth (plain_ext (u.tag_only y l)) ≤ most
      → e.outside defs most expr (spell_ext (u.tag_only y l) after) ≡ Some (e.whole (plain_ext (u.tag_only y l)), after)
  tag_again (g.ref l1 kind m y) l after ok low =
      rw (
        file_words_at_again defs most expr expr_again (p.more_parts (p.typed (tag_part l1 kind m y)) p.no_parts) (mark l semicolon ∷ after) (ok, tt) tt (record { stops = refl; no_brace = refl }),
        grown_again ext_depth most (plain_ext (u.tag_only (g.ref l1 kind m y) l)) after low,
      ) refl
  tag_again (g.body b) l after ok low =
      rw (
        file_words_at_again defs most expr expr_again (p.more_parts (p.tagged b) p.no_parts) (mark l semicolon ∷ after) (ok, tt) (omega arith, tt) (record { stops = refl; no_brace = refl }),
        specs_line_at (p.more_parts (p.tagged b) p.no_parts) (mark l semicolon ∷ after) refl,
        grown_again ext_depth most (plain_ext (u.tag_only (g.body b) l)) after low,
      ) refl

  object_again : (ps : Parts) (qs : Separated WrittenItem) (l : ℕ) (after : List Token) → IsExt defs (u.object ps qs l) → ext_depth (plain_ext (u.object ps qs l)) ≤ most
      → e.outside defs most expr (spell_ext (u.object ps qs l) after) ≡ Some (e.whole (plain_ext (u.object ps qs l)), after)
  object_again ps qs l after ok low =
      let ends = item_end qs.first.given qs.others l after in
      rw (
        file_words_at_again defs most expr expr_again ps (spell_separated spell_item qs (mark l semicolon ∷ after)) (ok.0.parts)
            (low_types most ps (one_or_none (length (bodies ps)) (type_parts ps) (ok.0.types)) (omega arith)) (items_no_more defs most expr expr_again qs (mark l semicolon ∷ after) ok.1),
        declr_no_mark semicolon qs.first.declr (spell_if spell_given qs.first.given (spell_others spell_item qs.others (mark l semicolon ∷ after))) refl refl,
        count_test (typedefs ps) 0 (ok.0.no_typedef),
        loose_declr_again defs most expr expr_again qs.first.declr (spell_if spell_given qs.first.given (spell_others spell_item qs.others (mark l semicolon ∷ after))) (declr_loose defs qs.first.declr (ok.1.0.0)) (omega arith) (ends.no_suffix),
        ends.item,
        file_specs_again defs ps ok.0,
        specs_line_at ps (spell_separated spell_item qs (mark l semicolon ∷ after)) (ok.0.some),
        items_again defs most expr expr_again qs l after ok.1 (omega arith),
        grown_again ext_depth most (plain_ext (u.object ps qs l)) after low,
      ) refl

  -- A declaration that is spelled is read.
  pub whole_again : (q : WrittenExt) (after : List Token) → IsExt defs q → is_declaration q ≡ true → ext_depth (plain_ext q) ≤ most → e.outside defs most expr (spell_ext q after) ≡ Some (e.whole (plain_ext q), after)
  whole_again (u.typedef ps ds l) after ok is low = typedef_again ps ds l after ok low
  whole_again (u.tag_only y l) after ok is low = tag_again y l after ok low
  whole_again (u.object ps qs l) after ok is low = object_again ps qs l after ok low
  whole_again (u.func h b) after ok is low = absurd (true≢false (sym is))

  -- The head of a function that is spelled is read.
  pub head_again : (h : WrittenHead) (after : List Token) → IsFuncHead defs h → head_depth (plain_head h) ≤ most → begins_block after ≡ true → e.outside defs most expr (spell_head h after) ≡ Some (e.head (plain_head h), after)
  head_again h after ok low block =
      let ends = pars_end defs h.params after ok.2 block in
      let loose = head_loose defs h.declr ok.1 in
      let room = pars_longer h.params after in
      rw (
        file_words_at_again defs most expr expr_again h.parts (spell_declr h.declr (spell_pars h.params after)) (head_parts defs h.parts ok.0) (head_low defs most h.parts ok.0 (omega arith))
            (declr_no_more defs h.declr (spell_pars h.params after) loose),
        declr_no_mark semicolon h.declr (spell_pars h.params after) refl refl,
        count_test (typedefs h.parts) 0 (head_no_typedef defs h.parts ok.0),
        loose_declr_again defs most expr expr_again h.declr (spell_pars h.params after) loose (omega arith) (ends.no_suffix),
        ends.no_item,
        head_is defs h.declr ok.1,
        head_specs_again defs h.parts ok.0,
        head_line_at h.parts h.declr (spell_pars h.params after),
        pars_again defs most expr expr_again (suc (length (spell_pars h.params after))) h.params after ok.2 (omega arith) block (omega (arith, room)),
        grown_again head_depth most (plain_head h) after low,
      ) refl
