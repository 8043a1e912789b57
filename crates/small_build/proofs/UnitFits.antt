-- A unit of the small form: the tokens bound its names, its starts and its main.
use Rattle.std.proofs.Common.{◌≡◌, ℕ, suc, ◌+◌, ◌≤◌, List, [], ◌∷◌, length, map, refl, ap, ◌∙◌, arith, length-append}
use Rattle.std.specs.Prelude.{Option, Some, None, Bool, true, false}
use Rattle.std.specs.List.{list_all}
use Rattle.std.proofs.lemmas.List.{length-map}
use Rattle.c_type.specs.Names.{Name}
use Rattle.c_lex.specs.Tokens.{Token}
use Rattle.c_lex.specs.Tokens as k
use Rattle.c_grammar.specs.Words.{After, listed, members_of, spell_others, spell_separated, tok, mark, word, open_round, close_round, close_brace, comma_mark, semicolon, storage_word, type_word, tag_word}
use Rattle.c_tree.specs.TreeDecl as d
use Rattle.c_grammar.specs.WrittenType.{word_part, tag_part, name_part}
use Rattle.c_grammar.specs.WrittenExpr as w
use Rattle.c_grammar.specs.WrittenDeclr as wd
use Rattle.c_grammar.specs.WrittenDeclr.{WrittenDeclr, WrittenItem, plain_declr, plain_names, plain_if, plain_given, plain_item, spell_declr, spell_if, declr_line}
use Rattle.c_tree.specs.TreeDecl.{declared}
use Rattle.c_grammar.specs.WrittenDecl as wl
use Rattle.c_grammar.specs.WrittenDecl.{LocalPart, WrittenLocal, plain_local, spell_local, spell_local_parts}
use Rattle.c_grammar.specs.WrittenStmt as z
use Rattle.c_grammar.specs.WrittenStmt.{WrittenStmt, WrittenStmts, WrittenBlock, plain_stmt, plain_stmts, plain_block, spell_stmt, spell_stmts, spell_items, spell_locals, spell_block}
use Rattle.c_grammar.specs.WrittenUnit as wu
use Rattle.c_grammar.specs.WrittenUnit.{WrittenExt, WrittenHead, plain_ext, plain_unit, spell_ext, spell_exts, spell_head}
use Rattle.c_expr.proofs.Fronts.{expr_longer}
use Rattle.c_decl.proofs.DeclrAgain.{declr_longer}
use Rattle.c_decl.proofs.InitAgain as ia
use Rattle.c_decl.proofs.SpecsAgain.{local_parts_longer, specs_longer}
use Rattle.c_decl.proofs.DeclAgain.{local_longer, pars_longer}
use Rattle.c_parse.proofs.StmtAgain.{stmts_longer}
use Rattle.small_build.specs.SmallText.{are_few}
use Rattle.small_form.specs.SmallForm.{is_bare, is_plain, is_int, is_main, names_in, stmt_starts, stmts_starts, body_size, ext_size, unit_size}
use Rattle.small_build.proofs.Tokened.{both, few_on}

-- ---- declarators

-- what is spelled leaves the brackets as they were
abbrev pub Passes : (List Token → List Token) → Type 0
Passes spelling = (n : ℕ) (after : List Token) → are_few n (spelling after) ≡ true → are_few n after ≡ true

bracket_passes : (l m : ℕ) (spelling : List Token → List Token) → Passes spelling → Passes (λ after. mark l open_round ∷ spelling (mark m close_round ∷ after))
bracket_passes l m spelling inside n after h =
    let open_ = few_on n (suc n) (mark l open_round) (spelling (mark m close_round ∷ after)) refl h in
    (few_on (suc n) n (mark m close_round) after (omega arith) (inside (suc n) (mark m close_round ∷ after) open_.1)).1

name_passes : (x : WrittenDeclr) (l : ℕ) (y : Name) → plain_declr x ≡ d.name l y → Passes (spell_declr x)
name_passes (wd.pointer m x) l y is = absurd (let h : d.pointer m (plain_declr x) ≡ d.name l y = is in cc)
name_passes (wd.name m x) l y is = λ n after h. (few_on n n (tok m (k.name x)) after refl h).1
name_passes (wd.array x m e o) l y is = absurd (let h : d.array (declr_line x) (plain_declr x) (plain_if w.plain e) ≡ d.name l y = is in cc)
name_passes (wd.function x m xs o) l y is = absurd (let h : d.function (declr_line x) (plain_declr x) (plain_names xs) ≡ d.name l y = is in cc)
name_passes (wd.bracket m x o) l y is = bracket_passes m o (spell_declr x) (name_passes x l y is)

false_true : {A : Type 0} → false ≡ true → A
false_true e = absurd (let h : false ≡ true = e in cc)

bare_parts : (x : d.Declr) (i : Option d.Init) → is_bare x i ≡ true → (l : ℕ) × (y : Name) × (x ≡ d.name l y) × (i ≡ None)
bare_parts (d.name l y) None h = (l, y, refl, refl)
bare_parts (d.name l y) (Some i) h = false_true h
bare_parts (d.pointer l x) i h = false_true h
bare_parts (d.array l x e) i h = false_true h
bare_parts (d.function l x xs) i h = false_true h

main_parts : (l : ℕ) (x : d.Declr) (xs : List Name) → is_main (d.function l x xs) ≡ true → (m : ℕ) × (y : Name) × (x ≡ d.name m y) × (xs ≡ [])
main_parts l (d.name m y) [] h = (m, y, refl, refl)
main_parts l (d.name m y) (x ∷ xs) h = false_true h
main_parts l (d.pointer m x) xs h = false_true h
main_parts l (d.array m x e) xs h = false_true h
main_parts l (d.function m x ys) xs h = false_true h

pub main_passes : (x : WrittenDeclr) → is_main (plain_declr x) ≡ true → Passes (spell_declr x)
main_passes (wd.pointer l x) h = false_true h
main_passes (wd.name l x) h = false_true h
main_passes (wd.array x l e m) h = false_true h
main_passes (wd.function x l None m) h =
    let p = main_parts (declr_line x) (plain_declr x) [] h in
    λ n after few.
    let open_ = few_on n (suc n) (mark l open_round) (mark m close_round ∷ after) refl (name_passes x p.0 p.1 p.2 n (mark l open_round ∷ mark m close_round ∷ after) few) in
    (few_on (suc n) n (mark m close_round) after (omega arith) open_.1).1
main_passes (wd.function x l (Some xs) m) h =
    let p = main_parts (declr_line x) (plain_declr x) (listed wd.named xs) h in
    absurd (let e : wd.named xs.first ∷ members_of wd.named xs.others ≡ [] = p.3 in cc)
main_passes (wd.bracket l x m) h = bracket_passes l m (spell_declr x) (main_passes x h)

-- ---- declarations

parts_pass : (ps : List LocalPart) → Passes (spell_local_parts ps)
parts_pass [] = λ n after h. h
parts_pass (wl.storage l c ∷ ps) = λ n after h. parts_pass ps n after (few_on n n (word l (storage_word c)) (spell_local_parts ps after) refl h).1
parts_pass (wl.typed (word_part l v) ∷ ps) = λ n after h. parts_pass ps n after (few_on n n (word l (type_word v)) (spell_local_parts ps after) refl h).1
parts_pass (wl.typed (tag_part l kind m x) ∷ ps) =
    λ n after h. parts_pass ps n after (few_on n n (tok m (k.name x)) (spell_local_parts ps after) refl (few_on n n (word l (tag_word kind)) (tok m (k.name x) ∷ spell_local_parts ps after) refl h).1).1
parts_pass (wl.typed (name_part l x) ∷ ps) = λ n after h. parts_pass ps n after (few_on n n (tok l (k.name x)) (spell_local_parts ps after) refl h).1

abbrev bare : d.Item → Bool
bare i = is_bare i.declr i.init

item_passes : (x : WrittenItem) → bare (plain_item x) ≡ true → Passes (wd.spell_item x)
item_passes x h = by_given x.given h
  where
    by_given : (g : Option wd.Given) → is_bare (plain_declr x.declr) (plain_if plain_given g) ≡ true → Passes (λ after. spell_declr x.declr (spell_if wd.spell_given g after))
    by_given None h = let p = bare_parts (plain_declr x.declr) None h in name_passes x.declr p.0 p.1 p.2
    by_given (Some g) h = let p = bare_parts (plain_declr x.declr) (Some (plain_given g)) h in absurd (let e : Some (plain_given g) ≡ None = p.3 in cc)

others_pass : (xs : List (After WrittenItem)) → list_all bare (members_of plain_item xs) ≡ true → Passes (spell_others wd.spell_item xs)
others_pass [] h = λ n after few. few
others_pass (x ∷ xs) h =
    let p = both (bare (plain_item x.member)) (list_all bare (members_of plain_item xs)) h in
    λ n after few. others_pass xs p.1 n after (item_passes x.member p.0 n (spell_others wd.spell_item xs after) (few_on n n (mark x.comma comma_mark) (wd.spell_item x.member (spell_others wd.spell_item xs after)) refl few).1)

local_passes : (q : WrittenLocal) → is_plain (plain_local q) ≡ true → Passes (spell_local q)
local_passes q h =
    let a = both (is_int (plain_local q).specs.storage (plain_local q).specs.types) (list_all bare (listed plain_item q.items)) h in
    let p = both (bare (plain_item q.items.first)) (list_all bare (members_of plain_item q.items.others)) a.1 in
    λ n after few.
    let behind = parts_pass q.parts n (spell_separated wd.spell_item q.items (mark q.line semicolon ∷ after)) few in
    let first = item_passes q.items.first p.0 n (spell_others wd.spell_item q.items.others (mark q.line semicolon ∷ after)) behind in
    (few_on n n (mark q.line semicolon) after refl (others_pass q.items.others p.1 n (mark q.line semicolon ∷ after) first)).1

pub locals_pass : (qs : List WrittenLocal) → list_all is_plain (map plain_local qs) ≡ true → Passes (spell_locals qs)
locals_pass [] h = λ n after few. few
locals_pass (q ∷ qs) h =
    let p = both (is_plain (plain_local q)) (list_all is_plain (map plain_local qs)) h in
    λ n after few. locals_pass qs p.1 n after (local_passes q p.0 n (spell_locals qs after) few)

-- ---- how many names there are

others_count : (xs : List (After WrittenItem)) (ts : List Token) → length (members_of plain_item xs) + length ts ≤ length (spell_others wd.spell_item xs ts)
others_count [] ts = omega arith
others_count (x ∷ xs) ts = omega (arith, ia.item_longer x.member (spell_others wd.spell_item xs ts), others_count xs ts)

local_count : (q : WrittenLocal) (ts : List Token) → length (listed plain_item q.items) + length ts ≤ length (spell_local q ts)
local_count q ts =
    omega (arith, local_parts_longer q.parts (spell_separated wd.spell_item q.items (mark q.line semicolon ∷ ts)), ia.item_longer q.items.first (spell_others wd.spell_item q.items.others (mark q.line semicolon ∷ ts)), others_count q.items.others (mark q.line semicolon ∷ ts))

names_more : (x : d.LocalDecl) (xs : List d.LocalDecl) → length (names_in (x ∷ xs)) ≡ length x.items + length (names_in xs)
names_more x xs =
    length-append (map (λ i. declared i.declr) x.items) (names_in xs) ∙ ap (λ n. n + length (names_in xs)) (length-map x.items (λ i. declared i.declr))

pub names_count : (qs : List WrittenLocal) (ts : List Token) → length (names_in (map plain_local qs)) + length ts ≤ length (spell_locals qs ts)
names_count [] ts = omega arith
names_count (q ∷ qs) ts = omega (arith, names_more (plain_local q) (map plain_local qs), local_count q (spell_locals qs ts), names_count qs ts)

-- ---- how many starts there are

if_longer : (e : Option w.Written) (ts : List Token) → length ts ≤ length (spell_if w.spell e ts)
if_longer None ts = omega arith
if_longer (Some e) ts = omega (arith, expr_longer e ts)

block_longer : (q : WrittenStmt) (l : ℕ) (ts : List Token) → length ts ≤ length (spell_stmts (z.more_stmts q z.no_stmts) ts)
block_longer q l ts = omega (arith, stmts_longer (z.more_stmts q z.no_stmts) ts)

stmt_longer : (q : WrittenStmt) (ts : List Token) → length ts ≤ length (spell_stmt q ts)
stmt_longer q ts = block_longer q 0 ts

locals_longer : (qs : List WrittenLocal) (ts : List Token) → length ts ≤ length (spell_locals qs ts)
locals_longer [] ts = omega arith
locals_longer (q ∷ qs) ts = omega (arith, local_longer q (spell_locals qs ts), locals_longer qs ts)

mutual
  starts_count : (q : WrittenStmt) (ts : List Token) → stmt_starts (plain_stmt q) + length ts ≤ length (spell_stmt q ts)
  starts_count (z.expr e l) ts = omega (arith, expr_longer e (mark l semicolon ∷ ts))
  starts_count (z.while l m e n q) ts = omega (arith, expr_longer e (mark n close_round ∷ spell_stmt q ts), starts_count q ts)
  starts_count (z.return l e m) ts = omega (arith, if_longer e (mark m semicolon ∷ ts))
  starts_count (z.block l ds qs m) ts = omega (arith, locals_longer ds (spell_stmts qs (mark m close_brace ∷ ts)), all_starts_count qs (mark m close_brace ∷ ts))
  starts_count (z.empty l) ts = omega arith
  starts_count (z.if_only l m e n q) ts = omega (arith, stmt_longer (z.if_only l m e n q) ts)
  starts_count (z.if_else l m e n q o r) ts = omega (arith, stmt_longer (z.if_else l m e n q o r) ts)
  starts_count (z.do_while l q m n e o r) ts = omega (arith, stmt_longer (z.do_while l q m n e o r) ts)
  starts_count (z.for l m e1 n e2 o e3 r q) ts = omega (arith, stmt_longer (z.for l m e1 n e2 o e3 r q) ts)
  starts_count (z.switch l m e n o is r) ts = omega (arith, stmt_longer (z.switch l m e n o is r) ts)
  starts_count (z.break l m) ts = omega arith
  starts_count (z.continue l m) ts = omega arith

  pub all_starts_count : (qs : WrittenStmts) (ts : List Token) → stmts_starts (plain_stmts qs) + length ts ≤ length (spell_stmts qs ts)
  all_starts_count z.no_stmts ts = omega arith
  all_starts_count (z.more_stmts q qs) ts = omega (arith, starts_count q (spell_stmts qs ts), all_starts_count qs ts)

block_count : (b : WrittenBlock) (ts : List Token) → body_size (plain_block b) + length ts ≤ length (spell_block b ts)
block_count b ts =
    omega (arith, names_count b.decls (spell_stmts b.stmts (mark b.close_line close_brace ∷ ts)), all_starts_count b.stmts (mark b.close_line close_brace ∷ ts))

head_longer : (h : WrittenHead) (ts : List Token) → length ts ≤ length (spell_head h ts)
head_longer h ts =
    omega (arith, specs_longer h.parts (spell_declr h.declr (wu.spell_pars h.params ts)), declr_longer h.declr (wu.spell_pars h.params ts), pars_longer h.params ts)

ext_count : (e : WrittenExt) (ts : List Token) → ext_size (plain_ext e) ≤ length (spell_ext e ts)
ext_count (wu.typedef ps ds l) ts = omega arith
ext_count (wu.tag_only g l) ts = omega arith
ext_count (wu.object ps is l) ts = omega arith
ext_count (wu.func h b) ts = omega (arith, head_longer h (spell_block b ts), block_count b ts)

-- the names and starts of a unit are at most as many as its tokens
pub unit_count : (es : List WrittenExt) → unit_size (plain_unit es) ≤ length (spell_exts es [])
unit_count [] = omega arith
unit_count (e ∷ es) = ext_count e (spell_exts es [])
