-- A statement that is spelled is read.
use Rattle.std.proofs.Common.{◌≡◌, ℕ, ◌+◌, ◌<◌, ◌≤◌, zero, suc, List, [], ◌∷◌, length, map, Option, Some, None, Bool, true, false, refl, arith, ap, sym, ◌∙◌, true≢false}
use Rattle.std.proofs.lemmas.Bool.{eqb-true}
use Rattle.c_type.specs.Names.{Name, pick}
use Rattle.c_lex.specs.Tokens.{Tok, Token}
use Rattle.c_lex.specs.Tokens as k
use Rattle.c_grammar.specs.Words.{mark, word, case_word, default_word, else_word, while_word, open_round, close_round, open_brace, close_brace, semicolon, colon}
use Rattle.c_tree.specs.TreeExpr.{Expr, expr_depth, deepest, optional}
use Rattle.c_tree.specs.TreeDecl.{local_depth}
use Rattle.c_tree.specs.TreeStmt.{Stmt, Stmts, SwItem, SwItems, Block, stmt_depth, stmts_depth, item_depth, items_depth, block_depth}
use Rattle.c_tree.specs.TreeStmt as t
use Rattle.c_grammar.specs.WrittenType.{word_part, tag_part, name_part, is_typedef}
use Rattle.c_grammar.specs.WrittenExpr.{Written, IsAtLevel, IsLevelled}
use Rattle.c_grammar.specs.WrittenExpr as w
use Rattle.c_grammar.specs.WrittenDeclr.{plain_if, IfThere, spell_if}
use Rattle.c_grammar.specs.WrittenDecl.{WrittenLocal, LocalPart, plain_local, IsLocal, AreLocalParts, is_none, spell_local, spell_local_parts}
use Rattle.c_grammar.specs.WrittenDecl as l
use Rattle.c_grammar.specs.WrittenStmt.{WrittenStmt, WrittenStmts, WrittenItem, WrittenItems, WrittenBlock, plain_stmt, plain_stmts, plain_item, plain_items, plain_block, is_open, AreLocals, IsStmt, AreStmts, IsItem, AreItems, IsBlock, spell_locals, spell_stmt, spell_stmts, spell_item, spell_items}
use Rattle.c_grammar.specs.WrittenStmt as z
use Rattle.c_grammar.specs.Reads.{may_follow}
use Rattle.c_expr.specs.Front.{Read, eat, eat_word, line_at}
use Rattle.c_decl.specs.ReadSpecs.{start_of, start_at, word_start}
use Rattle.c_decl.specs.ReadSpecs as s
use Rattle.c_expr.proofs.Fronts.{other, is_start_mark, is_sizeof, starts, expr_starts, no_mark, no_word, line_first, expr_longer}
use Rattle.c_expr.proofs.Fronts as f
use Rattle.c_decl.proofs.SpecsAgain.{storage_start, typed_start, tag_start}
use Rattle.c_decl.proofs.DeclAgain.{local_again, local_longer}
use Rattle.c_parse.specs.ReadStmt.{Form, form_of, word_form}
use Rattle.c_parse.specs.ReadStmt as r

-- ---- how an expression begins

word_no_start : (v : ℕ) → is_sizeof v ≡ true → word_start v ≡ s.ends
word_no_start v is = let same : v ≡ 17 = eqb-true v 17 is in rw same refl

tok_no_start : (defs : List Name) (y : Tok) → f.is_start defs y ≡ true → start_of defs y ≡ s.ends
tok_no_start defs (k.name x) is = by_test (is_typedef defs x) refl is
  where
    by_test : (b : Bool) → is_typedef defs x ≡ b → pick b false true ≡ true → pick b (s.named x) s.ends ≡ s.ends
    by_test true test is1 = absurd (true≢false (sym is1))
    by_test false test is1 = refl
tok_no_start defs (k.int n long) is = refl
tok_no_start defs (k.chr n) is = refl
tok_no_start defs (k.text bytes) is = refl
tok_no_start defs (k.word v) is = word_no_start v is
tok_no_start defs (k.mark m) is = refl

-- no declaration begins with an expression
expr_no_start : (defs : List Name) (ts : List Token) → starts defs ts ≡ true → start_at defs ts ≡ s.ends
expr_no_start defs [] is = refl
expr_no_start defs (y ∷ ts) is = tok_no_start defs y.kind is

word_form_is : (v : ℕ) → is_sizeof v ≡ true → word_form v ≡ r.expr
word_form_is v is = let same : v ≡ 17 = eqb-true v 17 is in rw same refl

form_is : (defs : List Name) (y : Tok) → f.is_start defs y ≡ true → form_of y ≡ r.expr
form_is defs (k.name x) is = refl
form_is defs (k.int n long) is = refl
form_is defs (k.chr n) is = refl
form_is defs (k.text bytes) is = refl
form_is defs (k.word v) is = word_form_is v is
form_is defs (k.mark m) is = rw (other is_start_mark m semicolon is refl, other is_start_mark m open_brace is refl) refl

-- ---- how statements begin

abbrev IsFirst : List Name → List Token → Type 0
IsFirst defs ts = (eat close_brace ts ≡ None) × (eat_word else_word ts ≡ None) × (start_at defs ts ≡ s.ends) × (eat_word case_word ts ≡ None) × (eat_word default_word ts ≡ None)

expr_first : (defs : List Name) (e : Written) (ts : List Token) → IsAtLevel defs 1 e → IsFirst defs (w.spell e ts)
expr_first defs e ts ok =
    let is = expr_starts defs e ts ok.1 in (
      no_mark defs close_brace (w.spell e ts) refl is,
      no_word defs else_word (w.spell e ts) refl is,
      expr_no_start defs (w.spell e ts) is,
      no_word defs case_word (w.spell e ts) refl is,
      no_word defs default_word (w.spell e ts) refl is,
    )

stmt_first : (defs : List Name) (q : WrittenStmt) (ts : List Token) → IsStmt defs q → IsFirst defs (spell_stmt q ts)
stmt_first defs (z.expr e n) ts ok = expr_first defs e (mark n semicolon ∷ ts) ok
stmt_first defs (z.empty n) ts ok = (refl, refl, refl, refl, refl)
stmt_first defs (z.if_only n m e o q) ts ok = (refl, refl, refl, refl, refl)
stmt_first defs (z.if_else n m e o q v u) ts ok = (refl, refl, refl, refl, refl)
stmt_first defs (z.while n m e o q) ts ok = (refl, refl, refl, refl, refl)
stmt_first defs (z.do_while n q m o e u v) ts ok = (refl, refl, refl, refl, refl)
stmt_first defs (z.for n m e1 o e2 u e3 v q) ts ok = (refl, refl, refl, refl, refl)
stmt_first defs (z.switch n m e o u qs v) ts ok = (refl, refl, refl, refl, refl)
stmt_first defs (z.break n m) ts ok = (refl, refl, refl, refl, refl)
stmt_first defs (z.continue n m) ts ok = (refl, refl, refl, refl, refl)
stmt_first defs (z.return n e m) ts ok = (refl, refl, refl, refl, refl)
stmt_first defs (z.block n ds qs m) ts ok = (refl, refl, refl, refl, refl)

item_no_close : (defs : List Name) (q : WrittenItem) (ts : List Token) → IsItem defs q → eat close_brace (spell_item q ts) ≡ None
item_no_close defs (z.case n e m) ts ok = refl
item_no_close defs (z.default n m) ts ok = refl
item_no_close defs (z.stmt q) ts ok = (stmt_first defs q ts ok).0

item_no_else : (defs : List Name) (q : WrittenItem) (ts : List Token) → IsItem defs q → eat_word else_word (spell_item q ts) ≡ None
item_no_else defs (z.case n e m) ts ok = refl
item_no_else defs (z.default n m) ts ok = refl
item_no_else defs (z.stmt q) ts ok = (stmt_first defs q ts ok).1

local_starts_by : (defs : List Name) (ps : List LocalPart) (ts : List Token) → AreLocalParts defs ps → is_none ps ≡ false → r.is_start (start_at defs (spell_local_parts ps ts)) ≡ true
local_starts_by defs [] ts ok some = absurd (true≢false some)
local_starts_by defs (l.storage n c ∷ ps) ts ok some = rw (storage_start c) refl
local_starts_by defs (l.typed (word_part n v) ∷ ps) ts ok some = rw (typed_start v) refl
local_starts_by defs (l.typed (tag_part n kind m y) ∷ ps) ts ok some = rw (tag_start kind ok.0) refl
local_starts_by defs (l.typed (name_part n y) ∷ ps) ts ok some = rw ok.0 refl

local_starts : (defs : List Name) (q : WrittenLocal) (ts : List Token) → IsLocal defs q → r.is_start (start_at defs (spell_local q ts)) ≡ true
local_starts defs q ts ok = local_starts_by defs q.parts _ (ok.0.parts) (ok.0.some)

stmts_no_start : (defs : List Name) (qs : WrittenStmts) (m : ℕ) (ts : List Token) → AreStmts defs qs → start_at defs (spell_stmts qs (mark m close_brace ∷ ts)) ≡ s.ends
stmts_no_start defs z.no_stmts m ts ok = refl
stmts_no_start defs (z.more_stmts q qs) m ts ok = (stmt_first defs q (spell_stmts qs (mark m close_brace ∷ ts)) ok.0).2

stmts_no_else : (defs : List Name) (qs : WrittenStmts) (m : ℕ) (ts : List Token) → AreStmts defs qs → eat_word else_word (spell_stmts qs (mark m close_brace ∷ ts)) ≡ None
stmts_no_else defs z.no_stmts m ts ok = refl
stmts_no_else defs (z.more_stmts q qs) m ts ok = (stmt_first defs q (spell_stmts qs (mark m close_brace ∷ ts)) ok.0).1

items_no_else : (defs : List Name) (qs : WrittenItems) (m : ℕ) (ts : List Token) → AreItems defs qs → eat_word else_word (spell_items qs (mark m close_brace ∷ ts)) ≡ None
items_no_else defs z.no_items m ts ok = refl
items_no_else defs (z.more_items q qs) m ts ok = item_no_else defs q (spell_items qs (mark m close_brace ∷ ts)) ok.0

-- ---- lengths

maybe_longer : (e : Option Written) (ts : List Token) → length ts ≤ length (spell_if w.spell e ts)
maybe_longer None ts = omega arith
maybe_longer (Some e) ts = omega (arith, expr_longer e ts)

pub locals_longer : (qs : List WrittenLocal) (ts : List Token) → length qs + length ts ≤ length (spell_locals qs ts)
locals_longer [] ts = omega arith
locals_longer (q ∷ qs) ts = omega (arith, local_longer q (spell_locals qs ts), locals_longer qs ts)

abbrev count : WrittenStmts → ℕ
count z.no_stmts = 0
count (z.more_stmts q qs) = suc (count qs)

abbrev item_count : WrittenItems → ℕ
item_count z.no_items = 0
item_count (z.more_items q qs) = suc (item_count qs)

mutual
  stmt_longer : (q : WrittenStmt) (ts : List Token) → length ts < length (spell_stmt q ts)
  stmt_longer (z.expr e n) ts = omega (arith, expr_longer e (mark n semicolon ∷ ts))
  stmt_longer (z.empty n) ts = omega arith
  stmt_longer (z.if_only n m e o q) ts = omega (arith, expr_longer e (mark o close_round ∷ spell_stmt q ts), stmt_longer q ts)
  stmt_longer (z.if_else n m e o q v u) ts = omega (arith, expr_longer e (mark o close_round ∷ spell_stmt q (word v else_word ∷ spell_stmt u ts)), stmt_longer q (word v else_word ∷ spell_stmt u ts), stmt_longer u ts)
  stmt_longer (z.while n m e o q) ts = omega (arith, expr_longer e (mark o close_round ∷ spell_stmt q ts), stmt_longer q ts)
  stmt_longer (z.do_while n q m o e u v) ts =
      omega (arith, stmt_longer q (word m while_word ∷ mark o open_round ∷ w.spell e (mark u close_round ∷ mark v semicolon ∷ ts)), expr_longer e (mark u close_round ∷ mark v semicolon ∷ ts))
  stmt_longer (z.for n m e1 o e2 u e3 v q) ts =
      omega (
        arith,
        maybe_longer e1 (mark o semicolon ∷ spell_if w.spell e2 (mark u semicolon ∷ spell_if w.spell e3 (mark v close_round ∷ spell_stmt q ts))),
        maybe_longer e2 (mark u semicolon ∷ spell_if w.spell e3 (mark v close_round ∷ spell_stmt q ts)),
        maybe_longer e3 (mark v close_round ∷ spell_stmt q ts),
        stmt_longer q ts,
      )
  stmt_longer (z.switch n m e o u qs v) ts = omega (arith, expr_longer e (mark o close_round ∷ mark u open_brace ∷ spell_items qs (mark v close_brace ∷ ts)), items_longer qs (mark v close_brace ∷ ts))
  stmt_longer (z.break n m) ts = omega arith
  stmt_longer (z.continue n m) ts = omega arith
  stmt_longer (z.return n e m) ts = omega (arith, maybe_longer e (mark m semicolon ∷ ts))
  stmt_longer (z.block n ds qs m) ts = omega (arith, locals_longer ds (spell_stmts qs (mark m close_brace ∷ ts)), stmts_longer qs (mark m close_brace ∷ ts))

  pub stmts_longer : (qs : WrittenStmts) (ts : List Token) → count qs + length ts ≤ length (spell_stmts qs ts)
  stmts_longer z.no_stmts ts = omega arith
  stmts_longer (z.more_stmts q qs) ts = omega (arith, stmt_longer q (spell_stmts qs ts), stmts_longer qs ts)

  item_longer : (q : WrittenItem) (ts : List Token) → length ts < length (spell_item q ts)
  item_longer (z.case n e m) ts = omega (arith, expr_longer e (mark m colon ∷ ts))
  item_longer (z.default n m) ts = omega arith
  item_longer (z.stmt q) ts = stmt_longer q ts

  items_longer : (qs : WrittenItems) (ts : List Token) → item_count qs + length ts ≤ length (spell_items qs ts)
  items_longer z.no_items ts = omega arith
  items_longer (z.more_items q qs) ts = omega (arith, item_longer q (spell_items qs ts), items_longer qs ts)

pub stmt_deep : (q : Stmt) → 1 ≤ stmt_depth q
stmt_deep (t.expr n e) = omega arith
stmt_deep (t.empty n) = omega arith
stmt_deep (t.if_only n e q) = omega arith
stmt_deep (t.if_else n e q u) = omega arith
stmt_deep (t.while n e q) = omega arith
stmt_deep (t.do_while n q m e) = omega arith
stmt_deep (t.for n e1 e2 e3 q) = omega arith
stmt_deep (t.switch n e qs) = omega arith
stmt_deep (t.break n) = omega arith
stmt_deep (t.continue n) = omega arith
stmt_deep (t.return n e) = omega arith
stmt_deep (t.block n ds qs m) = omega arith

-- no `else` follows that would be a part of the statement
abbrev pub Ends : WrittenStmt → List Token → Type 0
Ends q after = is_open q ≡ true → eat_word else_word after ≡ None

closed : (q : WrittenStmt) (after : List Token) → is_open q ≡ false → Ends q after
closed q after not_open open_too = absurd (true≢false (sym open_too ∙ not_open))

module _ (defs : List Name) (most : ℕ) (expr : ℕ → List Token → Read Expr)
    (expr_again : (l : ℕ) (e : Written) (after : List Token) → 1 ≤ l → l ≤ 3 → IsAtLevel defs l e → expr_depth (w.plain e) ≤ most → may_follow l after ≡ true → expr l (w.spell e after) ≡ Some (w.plain e, after)) where
  test_again : (n : ℕ) (e : Written) (m : ℕ) (after : List Token) → IsAtLevel defs 1 e → expr_depth (w.plain e) ≤ most
      → r.test defs most expr (mark n open_round ∷ w.spell e (mark m close_round ∷ after)) ≡ Some (w.plain e, after)
  test_again n e m after ok low = rw (expr_again 1 e (mark m close_round ∷ after) (omega arith) (omega arith) ok low refl) refl

  semicolon_again : (e : Option Written) (m : ℕ) (after : List Token) → IfThere (IsAtLevel defs 1) e → optional expr_depth (plain_if w.plain e) ≤ most
      → r.maybe defs most expr semicolon (spell_if w.spell e (mark m semicolon ∷ after)) ≡ Some (plain_if w.plain e, after)
  semicolon_again None m after ok low = refl
  semicolon_again (Some e) m after ok low =
      rw (no_mark defs semicolon (w.spell e (mark m semicolon ∷ after)) refl (expr_starts defs e (mark m semicolon ∷ after) ok.1), expr_again 1 e (mark m semicolon ∷ after) (omega arith) (omega arith) ok low refl) refl

  bracket_again : (e : Option Written) (m : ℕ) (after : List Token) → IfThere (IsAtLevel defs 1) e → optional expr_depth (plain_if w.plain e) ≤ most
      → r.maybe defs most expr close_round (spell_if w.spell e (mark m close_round ∷ after)) ≡ Some (plain_if w.plain e, after)
  bracket_again None m after ok low = refl
  bracket_again (Some e) m after ok low =
      rw (no_mark defs close_round (w.spell e (mark m close_round ∷ after)) refl (expr_starts defs e (mark m close_round ∷ after) ok.1), expr_again 1 e (mark m close_round ∷ after) (omega arith) (omega arith) ok low refl) refl

  locals_again : (j : ℕ) (qs : List WrittenLocal) (after : List Token) → AreLocals defs qs → deepest local_depth (map plain_local qs) ≤ most → start_at defs after ≡ s.ends → length qs < j
      → r.locals defs most expr j (spell_locals qs after) ≡ Some (map plain_local qs, after)
  unfolding r.locals
  locals_again zero qs after ok low ends room = absurd (omega arith)
  locals_again (suc j) [] after ok low ends room = rw ends refl
  locals_again (suc j) (q ∷ qs) after ok low ends room =
      rw (local_starts defs q (spell_locals qs after) ok.0, local_again defs most expr expr_again q (spell_locals qs after) ok.0 (omega arith), locals_again j qs after ok.1 (omega arith) ends (omega arith)) refl

  expr_stmt_by : (inner : List Token → Read Stmt) (e : Written) (n : ℕ) (after : List Token) (whole : List Token) → w.spell e (mark n semicolon ∷ after) ≡ whole → IsAtLevel defs 1 e → 1 + expr_depth (w.plain e) ≤ most
      → r.stmt_at defs most expr inner whole ≡ Some (t.expr (w.first e) (w.plain e), after)
  expr_stmt_by inner e n after [] same ok low = absurd (omega (arith, expr_longer e (mark n semicolon ∷ after), ap length same))
  expr_stmt_by inner e n after (y ∷ ts) same ok low =
      let begins : starts defs (y ∷ ts) ≡ true = ap (starts defs) (sym same) ∙ expr_starts defs e (mark n semicolon ∷ after) ok.1 in
      let line : y.line ≡ w.first e = ap line_at (sym same) ∙ line_first e (mark n semicolon ∷ after) in
      let found : expr 1 (y ∷ ts) ≡ Some (w.plain e, mark n semicolon ∷ after) = ap (expr 1) (sym same) ∙ expr_again 1 e (mark n semicolon ∷ after) (omega arith) (omega arith) ok (omega arith) refl in
      rw (form_is defs y.kind begins, found, line) refl

  module _ (n : ℕ) (inner : List Token → Read Stmt)
      (inner_again : (q : WrittenStmt) (after : List Token) → IsStmt defs q → stmt_depth (plain_stmt q) ≤ n → stmt_depth (plain_stmt q) ≤ most → Ends q after → inner (spell_stmt q after) ≡ Some (plain_stmt q, after)) where
    pub stmts_again : (j : ℕ) (qs : WrittenStmts) (m : ℕ) (after : List Token) → AreStmts defs qs → stmts_depth (plain_stmts qs) ≤ n → stmts_depth (plain_stmts qs) ≤ most → count qs < j
        → r.stmts defs most expr inner j (spell_stmts qs (mark m close_brace ∷ after)) ≡ Some (plain_stmts qs, mark m close_brace ∷ after)
    unfolding r.stmts
    stmts_again zero qs m after ok small low room = absurd (omega arith)
    stmts_again (suc j) z.no_stmts m after ok small low room = refl
    stmts_again (suc j) (z.more_stmts q qs) m after ok small low room =
        rw (
          (stmt_first defs q (spell_stmts qs (mark m close_brace ∷ after)) ok.0).0,
          inner_again q (spell_stmts qs (mark m close_brace ∷ after)) ok.0 (omega arith) (omega arith) (λ _. stmts_no_else defs qs m after ok.1),
          stmts_again j qs m after ok.1 (omega arith) (omega arith) (omega arith),
        ) refl

    item_again : (q : WrittenItem) (after : List Token) → IsItem defs q → item_depth (plain_item q) ≤ n → item_depth (plain_item q) ≤ most → eat_word else_word after ≡ None
        → r.item defs most expr inner (spell_item q after) ≡ Some (plain_item q, after)
    item_again (z.case l1 e m) after ok small low none =
        rw (expr_again 1 e (mark m colon ∷ after) (omega arith) (omega arith) ok (omega arith) refl) refl
    item_again (z.default l1 m) after ok small low none = refl
    item_again (z.stmt q) after ok small low none =
        let first = stmt_first defs q after ok in
        rw (first.3, first.4, inner_again q after ok (omega arith) (omega arith) (λ _. none)) refl

    items_again : (j : ℕ) (qs : WrittenItems) (m : ℕ) (after : List Token) → AreItems defs qs → items_depth (plain_items qs) ≤ n → items_depth (plain_items qs) ≤ most → item_count qs < j
        → r.items defs most expr inner j (spell_items qs (mark m close_brace ∷ after)) ≡ Some (plain_items qs, mark m close_brace ∷ after)
    unfolding r.items
    items_again zero qs m after ok small low room = absurd (omega arith)
    items_again (suc j) z.no_items m after ok small low room = refl
    items_again (suc j) (z.more_items q qs) m after ok small low room =
        rw (
          item_no_close defs q (spell_items qs (mark m close_brace ∷ after)) ok.0,
          item_again q (spell_items qs (mark m close_brace ∷ after)) ok.0 (omega arith) (omega arith) (items_no_else defs qs m after ok.1),
          items_again j qs m after ok.1 (omega arith) (omega arith) (omega arith),
        ) refl

    pub block_again : (l1 : ℕ) (ds : List WrittenLocal) (qs : WrittenStmts) (m : ℕ) (after : List Token) → AreLocals defs ds → AreStmts defs qs → deepest local_depth (map plain_local ds) ≤ most
        → stmts_depth (plain_stmts qs) ≤ n → stmts_depth (plain_stmts qs) ≤ most
        → r.block_behind defs most expr inner l1 (spell_locals ds (spell_stmts qs (mark m close_brace ∷ after))) ≡ Some (record { line = l1; decls = map plain_local ds; stmts = plain_stmts qs; close_line = m }, after)
    block_again l1 ds qs m after ok oks low small lows =
        let room = locals_longer ds (spell_stmts qs (mark m close_brace ∷ after)) in
        let room1 = stmts_longer qs (mark m close_brace ∷ after) in
        rw (
          locals_again (suc (length (spell_locals ds (spell_stmts qs (mark m close_brace ∷ after))))) ds (spell_stmts qs (mark m close_brace ∷ after)) ok low (stmts_no_start defs qs m after oks) (omega (arith, room)),
          stmts_again (suc (length (spell_stmts qs (mark m close_brace ∷ after)))) qs m after oks small lows (omega (arith, room1)),
        ) refl

    stmt_at_again : (q : WrittenStmt) (after : List Token) → IsStmt defs q → stmt_depth (plain_stmt q) ≤ suc n → stmt_depth (plain_stmt q) ≤ most → Ends q after
        → r.stmt_at defs most expr inner (spell_stmt q after) ≡ Some (plain_stmt q, after)
    stmt_at_again (z.expr e l1) after ok small low ends = expr_stmt_by inner e l1 after (w.spell e (mark l1 semicolon ∷ after)) refl ok low
    stmt_at_again (z.empty l1) after ok small low ends = refl
    stmt_at_again (z.if_only l1 m e o q) after ok small low ends =
        rw (
          test_again m e o (spell_stmt q after) ok.0 (omega arith),
          inner_again q after ok.1 (omega arith) (omega arith) (λ _. ends refl),
          ends refl,
        ) refl
    stmt_at_again (z.if_else l1 m e o q v u) after ok small low ends =
        rw (
          test_again m e o (spell_stmt q (word v else_word ∷ spell_stmt u after)) ok.1 (omega arith),
          inner_again q (word v else_word ∷ spell_stmt u after) ok.2 (omega arith) (omega arith) (closed q (word v else_word ∷ spell_stmt u after) ok.0),
          inner_again u after ok.3 (omega arith) (omega arith) ends,
        ) refl
    stmt_at_again (z.while l1 m e o q) after ok small low ends =
        rw (test_again m e o (spell_stmt q after) ok.0 (omega arith), inner_again q after ok.1 (omega arith) (omega arith) ends) refl
    stmt_at_again (z.do_while l1 q m o e u v) after ok small low ends =
        rw (
          inner_again q (word m while_word ∷ mark o open_round ∷ w.spell e (mark u close_round ∷ mark v semicolon ∷ after)) ok.0 (omega arith) (omega arith) (λ _. refl),
          test_again o e u (mark v semicolon ∷ after) ok.1 (omega arith),
        ) refl
    stmt_at_again (z.for l1 m e1 o e2 u e3 v q) after ok small low ends =
        rw (
          semicolon_again e1 o (spell_if w.spell e2 (mark u semicolon ∷ spell_if w.spell e3 (mark v close_round ∷ spell_stmt q after))) ok.0 (omega arith),
          semicolon_again e2 u (spell_if w.spell e3 (mark v close_round ∷ spell_stmt q after)) ok.1 (omega arith),
          bracket_again e3 v (spell_stmt q after) ok.2 (omega arith),
          inner_again q after ok.3 (omega arith) (omega arith) ends,
        ) refl
    stmt_at_again (z.switch l1 m e o u qs v) after ok small low ends =
        let room = items_longer qs (mark v close_brace ∷ after) in
        rw (
          test_again m e o (mark u open_brace ∷ spell_items qs (mark v close_brace ∷ after)) ok.0 (omega arith),
          items_again (suc (length (spell_items qs (mark v close_brace ∷ after)))) qs v after ok.1 (omega arith) (omega arith) (omega (arith, room)),
        ) refl
    stmt_at_again (z.break l1 m) after ok small low ends = refl
    stmt_at_again (z.continue l1 m) after ok small low ends = refl
    stmt_at_again (z.return l1 e m) after ok small low ends =
        rw (semicolon_again e m after ok (omega arith)) refl
    stmt_at_again (z.block l1 ds qs m) after ok small low ends =
        rw (block_again l1 ds qs m after ok.0 ok.1 (omega arith) (omega arith) (omega arith)) refl

  pub stmt_again : (n : ℕ) (q : WrittenStmt) (after : List Token) → IsStmt defs q → stmt_depth (plain_stmt q) ≤ n → stmt_depth (plain_stmt q) ≤ most → Ends q after
      → r.stmt defs most expr n (spell_stmt q after) ≡ Some (plain_stmt q, after)
  unfolding r.stmt
  stmt_again zero q after ok small low ends = absurd (omega (arith, stmt_deep (plain_stmt q)))
  stmt_again (suc n) q after ok small low ends = stmt_at_again n (r.stmt defs most expr n) (stmt_again n) q after ok small low ends
