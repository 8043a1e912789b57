-- From a statement to its spellings. The lines of a statement's tokens stand between its parts.
use Rattle.std.specs.Prelude.{◌≡◌, ℕ, List, [], ◌∷◌, map, Bool, true, false, Option}
use Rattle.c_type.specs.Names.{Name}
use Rattle.c_lex.specs.Tokens.{Token}
use Rattle.c_grammar.specs.Words.{mark, word, break_word, case_word, continue_word, default_word, do_word, else_word, for_word, if_word, return_word, switch_word, while_word, open_round, close_round, open_brace, close_brace, semicolon, colon}
use Rattle.c_tree.specs.TreeStmt.{Stmt, Stmts, SwItem, SwItems, Block}
use Rattle.c_tree.specs.TreeStmt as t
use Rattle.c_grammar.specs.WrittenExpr.{Written, IsAtLevel}
use Rattle.c_grammar.specs.WrittenExpr as w
use Rattle.c_grammar.specs.WrittenDeclr.{plain_if, IfThere, spell_if}
use Rattle.c_grammar.specs.WrittenDecl.{WrittenLocal, plain_local, IsLocal, spell_local}

mutual
  pub data WrittenStmt : Type 0 where
    expr : (e : Written) (l : ℕ) → WrittenStmt
    empty : (l : ℕ) → WrittenStmt
    if_only : (l m : ℕ) (e : Written) (n : ℕ) (s : WrittenStmt) → WrittenStmt
    if_else : (l m : ℕ) (e : Written) (n : ℕ) (s : WrittenStmt) (o : ℕ) (r : WrittenStmt) → WrittenStmt
    while : (l m : ℕ) (e : Written) (n : ℕ) (s : WrittenStmt) → WrittenStmt
    do_while : (l : ℕ) (s : WrittenStmt) (m n : ℕ) (e : Written) (o q : ℕ) → WrittenStmt
    for : (l m : ℕ) (e1 : Option Written) (n : ℕ) (e2 : Option Written) (o : ℕ) (e3 : Option Written) (q : ℕ) (s : WrittenStmt) → WrittenStmt
    switch : (l m : ℕ) (e : Written) (n o : ℕ) (is : WrittenItems) (q : ℕ) → WrittenStmt
    break : (l m : ℕ) → WrittenStmt
    continue : (l m : ℕ) → WrittenStmt
    return : (l : ℕ) (e : Option Written) (m : ℕ) → WrittenStmt
    block : (l : ℕ) (ds : List WrittenLocal) (ss : WrittenStmts) (m : ℕ) → WrittenStmt

  pub data WrittenStmts : Type 0 where
    no_stmts : WrittenStmts
    more_stmts : (s : WrittenStmt) (ss : WrittenStmts) → WrittenStmts

  pub data WrittenItem : Type 0 where
    case : (l : ℕ) (e : Written) (m : ℕ) → WrittenItem
    default : (l m : ℕ) → WrittenItem
    stmt : (s : WrittenStmt) → WrittenItem

  pub data WrittenItems : Type 0 where
    no_items : WrittenItems
    more_items : (i : WrittenItem) (is : WrittenItems) → WrittenItems

abbrev mutual
  pub plain_stmt : WrittenStmt → Stmt
  plain_stmt (expr e l) = t.expr (w.first e) (w.plain e)
  plain_stmt (empty l) = t.empty l
  plain_stmt (if_only l m e n s) = t.if_only l (w.plain e) (plain_stmt s)
  plain_stmt (if_else l m e n s o r) = t.if_else l (w.plain e) (plain_stmt s) (plain_stmt r)
  plain_stmt (while l m e n s) = t.while l (w.plain e) (plain_stmt s)
  plain_stmt (do_while l s m n e o q) = t.do_while l (plain_stmt s) m (w.plain e)
  plain_stmt (for l m e1 n e2 o e3 q s) = t.for l (plain_if w.plain e1) (plain_if w.plain e2) (plain_if w.plain e3) (plain_stmt s)
  plain_stmt (switch l m e n o is q) = t.switch l (w.plain e) (plain_items is)
  plain_stmt (break l m) = t.break l
  plain_stmt (continue l m) = t.continue l
  plain_stmt (return l e m) = t.return l (plain_if w.plain e)
  plain_stmt (block l ds ss m) = t.block l (map plain_local ds) (plain_stmts ss) m

  pub plain_stmts : WrittenStmts → Stmts
  plain_stmts no_stmts = t.no_stmts
  plain_stmts (more_stmts s ss) = t.more_stmts (plain_stmt s) (plain_stmts ss)

  pub plain_item : WrittenItem → SwItem
  plain_item (case l e m) = t.case l (w.plain e)
  plain_item (default l m) = t.default l
  plain_item (stmt s) = t.stmt (plain_stmt s)

  pub plain_items : WrittenItems → SwItems
  plain_items no_items = t.no_items
  plain_items (more_items i is) = t.more_items (plain_item i) (plain_items is)

-- an `else` behind it would be a part of it
abbrev pub is_open : WrittenStmt → Bool
is_open (expr e l) = false
is_open (empty l) = false
is_open (if_only l m e n s) = true
is_open (if_else l m e n s o r) = is_open r
is_open (while l m e n s) = is_open s
is_open (do_while l s m n e o q) = false
is_open (for l m e1 n e2 o e3 q s) = is_open s
is_open (switch l m e n o is q) = false
is_open (break l m) = false
is_open (continue l m) = false
is_open (return l e m) = false
is_open (block l ds ss m) = false

abbrev pub AreLocals : List Name → List WrittenLocal → Type 0
AreLocals defs [] = Unit {0}
AreLocals defs (d ∷ ds) = IsLocal defs d × AreLocals defs ds

-- An `else` belongs to the nearest `if` that has none.
abbrev mutual
  pub IsStmt : List Name → WrittenStmt → Type 0
  IsStmt defs (expr e l) = IsAtLevel defs 1 e
  IsStmt defs (empty l) = Unit {0}
  IsStmt defs (if_only l m e n s) = IsAtLevel defs 1 e × IsStmt defs s
  IsStmt defs (if_else l m e n s o r) = (is_open s ≡ false) × IsAtLevel defs 1 e × IsStmt defs s × IsStmt defs r
  IsStmt defs (while l m e n s) = IsAtLevel defs 1 e × IsStmt defs s
  IsStmt defs (do_while l s m n e o q) = IsStmt defs s × IsAtLevel defs 1 e
  IsStmt defs (for l m e1 n e2 o e3 q s) = IfThere (IsAtLevel defs 1) e1 × IfThere (IsAtLevel defs 1) e2 × IfThere (IsAtLevel defs 1) e3 × IsStmt defs s
  IsStmt defs (switch l m e n o is q) = IsAtLevel defs 1 e × AreItems defs is
  IsStmt defs (break l m) = Unit {0}
  IsStmt defs (continue l m) = Unit {0}
  IsStmt defs (return l e m) = IfThere (IsAtLevel defs 1) e
  IsStmt defs (block l ds ss m) = AreLocals defs ds × AreStmts defs ss

  pub AreStmts : List Name → WrittenStmts → Type 0
  AreStmts defs no_stmts = Unit {0}
  AreStmts defs (more_stmts s ss) = IsStmt defs s × AreStmts defs ss

  pub IsItem : List Name → WrittenItem → Type 0
  IsItem defs (case l e m) = IsAtLevel defs 1 e
  IsItem defs (default l m) = Unit {0}
  IsItem defs (stmt s) = IsStmt defs s

  pub AreItems : List Name → WrittenItems → Type 0
  AreItems defs no_items = Unit {0}
  AreItems defs (more_items i is) = IsItem defs i × AreItems defs is

abbrev pub spell_locals : List WrittenLocal → List Token → List Token
spell_locals [] after = after
spell_locals (d ∷ ds) after = spell_local d (spell_locals ds after)

abbrev mutual
  pub spell_stmt : WrittenStmt → List Token → List Token
  spell_stmt (expr e l) after = w.spell e (mark l semicolon ∷ after)
  spell_stmt (empty l) after = mark l semicolon ∷ after
  spell_stmt (if_only l m e n s) after = word l if_word ∷ mark m open_round ∷ w.spell e (mark n close_round ∷ spell_stmt s after)
  spell_stmt (if_else l m e n s o r) after = word l if_word ∷ mark m open_round ∷ w.spell e (mark n close_round ∷ spell_stmt s (word o else_word ∷ spell_stmt r after))
  spell_stmt (while l m e n s) after = word l while_word ∷ mark m open_round ∷ w.spell e (mark n close_round ∷ spell_stmt s after)
  spell_stmt (do_while l s m n e o q) after = word l do_word ∷ spell_stmt s (word m while_word ∷ mark n open_round ∷ w.spell e (mark o close_round ∷ mark q semicolon ∷ after))
  spell_stmt (for l m e1 n e2 o e3 q s) after =
      word l for_word ∷ mark m open_round ∷ spell_if w.spell e1 (mark n semicolon ∷ spell_if w.spell e2 (mark o semicolon ∷ spell_if w.spell e3 (mark q close_round ∷ spell_stmt s after)))
  spell_stmt (switch l m e n o is q) after = word l switch_word ∷ mark m open_round ∷ w.spell e (mark n close_round ∷ mark o open_brace ∷ spell_items is (mark q close_brace ∷ after))
  spell_stmt (break l m) after = word l break_word ∷ mark m semicolon ∷ after
  spell_stmt (continue l m) after = word l continue_word ∷ mark m semicolon ∷ after
  spell_stmt (return l e m) after = word l return_word ∷ spell_if w.spell e (mark m semicolon ∷ after)
  spell_stmt (block l ds ss m) after = mark l open_brace ∷ spell_locals ds (spell_stmts ss (mark m close_brace ∷ after))

  pub spell_stmts : WrittenStmts → List Token → List Token
  spell_stmts no_stmts after = after
  spell_stmts (more_stmts s ss) after = spell_stmt s (spell_stmts ss after)

  pub spell_item : WrittenItem → List Token → List Token
  spell_item (case l e m) after = word l case_word ∷ w.spell e (mark m colon ∷ after)
  spell_item (default l m) after = word l default_word ∷ mark m colon ∷ after
  spell_item (stmt s) after = spell_stmt s after

  pub spell_items : WrittenItems → List Token → List Token
  spell_items no_items after = after
  spell_items (more_items i is) after = spell_item i (spell_items is after)

-- ---- the block of a function

pub record WrittenBlock : Type 0 where
  pub line : ℕ
  pub decls : List WrittenLocal
  pub stmts : WrittenStmts
  pub close_line : ℕ

abbrev pub plain_block : WrittenBlock → Block
plain_block b = record { line = b.line; decls = map plain_local b.decls; stmts = plain_stmts b.stmts; close_line = b.close_line }

abbrev pub IsBlock : List Name → WrittenBlock → Type 0
IsBlock defs b = AreLocals defs b.decls × AreStmts defs b.stmts

abbrev pub spell_block : WrittenBlock → List Token → List Token
spell_block b after = mark b.line open_brace ∷ spell_locals b.decls (spell_stmts b.stmts (mark b.close_line close_brace ∷ after))
