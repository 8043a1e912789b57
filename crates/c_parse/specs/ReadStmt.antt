-- From tokens to a statement.
use Rattle.std.specs.Prelude.{ℕ, zero, suc, List, [], ◌∷◌, length, Bool, true, false, nat_eq, Option, Some, None}
use Rattle.c_type.specs.Names.{Name, pick}
use Rattle.c_lex.specs.Tokens.{Tok, Token}
use Rattle.c_lex.specs.Tokens as k
use Rattle.c_grammar.specs.Words.{case_word, default_word, else_word, while_word, open_round, close_round, open_brace, close_brace, semicolon, colon}
use Rattle.c_tree.specs.TreeExpr.{Expr}
use Rattle.c_tree.specs.TreeDecl.{LocalDecl}
use Rattle.c_tree.specs.TreeStmt.{Stmt, Stmts, SwItem, SwItems, Block}
use Rattle.c_tree.specs.TreeStmt as t
use Rattle.c_expr.specs.Front.{Read, ◌>>=◌, eat, eat_word, line_at}
use Rattle.c_decl.specs.ReadSpecs.{Start, start_at}
use Rattle.c_decl.specs.ReadSpecs as s
use Rattle.c_decl.specs.ReadDecl as d

-- what the first token of a statement begins
pub data Form : Type 0 where
  if : Form
  while : Form
  do_while : Form
  for : Form
  switch : Form
  break : Form
  continue : Form
  return : Form
  empty : Form
  block : Form
  expr : Form

abbrev pub word_form : ℕ → Form
word_form w =
    pick (nat_eq w 11) if (pick (nat_eq w 24) while (pick (nat_eq w 6) do_while (pick (nat_eq w 10) for (pick (nat_eq w 20) switch
    (pick (nat_eq w 1) break (pick (nat_eq w 4) continue (pick (nat_eq w 15) return expr)))))))

abbrev pub form_of : Tok → Form
form_of (k.name x) = expr
form_of (k.int n long) = expr
form_of (k.chr n) = expr
form_of (k.text bytes) = expr
form_of (k.word w) = word_form w
form_of (k.mark m) = pick (nat_eq m semicolon) empty (pick (nat_eq m open_brace) block expr)

abbrev pub is_start : Start → Bool
is_start (s.storage c) = true
is_start s.typedef = true
is_start (s.typed w) = true
is_start (s.tag kind) = true
is_start (s.named x) = true
is_start s.ends = false

-- a block by its parts
abbrev pub blocked : ℕ → List LocalDecl → Stmts → ℕ → Block
blocked l decls stmts close = record { line = l; decls = decls; stmts = stmts; close_line = close }

module _ (defs : List Name) (most : ℕ) (expr_at : ℕ → List Token → Read Expr) where
  -- an expression in brackets
  abbrev pub test : List Token → Read Expr
  test ts = eat open_round ts >>= λ a. expr_at 1 a >>= λ e. eat close_round e.1 >>= λ b. Some (e.0, b)

  abbrev pub maybe_by : ℕ → List Token → Option (List Token) → Read (Option Expr)
  maybe_by m ts (Some after) = Some (None, after)
  maybe_by m ts None = expr_at 1 ts >>= λ e. eat m e.1 >>= λ after. Some (Some e.0, after)

  -- an expression or none, and the mark behind it
  abbrev pub maybe : ℕ → List Token → Read (Option Expr)
  maybe m ts = maybe_by m ts (eat m ts)

  abbrev pub locals_by : (List Token → Read (List LocalDecl)) → List Token → Bool → Read (List LocalDecl)
  locals_by more ts true = d.local defs most expr_at ts >>= λ x. more x.1 >>= λ xs. Some (x.0 ∷ xs.0, xs.1)
  locals_by more ts false = Some ([], ts)

  unfoldable pub locals : ℕ → List Token → Read (List LocalDecl)
  locals zero ts = None
  locals (suc j) ts = locals_by (locals j) ts (is_start (start_at defs ts))

  module _ (inner : List Token → Read Stmt) where
    abbrev pub stmts_by : (List Token → Read Stmts) → List Token → Option (List Token) → Read Stmts
    stmts_by more ts (Some after) = Some (t.no_stmts, ts)
    stmts_by more ts None = inner ts >>= λ x. more x.1 >>= λ xs. Some (t.more_stmts x.0 xs.0, xs.1)

    -- the statements up to a closing brace
    unfoldable pub stmts : ℕ → List Token → Read Stmts
    stmts zero ts = None
    stmts (suc j) ts = stmts_by (stmts j) ts (eat close_brace ts)

    abbrev pub item_by : List Token → Option (List Token) → Option (List Token) → Read SwItem
    item_by ts (Some after) _ = expr_at 1 after >>= λ e. eat colon e.1 >>= λ rest. Some (t.case (line_at ts) e.0, rest)
    item_by ts None (Some after) = eat colon after >>= λ rest. Some (t.default (line_at ts), rest)
    item_by ts None None = inner ts >>= λ x. Some (t.stmt x.0, x.1)

    abbrev pub item : List Token → Read SwItem
    item ts = item_by ts (eat_word case_word ts) (eat_word default_word ts)

    abbrev pub items_by : (List Token → Read SwItems) → List Token → Option (List Token) → Read SwItems
    items_by more ts (Some after) = Some (t.no_items, ts)
    items_by more ts None = item ts >>= λ x. more x.1 >>= λ xs. Some (t.more_items x.0 xs.0, xs.1)

    unfoldable pub items : ℕ → List Token → Read SwItems
    items zero ts = None
    items (suc j) ts = items_by (items j) ts (eat close_brace ts)

    -- behind the opening brace, which stands on the line
    abbrev pub block_behind : ℕ → List Token → Read Block
    block_behind l ts =
        locals (suc (length ts)) ts >>= λ ds. stmts (suc (length ds.1)) ds.1 >>= λ ss. eat close_brace ss.1 >>= λ after.
        Some (record { line = l; decls = ds.0; stmts = ss.0; close_line = line_at ss.1 }, after)

    abbrev pub else_by : ℕ → Expr → Stmt → List Token → Option (List Token) → Read Stmt
    else_by l e x ts None = Some (t.if_only l e x, ts)
    else_by l e x ts (Some after) = inner after >>= λ y. Some (t.if_else l e x y.0, y.1)

    -- l is the line of the first token, and ts stands behind it
    abbrev pub stmt_by : ℕ → List Token → List Token → Form → Read Stmt
    stmt_by l ts whole if = test ts >>= λ e. inner e.1 >>= λ x. else_by l e.0 x.0 x.1 (eat_word else_word x.1)
    stmt_by l ts whole while = test ts >>= λ e. inner e.1 >>= λ x. Some (t.while l e.0 x.0, x.1)
    stmt_by l ts whole do_while =
        inner ts >>= λ x. eat_word while_word x.1 >>= λ a. test a >>= λ e. eat semicolon e.1 >>= λ b. Some (t.do_while l x.0 (line_at x.1) e.0, b)
    stmt_by l ts whole for =
        eat open_round ts >>= λ a. maybe semicolon a >>= λ e1. maybe semicolon e1.1 >>= λ e2. maybe close_round e2.1 >>= λ e3. inner e3.1 >>= λ x.
        Some (t.for l e1.0 e2.0 e3.0 x.0, x.1)
    stmt_by l ts whole switch =
        test ts >>= λ e. eat open_brace e.1 >>= λ a. items (suc (length a)) a >>= λ xs. eat close_brace xs.1 >>= λ b. Some (t.switch l e.0 xs.0, b)
    stmt_by l ts whole break = eat semicolon ts >>= λ a. Some (t.break l, a)
    stmt_by l ts whole continue = eat semicolon ts >>= λ a. Some (t.continue l, a)
    stmt_by l ts whole return = maybe semicolon ts >>= λ e. Some (t.return l e.0, e.1)
    stmt_by l ts whole empty = Some (t.empty l, ts)
    stmt_by l ts whole block = block_behind l ts >>= λ b. Some (t.block b.0.line b.0.decls b.0.stmts b.0.close_line, b.1)
    stmt_by l ts whole expr = expr_at 1 whole >>= λ e. eat semicolon e.1 >>= λ a. Some (t.expr l e.0, a)

    abbrev pub stmt_at : List Token → Read Stmt
    stmt_at [] = None
    stmt_at (x ∷ ts) = stmt_by x.line ts (x ∷ ts) (form_of x.kind)

  -- The number bounds how deep statements stand in one another.
  unfoldable pub stmt : ℕ → List Token → Read Stmt
  stmt zero ts = None
  stmt (suc n) ts = stmt_at (stmt n) ts
