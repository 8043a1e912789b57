-- What a reader of statements reads from tokens, with its typedef names.
use Rattle.std.specs.Prelude.{ℕ, List, Bool, Option}
use Rattle.c_lex.specs.Tokens.{Token}
use Rattle.c_tree.specs.TreeExpr.{Expr}
use Rattle.c_tree.specs.TreeDecl.{LocalDecl}
use Rattle.c_tree.specs.TreeStmt.{Stmt, Stmts, SwItem, SwItems, Block}
use Rattle.c_grammar.specs.Reads.{most}
use Rattle.c_expr.specs.Front.{Read}
use Rattle.c_decl.specs.ReadSpecs.{start_at}
use Rattle.c_decl.specs.ReadDecl as d
use Rattle.c_decl.specs.Answers.{names}
use Rattle.c_decl.specs.Expression as e
use Rattle.c_decl.specs.declared.reader.Reader.{Reader}
use Rattle.c_parse.specs.ReadStmt as s

abbrev pub expression : Reader → ℕ → List Token → Read Expr
expression r = e.expression (names r)

abbrev pub test : Reader → List Token → Read Expr
test r = s.test (names r) most (e.expression (names r))

-- the expression before the mark, if there is one
abbrev pub maybe : Reader → ℕ → List Token → Read (Option Expr)
maybe r = s.maybe (names r) most (e.expression (names r))

abbrev pub begins_local : Reader → List Token → Bool
begins_local r ts = s.is_start (start_at (names r) ts)

abbrev pub local : Reader → List Token → Read LocalDecl
local r = d.local (names r) most (e.expression (names r))

-- the number bounds how many there are
abbrev pub locals : Reader → ℕ → List Token → Read (List LocalDecl)
locals r = s.locals (names r) most (e.expression (names r))

-- the first number bounds how deep statements stand in one another
abbrev pub stmt : Reader → ℕ → List Token → Read Stmt
stmt r = s.stmt (names r) most (e.expression (names r))

abbrev pub stmts : Reader → ℕ → ℕ → List Token → Read Stmts
stmts r n = s.stmts (names r) most (e.expression (names r)) (stmt r n)

abbrev pub item : Reader → ℕ → List Token → Read SwItem
item r n = s.item (names r) most (e.expression (names r)) (stmt r n)

abbrev pub items : Reader → ℕ → ℕ → List Token → Read SwItems
items r n = s.items (names r) most (e.expression (names r)) (stmt r n)

-- behind the opening brace, which stands on the line
abbrev pub block : Reader → ℕ → ℕ → List Token → Read Block
block r n = s.block_behind (names r) most (e.expression (names r)) (stmt r n)

-- behind the first token, which stands on the line
abbrev pub behind : Reader → ℕ → ℕ → s.Form → List Token → Read Stmt
behind r n l f ts = s.stmt_by (names r) most (e.expression (names r)) (stmt r n) l ts ts f
