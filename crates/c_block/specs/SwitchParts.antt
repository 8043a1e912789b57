-- The parts of a switch one by one.
use Rattle.std.specs.Prelude.{ℕ}
use Rattle.c_tree.specs.declared.typed_stmt.TStmt as ts
use Rattle.c_tree.specs.declared.typed_stmt.TSwItem.{TSwItem}
use Rattle.c_tree.specs.TreeStmt as us
use Rattle.c_tree.specs.TExpr.{TExpr}
use Rattle.c_tree.specs.TStmt as st
use Rattle.c_tree.specs.TStmt.{TStmt, TItems}
use Rattle.c_tree.specs.TypedOf.{expr_of, stmt_of}
use Rattle.c_rule.specs.RuleScope.{Judged, onward, Env, past}
use Rattle.c_rule.specs.RuleDecls.{constant_of}
use Rattle.c_rule.specs.RuleStmts.{Place}
use Rattle.c_rule.specs.Judging.{Behind, behind, judged_by, judged_stmt}

-- a part of a switch without those behind it
pub data Part : Type 0 where
  case_ : (e : TExpr) (n : ℕ) → Part
  default_ : Part
  stmt : (s : TStmt) → Part

-- the parts that begin with this one
abbrev pub put : Part → TItems → TItems
put (case_ e n) is = st.case_ e n is
put default_ is = st.default_ is
put (stmt s) is = st.more_items s is

-- the part that a value of the code stands for
abbrev pub part_of : TSwItem → Part
part_of (ts.TheBlock.Case a n) = case_ (expr_of a) n
part_of ts.TheBlock.Default = default_
part_of (ts.TheBlock.Stmt s) = stmt (stmt_of s)

-- the outcome of one part
abbrev pub judged_part : Env → Place → us.SwItem → Judged (Behind Part)
judged_part c p (us.case l a) = onward (judged_by (constant_of c) c a) (λ k. behind (case_ k.expr k.bits) (past a c))
judged_part c p (us.default l) = behind default_ c
judged_part c p (us.stmt s) = onward (judged_stmt c p s) (λ x. behind (stmt x.tree) x.env)
