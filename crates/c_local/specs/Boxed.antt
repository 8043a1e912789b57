-- The trees that boxes of the code stand for.
use Rattle.std.specs.Prelude.{Box}
use Rattle.std.specs.Global.{Global}
use Rattle.c_tree.specs.declared.typed_stmt.TDeclr as declr
use Rattle.c_tree.specs.declared.typed_stmt.TStmt as stmt
use Rattle.c_tree.specs.TStmt.{Declr, TStmt}
use Rattle.c_tree.specs.TypedOf.{declr_of, stmt_of}

abbrev pub boxed_declr : Box declr.TDeclr Global → Declr
boxed_declr b = declr_of b.value

abbrev pub boxed_stmt : Box stmt.TStmt Global → TStmt
boxed_stmt b = stmt_of b.value
