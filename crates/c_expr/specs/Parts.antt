-- By what a reader of the code reads the parts of an expression.
use Rattle.std.specs.Prelude.{ℕ, List, Result}
use Rattle.c_type.specs.Names.{Name}
use Rattle.c_lex.specs.Tokens.{Token}
use Rattle.c_tree.specs.TreeExpr.{Expr}
use Rattle.c_grammar.specs.Reads.{most}
use Rattle.c_expr.specs.declared.error.ParseErr.{ParseErr}
use Rattle.c_expr.specs.declared.reader.Reader.{Reader}
use Rattle.c_expr.specs.declared.rest.Rest.{Rest}
use Rattle.c_expr.specs.declared.rest.Found.{Found}
use Rattle.c_expr.specs.Front.{Read}
use Rattle.c_expr.specs.Gives.{Gives}
use Rattle.c_expr.specs.Reading as r
use Rattle.c_expr.specs.Shown.{left, shown}
use Rattle.c_expr.specs.Typedefs.{names_of}

-- the typedef names
abbrev pub names : Reader → List Name
names s = names_of s.defs.now

-- a part of the level, where parts and brackets stand no deeper in one another than the number
abbrev pub inner : Reader → ℕ → ℕ → List Token → Read Expr
inner s nested = r.expr (names s) most nested

-- what a call may answer at a level and tokens is what `inner` gives
abbrev pub AreReadBy : (ℕ → Rest → Result Found ParseErr → Type 0) → (ℕ → List Token → Read Expr) → Type 0
AreReadBy answers inner = (l : ℕ) (rest : Rest) (x : Result Found ParseErr) → answers l rest x → Gives shown x (inner l (left rest))
