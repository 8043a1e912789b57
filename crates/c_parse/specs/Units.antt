-- What the parser of units answers.
use Rattle.std.specs.Prelude.{ℕ, List, [], ◌∷◌, nat_lt, Option, Some, None, Result, Ok, Err}
use Rattle.c_type.specs.Names.{Name, pick}
use Rattle.c_lex.specs.Tokens.{Token}
use Rattle.c_tree.specs.TreeUnit.{Ext, FuncHead}
use Rattle.c_grammar.specs.Reads.{most, opened}
use Rattle.c_expr.specs.Front.{Read}
use Rattle.c_expr.specs.declared.error.ParseErr.{ParseErr}
use Rattle.c_expr.specs.declared.error.ParseErr.TheVariants.{TooDeep, NotC, Memory}
use Rattle.c_decl.specs.ReadDecl as d
use Rattle.c_decl.specs.Answers.{names}
use Rattle.c_decl.specs.Expression.{expression}
use Rattle.c_decl.specs.declared.reader.Reader.{Reader}
use Rattle.c_parse.specs.ReadUnit as q

-- The fact holds of the line where the answer is TooDeep.
abbrev pub IfTooDeep : {A : Type 0} → Result A ParseErr → (ℕ → Type 0) → Type 0
IfTooDeep (Ok x) P = Unit {0}
IfTooDeep (Err (TooDeep line)) P = P line
IfTooDeep (Err (NotC line)) P = Unit {0}
IfTooDeep (Err Memory) P = Unit {0}

-- the line of the first token at which more brackets are open than the greatest number, where so many are open before the tokens
abbrev pub deep_line : ℕ → List Token → Option ℕ
deep_line n [] = None
deep_line n (x ∷ ts) = pick (nat_lt most (opened n x)) (Some x.line) (deep_line (opened n x) ts)

-- a declaration, or the head of a function
abbrev pub outside : List Name → List Token → Read d.Outside
outside defs = d.outside defs most (expression defs)

-- a function behind its head
abbrev pub function : Reader → FuncHead → List Token → Read Ext
function r h = q.ext_by most expression (names r) (d.head h)

abbrev pub ext : List Name → List Token → Read Ext
ext = q.ext most expression

-- the number bounds how many there are
abbrev pub exts : ℕ → List Name → List Token → Option (List Ext)
exts = q.exts most expression
