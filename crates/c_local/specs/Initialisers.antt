-- The initialisers of a list, and the texts that fill arrays of char.
use Rattle.std.specs.Prelude.{List, [], ◌∷◌, Option, Some, None}
use Rattle.c_type.specs.Names.{Name, pick}
use Rattle.c_type.specs.Types.{CType}
use Rattle.c_tree.specs.declared.typed_stmt.TInit.{TInit}
use Rattle.c_tree.specs.TreeExpr as u
use Rattle.c_tree.specs.TreeExpr.{Expr}
use Rattle.c_tree.specs.TStmt as st
use Rattle.c_tree.specs.TypedOf.{init_of}
use Rattle.c_rule.specs.RuleDecls.{fills_chars}

-- the initialisers of a list
abbrev pub grouped : List TInit → st.Inits
grouped [] = st.no_inits
grouped (i ∷ is) = st.more_inits (init_of i) (grouped is)

-- the bytes of a text that fills an array of char
abbrev pub filled_by : CType → Expr → Option Name
filled_by t (u.text l bs) = pick (fills_chars t (u.text l bs)) (Some bs) None
filled_by t _ = None
