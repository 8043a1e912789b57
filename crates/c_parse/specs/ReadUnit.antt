-- From tokens to a unit.
use Rattle.std.specs.Prelude.{ℕ, zero, suc, List, [], ◌∷◌, length, nat_lt, Option, Some, None}
use Rattle.c_type.specs.Names.{Name, pick}
use Rattle.c_lex.specs.Tokens.{Token}
use Rattle.c_grammar.specs.Words.{open_brace}
use Rattle.c_tree.specs.TreeExpr.{Expr}
use Rattle.c_tree.specs.TreeUnit.{Ext, unit_depth}
use Rattle.c_tree.specs.TreeUnit as u
use Rattle.c_grammar.specs.WrittenUnit.{with_typedefs}
use Rattle.c_expr.specs.Front.{Read, ◌>>=◌, eat, line_at}
use Rattle.c_decl.specs.ReadDecl.{Outside, whole, head, outside}
use Rattle.c_parse.specs.ReadStmt as s

-- `expr` reads an expression of a level under typedef names.
module _ (most : ℕ) (expr : List Name → ℕ → List Token → Read Expr) where
  abbrev pub ext_by : List Name → Outside → List Token → Read Ext
  ext_by defs (whole e) ts = Some (e, ts)
  ext_by defs (head h) ts =
      eat open_brace ts >>= λ a. s.block_behind defs most (expr defs) (s.stmt defs most (expr defs) most) (line_at ts) a >>= λ b.
      Some (u.func h.line h.specs h.declr h.params b.0, b.1)

  abbrev pub ext : List Name → List Token → Read Ext
  ext defs ts = outside defs most (expr defs) ts >>= λ o. ext_by defs o.0 o.1

  -- the external declarations up to the end
  unfoldable pub exts : ℕ → List Name → List Token → Option (List Ext)
  exts zero defs ts = None
  exts (suc j) defs [] = Some []
  exts (suc j) defs (x ∷ ts) = ext defs (x ∷ ts) >>= λ e. exts j (with_typedefs defs e.0) e.1 >>= λ es. Some (e.0 ∷ es)

  abbrev pub unit_of : List Ext → Option u.Unit
  unit_of es = pick (nat_lt most (unit_depth (record { exts = es }))) None (Some (record { exts = es }))

  abbrev pub unit : List Token → Option u.Unit
  unit ts = exts (suc (length ts)) [] ts >>= unit_of
