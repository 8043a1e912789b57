-- The small form: `main ( ) { D* S* }`, where D is `int` and names, S is `name = E ;`, `while ( E ) S`, `{ S* }`,
-- `putchar ( E ) ;` or `return E ;`, and E is terms joined by `+` and `-`. What is said here is the typed tree of each tree of
-- the form, and nothing for any other tree. Everything is an int.
use Rattle.std.specs.Prelude.{ℕ, suc, ◌+◌, ◌-◌, ◌≡◌, ◌≤◌, nat_eq, List, [], ◌∷◌, length, map, Bool, true, false, not, ◌&&◌, nat_le, Option, Some, None, option_map}
use Rattle.std.specs.List.{list_all, flat_map}
use Rattle.c_type.specs.Names.{Name, same_name, pick}
use Rattle.c_type.specs.declared.Kind.TheVariants.{Int}
use Rattle.c_type.specs.Types.{num, fun}
use Rattle.c_tree.specs.TreeExpr as u
use Rattle.c_tree.specs.declared.Storage.{Storage}
use Rattle.c_tree.specs.TreeDecl as d
use Rattle.c_tree.specs.TreeStmt as s
use Rattle.c_tree.specs.TreeUnit as tu
use Rattle.c_tree.specs.declared.AssignOp.TheVariants.{Set}
use Rattle.c_tree.specs.declared.BinaryOp.{BinaryOp}
use Rattle.c_tree.specs.declared.BinaryOp.TheVariants as op
use Rattle.c_tree.specs.declared.TBinary.{TBinary}
use Rattle.c_tree.specs.declared.TBinary.TheVariants.{Add, Sub}
use Rattle.c_tree.specs.TExpr.{Local, Outer, TExpr, name, int, binary, assign, call, no_args, more_args}
use Rattle.c_tree.specs.TStmt as st
use Rattle.c_tree.specs.TStmt.{LocalDecl, TStmt, TStmts, expr, while_, return_, block, no_stmts, more_stmts}
use Rattle.c_tree.specs.TUnit.{Func, TypedUnit, Program, plain, func}
use Rattle.c_tree.specs.Library.{putchar_name, main_name}
use Rattle.c_tree.specs.TreeDecl.{declared}
use Rattle.name_set.specs.Different.{place_in, are_different}

-- ---- expressions

-- the variable of that place
abbrev pub variable : Option ℕ → Option TExpr
variable None = None
variable (Some i) = Some (name (num Int) (Local i))

-- a number up to 2147483647 without suffix
abbrev pub number : ℕ → Bool → Option TExpr
number n long = pick (not long && nat_le n 2147483647) (Some (int (num Int) n)) None

-- `+` and `-`
abbrev pub sum_of : BinaryOp → Option TBinary
sum_of op.Add = Some Add
sum_of op.Sub = Some Sub
sum_of _ = None

abbrev pub joined : Option TBinary → Option TExpr → Option TExpr → Option TExpr
joined (Some o) (Some a) (Some b) = Some (binary (num Int) o a b)
joined (Some o) (Some a) None = None
joined (Some o) None b = None
joined None a b = None

-- terms joined by `+` and `-`
abbrev pub sum_in : List Name → u.Expr → Option TExpr
sum_in ns (u.name l x) = variable (place_in ns x)
sum_in ns (u.int l n long) = number n long
sum_in ns (u.binary l o a b) = joined (sum_of o) (sum_in ns a) (sum_in ns b)
sum_in ns _ = None

-- ---- statements

-- a start stands on a line up to 65535
abbrev pub is_line : ℕ → Bool
is_line l = nat_le l 65535

-- the function putchar, which the unit does not define
abbrev pub putchar : TExpr
putchar = name (fun (num Int)) (Outer putchar_name)

abbrev pub assigned : Option TExpr → Option TExpr → Option TExpr
assigned (Some a) (Some b) = Some (assign (num Int) a b)
assigned (Some a) None = None
assigned None b = None

abbrev pub called : Option TExpr → Option TExpr
called None = None
called (Some e) = Some (call (num Int) putchar (more_args e no_args))

-- a name is declared
abbrev pub variable_in : List Name → u.Expr → Option TExpr
variable_in ns (u.name l x) = variable (place_in ns x)
variable_in ns _ = None

abbrev pub is_putchar : u.Expr → Bool
is_putchar (u.name l x) = same_name x putchar_name
is_putchar _ = false

-- the argument of a call that has one
abbrev pub argument_in : List Name → u.Exprs → Option TExpr
argument_in ns (u.more_exprs e u.no_exprs) = sum_in ns e
argument_in ns _ = None

-- `putchar ( E )`
abbrev pub put_in : List Name → u.Expr → u.Exprs → Option TExpr
put_in ns f es = pick (is_putchar f) (called (argument_in ns es)) None

-- `name = E` or `putchar ( E )`
abbrev pub action_in : List Name → u.Expr → Option TExpr
action_in ns (u.assign l Set a b) = assigned (variable_in ns a) (sum_in ns b)
action_in ns (u.call l f es) = put_in ns f es
action_in ns _ = None

-- a start of line l, if the line is small enough
abbrev pub at_line : {A : Type 0} → ℕ → Option A → Option A
at_line l a = pick (is_line l) a None

abbrev pub looped : ℕ → ℕ → Option TExpr → Option TStmt → Option TStmt
looped k l (Some e) (Some t) = Some (while_ k l e t)
looped k l (Some e) None = None
looped k l None t = None

abbrev pub returned : ℕ → ℕ → Option TExpr → Option TStmt
returned k l None = None
returned k l (Some e) = Some (return_ k l (Some e))

abbrev pub followed : Option TStmt → Option TStmts → Option TStmts
followed (Some t) (Some ts) = Some (more_stmts t ts)
followed (Some t) None = None
followed None ts = None

-- the starts of a statement of the form
abbrev mutual
  pub stmt_starts : s.Stmt → ℕ
  stmt_starts (s.expr l e) = 1
  stmt_starts (s.while l e a) = 1 + stmt_starts a
  stmt_starts (s.return l e) = 1
  stmt_starts (s.block l ds ss m) = stmts_starts ss
  stmt_starts _ = 0

  pub stmts_starts : s.Stmts → ℕ
  stmts_starts s.no_stmts = 0
  stmts_starts (s.more_stmts a ss) = stmt_starts a + stmts_starts ss

-- a block as a statement
abbrev pub as_stmt : s.Block → s.Stmt
as_stmt b = s.block b.line b.decls b.stmts b.close_line

-- The statement of a function that declares these names, where k is the number of the next start. No declaration stands in an
-- inner block.
abbrev mutual
  pub stmt_in : List Name → ℕ → s.Stmt → Option TStmt
  stmt_in ns k (s.expr l e) = at_line l (option_map (expr k l) (action_in ns e))
  stmt_in ns k (s.while l e a) = at_line l (looped k l (sum_in ns e) (stmt_in ns (k + 1) a))
  stmt_in ns k (s.return l (Some e)) = at_line l (returned k l (sum_in ns e))
  stmt_in ns k (s.block l [] ss m) = option_map (λ ts. block l [] ts m) (stmts_in ns k ss)
  stmt_in ns k _ = None

  pub stmts_in : List Name → ℕ → s.Stmts → Option TStmts
  stmts_in ns k s.no_stmts = Some no_stmts
  stmts_in ns k (s.more_stmts a ss) = followed (stmt_in ns k a) (stmts_in ns (k + stmt_starts a) ss)

-- ---- declarations

-- `int`
abbrev pub is_int : Option Storage → Option u.TypeSpec → Bool
is_int None (Some (u.num Int)) = true
is_int _ _ = false

-- a name without initialiser
abbrev pub is_bare : d.Declr → Option d.Init → Bool
is_bare (d.name l x) None = true
is_bare _ _ = false

abbrev pub is_plain : d.LocalDecl → Bool
is_plain x = is_int x.specs.storage x.specs.types && list_all (λ i. is_bare i.declr i.init) x.items

-- the names that declarations declare, in order
abbrev pub names_in : List d.LocalDecl → List Name
names_in ds = flat_map (λ x. map (λ i. declared i.declr) x.items) ds

-- the objects of a declaration, of which the first is the automatic object i
abbrev pub object : d.Declr → ℕ → st.Local
object x i = st.auto (record { name = declared x; ty = num Int; dims = [] }) i

abbrev pub locals_in : ℕ → List d.Item → List st.Local
locals_in i [] = []
locals_in i (x ∷ xs) = object x.declr i ∷ locals_in (i + 1) xs

abbrev pub decls_in : ℕ → List d.LocalDecl → List LocalDecl
decls_in i [] = []
decls_in i (x ∷ xs) = record { items = locals_in i x.items } ∷ decls_in (i + length x.items) xs

-- no name is declared twice, and none is `main` or `putchar`
abbrev pub is_free : Name → Bool
is_free x = not (same_name x main_name) && not (same_name x putchar_name)

abbrev pub are_variables : List Name → Bool
are_variables ns = are_different ns && list_all is_free ns

-- ---- main

-- main with its first start 0, and its last one behind those of its statements
abbrev pub main_with : s.Block → TStmts → Func
main_with b ss =
    record {
      name = main_name;
      is_static = false;
      result = num Int;
      params = [];
      declared = [];
      open_ = 0;
      line = b.line;
      locals = decls_in 0 b.decls;
      stmts = ss;
      close = 1 + stmts_starts b.stmts;
      close_line = b.close_line;
    }

-- the declarations are plain, and the braces stand on lines that are small enough
abbrev pub is_body : s.Block → Bool
is_body b = is_line b.line && is_line b.close_line && list_all is_plain b.decls && are_variables (names_in b.decls)

abbrev pub body_in : s.Block → Option Func
body_in b = pick (is_body b) (option_map (main_with b) (stmts_in (names_in b.decls) 1 b.stmts)) None

-- `main ( )`
abbrev pub is_main : d.Declr → Bool
is_main (d.function l (d.name m x) []) = same_name x main_name
is_main _ = false

abbrev pub main_in : tu.Ext → Option Func
main_in (tu.func l None h [] b) = pick (is_main h) (body_in b) None
main_in _ = None

abbrev pub only_main : List tu.Ext → Option Func
only_main (e ∷ []) = main_in e
only_main _ = None

-- the typed main of a unit of the form
abbrev pub small_main : tu.Unit → Option Func
small_main x = only_main x.exts

-- the names that a unit's function declares, and the starts of its statements
abbrev pub body_size : s.Block → ℕ
body_size b = length (names_in b.decls) + stmts_starts b.stmts

abbrev pub ext_size : tu.Ext → ℕ
ext_size (tu.func l x h ps b) = body_size b
ext_size _ = 0

abbrev pub unit_size : tu.Unit → ℕ
unit_size x = of_first x.exts
  where
    of_first : List tu.Ext → ℕ
    of_first [] = 0
    of_first (e ∷ es) = ext_size e

-- ---- programs

-- the typed unit and the program that are one main
abbrev pub unit_of_main : Func → TypedUnit
unit_of_main f = record { tags = []; texts = []; exts = func (plain (num Int)) f ∷ [] }

abbrev pub program_of_main : Func → Program
program_of_main f = record { units = unit_of_main f ∷ []; classes = [] ∷ [] }
