-- The trees that hold a vector of trees, from the lists of their parts.
use Rattle.std.proofs.Common.{◌≡◌, ℕ, List, ◌++◌, ◌∷◌, [], refl, sym, ap, map, ◌∙◌, Vec, Box, Global}
use Rattle.std.proofs.lemmas.List.{append_assoc}
use mathlib.Core.Former.{Count}
use Rattle.c_type.specs.declared.CType.{CType}
use Rattle.c_type.specs.Of.{type_of}
use Rattle.c_tree.specs.declared.typed_expr.TExpr as x
use Rattle.c_tree.specs.declared.typed_expr.TExpr.{TExpr, Call}
use Rattle.c_tree.specs.declared.typed_stmt.TInit as i
use Rattle.c_tree.specs.declared.typed_stmt.TInit.{TInit, Group}
use Rattle.c_tree.specs.TExpr as e
use Rattle.c_tree.specs.TStmt as st
use Rattle.c_tree.specs.declared.typed_stmt.TStmt as d
use Rattle.c_tree.specs.declared.typed_stmt.TStmt.{TStmt}
use Rattle.c_tree.specs.declared.typed_stmt.TBlock.{TBlock}
use Rattle.c_tree.specs.declared.typed_stmt.TSwItem.{TSwItem}
use Rattle.c_tree.specs.declared.typed_stmt.TLocalDecl.{TLocalDecl}
use Rattle.c_tree.specs.TStmt.{locals}
use Rattle.c_tree.specs.TypedOf.{expr_of, args_of, init_of, inits_of, stmt_of, stmts_of, stmts_from, item_of, items_of, items_from, local_decl_of, declr_of, spec_of, mems_of}
use Rattle.c_limit.specs.Parts.{Part, Declares, Evaluates, parts_stmt, parts_stmts, parts_items}
use Rattle.c_type.specs.Types.{Tag, struct}
use Rattle.c_tree.specs.declared.typed_unit.TSpec as g
use Rattle.c_tree.specs.declared.typed_unit.TSpec.{TSpec}
use Rattle.c_tree.specs.declared.typed_unit.TMembers.{TMembers}
use Rattle.c_tree.specs.TUnit as u
use Rattle.c_limit.specs.Names.{Named, of_tag, named_spec, named_mems}
use Rattle.c_limit.specs.Of.{args_from, inits_from, mems_from}

args_are : (n : _) (row : x.TheBlock.Row_of-TExpr n) → args_of row ≡ args_from (x.items-the_row-TExpr n row)
args_are n x.TheBlock.end_of-TExpr = refl
args_are n (x.TheBlock.more_of-TExpr a es) = ap (e.more_args (expr_of a)) (args_are _ es)

abbrev args_in : TExpr → (n : Count) × x.TheBlock.Row_of-TExpr n
args_in (x.TheBlock.Call' _ _ _ _ row) = (_, row)
args_in _ = (_, x.TheBlock.end_of-TExpr)

pub expr_of-Call : (t : CType) (f : Box TExpr Global) (es : Vec TExpr Global) → expr_of (Call t f es) ≡ e.call (type_of t) (expr_of f.value) (args_from es.items)
expr_of-Call t f es =
    let row = args_in (Call t f es) in
    ap (e.call (type_of t) (expr_of f.value)) (args_are row.0 row.1 ∙ ap args_from (x.items_hidden-the_row-TExpr-0 es))

inits_are : (n : _) (row : i.TheBlock.Row_of-TInit n) → inits_of row ≡ inits_from (i.items-the_row-TInit n row)
inits_are n i.TheBlock.end_of-TInit = refl
inits_are n (i.TheBlock.more_of-TInit a es) = ap (st.more_inits (init_of a)) (inits_are _ es)

abbrev inits_in : TInit → (n : Count) × i.TheBlock.Row_of-TInit n
inits_in (i.TheBlock.Group' _ row) = (_, row)
inits_in _ = (_, i.TheBlock.end_of-TInit)

pub init_of-Group : (is : Vec TInit Global) → init_of (Group is) ≡ st.group (inits_from is.items)
init_of-Group is =
    let row = inits_in (Group is) in
    ap st.group (inits_are row.0 row.1 ∙ ap inits_from (i.items_hidden-the_row-TInit-0 is))

stmts_are : (n : _) (row : d.TheBlock.Row_of-TStmt n) → stmts_of row ≡ stmts_from (d.TheBlock.items-the_row-TStmt n row)
stmts_are n d.TheBlock.end_of-TStmt = refl
stmts_are n (d.TheBlock.more_of-TStmt s row) = ap (λ x. st.more_stmts (stmt_of s) x) (stmts_are _ row)

items_are : (n : _) (row : d.TheBlock.Row_of-TSwItem n) → items_of row ≡ items_from (d.TheBlock.items-the_row-TSwItem n row)
items_are n d.TheBlock.end_of-TSwItem = refl
items_are n (d.TheBlock.more_of-TSwItem i row) = ap (item_of i) (items_are _ row)

abbrev items_in : TStmt → (n : Count) × d.TheBlock.Row_of-TSwItem n
items_in (d.TheBlock.Switch' k l e n row) = (_, row)
items_in _ = (_, d.TheBlock.end_of-TSwItem)

abbrev stmts_in : TStmt → (n : Count) × d.TheBlock.Row_of-TStmt n
stmts_in (d.TheBlock.Block' line ds n row close_line) = (_, row)
stmts_in _ = (_, d.TheBlock.end_of-TStmt)

pub stmt_of-Switch : (k l : ℕ) (a : TExpr) (is : Vec TSwItem Global) → stmt_of (d.TheVariants.Switch k l a is) ≡ st.switch k l (expr_of a) (items_from is.items)
stmt_of-Switch k l a is =
    let row = items_in (d.TheVariants.Switch k l a is) in
    ap (st.switch k l (expr_of a)) (items_are row.0 row.1 ∙ ap items_from (d.TheBlock.items_hidden-the_row-TSwItem-0 is))

pub stmt_of-Block : (b : TBlock) → stmt_of (d.TheVariants.Block b) ≡ st.block b.line (map local_decl_of b.locals.items) (stmts_from b.stmts.items) b.close_line
stmt_of-Block b =
    let row = stmts_in (d.TheVariants.Block b) in
    ap (λ x. st.block b.line (map local_decl_of b.locals.items) x b.close_line) (stmts_are row.0 row.1 ∙ ap stmts_from (d.TheBlock.items_hidden-the_row-TStmt-1 b.stmts))

mems_are : (n : _) (row : g.TheBlock.Row_of-TMembers n) → mems_of row ≡ mems_from (g.TheBlock.items-the_row-TMembers n row)
mems_are n g.TheBlock.end_of-TMembers = refl
mems_are n (g.TheBlock.more_of-TMembers s ds ms) = ap (u.more_mems (spec_of s) (map declr_of ds.items)) (mems_are _ ms)

abbrev mems_in : TSpec → (n : Count) × g.TheBlock.Row_of-TMembers n
mems_in (g.TheBlock.Struct' _ _ row) = (_, row)
mems_in _ = (_, g.TheBlock.end_of-TMembers)

pub spec_of-Struct : (k : ℕ) (ms : Vec TMembers Global) → spec_of (g.TheVariants.Struct k ms) ≡ u.struct_body k (mems_from ms.items)
spec_of-Struct k ms =
    let row = mems_in (g.TheVariants.Struct k ms) in
    ap (u.struct_body k) (mems_are row.0 row.1 ∙ ap mems_from (g.TheBlock.items_hidden-the_row-TMembers-0 ms))

-- what a structure adds: its members, then its tag
pub struct_adds : (ts : List Tag) (v : TSpec) (k : ℕ) (ms : Vec TMembers Global) (xs : List TMembers) (x : Named) (a b c : List Named) → v ≡ g.TheVariants.Struct k ms → xs ≡ ms.items
    → b ≡ a ++ named_mems ts (mems_from xs) → x ≡ of_tag ts struct k → c ≡ b ++ x ∷ [] → c ≡ a ++ named_spec ts (spec_of v)
struct_adds ts v k ms xs x a b c at same own tag rest =
    rest ∙ ap (λ y. y ++ x ∷ []) own ∙ append_assoc a (named_mems ts (mems_from xs)) (x ∷ []) ∙ ap (λ y. a ++ (named_mems ts (mems_from y) ++ x ∷ [])) same ∙
    ap (λ y. a ++ (named_mems ts (mems_from ms.items) ++ y ∷ [])) tag ∙ ap (λ y. a ++ named_spec ts y) (sym (ap spec_of at ∙ spec_of-Struct k ms))

-- what a switch adds: its value, then its parts
pub switch_adds : (v : TStmt) (k l : ℕ) (x : TExpr) (is : Vec TSwItem Global) (xs : List TSwItem) (a b c : List Part) → v ≡ d.TheVariants.Switch k l x is → xs ≡ is.items → b ≡ a ++ Evaluates (expr_of x) ∷ [] → c ≡ b ++ parts_items (items_from xs) → c ≡ a ++ parts_stmt (stmt_of v)
switch_adds v k l x is xs a b c at same own rest =
    rest ∙ ap (λ y. y ++ parts_items (items_from xs)) own ∙ append_assoc a (Evaluates (expr_of x) ∷ []) (parts_items (items_from xs)) ∙
    ap (λ y. a ++ (Evaluates (expr_of x) ∷ parts_items (items_from y))) same ∙ ap (λ y. a ++ parts_stmt y) (sym (ap stmt_of at ∙ stmt_of-Switch k l x is))

-- what a block adds: its declarators, then its statements
pub block_adds : (v : TStmt) (y : TBlock) (ds : List TLocalDecl) (ss : List TStmt) (a b c : List Part) → v ≡ d.TheVariants.Block y → ds ≡ y.locals.items → ss ≡ y.stmts.items → b ≡ a ++ map Declares (locals (map local_decl_of ds)) → c ≡ b ++ parts_stmts (stmts_from ss) → c ≡ a ++ parts_stmt (stmt_of v)
block_adds v y ds ss a b c at same same' own rest =
    rest ∙ ap (λ z. z ++ parts_stmts (stmts_from ss)) own ∙
    append_assoc a (map Declares (locals (map local_decl_of ds))) (parts_stmts (stmts_from ss)) ∙
    ap (λ z. a ++ (map Declares (locals (map local_decl_of z)) ++ parts_stmts (stmts_from ss))) same ∙
    ap (λ z. a ++ (map Declares (locals (map local_decl_of y.locals.items)) ++ parts_stmts (stmts_from z))) same' ∙
    ap (λ z. a ++ parts_stmt z) (sym (ap stmt_of at ∙ stmt_of-Block y))
