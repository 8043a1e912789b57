-- What is said in the trees that hold a vector of trees, from the lists of their parts.
use Rattle.std.proofs.Common.{◌≡◌, ℕ, List, ◌++◌, refl, sym, ap, map, ◌∙◌, Vec, Box, Global}
use Rattle.std.proofs.lemmas.List.{append_assoc}
use Rattle.std.specs.List.{flat_map}
use mathlib.Core.Former.{Count}
use Rattle.c_type.specs.declared.CType.{CType}
use Rattle.c_type.specs.Of.{type_of}
use Rattle.c_tree.specs.declared.typed_expr.TExpr as x
use Rattle.c_tree.specs.declared.typed_expr.TExpr.{TExpr, Call}
use Rattle.c_tree.specs.declared.typed_stmt.TInit as i
use Rattle.c_tree.specs.declared.typed_stmt.TInit.{TInit, Group}
use Rattle.c_tree.specs.TExpr as e
use Rattle.c_tree.specs.TStmt as st
use Rattle.c_tree.specs.declared.typed_stmt.TStmt as d
use Rattle.c_tree.specs.declared.typed_stmt.TStmt.{TStmt}
use Rattle.c_tree.specs.declared.typed_stmt.TBlock.{TBlock}
use Rattle.c_tree.specs.declared.typed_stmt.TSwItem.{TSwItem}
use Rattle.c_tree.specs.declared.typed_stmt.TLocalDecl.{TLocalDecl}
use Rattle.c_tree.specs.declared.typed_unit.TSpec as g
use Rattle.c_tree.specs.declared.typed_unit.TSpec.{TSpec}
use Rattle.c_tree.specs.declared.typed_unit.TMembers.{TMembers}
use Rattle.c_tree.specs.TStmt.{locals}
use Rattle.c_tree.specs.TUnit as u
use Rattle.c_tree.specs.TypedOf.{expr_of, args_of, init_of, inits_of, stmt_of, stmts_of, stmts_from, item_of, items_of, items_from, local_decl_of, declr_of, spec_of, mems_of}
use Rattle.c_join.specs.JoinSaid.{Event, in_expr, in_args, of_call, in_init, in_inits, in_local, in_stmt, in_stmts, in_items, in_spec, in_mems}
use Rattle.c_whole.specs.Events.{args_from, inits_from, mems_from}

args_are : (n : _) (row : x.TheBlock.Row_of-TExpr n) → args_of row ≡ args_from (x.items-the_row-TExpr n row)
args_are n x.TheBlock.end_of-TExpr = refl
args_are n (x.TheBlock.more_of-TExpr a es) = ap (e.more_args (expr_of a)) (args_are _ es)

abbrev args_in : TExpr → (n : Count) × x.TheBlock.Row_of-TExpr n
args_in (x.TheBlock.Call' _ _ _ _ row) = (_, row)
args_in _ = (_, x.TheBlock.end_of-TExpr)

pub expr_of-Call : (t : CType) (f : Box TExpr Global) (es : Vec TExpr Global) → expr_of (Call t f es) ≡ e.call (type_of t) (expr_of f.value) (args_from es.items)
expr_of-Call t f es =
    let row = args_in (Call t f es) in
    ap (e.call (type_of t) (expr_of f.value)) (args_are row.0 row.1 ∙ ap args_from (x.items_hidden-the_row-TExpr-0 es))

inits_are : (n : _) (row : i.TheBlock.Row_of-TInit n) → inits_of row ≡ inits_from (i.items-the_row-TInit n row)
inits_are n i.TheBlock.end_of-TInit = refl
inits_are n (i.TheBlock.more_of-TInit a es) = ap (st.more_inits (init_of a)) (inits_are _ es)

abbrev inits_in : TInit → (n : Count) × i.TheBlock.Row_of-TInit n
inits_in (i.TheBlock.Group' _ row) = (_, row)
inits_in _ = (_, i.TheBlock.end_of-TInit)

pub init_of-Group : (is : Vec TInit Global) → init_of (Group is) ≡ st.group (inits_from is.items)
init_of-Group is =
    let row = inits_in (Group is) in
    ap st.group (inits_are row.0 row.1 ∙ ap inits_from (i.items_hidden-the_row-TInit-0 is))

stmts_are : (n : _) (row : d.TheBlock.Row_of-TStmt n) → stmts_of row ≡ stmts_from (d.TheBlock.items-the_row-TStmt n row)
stmts_are n d.TheBlock.end_of-TStmt = refl
stmts_are n (d.TheBlock.more_of-TStmt s row) = ap (λ x. st.more_stmts (stmt_of s) x) (stmts_are _ row)

items_are : (n : _) (row : d.TheBlock.Row_of-TSwItem n) → items_of row ≡ items_from (d.TheBlock.items-the_row-TSwItem n row)
items_are n d.TheBlock.end_of-TSwItem = refl
items_are n (d.TheBlock.more_of-TSwItem i row) = ap (item_of i) (items_are _ row)

abbrev items_in : TStmt → (n : Count) × d.TheBlock.Row_of-TSwItem n
items_in (d.TheBlock.Switch' k l e n row) = (_, row)
items_in _ = (_, d.TheBlock.end_of-TSwItem)

abbrev stmts_in : TStmt → (n : Count) × d.TheBlock.Row_of-TStmt n
stmts_in (d.TheBlock.Block' line ds n row close_line) = (_, row)
stmts_in _ = (_, d.TheBlock.end_of-TStmt)

pub stmt_of-Switch : (k l : ℕ) (a : TExpr) (is : Vec TSwItem Global) → stmt_of (d.TheVariants.Switch k l a is) ≡ st.switch k l (expr_of a) (items_from is.items)
stmt_of-Switch k l a is =
    let row = items_in (d.TheVariants.Switch k l a is) in
    ap (st.switch k l (expr_of a)) (items_are row.0 row.1 ∙ ap items_from (d.TheBlock.items_hidden-the_row-TSwItem-0 is))

pub stmt_of-Block : (b : TBlock) → stmt_of (d.TheVariants.Block b) ≡ st.block b.line (map local_decl_of b.locals.items) (stmts_from b.stmts.items) b.close_line
stmt_of-Block b =
    let row = stmts_in (d.TheVariants.Block b) in
    ap (λ x. st.block b.line (map local_decl_of b.locals.items) x b.close_line) (stmts_are row.0 row.1 ∙ ap stmts_from (d.TheBlock.items_hidden-the_row-TStmt-1 b.stmts))

mems_are : (n : _) (row : g.TheBlock.Row_of-TMembers n) → mems_of row ≡ mems_from (g.TheBlock.items-the_row-TMembers n row)
mems_are n g.TheBlock.end_of-TMembers = refl
mems_are n (g.TheBlock.more_of-TMembers s ds ms) = ap (u.more_mems (spec_of s) (map declr_of ds.items)) (mems_are _ ms)

abbrev mems_in : TSpec → (n : Count) × g.TheBlock.Row_of-TMembers n
mems_in (g.TheBlock.Struct' _ _ row) = (_, row)
mems_in _ = (_, g.TheBlock.end_of-TMembers)

pub spec_of-Struct : (k : ℕ) (ms : Vec TMembers Global) → spec_of (g.TheVariants.Struct k ms) ≡ u.struct_body k (mems_from ms.items)
spec_of-Struct k ms =
    let row = mems_in (g.TheVariants.Struct k ms) in
    ap (u.struct_body k) (mems_are row.0 row.1 ∙ ap mems_from (g.TheBlock.items_hidden-the_row-TMembers-0 ms))

-- what a call adds: what the called expression says, the call itself, what the arguments say
pub call_adds : (v : TExpr) (t : CType) (f : Box TExpr Global) (es : Vec TExpr Global) (g h : TExpr) (as_ bs : List TExpr) (a b c d : List Event) → v ≡ Call t f es → g ≡ f.value → h ≡ f.value → as_ ≡ es.items → bs ≡ es.items → b ≡ a ++ in_expr (expr_of g) → c ≡ b ++ of_call (expr_of h) (args_from as_) → d ≡ c ++ in_args (args_from bs) → d ≡ a ++ in_expr (expr_of v)
call_adds v t f es g h as_ bs a b c d at first second third fourth own call rest =
    let whole : expr_of v ≡ e.call (type_of t) (expr_of f.value) (args_from es.items) = ap expr_of at ∙ expr_of-Call t f es in
    let one : b ≡ a ++ in_expr (expr_of f.value) = own ∙ ap (λ y. a ++ in_expr (expr_of y)) first in
    let two : c ≡ b ++ of_call (expr_of f.value) (args_from es.items) = call ∙ ap (λ y. b ++ of_call (expr_of y) (args_from as_)) second ∙ ap (λ y. b ++ of_call (expr_of f.value) (args_from y)) third in
    let three : d ≡ c ++ in_args (args_from es.items) = rest ∙ ap (λ y. c ++ in_args (args_from y)) fourth in
    three ∙ ap (λ y. y ++ in_args (args_from es.items)) two ∙ append_assoc b (of_call (expr_of f.value) (args_from es.items)) (in_args (args_from es.items)) ∙
    ap (λ y. y ++ (of_call (expr_of f.value) (args_from es.items) ++ in_args (args_from es.items))) one ∙
    append_assoc a (in_expr (expr_of f.value)) (of_call (expr_of f.value) (args_from es.items) ++ in_args (args_from es.items)) ∙
    ap (λ y. a ++ in_expr y) (sym whole)

-- what a list of initialisers adds
pub group_adds : (v : TInit) (is : Vec TInit Global) (xs : List TInit) (a d : List Event) → v ≡ Group is → xs ≡ is.items → d ≡ a ++ in_inits (inits_from xs) → d ≡ a ++ in_init (init_of v)
group_adds v is xs a d at same rest = rest ∙ ap (λ y. a ++ in_inits (inits_from y)) same ∙ ap (λ y. a ++ in_init y) (sym (ap init_of at ∙ init_of-Group is))

-- what a switch adds: its value, then its parts
pub switch_adds : (v : TStmt) (k l : ℕ) (x : TExpr) (is : Vec TSwItem Global) (xs : List TSwItem) (a b c : List Event) → v ≡ d.TheVariants.Switch k l x is → xs ≡ is.items → b ≡ a ++ in_expr (expr_of x) → c ≡ b ++ in_items (items_from xs) → c ≡ a ++ in_stmt (stmt_of v)
switch_adds v k l x is xs a b c at same own rest =
    rest ∙ ap (λ y. y ++ in_items (items_from xs)) own ∙ append_assoc a (in_expr (expr_of x)) (in_items (items_from xs)) ∙
    ap (λ y. a ++ (in_expr (expr_of x) ++ in_items (items_from y))) same ∙ ap (λ y. a ++ in_stmt y) (sym (ap stmt_of at ∙ stmt_of-Switch k l x is))

-- what a block adds: its declarators, then its statements
pub block_adds : (v : TStmt) (x : TBlock) (ds : List TLocalDecl) (ss : List TStmt) (a b c : List Event) → v ≡ d.TheVariants.Block x → ds ≡ x.locals.items → ss ≡ x.stmts.items → b ≡ a ++ flat_map in_local (locals (map local_decl_of ds)) → c ≡ b ++ in_stmts (stmts_from ss) → c ≡ a ++ in_stmt (stmt_of v)
block_adds v x ds ss a b c at same same' own rest =
    rest ∙ ap (λ y. y ++ in_stmts (stmts_from ss)) own ∙ append_assoc a (flat_map in_local (locals (map local_decl_of ds))) (in_stmts (stmts_from ss)) ∙
    ap (λ y. a ++ (flat_map in_local (locals (map local_decl_of y)) ++ in_stmts (stmts_from ss))) same ∙
    ap (λ y. a ++ (flat_map in_local (locals (map local_decl_of x.locals.items)) ++ in_stmts (stmts_from y))) same' ∙
    ap (λ y. a ++ in_stmt y) (sym (ap stmt_of at ∙ stmt_of-Block x))

-- what the body of a structure adds
pub body_adds : (v : TSpec) (k : ℕ) (ms : Vec TMembers Global) (xs : List TMembers) (a c : List Event) → v ≡ g.TheVariants.Struct k ms → xs ≡ ms.items → c ≡ a ++ in_mems (mems_from xs) → c ≡ a ++ in_spec (spec_of v)
body_adds v k ms xs a c at same rest = rest ∙ ap (λ y. a ++ in_mems (mems_from y)) same ∙ ap (λ y. a ++ in_spec y) (sym (ap spec_of at ∙ spec_of-Struct k ms))
