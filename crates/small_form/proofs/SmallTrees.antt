-- The typed trees of the small form, part by part.
use Rattle.std.proofs.Common.{◌≡◌, ℕ, ◌+◌, ◌<◌, ◌≤◌, List, [], ◌∷◌, ◌++◌, get_or, zero, suc, length, drop, map, Vec, Box, Global, refl, sym, ap, ◌∙◌, arith}
use Rattle.std.specs.Prelude.{Option, Some, None, option_map, Bool, true, false, ◌&&◌, Result, Err}
use Rattle.std.specs.List.{list_all}
use Rattle.std.proofs.lemmas.List.{drop_all}
use Rattle.std.proofs.lemmas.List.Quantifiers.{position-Some}
use Rattle.std.proofs.Math.Bool.{and_comm}
use mathlib.Core.Former.{Count}
use Rattle.c_type.specs.Names.{Name, same_name, pick}
use Rattle.c_type.specs.declared.CType.{CType}
use Rattle.c_type.specs.Of.{type_of}
use Rattle.c_type.specs.Types.{num}
use Rattle.c_type.specs.declared.Kind.TheVariants.{Int}
use Rattle.c_tree.specs.declared.TExpr as x
use Rattle.c_tree.specs.declared.TExpr.{TExpr}
use Rattle.c_tree.specs.declared.TStmt as d
use Rattle.c_tree.specs.declared.TStmt.{TStmt}
use Rattle.c_tree.specs.declared.TBlock.{TBlock}
use Rattle.c_tree.specs.declared.Expr.{Expr}
use Rattle.c_tree.specs.declared.Stmt.{Stmt}
use Rattle.c_tree.specs.declared.Stmt.TheVariants as v
use Rattle.c_tree.specs.declared.Block.{Block}
use Rattle.c_tree.specs.declared.Expr.TheVariants as ve
use Rattle.c_tree.proofs.Of.{expr_of-Call, stmt_of-Block}
use Rattle.small_form.specs.Given.{Gives, Refuses}
use Rattle.small_form.specs.declared.typed_main.Fault.{Fault}
use Rattle.small_form.specs.declared.typed_main.Fault.TheVariants.{Unbuilt, Memory}
use Rattle.c_tree.specs.TExpr as e
use Rattle.c_tree.specs.TStmt as t
use Rattle.c_tree.specs.TreeStmt as us
use Rattle.c_tree.specs.TreeStmt.{stmt_depth, stmts_depth, block_depth}
use Rattle.c_tree.specs.TreeOf as u
use Rattle.c_tree.specs.TypedOf as o
use Rattle.name_set.specs.Different.{place_in}
use Rattle.small_form.specs.SmallForm.{argument_in, is_putchar, putchar, called, put_in, action_in, as_stmt, stmt_in, stmts_in, followed, stmt_starts}

-- the place of a name is a place of the list
pub place_below : (ns : List Name) (x : Name) (i : ℕ) → place_in ns x ≡ Some i → i < length ns
place_below ns x i e = (position-Some (λ y. same_name y x) ns i [] e).0

pub all_mapped : {A B : Type 0} (f : B → Bool) (g : A → B) (xs : List A) → list_all f (map g xs) ≡ list_all (λ x. f (g x)) xs
all_mapped f g [] = refl
all_mapped f g (x ∷ xs) = ap (λ b. f (g x) && b) (all_mapped f g xs)

-- ---- a call with one argument

args_from : List TExpr → e.TArgs
args_from [] = e.no_args
args_from (a ∷ as_) = e.more_args (o.expr_of a) (args_from as_)

args_row : (n : _) (row : x.TheBlock.Row_of-TExpr n) → o.args_of row ≡ args_from (x.TheBlock.items-the_row-TExpr n row)
unfolding args_from
args_row n x.TheBlock.end_of-TExpr = refl
args_row n (x.TheBlock.more_of-TExpr a row) = ap (e.more_args (o.expr_of a)) (args_row _ row)

abbrev args_in : TExpr → (n : Count) × x.TheBlock.Row_of-TExpr n
args_in (x.TheBlock.Call' t p f n row) = (_, row)
args_in _ = (_, x.TheBlock.end_of-TExpr)

pub call_is : (ty : CType) (f : Box TExpr Global) (a : TExpr) (as_ : Vec TExpr Global) → as_.items ≡ [] ++ a ∷ [] → o.expr_of (x.TheVariants.Call ty f as_) ≡ e.call (type_of ty) (o.expr_of f.value) (e.more_args (o.expr_of a) e.no_args)
unfolding args_from
call_is ty f a as_ one =
    let row = args_in (x.TheVariants.Call ty f as_) in
    ap (e.call (type_of ty) (o.expr_of f.value)) (args_row row.0 row.1 ∙ ap args_from (x.TheBlock.items_hidden-the_row-TExpr-0 as_ ∙ one))

pub call_typed : (ty : CType) (f : Box TExpr Global) (a : TExpr) (as_ : Vec TExpr Global) (g : TExpr) → type_of ty ≡ num Int → o.expr_of f.value ≡ o.expr_of g → Some putchar ≡ Some (o.expr_of g)
    → as_.items ≡ [] ++ a ∷ [] → called (Some (o.expr_of a)) ≡ Some (o.expr_of (x.TheVariants.Call ty f as_))
call_typed ty f a as_ g int same is one =
    let function : putchar ≡ o.expr_of g = cc in
    ap Some (ap (λ z. e.call (num Int) z (e.more_args (o.expr_of a) e.no_args)) (function ∙ sym same) ∙ ap (λ z. e.call z (o.expr_of f.value) (e.more_args (o.expr_of a) e.no_args)) (sym int) ∙ sym (call_is ty f a as_ one))

-- no argument, or more than one
pub no_argument : (ns : List Name) (es : List Expr) → (length es ≡ 1 → ⊥) → argument_in ns (u.exprs_from es) ≡ None
no_argument ns [] other = refl
no_argument ns (a ∷ []) other = absurd (other refl)
no_argument ns (a ∷ b ∷ es) other = refl

pub action_call : (ns : List Name) (e : Expr) (l : ℕ) (f : Box Expr Global) (es : Vec Expr Global) (g : Expr) (xs : List Expr)
    → e ≡ ve.Call l f es → g ≡ f.value → xs ≡ es.items → action_in ns (u.expr_of e) ≡ put_in ns (u.expr_of g) (u.exprs_from xs)
action_call ns e l f es g xs is at same =
    ap (λ z. action_in ns (u.expr_of z)) is ∙ ap (action_in ns) (expr_of-Call l f es)
    ∙ ap (λ z. put_in ns (u.expr_of z) (u.exprs_from es.items)) (sym at) ∙ ap (λ z. put_in ns (u.expr_of g) (u.exprs_from z)) (sym same)

-- what is refused inside is refused
pub handed_on : {X Y Z : Type 0} (view : X → Z) (r : Result X Fault) (e : Fault) (inner : Option Y) (whole : Option Z) → (y : Fault) × (r ≡ Err y) × (y ≡ e)
    → (inner ≡ None → whole ≡ None) → Refuses e inner → Gives view r whole
handed_on view r Unbuilt inner whole is none refused = rw (is.1, is.2) (none refused)
handed_on view r Memory inner whole is none refused = rw (is.1, is.2) tt

-- ---- statements

-- typed statements in front of others
abbrev pub in_front : List TStmt → t.TStmts → t.TStmts
in_front [] ts = ts
in_front (a ∷ as_) ts = t.more_stmts (o.stmt_of a) (in_front as_ ts)

abbrev pub with_front : List TStmt → Option t.TStmts → Option t.TStmts
with_front xs given = option_map (in_front xs) given

front_push : (xs : List TStmt) (a : TStmt) (ts : t.TStmts) → in_front (xs ++ a ∷ []) ts ≡ in_front xs (t.more_stmts (o.stmt_of a) ts)
front_push [] a ts = refl
front_push (x ∷ xs) a ts = ap (t.more_stmts (o.stmt_of x)) (front_push xs a ts)

front_all : (xs : List TStmt) → in_front xs t.no_stmts ≡ o.stmts_from xs
front_all [] = refl
front_all (x ∷ xs) = ap (t.more_stmts (o.stmt_of x)) (front_all xs)

pub front_none : (given : Option t.TStmts) → with_front [] given ≡ given
front_none None = refl
front_none (Some ts) = refl

pub front_more : (xs : List TStmt) (a : TStmt) (given : Option t.TStmts) → with_front (xs ++ a ∷ []) given ≡ with_front xs (followed (Some (o.stmt_of a)) given)
front_more xs a None = refl
front_more xs a (Some ts) = ap Some (front_push xs a ts)

-- one statement more
pub typed_more : (ns : List Name) (k j : ℕ) (xs : List TStmt) (a : TStmt) (y : Stmt) (ys : List Stmt) → stmt_in ns k (u.stmt_of y) ≡ Some (o.stmt_of a) → j ≡ k + stmt_starts (u.stmt_of y)
    → with_front (xs ++ a ∷ []) (stmts_in ns j (u.stmts_from ys)) ≡ with_front xs (stmts_in ns k (u.stmts_from (y ∷ ys)))
typed_more ns k j xs a y ys typed next =
    front_more xs a (stmts_in ns j (u.stmts_from ys)) ∙ ap (λ i. with_front xs (followed (Some (o.stmt_of a)) (stmts_in ns i (u.stmts_from ys)))) next
    ∙ ap (λ g. with_front xs (followed g (stmts_in ns (k + stmt_starts (u.stmt_of y)) (u.stmts_from ys)))) (sym typed)

pub typed_none : (ns : List Name) (k : ℕ) (xs : List TStmt) (y : Stmt) (ys : List Stmt) → stmt_in ns k (u.stmt_of y) ≡ None → with_front xs (stmts_in ns k (u.stmts_from (y ∷ ys))) ≡ None
typed_none ns k xs y ys none = ap (λ g. with_front xs (followed g (stmts_in ns (k + stmt_starts (u.stmt_of y)) (u.stmts_from ys)))) none

pub typed_all : (xs : List TStmt) → with_front xs (Some t.no_stmts) ≡ Some (o.stmts_from xs)
typed_all xs = ap Some (front_all xs)

pub typed_done : (ns : List Name) (k n : ℕ) (xs : List TStmt) (ys : List Stmt) → length ys ≤ n → with_front xs (stmts_in ns k (u.stmts_from (drop n ys))) ≡ Some (o.stmts_from xs)
typed_done ns k n xs ys past = ap (λ l. with_front xs (stmts_in ns k (u.stmts_from l))) (drop_all n ys past) ∙ typed_all xs

-- ---- blocks

stmts_row : (n : _) (row : d.TheBlock.Row_of-TStmt n) → o.stmts_of row ≡ o.stmts_from (d.TheBlock.items-the_row-TStmt n row)
stmts_row n d.TheBlock.end_of-TStmt = refl
stmts_row n (d.TheBlock.more_of-TStmt s row) = ap (λ z. t.more_stmts (o.stmt_of s) z) (stmts_row _ row)

abbrev rows_in : TStmt → (n : Count) × d.TheBlock.Row_of-TStmt n
rows_in (d.TheBlock.Block' line ds n row close_line) = (_, row)
rows_in _ = (_, d.TheBlock.end_of-TStmt)

pub block_is : (b : TBlock) → o.stmt_of (d.TheVariants.Block b) ≡ t.block b.line (map o.local_decl_of b.locals.items) (o.stmts_from b.stmts.items) b.close_line
block_is b =
    let row = rows_in (d.TheVariants.Block b) in
    ap (λ z. t.block b.line (map o.local_decl_of b.locals.items) z b.close_line) (stmts_row row.0 row.1 ∙ ap o.stmts_from (d.TheBlock.items_hidden-the_row-TStmt-1 b.stmts))

no_decls : {A B : Type 0} (f : A → B) (xs : List A) → length xs ≡ 0 → map f xs ≡ []
no_decls f [] none = refl
no_decls f (x ∷ xs) none = absurd (omega arith)

-- a statement that is a block
pub stmt_block : (s : Stmt) (b : Block) → s ≡ v.Block b → u.stmt_of s ≡ as_stmt (u.block_of b)
stmt_block s b is = ap u.stmt_of is ∙ stmt_of-Block b

-- a block without declarations
pub block_in : (ns : List Name) (k : ℕ) (b : Block) (xs : List Stmt) → xs ≡ b.stmts.items → length b.decls.items ≡ 0
    → stmt_in ns k (as_stmt (u.block_of b)) ≡ option_map (λ ts. t.block b.line [] ts b.close_line) (stmts_in ns k (u.stmts_from xs))
block_in ns k b xs same none =
    ap (λ ds. stmt_in ns k (us.block b.line ds (u.stmts_from b.stmts.items) b.close_line)) (no_decls u.local_of b.decls.items none)
    ∙ ap (λ z. option_map (λ ts. t.block b.line [] ts b.close_line) (stmts_in ns k (u.stmts_from z))) (sym same)

pub block_none : (ns : List Name) (k : ℕ) (b : Block) (xs : List Stmt) → xs ≡ b.stmts.items → length b.decls.items ≡ 0
    → stmts_in ns k (u.stmts_from xs) ≡ None → stmt_in ns k (as_stmt (u.block_of b)) ≡ None
block_none ns k b xs same none nothing = block_in ns k b xs same none ∙ ap (option_map (λ ts. t.block b.line [] ts b.close_line)) nothing

pub block_some : (ns : List Name) (k : ℕ) (b : Block) (xs : List Stmt) (y : TBlock) → xs ≡ b.stmts.items → length b.decls.items ≡ 0
    → stmts_in ns k (u.stmts_from xs) ≡ Some (o.stmts_from y.stmts.items) → y.line ≡ b.line → y.close_line ≡ b.close_line → y.locals.items ≡ []
    → stmt_in ns k (as_stmt (u.block_of b)) ≡ Some (o.stmt_of (d.TheVariants.Block y))
block_some ns k b xs y same none typed line close empty =
    block_in ns k b xs same none ∙ ap (option_map (λ ts. t.block b.line [] ts b.close_line)) typed
    ∙ ap Some (rw (block_is y, empty, line, close) refl)

-- ---- depths

pub depth_at : (xs : List Stmt) (k : ℕ) (y : Stmt) → k < length xs → y ≡ get_or xs k y → stmt_depth (u.stmt_of y) ≤ stmts_depth (u.stmts_from xs)
depth_at [] k y within is = absurd (omega arith)
depth_at (x ∷ xs) zero y within is = let same = ap (λ z. stmt_depth (u.stmt_of z)) is in omega arith
depth_at (x ∷ xs) (suc k) y within is = let below = depth_at xs k y (omega arith) is in omega arith

pub depth_of : (s : Stmt) (b : Block) → s ≡ v.Block b → stmt_depth (u.stmt_of s) ≡ block_depth (u.block_of b)
depth_of s b is = ap stmt_depth (stmt_block s b is)

-- ---- bodies

-- a condition that is asked later
pub and_later : (a b c d e : Bool) → ((a && b && c && e) && d) ≡ (a && b && c && (d && e))
and_later true true true d e = and_comm e d
and_later true true false d e = refl
and_later true false c d e = refl
and_later false b c d e = refl
