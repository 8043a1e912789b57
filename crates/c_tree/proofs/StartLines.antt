-- A list of parts of the code is the row of its tree.
use Rattle.std.proofs.Common.{◌≡◌, ℕ, List, [], ◌∷◌, ◌++◌, refl, sym, ap, ◌∙◌, Vec, Global, map}
use Rattle.std.proofs.lemmas.List.{map-append, append_assoc}
use Rattle.std.specs.List.{flat_map}
use mathlib.Core.Former.{Count}
use Rattle.c_tree.specs.declared.typed_expr.TExpr.{TExpr}
use Rattle.c_tree.specs.declared.typed_stmt.TLocalDecl.{TLocalDecl}
use Rattle.c_tree.specs.declared.typed_stmt.TStmt as d
use Rattle.c_tree.specs.declared.typed_stmt.TStmt.{TStmt}
use Rattle.c_tree.specs.declared.typed_stmt.TBlock.{TBlock}
use Rattle.c_tree.specs.declared.typed_stmt.TSwItem.{TSwItem}
use Rattle.c_tree.specs.TStmt.{switch, block, more_stmts, locals}
use Rattle.c_tree.specs.Starts.{lines, starts_local, starts_stmt, starts_stmts, starts_items}
use Rattle.c_tree.specs.TypedOf.{expr_of, stmt_of, stmts_of, stmts_from, item_of, items_of, items_from, local_decl_of}

stmts_row : (n : _) (row : d.TheBlock.Row_of-TStmt n) → stmts_of row ≡ stmts_from (d.TheBlock.items-the_row-TStmt n row)
stmts_row n d.TheBlock.end_of-TStmt = refl
stmts_row n (d.TheBlock.more_of-TStmt s row) = ap (λ x. more_stmts (stmt_of s) x) (stmts_row _ row)

items_row : (n : _) (row : d.TheBlock.Row_of-TSwItem n) → items_of row ≡ items_from (d.TheBlock.items-the_row-TSwItem n row)
items_row n d.TheBlock.end_of-TSwItem = refl
items_row n (d.TheBlock.more_of-TSwItem i row) = ap (item_of i) (items_row _ row)

abbrev items_in : TStmt → (n : Count) × d.TheBlock.Row_of-TSwItem n
items_in (d.TheBlock.Switch' k l e n row) = (_, row)
items_in _ = (_, d.TheBlock.end_of-TSwItem)

abbrev stmts_in : TStmt → (n : Count) × d.TheBlock.Row_of-TStmt n
stmts_in (d.TheBlock.Block' line ds n row close_line) = (_, row)
stmts_in _ = (_, d.TheBlock.end_of-TStmt)

switch_is : (k l : ℕ) (e : TExpr) (is : Vec TSwItem Global) → stmt_of (d.TheVariants.Switch k l e is) ≡ switch k l (expr_of e) (items_from is.items)
switch_is k l e is =
    let row = items_in (d.TheVariants.Switch k l e is) in
    ap (switch k l (expr_of e)) (items_row row.0 row.1 ∙ ap items_from (d.TheBlock.items_hidden-the_row-TSwItem-0 is))

block_is : (b : TBlock) → stmt_of (d.TheVariants.Block b) ≡ block b.line (map local_decl_of b.locals.items) (stmts_from b.stmts.items) b.close_line
block_is b =
    let row = stmts_in (d.TheVariants.Block b) in
    ap (λ x. block b.line (map local_decl_of b.locals.items) x b.close_line) (stmts_row row.0 row.1 ∙ ap stmts_from (d.TheBlock.items_hidden-the_row-TStmt-1 b.stmts))

-- what a switch adds: its own line, then its parts
pub switch_adds : (s : TStmt) (k l : ℕ) (e : TExpr) (is : Vec TSwItem Global) (xs : List TSwItem) (a b c : List ℕ) → s ≡ d.TheVariants.Switch k l e is → xs ≡ is.items → b ≡ a ++ l ∷ [] → c ≡ b ++ lines (starts_items (items_from xs)) → c ≡ a ++ lines (starts_stmt (stmt_of s))
switch_adds s k l e is xs a b c at same own rest =
    rest ∙ ap (λ x. x ++ lines (starts_items (items_from xs))) own ∙ append_assoc a (l ∷ []) (lines (starts_items (items_from xs))) ∙
    ap (λ y. a ++ (l ∷ lines (starts_items (items_from y)))) same ∙ ap (λ x. a ++ lines (starts_stmt x)) (sym (ap stmt_of at ∙ switch_is k l e is))

-- what a block adds: its declarators, then its statements
pub block_adds : (s : TStmt) (x : TBlock) (ds : List TLocalDecl) (ss : List TStmt) (a b c : List ℕ) → s ≡ d.TheVariants.Block x → ds ≡ x.locals.items → ss ≡ x.stmts.items → b ≡ a ++ lines (flat_map starts_local (locals (map local_decl_of ds))) → c ≡ b ++ lines (starts_stmts (stmts_from ss)) → c ≡ a ++ lines (starts_stmt (stmt_of s))
block_adds s x ds ss a b c at same same' own rest =
    rest ∙ ap (λ y. y ++ lines (starts_stmts (stmts_from ss))) own ∙
    append_assoc a (lines (flat_map starts_local (locals (map local_decl_of ds)))) (lines (starts_stmts (stmts_from ss))) ∙
    ap (λ y. a ++ (lines (flat_map starts_local (locals (map local_decl_of y))) ++ lines (starts_stmts (stmts_from ss)))) same ∙
    ap (λ y. a ++ (lines (flat_map starts_local (locals (map local_decl_of x.locals.items))) ++ lines (starts_stmts (stmts_from y)))) same' ∙
    ap (λ y. a ++ y) (sym (map-append (λ s. s.line) (flat_map starts_local (locals (map local_decl_of x.locals.items))) (starts_stmts (stmts_from x.stmts.items)))) ∙
    ap (λ y. a ++ lines (starts_stmt y)) (sym (ap stmt_of at ∙ block_is x))
