-- What is known of the parts of a statement of the small form, and of its code.
use Rattle.std.proofs.Common.{◌≡◌, ℕ, suc, ◌+◌, ◌*◌, ◌<◌, List, [], ◌∷◌, ◌++◌, Option, refl, sym, ap, ◌∙◌, subst, Box, Global, append_assoc, map, arith}
use mathlib.Core.Former.{Count}
use Rattle.c_tree.specs.declared.TExpr.{TExpr}
use Rattle.c_tree.specs.declared.TBlock.{TBlock}
use Rattle.c_tree.specs.declared.TStmt.{TStmt}
use Rattle.c_tree.specs.declared.TStmt.TheVariants as tree
use Rattle.c_tree.specs.declared.TStmt.TheBlock as row
use Rattle.c_tree.specs.TStmt as s
use Rattle.c_tree.specs.TypedOf.{expr_of, option_of, stmt_of, stmts_of, stmts_from, local_decl_of}
use Rattle.gen_small.specs.declared.code_list.IntFrame.{IntFrame}
use Rattle.gen_small.specs.Items.{Close, Top, Item, Start, Label, Goto}
use Rattle.gen_small.specs.Code.{Site, expr_code, value_code, tested, again, stmt_code, stmts_code}
use Rattle.gen_small.specs.Forms.{IsFormStmt, IsFormStmts}
use Rattle.gen_small.specs.Listed.{int_site}
use Rattle.gen_small.proofs.IntSites.{site_fun}

-- the nodes of statements
abbrev mutual
  pub stmt_nodes : s.TStmt → ℕ
  stmt_nodes (s.while_ k l e body) = suc (stmt_nodes body)
  stmt_nodes (s.block line ds ss close_line) = suc (stmts_nodes ss)
  stmt_nodes _ = 1

  pub stmts_nodes : s.TStmts → ℕ
  stmts_nodes s.no_stmts = 0
  stmts_nodes (s.more_stmts x ss) = suc (stmt_nodes x + stmts_nodes ss)

-- the statements of a block are the row of its tree
stmts_row : (n : _) (ss : row.Row_of-TStmt n) → stmts_of ss ≡ stmts_from (row.items-the_row-TStmt n ss)
stmts_row n row.end_of-TStmt = refl
stmts_row n (row.more_of-TStmt x ss) = ap (λ z. s.more_stmts (stmt_of x) z) (stmts_row _ ss)

abbrev stmts_in : TStmt → (n : Count) × row.Row_of-TStmt n
stmts_in (row.Block' line ds n ss close_line) = (_, ss)
stmts_in _ = (_, row.end_of-TStmt)

pub block_is : (b : TBlock) → stmt_of (tree.Block b) ≡ s.block b.line (map local_decl_of b.locals.items) (stmts_from b.stmts.items) b.close_line
block_is b =
    let ss = stmts_in (tree.Block b) in
    ap (λ z. s.block b.line (map local_decl_of b.locals.items) z b.close_line) (stmts_row ss.0 ss.1 ∙ ap stmts_from (row.items_hidden-the_row-TStmt-1 b.stmts))

block_parts : (x : TStmt) (b : TBlock) (xs : List TStmt) → x ≡ tree.Block b → xs ≡ b.stmts.items → stmt_of x ≡ s.block b.line (map local_decl_of b.locals.items) (stmts_from xs) b.close_line
block_parts x b xs is items = ap stmt_of is ∙ block_is b ∙ ap (λ z. s.block b.line (map local_decl_of b.locals.items) (stmts_from z) b.close_line) (sym items)

pub block_form : (n : ℕ) (x : TStmt) (b : TBlock) (xs : List TStmt) → x ≡ tree.Block b → xs ≡ b.stmts.items → IsFormStmt n (stmt_of x) → IsFormStmts n (stmts_from xs)
block_form n x b xs is items form = inner (map local_decl_of b.locals.items) (subst (IsFormStmt n) (block_parts x b xs is items) form)
  where
    inner : (ds : List s.LocalDecl) → IsFormStmt n (s.block b.line ds (stmts_from xs) b.close_line) → IsFormStmts n (stmts_from xs)
    inner [] h = h
    inner (d ∷ ds) h = absurd h

pub block_fewer : (x : TStmt) (b : TBlock) (xs : List TStmt) → x ≡ tree.Block b → xs ≡ b.stmts.items → 2 * stmts_nodes (stmts_from xs) < 2 * stmt_nodes (stmt_of x)
block_fewer x b xs is items = let e : stmt_nodes (stmt_of x) ≡ suc (stmts_nodes (stmts_from xs)) = ap stmt_nodes (block_parts x b xs is items) in omega arith

pub block_code : (t : Site) (x : TStmt) (b : TBlock) (xs : List TStmt) (old : List Item) → x ≡ tree.Block b → xs ≡ b.stmts.items → old ++ stmts_code t (stmts_from xs) ≡ old ++ stmt_code t (stmt_of x)
block_code t x b xs old is items = ap (λ z. old ++ stmt_code t z) (sym (block_parts x b xs is items))

-- the code of a loop before its body
abbrev pub loop_code : IntFrame → ℕ → TExpr → List Item
loop_code f k e = Label (Top f.fun k) ∷ Start k ∷ (expr_code (int_site f) (expr_of e) 0 ++ tested f.fun k)

whole_loop : (old body : List Item) (f : IntFrame) (k : ℕ) (e : TExpr) → ((old ++ loop_code f k e) ++ body) ++ again f.fun k ≡ old ++ (Label (Top f.fun k) ∷ Start k ∷ (expr_code (int_site f) (expr_of e) 0 ++ (tested f.fun k ++ (body ++ again f.fun k))))
whole_loop old body f k e = simp append_assoc

pub while_added : (f f1 f2 : IntFrame) (x : TStmt) (k l : ℕ) (e : TExpr) (b : Box TStmt Global) (b' : TStmt) (old one two : List Item) → f1 ≡ f → f2 ≡ f → x ≡ tree.While k l e b → b' ≡ b.value → one ≡ old ++ loop_code f k e → two ≡ one ++ stmt_code (int_site f1) (stmt_of b') → two ++ again f2.fun k ≡ old ++ stmt_code (int_site f) (stmt_of x)
while_added f f1 f2 x k l e b b' old one two k1 k2 is at e1 e2 =
    let body : List Item = stmt_code (int_site f) (stmt_of b.value) in
    let two_is : two ≡ (old ++ loop_code f k e) ++ body = e2 ∙ ap (λ z. one ++ stmt_code (int_site z) (stmt_of b')) k1 ∙ ap (λ z. one ++ stmt_code (int_site f) (stmt_of z)) at ∙ ap (λ z. z ++ body) e1 in
    ap (λ (z : IntFrame). two ++ again z.fun k) k2 ∙ ap (λ z. z ++ again f.fun k) two_is ∙ whole_loop old body f k e
    ∙ ap (λ n. old ++ (Label (Top n k) ∷ Start k ∷ (expr_code (int_site f) (expr_of e) 0 ++ (tested n k ++ (body ++ again n k))))) (sym (site_fun f))
    ∙ ap (λ z. old ++ stmt_code (int_site f) (stmt_of z)) (sym is)

pub return_added : (f : IntFrame) (x : TStmt) (k l : ℕ) (o : Option TExpr) (old : List Item) → x ≡ tree.Return k l o → old ++ (Start k ∷ (value_code (int_site f) (option_of o) ++ (Goto (Close f.fun) ∷ []))) ≡ old ++ stmt_code (int_site f) (stmt_of x)
return_added f x k l o old is =
    ap (λ n. old ++ (Start k ∷ (value_code (int_site f) (option_of o) ++ (Goto (Close n) ∷ [])))) (sym (site_fun f))
    ∙ ap (λ z. old ++ stmt_code (int_site f) (stmt_of z)) (sym is)
