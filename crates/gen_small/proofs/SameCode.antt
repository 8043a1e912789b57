-- The code of statements of the small form is that of any function with the same number, and as many objects of type int.
use Rattle.std.proofs.Common.{◌≡◌, ℕ, suc, ◌+◌, ◌*◌, ◌<◌, List, [], ◌∷◌, ◌++◌, length, refl, sym, ap, ◌∙◌, subst, arith, append_assoc, append-nil}
use Rattle.std.specs.Prelude.{Some}
use Rattle.std.specs.List.{flat_map}
use Rattle.c_type.specs.Names.{pick}
use Rattle.isa386.specs.declared.Opnd.TheVariants.{Reg}
use Rattle.isa386.specs.declared.Way.TheVariants.{ToOperand, ToRegister}
use Rattle.isa386.specs.declared.Ins.TheVariants.{Move}
use Rattle.c_tree.specs.TExpr.{Local, TExpr, name, int, convert, binary, assign, call, no_args, more_args}
use Rattle.c_tree.specs.TStmt.{TStmt, TStmts, expr, while_, return_, block, no_stmts, more_stmts, locals}
use Rattle.c_tree.specs.TUnit.{Func}
use Rattle.c_tree.specs.Bodies.{autos_local, autos_stmt, autos_stmts, autos}
use Rattle.c_run.specs.Context.{Linked}
use Rattle.gen_small.specs.declared.code_list.IntFrame.{IntFrame}
use Rattle.gen_small.specs.Items.{Close, Top, Item, Start, Open, Op, Label, Goto}
use Rattle.gen_small.specs.Code.{Site, inside, below, locals_size, local_depth, temp_depth, load_from, store_to, operator, kept, joined, put_code, target_of, is_putchar, expr_code, tested, again, stmt_code, stmts_code, zero_code, entered, closed, func_code}
use Rattle.gen_small.specs.Small.{IsVariable, IsSmall}
use Rattle.gen_small.specs.Mains.{AllInt}
use Rattle.gen_small.specs.Forms.{AreThere, IsFormStmt, IsFormStmts}
use Rattle.gen_small.specs.Whole.{IsFormMain}
use Rattle.gen_small.specs.Listed.{int_site}
use Rattle.gen_small.proofs.Entering.{rounded_ints, rounded_take}
use Rattle.gen_small.proofs.IntSites.{site_ints, site_count, site_fun}

-- a function with n automatic objects, each of type int
record HasInts (n : ℕ) (t : Site) : Type 0 where
  ints : AllInt (autos t.body.func)
  count : length (autos t.body.func) ≡ n

depth_is : (n : ℕ) (t : Site) → HasInts n t → (i : ℕ) → i < n → local_depth t i ≡ 4 * suc i
depth_is n t h i lt = rounded_take (inside t) (autos t.body.func) i h.ints (let e = h.count in omega arith)

size_is : (n : ℕ) (t : Site) → HasInts n t → locals_size t ≡ 4 * n
size_is n t h = rounded_ints (inside t) (autos t.body.func) h.ints ∙ ap (λ k. 4 * k) h.count

module _ (n : ℕ) (t u : Site) (h : HasInts n t) (g : HasInts n u) (fun : t.fun ≡ u.fun) where
  same_depth : (i : ℕ) → i < n → below (local_depth t i) ≡ below (local_depth u i)
  same_depth i lt = ap below (depth_is n t h i lt ∙ sym (depth_is n u g i lt))

  same_temp : (d : ℕ) → below (temp_depth t d) ≡ below (temp_depth u d)
  same_temp d = ap (λ z. below (z + 4 * suc d)) (size_is n t h ∙ sym (size_is n u g))

  same_load : (e : TExpr) → IsVariable e → AreThere n e → load_from (target_of t e) ≡ load_from (target_of u e)
  same_load (name ty (Local i)) v there = ap (λ o. Op (Move ToRegister 0 o) ∷ []) (same_depth i there)
  same_load _ v there = absurd v

  same_store : (e : TExpr) → IsVariable e → AreThere n e → store_to (target_of t e) ≡ store_to (target_of u e)
  same_store (name ty (Local i)) v there = ap (λ o. Op (Move ToOperand 0 o) ∷ []) (same_depth i there)
  same_store _ v there = absurd v

  same_expr : (e : TExpr) → IsSmall e → AreThere n e → (d : ℕ) → expr_code t e d ≡ expr_code u e d
  same_expr (name ty (Local i)) small there d = same_load (name ty (Local i)) small there
  same_expr (int ty k) small there d = refl
  same_expr (convert ty e) small there d = same_expr e small.1 there d
  same_expr (binary ty op a b) small there d =
      ap (λ as_. as_ ++ (kept t d ∷ (expr_code t b (suc d) ++ joined t d op))) (same_expr a small.3 there.0 d)
      ∙ ap (λ o. expr_code u a d ++ (Op (Move ToOperand 0 o) ∷ (expr_code t b (suc d) ++ (Op (Move ToOperand 0 (Reg 1)) ∷ Op (Move ToRegister 0 o) ∷ operator op)))) (same_temp d)
      ∙ ap (λ bs. expr_code u a d ++ (kept u d ∷ (bs ++ joined u d op))) (same_expr b small.4 there.1 (suc d))
  same_expr (assign ty a b) small there d =
      ap (λ bs. bs ++ store_to (target_of t a)) (same_expr b small.1 there.1 d) ∙ ap (λ xs. expr_code u b d ++ xs) (same_store a small.0 there.0)
  same_expr (call ty f (more_args e no_args)) small there d = ap (λ xs. pick (is_putchar f) (xs ++ put_code) []) (same_expr e small.2 there d)
  same_expr _ small there d = absurd small

  mutual
    same_stmt : (s : TStmt) → IsFormStmt n s → stmt_code t s ≡ stmt_code u s
    same_stmt (expr k l e) form = ap (λ xs. Start k ∷ xs) (same_expr e form.small form.there 0)
    same_stmt (while_ k l e s) form =
        ap (λ xs. Label (Top t.fun k) ∷ Start k ∷ (xs ++ (tested t.fun k ++ (stmt_code t s ++ again t.fun k)))) (same_expr e form.0.small form.0.there 0)
        ∙ ap (λ xs. Label (Top t.fun k) ∷ Start k ∷ (expr_code u e 0 ++ (tested t.fun k ++ (xs ++ again t.fun k)))) (same_stmt s form.1)
        ∙ ap (λ f. Label (Top f k) ∷ Start k ∷ (expr_code u e 0 ++ (tested f k ++ (stmt_code u s ++ again f k)))) fun
    same_stmt (return_ k l (Some e)) form =
        ap (λ xs. Start k ∷ (xs ++ (Goto (Close t.fun) ∷ []))) (same_expr e form.small form.there 0) ∙ ap (λ f. Start k ∷ (expr_code u e 0 ++ (Goto (Close f) ∷ []))) fun
    same_stmt (block line [] ss close_line) form = same_stmts ss form
    same_stmt _ form = absurd form

    same_stmts : (ss : TStmts) → IsFormStmts n ss → stmts_code t ss ≡ stmts_code u ss
    same_stmts no_stmts form = refl
    same_stmts (more_stmts s ss) form = ap (λ xs. xs ++ stmts_code t ss) (same_stmt s form.0) ∙ ap (λ xs. stmt_code u s ++ xs) (same_stmts ss form.1)

-- statements of the form declare nothing
mutual
  no_objects : (n : ℕ) (s : TStmt) → IsFormStmt n s → autos_stmt s ≡ []
  no_objects n (expr k l e) form = refl
  no_objects n (while_ k l e s) form = no_objects n s form.1
  no_objects n (return_ k l (Some e)) form = refl
  no_objects n (block line [] ss close_line) form = none_objects n ss form
  no_objects n _ form = absurd form

  none_objects : (n : ℕ) (ss : TStmts) → IsFormStmts n ss → autos_stmts ss ≡ []
  none_objects n no_stmts form = refl
  none_objects n (more_stmts s ss) form = ap (λ xs. xs ++ autos_stmts ss) (no_objects n s form.0) ∙ none_objects n ss form.1

-- so a function's objects are those of its own declarations
pub objects_are : (g : Func) → IsFormMain g → length (flat_map autos_local (locals g.locals)) ≡ length (autos g)
objects_are g is = ap length (sym (append-nil (flat_map autos_local (locals g.locals))) ∙ ap (λ xs. flat_map autos_local (locals g.locals) ++ xs) (sym (none_objects (length (autos g)) g.stmts is.small)))

-- the begin of a function's code, by its frame
abbrev pub entry_code : IntFrame → List Item
entry_code f = entered f.fun (4 * f.objects + 256)

pub func_is : (f : IntFrame) (w : Linked) (unit : ℕ) (g : Func) → IsFormMain g → f.objects ≡ length (autos g) → entry_code f ++ (zero_code (4 * f.objects) (4 * f.objects) ++ (Open g.open_ ∷ (stmts_code (int_site f) g.stmts ++ closed f.fun g.close))) ≡ func_code (record { whole = w; fun = f.fun; body = record { unit = unit; func = g } })
func_is f w unit g is count =
    let t : Site = record { whole = w; fun = f.fun; body = record { unit = unit; func = g } } in
    let h : HasInts f.objects t = record { ints = is.ints; count = sym count } in
    let same : stmts_code (int_site f) g.stmts ≡ stmts_code t g.stmts = same_stmts f.objects (int_site f) t (record { ints = site_ints f; count = site_count f }) h (site_fun f) g.stmts (subst (λ n. IsFormStmts n g.stmts) (sym count) is.small) in
    let size : 4 * f.objects ≡ locals_size t = sym (size_is f.objects t h) in
    ap (λ xs. entry_code f ++ (zero_code (4 * f.objects) (4 * f.objects) ++ (Open g.open_ ∷ (xs ++ closed f.fun g.close)))) same
    ∙ ap (λ n. entered f.fun (n + 256) ++ (zero_code n n ++ (Open g.open_ ∷ (stmts_code t g.stmts ++ closed f.fun g.close)))) size

nested : (old a b c d e : List Item) → ((((old ++ a) ++ b) ++ c) ++ d) ++ e ≡ old ++ (a ++ (b ++ (c ++ (d ++ e))))
nested old a b c d e = simp append_assoc

pub func_added : (f f1 f3 f4 : IntFrame) (w : Linked) (unit : ℕ) (g : Func) (is : IsFormMain g) (count : f.objects ≡ length (autos g)) (ss : TStmts) (old one two three four : List Item) → ss ≡ g.stmts → f1 ≡ f → f3 ≡ f → f4 ≡ f → one ≡ old ++ entry_code f → two ≡ one ++ zero_code (4 * f1.objects) (4 * f1.objects) → three ≡ two ++ Open g.open_ ∷ [] → four ≡ three ++ stmts_code (int_site f3) ss → four ++ closed f4.fun g.close ≡ old ++ func_code (record { whole = w; fun = f.fun; body = record { unit = unit; func = g } })
func_added f f1 f3 f4 w unit g is count ss old one two three four same k1 k3 k4 e1 e2 e3 e4 =
    let zeros : List Item = zero_code (4 * f.objects) (4 * f.objects) in
    let body : List Item = stmts_code (int_site f) g.stmts in
    let two_is : two ≡ (old ++ entry_code f) ++ zeros = e2 ∙ ap (λ (z : IntFrame). one ++ zero_code (4 * z.objects) (4 * z.objects)) k1 ∙ ap (λ z. z ++ zeros) e1 in
    let four_is : four ≡ (((old ++ entry_code f) ++ zeros) ++ Open g.open_ ∷ []) ++ body =
    e4 ∙ ap (λ z. three ++ stmts_code (int_site z) ss) k3 ∙ ap (λ z. three ++ stmts_code (int_site f) z) same ∙ ap (λ z. z ++ body) (e3 ∙ ap (λ z. z ++ Open g.open_ ∷ []) two_is) in
    ap (λ (z : IntFrame). four ++ closed z.fun g.close) k4 ∙ ap (λ z. z ++ closed f.fun g.close) four_is
    ∙ nested old (entry_code f) zeros (Open g.open_ ∷ []) body (closed f.fun g.close)
    ∙ ap (λ z. old ++ z) (func_is f w unit g is count)
