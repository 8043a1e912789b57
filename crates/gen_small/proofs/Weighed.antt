-- The instructions that the small form's code executes, and its bytes, by the weight of its trees.
use Rattle.std.proofs.Common.{◌≡◌, ℕ, zero, suc, ◌+◌, ◌*◌, ◌≤◌, List, [], ◌∷◌, ◌++◌, Bool, true, false, length, refl, ap, ◌∙◌, arith}
use Rattle.std.specs.Prelude.{Some}
use Rattle.c_type.specs.Names.{pick}
use Rattle.isa386.specs.declared.Opnd.TheVariants.{Reg}
use Rattle.isa386.specs.declared.Way.TheVariants.{ToOperand, ToRegister}
use Rattle.isa386.specs.declared.Ins.TheVariants.{Move}
use Rattle.c_tree.specs.TExpr.{Local, Outer, TExpr, name, int, convert, binary, assign, call, no_args, more_args}
use Rattle.c_tree.specs.TStmt.{TStmt, TStmts, expr, while_, return_, block, no_stmts, more_stmts}
use Rattle.c_tree.specs.declared.TBinary.{TBinary}
use Rattle.c_tree.specs.declared.TBinary.TheVariants.{Add, Sub}
use Rattle.c_tree.specs.Bodies.{BodyAt, autos}
use Rattle.c_run.specs.Context.{Linked}
use Rattle.gen_small.specs.Items.{Close, Item, Open, Op, Goto}
use Rattle.gen_small.specs.Emitted.{width, end_of}
use Rattle.gen_small.specs.Code.{Site, below, temp_depth, load_from, store_to, operator, put_code, target_of, is_putchar, expr_code, tested, again, stmt_code, stmts_code, zero_code, closed, locals_size}
use Rattle.gen_small.specs.Small.{IsSum, IsVariable, IsPutchar, IsSmall, cost}
use Rattle.gen_small.specs.Flows.{IsSmallStmt, IsSmallStmts}
use Rattle.gen_small.specs.Forms.{IsFormStmt, IsFormStmts, weight, stmt_weight, stmts_weight}
use Rattle.gen_small.specs.Whole.{whole_code, IsFormMain}

cost_weighed : (e : TExpr) → IsSmall e → cost e ≤ 10 * weight e
cost_weighed (name t (Local i)) small = omega arith
cost_weighed (int t n) small = omega arith
cost_weighed (convert t e) small = cost_weighed e small.1
cost_weighed (binary t op a b) small =
    let ca = cost_weighed a small.3 in
    let cb = cost_weighed b small.4 in
    omega arith
cost_weighed (assign t a b) small = let c = cost_weighed b small.1 in omega arith
cost_weighed (call t f (more_args e no_args)) small = let c = cost_weighed e small.2 in omega arith
cost_weighed _ small = absurd small

mutual
  form_small : (n most : ℕ) (s : TStmt) → IsFormStmt n s → 10 * stmt_weight s + 5 ≤ most → IsSmallStmt most s
  form_small n most (expr k l e) form le = let c = cost_weighed e form.small in record { small = form.small; few = form.few; soon = omega arith }
  form_small n most (while_ k l e s) form le =
      let c = cost_weighed e form.0.small in
      (record { small = form.0.small; few = form.0.few; soon = omega arith }, form_small n most s form.1 (omega arith))
  form_small n most (return_ k l (Some e)) form le = let c = cost_weighed e form.small in record { small = form.small; few = form.few; soon = omega arith }
  form_small n most (block line [] ss close_line) form le = forms_small n most ss form le
  form_small n most _ form le = absurd form

  pub forms_small : (n most : ℕ) (ss : TStmts) → IsFormStmts n ss → 10 * stmts_weight ss + 5 ≤ most → IsSmallStmts most ss
  forms_small n most no_stmts form le = tt
  forms_small n most (more_stmts s ss) form le = (form_small n most s form.0 (omega arith), forms_small n most ss form.1 (omega arith))

-- the bytes of items
abbrev pub size : List Item → ℕ
size [] = 0
size (x ∷ xs) = width x + size xs

pub end_is : (a : ℕ) (xs : List Item) → end_of a xs ≡ a + size xs
end_is a [] = omega arith
end_is a (x ∷ xs) = end_is (a + width x) xs ∙ omega arith

size_append : (xs ys : List Item) → size (xs ++ ys) ≡ size xs + size ys
size_append [] ys = omega arith
size_append (x ∷ xs) ys = ap (λ z. width x + z) (size_append xs ys) ∙ omega arith

load_size : (t : Site) (e : TExpr) → IsVariable e → size (load_from (target_of t e)) ≡ 6
load_size t (name ty (Local i)) v = refl
load_size t _ v = absurd v

store_size : (t : Site) (e : TExpr) → IsVariable e → size (store_to (target_of t e)) ≡ 6
store_size t (name ty (Local i)) v = refl
store_size t _ v = absurd v

operator_size : (op : TBinary) → IsSum op → size (operator op) ≡ 2
operator_size Add sum = refl
operator_size Sub sum = refl
operator_size _ sum = absurd sum

pick_size : (b : Bool) (xs : List Item) → size (pick b xs []) ≤ size xs
pick_size true xs = omega arith
pick_size false xs = omega arith

putchar_weight : (f : TExpr) → IsPutchar f → weight f ≡ 1
putchar_weight (name t (Outer x)) is = refl
putchar_weight _ is = absurd is

-- two operands with what stands between and behind them
around_size : (as_ bs cs : List Item) (x y z : Item) → size (as_ ++ (x ∷ (bs ++ (y ∷ z ∷ cs)))) ≡ size as_ + (width x + (size bs + (width y + (width z + size cs))))
around_size as_ bs cs x y z = size_append as_ (x ∷ (bs ++ (y ∷ z ∷ cs))) ∙ ap (λ n. size as_ + (width x + n)) (size_append bs (y ∷ z ∷ cs))

expr_size : (t : Site) (e : TExpr) → IsSmall e → (d : ℕ) → size (expr_code t e d) ≤ 24 * weight e
expr_size t (name ty (Local i)) small d = let e = load_size t (name ty (Local i)) small in omega arith
expr_size t (int ty n) small d = omega arith
expr_size t (convert ty e) small d = expr_size t e small.1 d
expr_size t (binary ty op a b) small d =
    let sa = expr_size t a small.3 d in
    let sb = expr_size t b small.4 (suc d) in
    let o = operator_size op small.0 in
    let sizes = around_size (expr_code t a d) (expr_code t b (suc d)) (operator op) (Op (Move ToOperand 0 (below (temp_depth t d)))) (Op (Move ToOperand 0 (Reg 1))) (Op (Move ToRegister 0 (below (temp_depth t d)))) in
    omega arith
expr_size t (assign ty a b) small d =
    let sb = expr_size t b small.1 d in
    let s = store_size t a small.0 in
    omega (arith, size_append (expr_code t b d) (store_to (target_of t a)))
expr_size t (call ty f (more_args e no_args)) small d =
    let s = expr_size t e small.2 d in
    let p = pick_size (is_putchar f) (expr_code t e d ++ put_code) in
    let f_is = putchar_weight f small.0 in
    omega (arith, size_append (expr_code t e d) put_code)
expr_size t _ small d = absurd small

mutual
  stmt_size : (t : Site) (n : ℕ) (s : TStmt) → IsFormStmt n s → size (stmt_code t s) ≤ 24 * stmt_weight s
  stmt_size t n (expr k l e) form = let s = expr_size t e form.small 0 in omega arith
  stmt_size t n (while_ k l e body) form =
      let s = expr_size t e form.0.small 0 in
      let r = stmt_size t n body form.1 in
      let outer = size_append (expr_code t e 0) (tested t.fun k ++ (stmt_code t body ++ again t.fun k)) in
      let inner = size_append (stmt_code t body) (again t.fun k) in
      omega arith
  stmt_size t n (return_ k l (Some e)) form =
      let s = expr_size t e form.small 0 in
      let outer = size_append (expr_code t e 0) (Goto (Close t.fun) ∷ []) in
      omega arith
  stmt_size t n (block line [] ss close_line) form = stmts_size t n ss form
  stmt_size t n _ form = absurd form

  stmts_size : (t : Site) (n : ℕ) (ss : TStmts) → IsFormStmts n ss → size (stmts_code t ss) ≤ 24 * stmts_weight ss
  stmts_size t n no_stmts form = omega arith
  stmts_size t n (more_stmts s ss) form =
      let a = stmt_size t n s form.0 in
      let b = stmts_size t n ss form.1 in
      let both = size_append (stmt_code t s) (stmts_code t ss) in
      omega arith

zero_size : (q n : ℕ) → size (zero_code q n) ≤ 18
zero_size q zero = omega arith
zero_size q (suc n) = omega arith

module _ (w : Linked) (f : ℕ) (b : BodyAt) (is : IsFormMain b.func) where
  abbrev site : Site
  site = record { whole = w; fun = f; body = b }

  -- the bytes of a whole program of the form
  pub whole_size : size (whole_code w f b) ≤ 64 + 24 * stmts_weight b.func.stmts
  whole_size =
      let s = stmts_size site (length (autos b.func)) b.func.stmts is.small in
      let z = zero_size (locals_size site) (locals_size site) in
      let outer = size_append (zero_code (locals_size site) (locals_size site)) (Open b.func.open_ ∷ (stmts_code site b.func.stmts ++ closed f b.func.close)) in
      let inner = size_append (stmts_code site b.func.stmts) (closed f b.func.close) in
      omega arith
