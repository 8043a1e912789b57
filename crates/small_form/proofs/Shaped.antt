-- The typed trees of the small form are what the code maker takes: parts that need no look at the tokens.
use Rattle.std.proofs.Common.{◌≡◌, ℕ, suc, ◌+◌, List, [], ◌∷◌, ◌++◌, length, map, refl, ap, ◌∙◌, arith, length-append}
use Rattle.std.specs.Prelude.{Option, Some, None, Bool, true, false, option_map}
use Rattle.std.specs.List.{flat_map}
use Rattle.std.proofs.lemmas.List.{length-map}
use Rattle.c_type.specs.Names.{Name, pick}
use Rattle.c_type.specs.Types.{num}
use Rattle.c_type.specs.declared.Kind.TheVariants.{Int}
use Rattle.c_tree.specs.declared.TBinary.{TBinary}
use Rattle.c_tree.specs.declared.TBinary.TheVariants.{Add, Sub}
use Rattle.c_tree.specs.declared.AssignOp.TheVariants as ao
use Rattle.c_tree.specs.declared.BinaryOp.{BinaryOp}
use Rattle.c_tree.specs.declared.BinaryOp.TheVariants as op
use Rattle.c_tree.specs.TreeExpr as u
use Rattle.c_tree.specs.TreeDecl as ud
use Rattle.c_tree.specs.TreeStmt as us
use Rattle.c_tree.specs.TExpr.{Local, Outer, TExpr, name, int, convert, binary, assign, call, no_args, more_args, type_of}
use Rattle.c_tree.specs.TStmt as st
use Rattle.c_tree.specs.TStmt.{TStmt, TStmts, LocalDecl, locals, expr, while_, return_, block, no_stmts, more_stmts}
use Rattle.c_tree.specs.Starts.{Start, starts_local, starts_stmt, starts_stmts}
use Rattle.c_tree.specs.Bodies.{Auto, autos_local, autos_stmt, autos_stmts}
use Rattle.c_run.specs.Mentions.{Mention, in_expr, in_local, in_stmt, in_stmts}
use Rattle.c_tree.specs.TreeDecl.{declared}
use Rattle.gen_small.specs.Small.{IsSmall, IsVariable, IsSum}
use Rattle.gen_small.specs.Forms.{AreThere, IsNumbered}
use Rattle.gen_small.specs.Mains.{AllInt, AllPlain}
use Rattle.name_set.specs.Different.{place_in}
use Rattle.small_form.specs.SmallForm.{variable, number, putchar, sum_of, joined, sum_in, variable_in, is_putchar, argument_in, action_in, at_line, is_line, looped, returned, followed, assigned, called, stmt_in, stmts_in, stmt_starts, stmts_starts, object, locals_in, decls_in, names_in}
use Rattle.small_form.proofs.SmallTrees.{place_below}

pub none_some : {A : Type 0} (x : A) → None ≡ Some x → ⊥
none_some x e = cc

pub some_is : {A : Type 0} (x y : A) → Some x ≡ Some y → x ≡ y
some_is x y e = cc

-- what an option that is mapped to something was
pub mapped : {A B : Type 0} (f : A → B) (o : Option A) (y : B) → option_map f o ≡ Some y → (x : A) × (o ≡ Some x) × (f x ≡ y)
mapped f None y e = absurd (none_some y e)
mapped f (Some x) y e = (x, refl, some_is (f x) y e)

pub picked : {A : Type 0} (b : Bool) (o : Option A) (y : A) → pick b o None ≡ Some y → (b ≡ true) × (o ≡ Some y)
picked true o y e = (refl, e)
picked false o y e = absurd (none_some y e)

-- ---- expressions

-- an int expression over n variables
pub record IsTerm (n : ℕ) (t : TExpr) : Type 0 where
  pub small : IsSmall t
  pub int : type_of t ≡ num Int
  pub there : AreThere n t

pub variable_term : (ns : List Name) (x : Name) (t : TExpr) → variable (place_in ns x) ≡ Some t → IsTerm (length ns) t × IsVariable t
variable_term ns x t = by_place (place_in ns x) refl
  where
    by_place : (o : Option ℕ) → place_in ns x ≡ o → variable o ≡ Some t → IsTerm (length ns) t × IsVariable t
    by_place None is e = absurd (none_some t e)
    by_place (Some i) is e =
        let same = some_is (name (num Int) (Local i)) t e in
        rw (← same) (record { small = refl; int = refl; there = place_below ns x i is }, refl)

pub number_term : (n m : ℕ) (long : Bool) (t : TExpr) → number m long ≡ Some t → IsTerm n t
number_term n m long t e =
    let p = picked _ (Some (int (num Int) m)) t e in
    let same = some_is (int (num Int) m) t p.1 in
    rw (← same) (record { small = refl; int = refl; there = tt })

-- the parts of a sum
pub record IsSumOf (ns : List Name) (o : BinaryOp) (a b : u.Expr) (t : TExpr) : Type 0 where
  pub operator : TBinary
  pub left : TExpr
  pub right : TExpr
  pub operator_is : sum_of o ≡ Some operator
  pub left_is : sum_in ns a ≡ Some left
  pub right_is : sum_in ns b ≡ Some right
  pub whole : binary (num Int) operator left right ≡ t

pub sum_parts : (ns : List Name) (o : BinaryOp) (a b : u.Expr) (t : TExpr) → joined (sum_of o) (sum_in ns a) (sum_in ns b) ≡ Some t → IsSumOf ns o a b t
sum_parts ns o a b t = by_parts (sum_of o) (sum_in ns a) (sum_in ns b) refl refl refl
  where
    by_parts : (x : Option TBinary) (y z : Option TExpr) → sum_of o ≡ x → sum_in ns a ≡ y → sum_in ns b ≡ z → joined x y z ≡ Some t → IsSumOf ns o a b t
    by_parts None y z ex ey ez e = absurd (none_some t e)
    by_parts (Some x) None z ex ey ez e = absurd (none_some t e)
    by_parts (Some x) (Some y) None ex ey ez e = absurd (none_some t e)
    by_parts (Some x) (Some y) (Some z) ex ey ez e =
        record { operator = x; left = y; right = z; operator_is = ex; left_is = ey; right_is = ez; whole = some_is (binary (num Int) x y z) t e }

is_sum_of : (o : BinaryOp) (p : TBinary) → sum_of o ≡ Some p → IsSum p
is_sum_of op.Either p e = absurd (none_some p e)
is_sum_of op.Both p e = absurd (none_some p e)
is_sum_of op.Or p e = absurd (none_some p e)
is_sum_of op.Xor p e = absurd (none_some p e)
is_sum_of op.And p e = absurd (none_some p e)
is_sum_of op.Eq p e = absurd (none_some p e)
is_sum_of op.Ne p e = absurd (none_some p e)
is_sum_of op.Lt p e = absurd (none_some p e)
is_sum_of op.Gt p e = absurd (none_some p e)
is_sum_of op.Le p e = absurd (none_some p e)
is_sum_of op.Ge p e = absurd (none_some p e)
is_sum_of op.Shl p e = absurd (none_some p e)
is_sum_of op.Shr p e = absurd (none_some p e)
is_sum_of op.Add p e = let same = some_is Add p e in rw (← same) tt
is_sum_of op.Sub p e = let same = some_is Sub p e in rw (← same) tt
is_sum_of op.Mul p e = absurd (none_some p e)
is_sum_of op.Div p e = absurd (none_some p e)
is_sum_of op.Rem p e = absurd (none_some p e)

pub sum_term : (ns : List Name) (e : u.Expr) (t : TExpr) → sum_in ns e ≡ Some t → IsTerm (length ns) t
sum_term ns (u.comma l a b) t e = absurd (none_some t e)
sum_term ns (u.assign l o a b) t e = absurd (none_some t e)
sum_term ns (u.choice l a b c) t e = absurd (none_some t e)
sum_term ns (u.binary l o a b) t e =
    let p = sum_parts ns o a b t e in
    let x = sum_term ns a p.left p.left_is in
    let y = sum_term ns b p.right p.right_is in
    rw (← p.whole) (record { small = (is_sum_of o p.operator p.operator_is, x.int, y.int, x.small, y.small); int = refl; there = (x.there, y.there) })
sum_term ns (u.unary l o a) t e = absurd (none_some t e)
sum_term ns (u.size_of l a) t e = absurd (none_some t e)
sum_term ns (u.size_of_type l y) t e = absurd (none_some t e)
sum_term ns (u.cast l y a) t e = absurd (none_some t e)
sum_term ns (u.index l a i) t e = absurd (none_some t e)
sum_term ns (u.call l f es) t e = absurd (none_some t e)
sum_term ns (u.member l a x) t e = absurd (none_some t e)
sum_term ns (u.arrow l a x) t e = absurd (none_some t e)
sum_term ns (u.post l o a) t e = absurd (none_some t e)
sum_term ns (u.name l x) t e = (variable_term ns x t e).0
sum_term ns (u.int l n long) t e = number_term (length ns) n long t e
sum_term ns (u.chr l n) t e = absurd (none_some t e)
sum_term ns (u.text l bs) t e = absurd (none_some t e)

-- ---- what is performed

pub variable_in_term : (ns : List Name) (e : u.Expr) (t : TExpr) → variable_in ns e ≡ Some t → IsTerm (length ns) t × IsVariable t × (sum_in ns e ≡ Some t)
variable_in_term ns (u.comma l a b) t e = absurd (none_some t e)
variable_in_term ns (u.assign l o a b) t e = absurd (none_some t e)
variable_in_term ns (u.choice l a b c) t e = absurd (none_some t e)
variable_in_term ns (u.binary l o a b) t e = absurd (none_some t e)
variable_in_term ns (u.unary l o a) t e = absurd (none_some t e)
variable_in_term ns (u.size_of l a) t e = absurd (none_some t e)
variable_in_term ns (u.size_of_type l y) t e = absurd (none_some t e)
variable_in_term ns (u.cast l y a) t e = absurd (none_some t e)
variable_in_term ns (u.index l a i) t e = absurd (none_some t e)
variable_in_term ns (u.call l f es) t e = absurd (none_some t e)
variable_in_term ns (u.member l a x) t e = absurd (none_some t e)
variable_in_term ns (u.arrow l a x) t e = absurd (none_some t e)
variable_in_term ns (u.post l o a) t e = absurd (none_some t e)
variable_in_term ns (u.name l x) t e = let v = variable_term ns x t e in (v.0, v.1, e)
variable_in_term ns (u.int l n long) t e = absurd (none_some t e)
variable_in_term ns (u.chr l n) t e = absurd (none_some t e)
variable_in_term ns (u.text l bs) t e = absurd (none_some t e)

-- the parts of an assignment
pub record IsAssignmentOf (ns : List Name) (a b : u.Expr) (t : TExpr) : Type 0 where
  pub left : TExpr
  pub right : TExpr
  pub left_is : variable_in ns a ≡ Some left
  pub right_is : sum_in ns b ≡ Some right
  pub whole : assign (num Int) left right ≡ t

pub assignment_parts : (ns : List Name) (a b : u.Expr) (t : TExpr) → assigned (variable_in ns a) (sum_in ns b) ≡ Some t → IsAssignmentOf ns a b t
assignment_parts ns a b t = by_parts (variable_in ns a) (sum_in ns b) refl refl
  where
    by_parts : (y z : Option TExpr) → variable_in ns a ≡ y → sum_in ns b ≡ z → assigned y z ≡ Some t → IsAssignmentOf ns a b t
    by_parts None z ey ez e = absurd (none_some t e)
    by_parts (Some y) None ey ez e = absurd (none_some t e)
    by_parts (Some y) (Some z) ey ez e = record { left = y; right = z; left_is = ey; right_is = ez; whole = some_is (assign (num Int) y z) t e }

-- the parts of a call of putchar
pub record IsCallOf (ns : List Name) (f : u.Expr) (es : u.Exprs) (t : TExpr) : Type 0 where
  pub argument : TExpr
  pub named : is_putchar f ≡ true
  pub argument_is : argument_in ns es ≡ Some argument
  pub whole : call (num Int) putchar (more_args argument no_args) ≡ t

pub call_parts : (ns : List Name) (f : u.Expr) (es : u.Exprs) (t : TExpr) → pick (is_putchar f) (called (argument_in ns es)) None ≡ Some t → IsCallOf ns f es t
call_parts ns f es t e =
    let p = picked (is_putchar f) (called (argument_in ns es)) t e in
    by_argument (argument_in ns es) refl p.0 p.1
  where
    by_argument : (y : Option TExpr) → argument_in ns es ≡ y → is_putchar f ≡ true → called y ≡ Some t → IsCallOf ns f es t
    by_argument None ey named e = absurd (none_some t e)
    by_argument (Some y) ey named e = record { argument = y; named = named; argument_is = ey; whole = some_is (call (num Int) putchar (more_args y no_args)) t e }

pub argument_term : (ns : List Name) (es : u.Exprs) (t : TExpr) → argument_in ns es ≡ Some t → IsTerm (length ns) t
argument_term ns u.no_exprs t e = absurd (none_some t e)
argument_term ns (u.more_exprs a u.no_exprs) t e = sum_term ns a t e
argument_term ns (u.more_exprs a (u.more_exprs b es)) t e = absurd (none_some t e)

-- what a statement performs
pub record IsAction (n : ℕ) (t : TExpr) : Type 0 where
  pub small : IsSmall t
  pub there : AreThere n t

pub action_term : (ns : List Name) (e : u.Expr) (t : TExpr) → action_in ns e ≡ Some t → IsAction (length ns) t
action_term ns (u.comma l a b) t e = absurd (none_some t e)
action_term ns (u.assign l ao.Set a b) t e =
    let p = assignment_parts ns a b t e in
    let x = variable_in_term ns a p.left p.left_is in
    let y = sum_term ns b p.right p.right_is in
    rw (← p.whole) (record { small = (x.1, y.small); there = (x.0.there, y.there) })
action_term ns (u.assign l ao.Add a b) t e = absurd (none_some t e)
action_term ns (u.assign l ao.Sub a b) t e = absurd (none_some t e)
action_term ns (u.assign l ao.Mul a b) t e = absurd (none_some t e)
action_term ns (u.assign l ao.Div a b) t e = absurd (none_some t e)
action_term ns (u.assign l ao.Rem a b) t e = absurd (none_some t e)
action_term ns (u.assign l ao.And a b) t e = absurd (none_some t e)
action_term ns (u.assign l ao.Or a b) t e = absurd (none_some t e)
action_term ns (u.assign l ao.Xor a b) t e = absurd (none_some t e)
action_term ns (u.assign l ao.Shl a b) t e = absurd (none_some t e)
action_term ns (u.assign l ao.Shr a b) t e = absurd (none_some t e)
action_term ns (u.choice l a b c) t e = absurd (none_some t e)
action_term ns (u.binary l o a b) t e = absurd (none_some t e)
action_term ns (u.unary l o a) t e = absurd (none_some t e)
action_term ns (u.size_of l a) t e = absurd (none_some t e)
action_term ns (u.size_of_type l y) t e = absurd (none_some t e)
action_term ns (u.cast l y a) t e = absurd (none_some t e)
action_term ns (u.index l a i) t e = absurd (none_some t e)
action_term ns (u.call l f es) t e =
    let p = call_parts ns f es t e in
    let x = argument_term ns es p.argument p.argument_is in
    rw (← p.whole) (record { small = (refl, x.int, x.small); there = x.there })
action_term ns (u.member l a x) t e = absurd (none_some t e)
action_term ns (u.arrow l a x) t e = absurd (none_some t e)
action_term ns (u.post l o a) t e = absurd (none_some t e)
action_term ns (u.name l x) t e = absurd (none_some t e)
action_term ns (u.int l n long) t e = absurd (none_some t e)
action_term ns (u.chr l n) t e = absurd (none_some t e)
action_term ns (u.text l bs) t e = absurd (none_some t e)

-- ---- what is not said

-- an expression of the form mentions no object of static life
pub small_silent : (t : TExpr) → IsSmall t → in_expr t ≡ []
small_silent (name t (Local i)) small = refl
small_silent (int t n) small = refl
small_silent (convert t a) small = small_silent a small.1
small_silent (binary t o a b) small = rw (small_silent a small.3, small_silent b small.4) refl
small_silent (assign t (name y (Local i)) b) small = small_silent b small.1
small_silent (assign t _ b) small = absurd (small.0)
small_silent (call t (name y (Outer x)) (more_args a no_args)) small = rw (small_silent a small.2) refl
small_silent (call t _ (more_args a no_args)) small = absurd (small.0)
small_silent _ small = absurd small

-- ---- statements

pub numbered_append : (k : ℕ) (xs ys : List Start) → IsNumbered k xs → IsNumbered (k + length xs) ys → IsNumbered k (xs ++ ys)
numbered_append k [] ys p q = let e : k + length {A = Start} [] ≡ k = omega arith in rw e at q
numbered_append k (x ∷ xs) ys p q =
    let e : k + length (x ∷ xs) ≡ suc k + length xs = omega arith in
    (p.0, numbered_append (suc k) xs ys p.1 (rw e at q))

-- its starts are numbered from k on, it has no object of its own, and mentions none of static life
pub record Settled (k n : ℕ) (starts : List Start) (autos : List Auto) (said : List Mention) : Type 0 where
  pub numbered : IsNumbered k starts
  pub count : length starts ≡ n
  pub no_autos : autos ≡ []
  pub silent : said ≡ []

abbrev pub IsSettled : ℕ → ℕ → TStmt → Type 0
IsSettled k n t = Settled k n (starts_stmt t) (autos_stmt t) (in_stmt t)

abbrev pub AreSettled : ℕ → ℕ → TStmts → Type 0
AreSettled k n ts = Settled k n (starts_stmts ts) (autos_stmts ts) (in_stmts ts)

pub record IsLoopOf (ns : List Name) (k l : ℕ) (e : u.Expr) (a : us.Stmt) (t : TStmt) : Type 0 where
  pub test : TExpr
  pub body : TStmt
  pub test_is : sum_in ns e ≡ Some test
  pub body_is : stmt_in ns (k + 1) a ≡ Some body
  pub whole : while_ k l test body ≡ t

pub loop_parts : (ns : List Name) (k l : ℕ) (e : u.Expr) (a : us.Stmt) (t : TStmt) → at_line l (looped k l (sum_in ns e) (stmt_in ns (k + 1) a)) ≡ Some t → IsLoopOf ns k l e a t
loop_parts ns k l e a t q = by_parts (sum_in ns e) (stmt_in ns (k + 1) a) refl refl (picked (is_line l) (looped k l (sum_in ns e) (stmt_in ns (k + 1) a)) t q).1
  where
    by_parts : (x : Option TExpr) (y : Option TStmt) → sum_in ns e ≡ x → stmt_in ns (k + 1) a ≡ y → looped k l x y ≡ Some t → IsLoopOf ns k l e a t
    by_parts None y ex ey q = absurd (none_some t q)
    by_parts (Some x) None ex ey q = absurd (none_some t q)
    by_parts (Some x) (Some y) ex ey q = record { test = x; body = y; test_is = ex; body_is = ey; whole = some_is (while_ k l x y) t q }

pub record IsReturnOf (ns : List Name) (k l : ℕ) (e : u.Expr) (t : TStmt) : Type 0 where
  pub value : TExpr
  pub value_is : sum_in ns e ≡ Some value
  pub whole : return_ k l (Some value) ≡ t

pub return_parts : (ns : List Name) (k l : ℕ) (e : u.Expr) (t : TStmt) → at_line l (returned k l (sum_in ns e)) ≡ Some t → IsReturnOf ns k l e t
return_parts ns k l e t q = by_part (sum_in ns e) refl (picked (is_line l) (returned k l (sum_in ns e)) t q).1
  where
    by_part : (x : Option TExpr) → sum_in ns e ≡ x → returned k l x ≡ Some t → IsReturnOf ns k l e t
    by_part None ex q = absurd (none_some t q)
    by_part (Some x) ex q = record { value = x; value_is = ex; whole = some_is (return_ k l (Some x)) t q }

pub record IsDoneOf (ns : List Name) (k l : ℕ) (e : u.Expr) (t : TStmt) : Type 0 where
  pub action : TExpr
  pub action_is : action_in ns e ≡ Some action
  pub whole : expr k l action ≡ t

pub done_parts : (ns : List Name) (k l : ℕ) (e : u.Expr) (t : TStmt) → at_line l (option_map (expr k l) (action_in ns e)) ≡ Some t → IsDoneOf ns k l e t
done_parts ns k l e t q =
    let m = mapped (expr k l) (action_in ns e) t (picked (is_line l) (option_map (expr k l) (action_in ns e)) t q).1 in
    record { action = m.0; action_is = m.1; whole = m.2 }

pub record AreMoreOf (ns : List Name) (k : ℕ) (a : us.Stmt) (ss : us.Stmts) (ts : TStmts) : Type 0 where
  pub first : TStmt
  pub rest : TStmts
  pub first_is : stmt_in ns k a ≡ Some first
  pub rest_is : stmts_in ns (k + stmt_starts a) ss ≡ Some rest
  pub whole : more_stmts first rest ≡ ts

pub more_parts : (ns : List Name) (k : ℕ) (a : us.Stmt) (ss : us.Stmts) (ts : TStmts) → followed (stmt_in ns k a) (stmts_in ns (k + stmt_starts a) ss) ≡ Some ts → AreMoreOf ns k a ss ts
more_parts ns k a ss ts = by_parts (stmt_in ns k a) (stmts_in ns (k + stmt_starts a) ss) refl refl
  where
    by_parts : (x : Option TStmt) (y : Option TStmts) → stmt_in ns k a ≡ x → stmts_in ns (k + stmt_starts a) ss ≡ y → followed x y ≡ Some ts → AreMoreOf ns k a ss ts
    by_parts None y ex ey q = absurd (none_some ts q)
    by_parts (Some x) None ex ey q = absurd (none_some ts q)
    by_parts (Some x) (Some y) ex ey q = record { first = x; rest = y; first_is = ex; rest_is = ey; whole = some_is (more_stmts x y) ts q }

mutual
  pub settled : (ns : List Name) (k : ℕ) (s : us.Stmt) (t : TStmt) → stmt_in ns k s ≡ Some t → IsSettled k (stmt_starts s) t
  settled ns k (us.expr l e) t q =
      let p = done_parts ns k l e t q in
      rw (← p.whole) (record { numbered = (refl, tt); count = refl; no_autos = refl; silent = small_silent p.action (action_term ns e p.action p.action_is).small })
  settled ns k (us.empty l) t q = absurd (none_some t q)
  settled ns k (us.if_only l e a) t q = absurd (none_some t q)
  settled ns k (us.if_else l e a r) t q = absurd (none_some t q)
  settled ns k (us.while l e a) t q =
      let p = loop_parts ns k l e a t q in
      let r = settled ns (k + 1) a p.body p.body_is in
      let next : k + 1 ≡ suc k = omega arith in
      rw (← p.whole)
      (record {
        numbered = (refl, rw next at r.numbered);
        count = ap suc r.count ∙ omega arith;
        no_autos = r.no_autos;
        silent = rw (small_silent p.test (sum_term ns e p.test p.test_is).small, r.silent) refl;
      })
  settled ns k (us.do_while l a m e) t q = absurd (none_some t q)
  settled ns k (us.for l e1 e2 e3 a) t q = absurd (none_some t q)
  settled ns k (us.switch l e is) t q = absurd (none_some t q)
  settled ns k (us.break l) t q = absurd (none_some t q)
  settled ns k (us.continue l) t q = absurd (none_some t q)
  settled ns k (us.return l (Some e)) t q =
      let p = return_parts ns k l e t q in
      rw (← p.whole) (record { numbered = (refl, tt); count = refl; no_autos = refl; silent = small_silent p.value (sum_term ns e p.value p.value_is).small })
  settled ns k (us.return l None) t q = absurd (none_some t q)
  settled ns k (us.block l [] ss m) t q =
      let p = mapped (λ ts. block l [] ts m) (stmts_in ns k ss) t q in
      let r = all_settled ns k ss p.0 p.1 in
      rw (← p.2) (record { numbered = r.numbered; count = r.count; no_autos = r.no_autos; silent = r.silent })
  settled ns k (us.block l (d ∷ ds) ss m) t q = absurd (none_some t q)

  pub all_settled : (ns : List Name) (k : ℕ) (ss : us.Stmts) (ts : TStmts) → stmts_in ns k ss ≡ Some ts → AreSettled k (stmts_starts ss) ts
  all_settled ns k us.no_stmts ts q = rw (← some_is no_stmts ts q) (record { numbered = tt; count = refl; no_autos = refl; silent = refl })
  all_settled ns k (us.more_stmts a ss) ts q =
      let p = more_parts ns k a ss ts q in
      let x = settled ns k a p.first p.first_is in
      let y = all_settled ns (k + stmt_starts a) ss p.rest p.rest_is in
      rw (← p.whole)
      (record {
        numbered = numbered_append k (starts_stmt p.first) (starts_stmts p.rest) x.numbered (rw (x.count) y.numbered);
        count = length-append (starts_stmt p.first) (starts_stmts p.rest) ∙ omega (arith, x.count, y.count);
        no_autos = rw (x.no_autos, y.no_autos) refl;
        silent = rw (x.silent, y.silent) refl;
      })

-- ---- declarations

pub locals_count : (i : ℕ) (xs : List ud.Item) → length (locals_in i xs) ≡ length xs
locals_count i [] = refl
locals_count i (x ∷ xs) = ap suc (locals_count (i + 1) xs)

-- objects of type int without initialiser
pub record ArePlain (xs : List st.Local) (n : ℕ) : Type 0 where
  pub ints : AllInt (flat_map autos_local xs)
  pub count : length (flat_map autos_local xs) ≡ n
  pub plain : AllPlain xs
  pub no_starts : flat_map starts_local xs ≡ []
  pub silent : flat_map in_local xs ≡ []

plain_none : ArePlain [] 0
plain_none = record { ints = tt; count = refl; plain = tt; no_starts = refl; silent = refl }

plain_more : (x : ud.Declr) (i n : ℕ) (xs : List st.Local) → ArePlain xs n → ArePlain (object x i ∷ xs) (suc n)
plain_more x i n xs p = record { ints = (refl, p.ints); count = ap suc p.count; plain = p.plain; no_starts = p.no_starts; silent = p.silent }

plain_locals : (i n : ℕ) (xs : List ud.Item) (rest : List st.Local) → ArePlain rest n → ArePlain (locals_in i xs ++ rest) (length xs + n)
plain_locals i n [] rest p = let e : length {A = ud.Item} [] + n ≡ n = omega arith in rw e p
plain_locals i n (x ∷ xs) rest p =
    let e : length (x ∷ xs) + n ≡ suc (length xs + n) = omega arith in
    rw e (plain_more x.declr i (length xs + n) (locals_in (i + 1) xs ++ rest) (plain_locals (i + 1) n xs rest p))

pub plain_decls : (i : ℕ) (ds : List ud.LocalDecl) → ArePlain (locals (decls_in i ds)) (length (names_in ds))
plain_decls i [] = plain_none
plain_decls i (d ∷ ds) =
    let e : length (names_in (d ∷ ds)) ≡ length d.items + length (names_in ds) =
    length-append (map (λ x. declared x.declr) d.items) (names_in ds) ∙ ap (λ n. n + length (names_in ds)) (length-map d.items (λ x. declared x.declr)) in
    rw e (plain_locals i (length (names_in ds)) d.items (locals (decls_in (i + length d.items) ds)) (plain_decls (i + length d.items) ds))
