-- The number of a rule that fails is one of 1 to 24.
use Rattle.std.proofs.Common.{◌≡◌, ℕ, ◌≤◌, ◌⊎◌, suc, List, [], ◌∷◌, Option, Some, None, Bool, true, false, refl, sym, subst, inl, inr, arith}
use Rattle.c_type.specs.Names.{Name, pick, at_or}
use Rattle.c_type.specs.declared.TagKind.{TagKind}
use Rattle.c_type.specs.Sizes.{no_tag}
use Rattle.c_type.specs.Types.{CType, num, void, ptr, arr, struct, union, enum, fun}
use Rattle.c_tree.specs.declared.decl.Storage.TheVariants as sg
use Rattle.c_tree.specs.declared.expr.AssignOp.TheVariants as ao
use Rattle.c_tree.specs.declared.expr.BinaryOp.TheVariants as bo
use Rattle.c_tree.specs.declared.expr.UnaryOp.TheVariants as uo
use Rattle.c_tree.specs.TreeDecl as ud
use Rattle.c_tree.specs.declared.decl.Storage.{Storage}
use Rattle.c_tree.specs.TreeStmt as us
use Rattle.c_tree.specs.TreeStmt.{Block}
use Rattle.c_tree.specs.TreeUnit as uu
use Rattle.c_tree.specs.TreeExpr as u
use Rattle.c_tree.specs.TreeExpr.{Expr, Exprs, TypeName, TypeSpec, tag, comma, assign, choice, binary, unary, size_of, size_of_type, cast, index, call, member, arrow, post, name, int, chr, text, no_exprs, more_exprs}
use Rattle.c_tree.specs.declared.expr.AssignOp.{AssignOp}
use Rattle.c_tree.specs.declared.expr.BinaryOp.{BinaryOp}
use Rattle.c_tree.specs.declared.expr.UnaryOp.{UnaryOp}
use Rattle.c_tree.specs.TExpr as e
use Rattle.c_tree.specs.declared.typed_expr.TStep.TheVariants as tst
use Rattle.c_tree.specs.declared.typed_expr.TBinary.TheVariants as tb
use Rattle.c_tree.specs.declared.typed_expr.TUnary.TheVariants as tu
use Rattle.c_tree.specs.TExpr.{TExpr, type_of}
use Rattle.c_tree.specs.declared.typed_expr.TUnary.{TUnary}
use Rattle.c_tree.specs.declared.typed_expr.TBinary.{TBinary}
use Rattle.c_tree.specs.declared.typed_expr.TStep.{TStep}
use Rattle.c_tree.specs.TStmt.{Declr}
use Rattle.c_rule.specs.Laws.{FailsByNumber}
use Rattle.c_rule.specs.RuleScope.{Judged, Is, Fails, onward, provided, Env, TagHead, Meaning, Alias, Constant, Thing, Function, meaning_of, tag_from, past, past_option}
use Rattle.c_rule.specs.RuleTypes.{spec_type, spec_or_int, as_alias, declared_type, void_or, cast_type, sized_type}
use Rattle.c_rule.specs.RuleValues.{used_as, used, integer, scalar, taken, value_for}
use Rattle.c_rule.specs.RuleExprs as r
use Rattle.c_rule.specs.RuleDecls.{with_bits, constant_of, dimension_of, past_declr, first_value, part_types}
use Rattle.c_rule.specs.RuleStmts.{Place, enter, returned}
use Rattle.c_rule.specs.RuleFails.{OneFails, CalledFails, ExprFails, ArgsFail, Refuses, MaybeFails, DerivedFails, DeclrFails, InitFails, InitsFail, AutoInitFails, ObjectFails, LocalFails, LocalsFail, DeclsFail, StmtFails, StmtsFail, ItemsFail}
use Rattle.c_rule.specs.RuleFailsUnit as f
use Rattle.c_rule.specs.RuleFailsUnit.{UnitFails}

-- the number of a rule
abbrev IsRule : ℕ → Type 0
IsRule n = (1 ≤ n) × (n ≤ 24)

-- where the outcome is a failure, its number is a rule's
record Numbered {A : Type 0} (j : Judged A) : Type 0 where
  of : (n : ℕ) → j ≡ Fails n → IsRule n

number : {A : Type 0} (j : Judged A) (n : ℕ) → Numbered j → j ≡ Fails n → IsRule n
number j n h q = h.of n q

same : (k n : ℕ) → IsRule k → n ≡ k → IsRule n
same k n h q = subst IsRule (sym q) h

is_n : {A : Type 0} (a : A) → Numbered (Is a)
is_n a = record { of = λ n q. cc }

fails_n : {A : Type 0} (k : ℕ) → IsRule k → Numbered {A = A} (Fails k)
fails_n k h = record { of = λ n q. same k n h cc }

onward_n : {A B : Type 0} (j : Judged A) (go : A → Judged B) → Numbered j → ((a : A) → Numbered (go a)) → Numbered (onward j go)
onward_n (Is a) go h k = k a
onward_n (Fails n) go h k = fails_n n (h.of n refl)

provided_n : {A : Type 0} (n : ℕ) (b : Bool) (j : Judged A) → IsRule n → Numbered j → Numbered (provided n b j)
provided_n n true j h k = k
provided_n n false j h k = fails_n n h

pick_n : {A : Type 0} (b : Bool) (i j : Judged A) → Numbered i → Numbered j → Numbered (pick b i j)
pick_n true i j h k = h
pick_n false i j h k = k

-- the numbers that stand in the rules
r2 : IsRule 2
r2 = (omega arith, omega arith)

r3 : IsRule 3
r3 = (omega arith, omega arith)

r13 : IsRule 13
r13 = (omega arith, omega arith)

r14 : IsRule 14
r14 = (omega arith, omega arith)

r15 : IsRule 15
r15 = (omega arith, omega arith)

r16 : IsRule 16
r16 = (omega arith, omega arith)

r19 : IsRule 19
r19 = (omega arith, omega arith)

r21 : IsRule 21
r21 = (omega arith, omega arith)

used_as_n : (t : CType) (x : TExpr) → Numbered (used_as t x)
used_as_n (num k) x = is_n _
used_as_n void x = is_n _
used_as_n (ptr t) x = is_n _
used_as_n (arr n t) x = is_n _
used_as_n (struct k) x = fails_n 21 r21
used_as_n (union k) x = fails_n 21 r21
used_as_n (enum k) x = is_n _
used_as_n (fun t) x = is_n _

used_n : (x : TExpr) → Numbered (used x)
used_n x = used_as_n (type_of x) x

integer_n : (n : ℕ) (x : TExpr) → IsRule n → Numbered (integer n x)
integer_n n x h = onward_n (used x) _ (used_n x) (λ v. provided_n n _ _ h (is_n _))

scalar_n : (n : ℕ) (x : TExpr) → IsRule n → Numbered (scalar n x)
scalar_n n x h = onward_n (used x) _ (used_n x) (λ v. provided_n n _ _ h (is_n _))

taken_n : (n : ℕ) (c : Env) (t : CType) (x : TExpr) → IsRule n → Numbered (taken n c t x)
taken_n n c t x h = provided_n n _ _ h (is_n _)

value_n : (n : ℕ) (c : Env) (t : CType) (x : TExpr) → IsRule n → Numbered (value_for n c t x)
value_n n c t x h = onward_n (used x) _ (used_n x) (λ v. taken_n n c t v h)

-- two operands used as values
two_n : (x y : TExpr) (go : TExpr → TExpr → Judged TExpr) → ((v w : TExpr) → Numbered (go v w)) → Numbered (onward (used x) (λ v. onward (used y) (go v)))
two_n x y go h = onward_n (used x) _ (used_n x) (λ v. onward_n (used y) _ (used_n y) (h v))

two_integers_n : (x y : TExpr) (go : TExpr → TExpr → Judged TExpr) → ((v w : TExpr) → Numbered (go v w)) → Numbered (onward (integer 12 x) (λ v. onward (integer 12 y) (go v)))
two_integers_n x y go h = onward_n (integer 12 x) _ (integer_n 12 x (omega arith, omega arith)) (λ v. onward_n (integer 12 y) _ (integer_n 12 y (omega arith, omega arith)) (h v))

arithmetic_n : (op : TBinary) (x y : TExpr) → Numbered (r.arithmetic op x y)
arithmetic_n op x y = two_integers_n x y _ (λ v w. (is_n _))

shift_n : (op : TBinary) (x y : TExpr) → Numbered (r.shift op x y)
shift_n op x y = two_integers_n x y _ (λ v w. (is_n _))

sum_n : (c : Env) (x y : TExpr) → Numbered (r.sum c x y)
sum_n c x y = search (onward_n, pick_n, provided_n, used_n, is_n, fails_n, r3, r13) depth 14

difference_n : (c : Env) (x y : TExpr) → Numbered (r.difference c x y)
difference_n c x y = search (onward_n, pick_n, provided_n, used_n, is_n, fails_n, r3, r13) depth 14

order_n : (op : TBinary) (x y : TExpr) → Numbered (r.order op x y)
order_n op x y = two_n x y _ (λ v w. pick_n _ _ _ (is_n _) (provided_n 14 _ _ r14 (is_n _)))

equality_n : (c : Env) (op : TBinary) (x y : TExpr) → Numbered (r.equality c op x y)
equality_n c op x y = search (onward_n, pick_n, used_n, is_n, fails_n, r14) depth 14

two_tests_n : (make : TExpr → TExpr → TExpr) (x y : TExpr) → Numbered (r.two_tests make x y)
two_tests_n make x y = onward_n (scalar 15 x) _ (scalar_n 15 x r15) (λ v. onward_n (scalar 15 y) _ (scalar_n 15 y r15) (λ w. (is_n _)))

binary_n : (c : Env) (op : BinaryOp) (x y : TExpr) → Numbered (r.binary c op x y)
binary_n c bo.Either x y = two_tests_n e.either x y
binary_n c bo.Both x y = two_tests_n e.both x y
binary_n c bo.Or x y = arithmetic_n tb.BitOr x y
binary_n c bo.Xor x y = arithmetic_n tb.BitXor x y
binary_n c bo.And x y = arithmetic_n tb.BitAnd x y
binary_n c bo.Eq x y = equality_n c tb.Eq x y
binary_n c bo.Ne x y = equality_n c tb.Ne x y
binary_n c bo.Lt x y = order_n tb.Lt x y
binary_n c bo.Gt x y = order_n tb.Gt x y
binary_n c bo.Le x y = order_n tb.Le x y
binary_n c bo.Ge x y = order_n tb.Ge x y
binary_n c bo.Shl x y = shift_n tb.Shl x y
binary_n c bo.Shr x y = shift_n tb.Shr x y
binary_n c bo.Add x y = sum_n c x y
binary_n c bo.Sub x y = difference_n c x y
binary_n c bo.Mul x y = arithmetic_n tb.Mul x y
binary_n c bo.Div x y = arithmetic_n tb.Div x y
binary_n c bo.Rem x y = arithmetic_n tb.Rem x y

comma_n : (x y : TExpr) → Numbered (r.comma x y)
comma_n x y = two_n x y _ (λ v w. (is_n _))

choice_n : (c : Env) (x y z : TExpr) → Numbered (r.choice c x y z)
choice_n c x y z = search (onward_n, pick_n, scalar_n, used_n, is_n, fails_n, r15, r16) depth 14

step_n : (c : Env) (op : TStep) (x : TExpr) → Numbered (r.step c op x)
step_n c op x = provided_n 21 _ _ r21 (provided_n 3 _ _ r3 (is_n _))

negation_n : (op : TUnary) (x : TExpr) → Numbered (r.negation op x)
negation_n op x = onward_n (integer 12 x) _ (integer_n 12 x (omega arith, omega arith)) (λ v. (is_n _))

unary_n : (c : Env) (op : UnaryOp) (x : TExpr) → Numbered (r.unary c op x)
unary_n c uo.Deref x = onward_n (used x) _ (used_n x) (λ v. provided_n 17 _ _ (omega arith, omega arith) (is_n _))
unary_n c uo.Address x = provided_n 17 _ _ (omega arith, omega arith) (provided_n 5 _ _ (omega arith, omega arith) (is_n _))
unary_n c uo.Neg x = negation_n tu.Neg x
unary_n c uo.Not x = onward_n (scalar 15 x) _ (scalar_n 15 x r15) (λ v. (is_n _))
unary_n c uo.Flip x = negation_n tu.Flip x
unary_n c uo.Inc x = step_n c tst.PreInc x
unary_n c uo.Dec x = step_n c tst.PreDec x

size_of_n : (c : Env) (x : TExpr) → Numbered (r.size_of c x)
size_of_n c x = provided_n 5 _ _ (omega arith, omega arith) (provided_n 3 _ _ r3 (is_n _))

cast_n : (c : Env) (t : CType) (x : TExpr) → Numbered (r.cast c t x)
cast_n c t x = onward_n (used x) _ (used_n x) (λ v. provided_n 22 _ _ (omega arith, omega arith) (is_n _))

subscript_n : (c : Env) (x y : TExpr) → Numbered (r.subscript c x y)
subscript_n c x y = two_n x y _ (λ v w. provided_n 18 _ _ (omega arith, omega arith) (provided_n 3 _ _ r3 (is_n _)))

with_member_n : (o : Option (ℕ × CType)) (make : ℕ → CType → TExpr) → Numbered (r.with_member o make)
with_member_n None make = fails_n 19 r19
with_member_n (Some p) make = is_n _

member_n : (c : Env) (t : CType) (y : Name) (make : ℕ → CType → TExpr) → Numbered (r.member_of c t y make)
member_n c (struct k) y make = provided_n 3 _ _ r3 (with_member_n (r.member_from 0 (at_or no_tag c.tags k).members y) make)
member_n c (num k) y make = fails_n 19 r19
member_n c void y make = fails_n 19 r19
member_n c (ptr t) y make = fails_n 19 r19
member_n c (arr n t) y make = fails_n 19 r19
member_n c (union k) y make = fails_n 19 r19
member_n c (enum k) y make = fails_n 19 r19
member_n c (fun t) y make = fails_n 19 r19

dot_n : (c : Env) (x : TExpr) (y : Name) → Numbered (r.dot c x y)
dot_n c x y = provided_n 19 _ _ r19 (member_n c (type_of x) y _)

arrow_n : (c : Env) (x : TExpr) (y : Name) → Numbered (r.arrow c x y)
arrow_n c x y = onward_n (used x) _ (used_n x) (λ v. provided_n 19 _ _ r19 (member_n c _ y _))

assign_n : (c : Env) (x y : TExpr) → Numbered (r.assign c x y)
assign_n c x y = search (onward_n, pick_n, provided_n, used_n, taken_n, is_n, r3, r21) depth 14

update_n : (op : TBinary) (x y : TExpr) → Numbered (r.update op x y)
update_n op x y = provided_n 21 _ _ r21 (onward_n (integer 21 y) _ (integer_n 21 y r21) (λ w. (is_n _)))

update_shift_n : (op : TBinary) (x y : TExpr) → Numbered (r.update_shift op x y)
update_shift_n op x y = provided_n 21 _ _ r21 (onward_n (integer 21 y) _ (integer_n 21 y r21) (λ w. (is_n _)))

update_sum_n : (c : Env) (op : TBinary) (x y : TExpr) → Numbered (r.update_sum c op x y)
update_sum_n c op x y = pick_n _ _ _ (onward_n (integer 21 y) _ (integer_n 21 y r21) (λ w. provided_n 3 _ _ r3 (is_n _))) (update_n op x y)

assignment_n : (c : Env) (op : AssignOp) (x y : TExpr) → Numbered (r.assignment c op x y)
assignment_n c ao.Set x y = assign_n c x y
assignment_n c ao.Add x y = update_sum_n c tb.Add x y
assignment_n c ao.Sub x y = update_sum_n c tb.Sub x y
assignment_n c ao.Mul x y = update_n tb.Mul x y
assignment_n c ao.Div x y = update_n tb.Div x y
assignment_n c ao.Rem x y = update_n tb.Rem x y
assignment_n c ao.And x y = update_n tb.BitAnd x y
assignment_n c ao.Or x y = update_n tb.BitOr x y
assignment_n c ao.Xor x y = update_n tb.BitXor x y
assignment_n c ao.Shl x y = update_shift_n tb.Shl x y
assignment_n c ao.Shr x y = update_shift_n tb.Shr x y

called_n : (x : TExpr) → Numbered (r.called x)
called_n x = pick_n _ _ _ (is_n _) (onward_n (used x) _ (used_n x) (λ v. provided_n 20 _ _ (omega arith, omega arith) (is_n _)))

as_expr_n : (m : Option Meaning) → Numbered (r.as_expr m)
as_expr_n None = fails_n 2 r2
as_expr_n (Some (Alias t)) = fails_n 2 r2
as_expr_n (Some (Constant n)) = is_n _
as_expr_n (Some (Thing q t)) = is_n _
as_expr_n (Some (Function s q t)) = is_n _

called_name_n : (c : Env) (x : Name) (m : Option Meaning) → Numbered (r.called_name c x m)
called_name_n c x None = is_n _
called_name_n c x (Some m) = as_expr_n (Some m)

-- types

tag_from_n : (k : ℕ) (ts : List TagHead) (kind : TagKind) (x : Name) → Numbered (tag_from k ts kind x)
tag_from_n k [] kind x = fails_n 3 r3
tag_from_n k (t ∷ ts) kind x = pick_n _ _ _ (provided_n 3 _ _ r3 (is_n _)) (tag_from_n (suc k) ts kind x)

as_alias_n : (m : Option Meaning) → Numbered (as_alias m)
as_alias_n None = fails_n 2 r2
as_alias_n (Some (Alias t)) = is_n _
as_alias_n (Some (Constant n)) = fails_n 2 r2
as_alias_n (Some (Thing q t)) = fails_n 2 r2
as_alias_n (Some (Function s q t)) = fails_n 2 r2

spec_n : (c : Env) (y : TypeSpec) → Numbered (spec_type c y)
spec_n c (u.num k) = is_n _
spec_n c u.void = is_n _
spec_n c (u.tag t) = tag_from_n 0 c.heads t.kind t.name
spec_n c (u.named x) = as_alias_n (meaning_of c x)

spec_or_int_n : (c : Env) (y : Option TypeSpec) → Numbered (spec_or_int c y)
spec_or_int_n c None = is_n _
spec_or_int_n c (Some y) = spec_n c y

declared_n : (c : Env) (t : CType) → Numbered (declared_type c t)
declared_n c t = provided_n 4 _ _ (omega arith, omega arith) (provided_n 5 _ _ (omega arith, omega arith) (provided_n 6 _ _ (omega arith, omega arith) (provided_n 3 _ _ r3 (is_n _))))

void_or_n : (t : CType) (j : Judged CType) → Numbered j → Numbered (void_or t j)
void_or_n (num k) j h = h
void_or_n void j h = is_n _
void_or_n (ptr t) j h = h
void_or_n (arr n t) j h = h
void_or_n (struct k) j h = h
void_or_n (union k) j h = h
void_or_n (enum k) j h = h
void_or_n (fun t) j h = h

cast_type_n : (c : Env) (y : TypeName) → Numbered (cast_type c y)
cast_type_n c y = search (onward_n, spec_n, void_or_n, declared_n) depth 14

sized_type_n : (c : Env) (y : TypeName) → Numbered (sized_type c y)
sized_type_n c y = search (onward_n, spec_n, declared_n, provided_n, is_n, r3) depth 14

-- what is asked of an expression

with_bits_n : (v : TExpr) (o : Option ℕ) → Numbered (with_bits v o)
with_bits_n v None = fails_n 9 (omega arith, omega arith)
with_bits_n v (Some n) = is_n _

constant_n : (c : Env) (x : TExpr) → Numbered (constant_of c x)
constant_n c x = onward_n (used x) _ (used_n x) (λ v. with_bits_n v _)

dimension_n : (c : Env) (x : TExpr) → Numbered (dimension_of c x)
dimension_n c x = onward_n (constant_of c x) _ (constant_n c x) (λ k. provided_n 5 _ _ (omega arith, omega arith) (is_n _))

first_value_n : (c : Env) (t : CType) (x : TExpr) → Numbered (first_value c t x)
first_value_n c t x = onward_n (used x) _ (used_n x) (λ v. provided_n 10 _ _ (omega arith, omega arith) (taken_n 10 c t v (omega arith, omega arith)))

one_number : {B : Type 0} (F : TExpr → Judged B) (c : Env) (a : Expr) (n : ℕ) → ((x : TExpr) → Numbered (F x)) → OneFails F c a n → IsRule n
one_number F c a n all (x, h, q) = number (F x) n (all x) q

called_number : (c : Env) (a : Expr) (n : ℕ) → (ExprFails c a n → IsRule n) → CalledFails c a (ExprFails c a) n → IsRule n
called_number c (name l y) n go h = number _ n (onward_n (r.called_name c y (meaning_of c y)) _ (called_name_n c y (meaning_of c y)) called_n) h
called_number c a n go (inl h) = go h
called_number c a n go (inr h) = one_number r.called c a n called_n h

mutual
  expr_number : (c : Env) (a : Expr) (n : ℕ) → ExprFails c a n → IsRule n
  expr_number c (comma l a b) n (inl h) = expr_number c a n h
  expr_number c (comma l a b) n (inr (inl h)) = expr_number (past a c) b n h
  expr_number c (comma l a b) n (inr (inr (x, y, hx, hy, q))) = number _ n (comma_n x y) q
  expr_number c (assign l op a b) n (inl h) = expr_number c a n h
  expr_number c (assign l op a b) n (inr (inl h)) = expr_number (past a c) b n h
  expr_number c (assign l op a b) n (inr (inr (x, y, hx, hy, q))) = number _ n (assignment_n c op x y) q
  expr_number c (choice l a b d) n (inl h) = expr_number c a n h
  expr_number c (choice l a b d) n (inr (inl h)) = expr_number (past a c) b n h
  expr_number c (choice l a b d) n (inr (inr (inl h))) = expr_number (past b (past a c)) d n h
  expr_number c (choice l a b d) n (inr (inr (inr (x, y, z, hx, hy, hz, q)))) = number _ n (choice_n c x y z) q
  expr_number c (binary l op a b) n (inl h) = expr_number c a n h
  expr_number c (binary l op a b) n (inr (inl h)) = expr_number (past a c) b n h
  expr_number c (binary l op a b) n (inr (inr (x, y, hx, hy, q))) = number _ n (binary_n c op x y) q
  expr_number c (unary l op a) n (inl h) = expr_number c a n h
  expr_number c (unary l op a) n (inr h) = one_number (r.unary c op) c a n (unary_n c op) h
  expr_number c (size_of l a) n (inl h) = expr_number c a n h
  expr_number c (size_of l a) n (inr h) = one_number (r.size_of c) c a n (size_of_n c) h
  expr_number c (size_of_type l y) n h = number _ n (sized_type_n c y) h
  expr_number c (cast l y a) n (inl h) = number _ n (cast_type_n c y) h
  expr_number c (cast l y a) n (inr (inl h)) = expr_number c a n h
  expr_number c (cast l y a) n (inr (inr (s, hs, h))) = one_number (r.cast c s) c a n (cast_n c s) h
  expr_number c (index l a i) n (inl h) = expr_number c a n h
  expr_number c (index l a i) n (inr (inl h)) = expr_number (past a c) i n h
  expr_number c (index l a i) n (inr (inr (x, y, hx, hy, q))) = number _ n (subscript_n c x y) q
  expr_number c (call l f es) n (inl h) = called_number c f n (λ g. expr_number c f n g) h
  expr_number c (call l f es) n (inr h) = args_number (past f c) es n h
  expr_number c (member l a y) n (inl h) = expr_number c a n h
  expr_number c (member l a y) n (inr h) = one_number (λ z. r.dot c z y) c a n (λ z. dot_n c z y) h
  expr_number c (arrow l a y) n (inl h) = expr_number c a n h
  expr_number c (arrow l a y) n (inr h) = one_number (λ z. r.arrow c z y) c a n (λ z. arrow_n c z y) h
  expr_number c (post l op a) n (inl h) = expr_number c a n h
  expr_number c (post l op a) n (inr h) = one_number (r.step c (r.post_op op)) c a n (step_n c (r.post_op op)) h
  expr_number c (name l y) n h = number _ n (as_expr_n (meaning_of c y)) h
  expr_number c (int l m long) n h = absurd h
  expr_number c (chr l m) n h = absurd h
  expr_number c (text l bs) n h = absurd h

  args_number : (c : Env) (es : Exprs) (n : ℕ) → ArgsFail c es n → IsRule n
  args_number c no_exprs n h = absurd h
  args_number c (more_exprs a es) n (inl h) = expr_number c a n h
  args_number c (more_exprs a es) n (inr (inl h)) = one_number (scalar 20) c a n (λ x. scalar_n 20 x (omega arith, omega arith)) h
  args_number c (more_exprs a es) n (inr (inr h)) = args_number (past a c) es n h

refused_number : {B : Type 0} (F : TExpr → Judged B) (c : Env) (a : Expr) (n : ℕ) → ((x : TExpr) → Numbered (F x)) → Refuses F c a n → IsRule n
refused_number F c a n all (inl h) = expr_number c a n h
refused_number F c a n all (inr h) = one_number F c a n all h

maybe_number : {A : Type 0} (P : A → ℕ → Type 0) (a : Option A) (n : ℕ) → ((a : A) → P a n → IsRule n) → MaybeFails P a n → IsRule n
maybe_number P None n all h = absurd h
maybe_number P (Some a) n all h = all a h

-- declarators and initialisers

derived_number : (c : Env) (m : Option ℕ) (d : ud.Declr) (n : ℕ) → DerivedFails c m d n → IsRule n
derived_number c m (ud.pointer l d) n h = derived_number c m d n h
derived_number c m (ud.name l y) n h = absurd h
derived_number c m (ud.array l d None) n (inl h) = same 5 n (omega arith, omega arith) h.0
derived_number c m (ud.array l d None) n (inr h) = derived_number c m d n h
derived_number c m (ud.array l d (Some a)) n (inl h) = derived_number c m d n h
derived_number c m (ud.array l d (Some a)) n (inr h) = refused_number (dimension_of (past_declr d c)) (past_declr d c) a n (dimension_n (past_declr d c)) h
derived_number c m (ud.function l d xs) n h = derived_number c m d n h

declr_number : (c : Env) (m : Option ℕ) (base : CType) (d : ud.Declr) (n : ℕ) → DeclrFails c m base d n → IsRule n
declr_number c m base d n (inl h) = derived_number c m d n h
declr_number c m base d n (inr (x, t, es, h, q)) = number _ n (declared_n c t) q

mutual
  init_number : (c : Env) (t : CType) (i : ud.Init) (n : ℕ) → InitFails c t i n → IsRule n
  init_number c t (ud.single a) n h = refused_number (first_value c t) c a n (first_value_n c t) h.1
  init_number c t (ud.group l is) n (inl h) = same 10 n (omega arith, omega arith) h.0
  init_number c t (ud.group l is) n (inr h) = inits_number c (part_types c.tags t) is n h

  inits_number : (c : Env) (ts : List CType) (is : ud.Inits) (n : ℕ) → InitsFail c ts is n → IsRule n
  inits_number c ts ud.no_inits n h = absurd h
  inits_number c [] (ud.more_inits i is) n h = same 10 n (omega arith, omega arith) h
  inits_number c (t ∷ ts) (ud.more_inits i is) n (inl h) = init_number c t i n h
  inits_number c (t ∷ ts) (ud.more_inits i is) n (inr (j, c1, k, h)) = inits_number c1 ts is n h

auto_init_number : (c : Env) (t : CType) (i : ud.Init) (n : ℕ) → AutoInitFails c t i n → IsRule n
auto_init_number c t (ud.single a) n h = refused_number (value_for 11 c t) c a n (λ x. value_n 11 c t x (omega arith, omega arith)) h
auto_init_number c t (ud.group l is) n h = same 11 n (omega arith, omega arith) h

-- blocks

object_number : (c : Env) (x : Name) (t : CType) (m : Meaning) (P : Env → ℕ → Type 0) (n : ℕ) → ((c1 : Env) → P c1 n → IsRule n) → ObjectFails c x t m P n → IsRule n
object_number c x t m P n all (inl h) = same 3 n r3 h.0
object_number c x t m P n all (inr (inl h)) = same 1 n (omega arith, omega arith) h.0
object_number c x t m P n all (inr (inr (c1, k, h))) = all c1 h

-- a function or an external object, which has no initialiser, has a name that is not free
has_or_taken : {A B : Type 0} (n : ℕ) → ((n ≡ 11) × A) ⊎ ((n ≡ 1) × B) → IsRule n
has_or_taken n (inl h) = same 11 n (omega arith, omega arith) h.0
has_or_taken n (inr h) = same 1 n (omega arith, omega arith) h.0

auto_number : (c : Env) (d : Declr) (i : Option ud.Init) (n : ℕ) → LocalFails false None c d i n → IsRule n
auto_number c d i n h = object_number c d.name d.ty _ (λ y. MaybeFails (AutoInitFails y d.ty) i) n (λ y. maybe_number (AutoInitFails y d.ty) i n (λ a. auto_init_number y d.ty a n)) h

local_number : (b : Bool) (s : Option Storage) (c : Env) (d : Declr) (i : Option ud.Init) (n : ℕ) → LocalFails b s c d i n → IsRule n
local_number true s c d i n h = has_or_taken n h
local_number false None c d i n h = auto_number c d i n h
local_number false (Some sg.Auto) c d i n h = auto_number c d i n h
local_number false (Some sg.Register) c d i n h = auto_number c d i n h
local_number false (Some sg.Extern) c d i n h = has_or_taken n h
local_number false (Some sg.Static) c d i n h = object_number c d.name d.ty _ (λ y. MaybeFails (InitFails y d.ty) i) n (λ y. maybe_number (InitFails y d.ty) i n (λ a. init_number y d.ty a n)) h

locals_number : (c : Env) (s : Option Storage) (base : CType) (is : List ud.Item) (n : ℕ) → LocalsFail c s base is n → IsRule n
locals_number c s base [] n h = absurd h
locals_number c s base (i ∷ is) n (inl h) = declr_number c _ base i.declr n h
locals_number c s base (i ∷ is) n (inr (d, k, inl h)) = local_number _ s (past_declr i.declr c) d i.init n h
locals_number c s base (i ∷ is) n (inr (d, k, inr (x, c1, g, h))) = locals_number c1 s base is n h

decls_number : (c : Env) (ds : List ud.LocalDecl) (n : ℕ) → DeclsFail c ds n → IsRule n
decls_number c [] n h = absurd h
decls_number c (d ∷ ds) n (inl h) = number _ n (spec_or_int_n c d.specs.types) h
decls_number c (d ∷ ds) n (inr (base, k, inl h)) = locals_number c d.specs.storage base d.items n h
decls_number c (d ∷ ds) n (inr (base, k, inr (ls, c1, g, h))) = decls_number c1 ds n h

-- statements

done_number : (c : Env) (a : Expr) (n : ℕ) → Refuses used c a n → IsRule n
done_number c a n h = refused_number used c a n used_n h

test_number : (c : Env) (a : Expr) (n : ℕ) → Refuses (scalar 15) c a n → IsRule n
test_number c a n h = refused_number (scalar 15) c a n (λ x. scalar_n 15 x r15) h

mutual
  stmt_number : (c : Env) (p : Place) (s : us.Stmt) (n : ℕ) → StmtFails c p s n → IsRule n
  stmt_number c p (us.expr l a) n h = done_number c a n h
  stmt_number c p (us.empty l) n h = absurd h
  stmt_number c p (us.if_only l a s) n (inl h) = test_number c a n h
  stmt_number c p (us.if_only l a s) n (inr h) = stmt_number _ p s n h
  stmt_number c p (us.if_else l a s z) n (inl h) = test_number c a n h
  stmt_number c p (us.if_else l a s z) n (inr (inl h)) = stmt_number _ p s n h
  stmt_number c p (us.if_else l a s z) n (inr (inr (x, c1, k, h))) = stmt_number c1 p z n h
  stmt_number c p (us.while l a s) n (inl h) = test_number c a n h
  stmt_number c p (us.while l a s) n (inr h) = stmt_number _ _ s n h
  stmt_number c p (us.do_while l s m a) n (inl h) = stmt_number _ _ s n h
  stmt_number c p (us.do_while l s m a) n (inr (x, c1, k, h)) = test_number c1 a n h
  stmt_number c p (us.for l a b d s) n (inl h) = maybe_number (Refuses used c) a n (λ y. done_number c y n) h
  stmt_number c p (us.for l a b d s) n (inr (inl h)) = maybe_number (Refuses (scalar 15) (past_option a c)) b n (λ y. test_number (past_option a c) y n) h
  stmt_number c p (us.for l a b d s) n (inr (inr (inl h))) = maybe_number (Refuses used (past_option b (past_option a c))) d n (λ y. done_number (past_option b (past_option a c)) y n) h
  stmt_number c p (us.for l a b d s) n (inr (inr (inr h))) = stmt_number _ _ s n h
  stmt_number c p (us.switch l a is) n (inl h) = refused_number (integer 24) c a n (λ x. integer_n 24 x (omega arith, omega arith)) h
  stmt_number c p (us.switch l a is) n (inr (inl h)) = items_number _ _ is n h
  stmt_number c p (us.switch l a is) n (inr (inr (js, c1, k, q, h))) = same 24 n (omega arith, omega arith) q
  stmt_number c p (us.break l) n h = same 24 n (omega arith, omega arith) h.0
  stmt_number c p (us.continue l) n h = same 24 n (omega arith, omega arith) h.0
  stmt_number c p (us.return l a) n h = maybe_number (Refuses (returned c p.result) c) a n (λ y. refused_number (returned c p.result) c y n (λ x. value_n 23 c p.result x (omega arith, omega arith))) h
  stmt_number c p (us.block l ds ss m) n (inl h) = decls_number (enter c) ds n h
  stmt_number c p (us.block l ds ss m) n (inr (xs, c1, k, h)) = stmts_number c1 p ss n h

  stmts_number : (c : Env) (p : Place) (ss : us.Stmts) (n : ℕ) → StmtsFail c p ss n → IsRule n
  stmts_number c p us.no_stmts n h = absurd h
  stmts_number c p (us.more_stmts s ss) n (inl h) = stmt_number c p s n h
  stmts_number c p (us.more_stmts s ss) n (inr (x, c1, k, h)) = stmts_number c1 p ss n h

  items_number : (c : Env) (p : Place) (is : us.SwItems) (n : ℕ) → ItemsFail c p is n → IsRule n
  items_number c p us.no_items n h = absurd h
  items_number c p (us.more_items (us.case l a) is) n (inl h) = refused_number (constant_of c) c a n (constant_n c) h
  items_number c p (us.more_items (us.case l a) is) n (inr h) = items_number (past a c) p is n h
  items_number c p (us.more_items (us.default l) is) n h = items_number c p is n h
  items_number c p (us.more_items (us.stmt s) is) n (inl h) = stmt_number c p s n h
  items_number c p (us.more_items (us.stmt s) is) n (inr (x, c1, k, h)) = items_number c1 p is n h

-- tags

enumerators_number : (c : Env) (b : Option ℕ) (xs : List ud.En) (n : ℕ) → f.EnumeratorsFail c b xs n → IsRule n
enumerators_number c b [] n h = absurd h
enumerators_number c b (x ∷ xs) n (inl h) = maybe_number (Refuses (constant_of c) c) x.value n (λ a. refused_number (constant_of c) c a n (constant_n c)) h
enumerators_number c b (x ∷ xs) n (inr (inl h)) = same 1 n (omega arith, omega arith) h.0
enumerators_number c b (x ∷ xs) n (inr (inr (y, k, h))) = enumerators_number _ _ xs n h

members_number : (c : Env) (base : CType) (ds : List ud.Declr) (n : ℕ) → f.MembersFail c base ds n → IsRule n
members_number c base [] n h = absurd h
members_number c base (d ∷ ds) n (inl h) = declr_number c None base d n h
members_number c base (d ∷ ds) n (inr (inl (y, k, inl h))) = same 7 n (omega arith, omega arith) h.0
members_number c base (d ∷ ds) n (inr (inl (y, k, inr h))) = same 3 n r3 h.0
members_number c base (d ∷ ds) n (inr (inr h)) = members_number (past_declr d c) base ds n h

mutual
  types_number : (c : Env) (y : ud.Types) (n : ℕ) → f.TypesFail c y n → IsRule n
  types_number c (ud.spec y) n h = number _ n (spec_n c y) h
  types_number c (ud.def d) n h = def_number c d n h

  def_number : (c : Env) (d : ud.TagDef) (n : ℕ) → f.DefFails c d n → IsRule n
  def_number c (ud.struct l x ms) n (inl h) = mems_number c ms n h
  def_number c (ud.struct l x ms) n (inr (ys, ns, c1, k, q, h)) = same 7 n (omega arith, omega arith) q
  def_number c (ud.union l x ms) n h = same 3 n r3 h
  def_number c (ud.enum l x es) n h = enumerators_number c None es n h

  mems_number : (c : Env) (ms : ud.Mems) (n : ℕ) → f.MemsFail c ms n → IsRule n
  mems_number c ud.no_mems n h = absurd h
  mems_number c (ud.more_mems m ms) n (inl h) = mem_number c m n h
  mems_number c (ud.more_mems m ms) n (inr (s, ds, c1, k, h)) = mems_number c1 ms n h

  mem_number : (c : Env) (m : ud.Mem) (n : ℕ) → f.MemFails c m n → IsRule n
  mem_number c (ud.mem l y ds) n (inl h) = types_number c y n h
  mem_number c (ud.mem l y ds) n (inr (s, base, c1, k, h)) = members_number c1 base ds n h

types_or_int_number : (c : Env) (y : Option ud.Types) (n : ℕ) → MaybeFails (f.TypesFail c) y n → IsRule n
types_or_int_number c y n h = maybe_number (f.TypesFail c) y n (λ z. types_number c z n) h

-- declarations at file level

file_object_number : (c : Env) (d : Declr) (m : Meaning) (i : Option ud.Init) (n : ℕ) → f.ObjectFails c d m i n → IsRule n
file_object_number c d m i n (inl h) = same 3 n r3 h.0
file_object_number c d m i n (inr (inl h)) = same 1 n (omega arith, omega arith) h.0
file_object_number c d m i n (inr (inr (c1, k, h))) = maybe_number (InitFails c1 d.ty) i n (λ a. init_number c1 d.ty a n) h

item_number : (b : Bool) (s : Option Storage) (c : Env) (d : Declr) (i : Option ud.Init) (n : ℕ) → f.ItemFails b s c d i n → IsRule n
item_number true s c d i n h = has_or_taken n h
item_number false None c d i n h = file_object_number c d _ i n h
item_number false (Some sg.Auto) c d i n h = file_object_number c d _ i n h
item_number false (Some sg.Register) c d i n h = file_object_number c d _ i n h
item_number false (Some sg.Extern) c d i n h = has_or_taken n h
item_number false (Some sg.Static) c d i n h = file_object_number c d _ i n h

items_at_file_number : (c : Env) (s : Option Storage) (base : CType) (is : List ud.Item) (n : ℕ) → f.ItemsFail c s base is n → IsRule n
items_at_file_number c s base [] n h = absurd h
items_at_file_number c s base (i ∷ is) n (inl h) = declr_number c _ base i.declr n h
items_at_file_number c s base (i ∷ is) n (inr (d, k, inl h)) = item_number _ s (past_declr i.declr c) d i.init n h
items_at_file_number c s base (i ∷ is) n (inr (d, k, inr (x, c1, g, h))) = items_at_file_number c1 s base is n h

aliases_number : (c : Env) (base : CType) (ds : List ud.Declr) (n : ℕ) → f.AliasesFail c base ds n → IsRule n
aliases_number c base [] n h = absurd h
aliases_number c base (d ∷ ds) n (inl h) = declr_number c None base d n h
aliases_number c base (d ∷ ds) n (inr (x, k, inl h)) = same 1 n (omega arith, omega arith) h.0
aliases_number c base (d ∷ ds) n (inr (x, k, inr h)) = aliases_number _ base ds n h

-- functions

parameters_number : (c : Env) (xs : List Name) (base : CType) (ds : List ud.Declr) (n : ℕ) → f.ParametersFail c xs base ds n → IsRule n
parameters_number c xs base [] n h = absurd h
parameters_number c xs base (d ∷ ds) n (inl h) = declr_number c (Some 0) base d n h
parameters_number c xs base (d ∷ ds) n (inr (inl (y, k, q, h))) = same 8 n (omega arith, omega arith) q
parameters_number c xs base (d ∷ ds) n (inr (inr h)) = parameters_number (past_declr d c) xs base ds n h

par_decls_number : (c : Env) (xs : List Name) (ps : List ud.ParDecl) (n : ℕ) → f.ParDeclsFail c xs ps n → IsRule n
par_decls_number c xs [] n h = absurd h
par_decls_number c xs (p ∷ ps) n (inl h) = types_number c p.types n h
par_decls_number c xs (p ∷ ps) n (inr (s, base, c1, k, inl h)) = parameters_number c1 xs base p.declrs n h
par_decls_number c xs (p ∷ ps) n (inr (s, base, c1, k, inr (ds, c2, g, h))) = par_decls_number c2 xs ps n h

head_number : (c : Env) (s : Bool) (h : ud.Declr) (d : Declr) (ps : List ud.ParDecl) (n : ℕ) → f.HeadFails c s h d ps n → IsRule n
head_number c s h d ps n (inl k) = par_decls_number c _ ps n k
head_number c s h d ps n (inr (inl k)) = same 1 n (omega arith, omega arith) k.0
head_number c s h d ps n (inr (inr (ys, c1, k, inl g))) = same 1 n (omega arith, omega arith) g.0
head_number c s h d ps n (inr (inr (ys, c1, k, inr g))) = same 1 n (omega arith, omega arith) g.0

body_number : (c : Env) (s : Bool) (h : ud.Declr) (d : Declr) (ps : List ud.ParDecl) (b : Block) (n : ℕ) → f.BodyFails c s h d ps b n → IsRule n
body_number c s h d ps b n (inl k) = same 6 n (omega arith, omega arith) k.0
body_number c s h d ps b n (inr (inl k)) = head_number c s h d ps n k
body_number c s h d ps b n (inr (inr (ys, c1, k, inl g))) = decls_number _ b.decls n g
body_number c s h d ps b n (inr (inr (ys, c1, k, inr (t, xs, c2, q, g, m)))) = stmts_number c2 _ b.stmts n m

-- units

ext_number : (c : Env) (y : uu.Ext) (n : ℕ) → f.ExtFails c y n → IsRule n
ext_number c (uu.typedef l y ds) n (inl h) = types_or_int_number c y n h
ext_number c (uu.typedef l y ds) n (inr (s, base, c1, k, h)) = aliases_number c1 base ds n h
ext_number c (uu.tag_only l (ud.ref q)) n h = number _ n (spec_n c (tag q)) h
ext_number c (uu.tag_only l (ud.body d)) n h = def_number c d n h
ext_number c (uu.object l s is) n (inl h) = types_or_int_number c s.types n h
ext_number c (uu.object l s is) n (inr (y, base, c1, k, h)) = items_at_file_number c1 s.storage base is n h
ext_number c (uu.func l s h ps b) n (inl k) = types_or_int_number c _ n k
ext_number c (uu.func l s h ps b) n (inr (y, base, c1, k, inl g)) = declr_number c1 None base h n g
ext_number c (uu.func l s h ps b) n (inr (y, base, c1, k, inr (d, m, g))) = body_number c1 _ h d ps b n g

exts_number : (c : Env) (ys : List uu.Ext) (n : ℕ) → f.ExtsFail c ys n → IsRule n
exts_number c [] n h = absurd h
exts_number c (y ∷ ys) n (inl h) = ext_number c y n h
exts_number c (y ∷ ys) n (inr (x, c1, k, h)) = exts_number c1 ys n h

pub unit_number : FailsByNumber
unit_number y n (inl h) = exts_number _ y.exts n h
unit_number y n (inr (inl h)) = same 1 n (omega arith, omega arith) h.0
unit_number y n (inr (inr h)) = same 3 n r3 h.0
