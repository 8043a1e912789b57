-- What is known of the parts of an expression of the small form.
use Rattle.std.proofs.Common.{◌≡◌, ℕ, suc, ◌+◌, ◌*◌, ◌<◌, ◌≤◌, List, [], ◌∷◌, ◌++◌, refl, sym, ap, ◌∙◌, subst, arith, Box, Vec, Global, append_assoc}
use Rattle.std.specs.Prelude.{true, Some, None, slice_get}
use mathlib.Core.Former.{Count}
use Rattle.c_type.specs.Of.{type_of}
use Rattle.isa386.specs.declared.Opnd.{Opnd}
use Rattle.isa386.specs.declared.Ins.{Ins}
use Rattle.isa386.specs.declared.Way.TheVariants.{ToOperand}
use Rattle.isa386.specs.declared.Ins.TheVariants.{Move}
use Rattle.c_type.specs.declared.CType.{CType}
use Rattle.c_tree.specs.declared.TBinary.{TBinary}
use Rattle.c_tree.specs.declared.TExpr.{TExpr}
use Rattle.c_tree.specs.declared.TExpr.TheVariants as tree
use Rattle.c_tree.specs.declared.TExpr.TheBlock as block
use Rattle.c_tree.specs.TExpr as x
use Rattle.c_tree.specs.TypedOf.{expr_of, args_of}
use Rattle.gen_small.specs.Items.{Item, Op}
use Rattle.gen_small.specs.Code.{Site, below, temp_depth, kept, joined, put_code, is_putchar, expr_code, temps}
use Rattle.gen_small.specs.Small.{IsSum, IsPutchar, IsSmall}
use Rattle.c_type.specs.Names.{pick, same_name}
use Rattle.c_tree.specs.Library.{putchar_name}
use Rattle.gen_small.specs.declared.code_list.IntFrame.{IntFrame}
use Rattle.gen_small.specs.Listed.{int_site}
use Rattle.gen_small.specs.Forms.{AreThere}

-- the nodes of an expression of the form
abbrev pub nodes : x.TExpr → ℕ
nodes (x.convert t e) = suc (nodes e)
nodes (x.binary t op a b) = suc (nodes a + nodes b)
nodes (x.assign t a b) = suc (nodes a + nodes b)
nodes (x.call t f (x.more_args e x.no_args)) = suc (nodes f + nodes e)
nodes _ = 1

some_nodes : (e : x.TExpr) → 0 < nodes e
some_nodes (x.name t r) = omega arith
some_nodes (x.int t n) = omega arith
some_nodes (x.text t k) = omega arith
some_nodes (x.unary t op e) = omega arith
some_nodes (x.deref t e) = omega arith
some_nodes (x.address t e) = omega arith
some_nodes (x.step t op e) = omega arith
some_nodes (x.size_of e) = omega arith
some_nodes (x.size_of_type of) = omega arith
some_nodes (x.cast t e) = omega arith
some_nodes (x.convert t e) = omega arith
some_nodes (x.decay t e) = omega arith
some_nodes (x.designate t e) = omega arith
some_nodes (x.binary t op a b) = omega arith
some_nodes (x.both a b) = omega arith
some_nodes (x.either a b) = omega arith
some_nodes (x.comma t a b) = omega arith
some_nodes (x.choice t e a b) = omega arith
some_nodes (x.assign t a b) = omega arith
some_nodes (x.update t op at a b) = omega arith
some_nodes (x.index t a i) = omega arith
some_nodes (x.call t f x.no_args) = omega arith
some_nodes (x.call t f (x.more_args e x.no_args)) = omega arith
some_nodes (x.call t f (x.more_args e (x.more_args e' es))) = omega arith
some_nodes (x.member t e m) = omega arith
some_nodes (x.arrow t e m) = omega arith

-- what is asked of the right operand
pub record IsRight (n d : ℕ) (op : TBinary) (e r : TExpr) : Type 0 where
  pub sum : IsSum op
  pub small : IsSmall (expr_of r)
  pub there : AreThere n (expr_of r)
  pub few : d + 1 + temps (expr_of r) ≤ 64
  pub fewer : 2 * nodes (expr_of r) + 1 < 2 * nodes (expr_of e)

pub right_is : (n d : ℕ) (e r' : TExpr) (t : CType) (op : TBinary) (l r : Box TExpr Global) → e ≡ tree.Binary t op l r → r' ≡ r.value → IsSmall (expr_of e) → AreThere n (expr_of e) → d + temps (expr_of e) ≤ 64 → IsRight n d op e r'
right_is n d e r' t op l r is at small there few =
    let P : TExpr → TExpr → Type 0 = λ y z. IsRight n d op y z in
    let s : IsSmall (expr_of (tree.Binary t op l r)) = subst (λ y. IsSmall (expr_of y)) is small in
    let h : AreThere n (expr_of (tree.Binary t op l r)) = subst (λ y. AreThere n (expr_of y)) is there in
    let f : d + temps (expr_of (tree.Binary t op l r)) ≤ 64 = subst (λ y. d + temps (expr_of y) ≤ 64) is few in
    let some = some_nodes (expr_of l.value) in
    subst (λ z. P e z) (sym at) (subst (λ y. P y r.value) (sym is) (record { sum = s.0; small = s.4; there = h.1; few = omega arith; fewer = omega arith }))

-- what stands behind the code of a left operand
abbrev pub behind_left : IntFrame → ℕ → TBinary → TExpr → List Item
behind_left f d op r = kept (int_site f) d ∷ (expr_code (int_site f) (expr_of r) (suc d) ++ joined (int_site f) d op)

-- the code of both operands
pub binary_added : (f f1 : IntFrame) (d : ℕ) (e : TExpr) (t : CType) (op : TBinary) (l r : Box TExpr Global) (l' r' : TExpr) (old one : List Item) → f1 ≡ f → e ≡ tree.Binary t op l r → l' ≡ l.value → r' ≡ r.value → one ≡ old ++ expr_code (int_site f) (expr_of l') d → one ++ behind_left f1 d op r' ≡ old ++ expr_code (int_site f) (expr_of e) d
binary_added f f1 d e t op l r l' r' old one kept is atl atr e1 =
    ap (λ z. one ++ behind_left z d op r') kept ∙ ap (λ z. one ++ behind_left f d op z) atr
    ∙ ap (λ z. z ++ behind_left f d op r.value) (e1 ∙ ap (λ z. old ++ expr_code (int_site f) (expr_of z) d) atl)
    ∙ append_assoc old (expr_code (int_site f) (expr_of l.value) d) (behind_left f d op r.value)
    ∙ ap (λ z. old ++ expr_code (int_site f) (expr_of z) d) (sym is)

-- the code of the right operand, behind the store of the left one and before the operator
pub right_added : (f f1 f2 : IntFrame) (d : ℕ) (r : TExpr) (op : TBinary) (o : Opnd) (i : Ins) (old one two : List Item) → f1 ≡ f → f2 ≡ f → o ≡ below (temp_depth (int_site f) d) → Op i ∷ [] ≡ Op (Move ToOperand 0 o) ∷ [] → one ≡ old ++ Op i ∷ [] → two ≡ one ++ expr_code (int_site f1) (expr_of r) (d + 1) → two ++ joined (int_site f2) d op ≡ old ++ behind_left f d op r
right_added f f1 f2 d r op o i old one two k1 k2 at_ is e1 e2 =
    let next : d + 1 ≡ suc d = omega arith in
    let code : List Item = expr_code (int_site f) (expr_of r) (suc d) in
    let last : IntFrame → List Item = λ z. joined (int_site z) d op in
    let first : List Item = kept (int_site f) d ∷ [] in
    let one_is : one ≡ old ++ first = e1 ∙ ap (λ z. old ++ z) (is ∙ ap (λ z. Op (Move ToOperand 0 z) ∷ []) at_) in
    let two_is : two ≡ (old ++ first) ++ code = e2 ∙ ap (λ z. one ++ expr_code (int_site z) (expr_of r) (d + 1)) k1 ∙ ap (λ z. one ++ expr_code (int_site f) (expr_of r) z) next ∙ ap (λ z. z ++ code) one_is in
    ap (λ z. two ++ last z) k2 ∙ ap (λ z. z ++ last f) (two_is ∙ append_assoc old first code) ∙ append_assoc old (first ++ code) (last f)

-- a list of arguments is the row of its tree
abbrev pub args_from : List TExpr → x.TArgs
args_from [] = x.no_args
args_from (e ∷ es) = x.more_args (expr_of e) (args_from es)

args_row : (n : _) (row : block.Row_of-TExpr n) → args_of row ≡ args_from (block.items-the_row-TExpr n row)
args_row n block.end_of-TExpr = refl
args_row n (block.more_of-TExpr e row) = ap (x.more_args (expr_of e)) (args_row _ row)

abbrev args_in : TExpr → (n : Count) × block.Row_of-TExpr n
args_in (block.Call' t p f n row) = (_, row)
args_in _ = (_, block.end_of-TExpr)

pub call_is : (t : CType) (f : Box TExpr Global) (es : Vec TExpr Global) → expr_of (tree.Call t f es) ≡ x.call (type_of t) (expr_of f.value) (args_from es.items)
call_is t f es =
    let row = args_in (tree.Call t f es) in
    ap (x.call (type_of t) (expr_of f.value)) (args_row row.0 row.1 ∙ ap args_from (block.items_hidden-the_row-TExpr-0 es))

-- what is asked of the argument of putchar
pub record IsPut (n d : ℕ) (e a : TExpr) : Type 0 where
  pub small : IsSmall (expr_of a)
  pub there : AreThere n (expr_of a)
  pub few : d + temps (expr_of a) ≤ 64
  pub fewer : 2 * nodes (expr_of a) < 2 * nodes (expr_of e)
  pub code : (s : Site) → expr_code s (expr_of e) d ≡ expr_code s (expr_of a) d ++ put_code

named_putchar : (f : x.TExpr) → IsPutchar f → is_putchar f ≡ true
named_putchar (x.name t (x.Outer y)) is = ap (λ z. same_name z putchar_name) is
named_putchar _ is = absurd is

one_argument : (n d : ℕ) (t : _) (f : x.TExpr) (es : List TExpr) (a : TExpr) (e : TExpr) → expr_of e ≡ x.call t f (args_from es) → IsSmall (x.call t f (args_from es)) → AreThere n (x.call t f (args_from es)) → d + temps (x.call t f (args_from es)) ≤ 64 → slice_get es 0 ≡ Some a → IsPut n d e a
one_argument n d t f [] a e is small there few at_ = absurd small
one_argument n d t f (b ∷ []) a e is small there few at_ =
    let same : b ≡ a = (let h : Some b ≡ Some a = at_ in cc) in
    let P : TExpr → Type 0 = λ z. IsPut n d e z in
    let some = some_nodes f in
    let count : nodes (expr_of e) ≡ suc (nodes f + nodes (expr_of b)) = ap nodes is in
    subst P same (record {
      small = small.2;
      there = there;
      few = few;
      fewer = omega arith;
      code = λ s. ap (λ z. expr_code s z d) is ∙ ap (λ z. pick z (expr_code s (expr_of b) d ++ put_code) []) (named_putchar f small.0);
    })
one_argument n d t f (b ∷ (b' ∷ es)) a e is small there few at_ = absurd small

pub put_is : (n d : ℕ) (e a : TExpr) (t : CType) (f : Box TExpr Global) (es : Vec TExpr Global) (xs : List TExpr) → e ≡ tree.Call t f es → xs ≡ es.items → slice_get xs 0 ≡ Some a → IsSmall (expr_of e) → AreThere n (expr_of e) → d + temps (expr_of e) ≤ 64 → IsPut n d e a
put_is n d e a t f es xs is items at_ small there few =
    let at : expr_of e ≡ x.call (type_of t) (expr_of f.value) (args_from es.items) = ap expr_of is ∙ call_is t f es in
    one_argument n d (type_of t) (expr_of f.value) es.items a e at (subst IsSmall at small) (subst (AreThere n) at there) (subst (λ z. d + temps z ≤ 64) at few) (ap (λ z. slice_get z 0) (sym items) ∙ at_)

-- putchar has an argument
pub put_some : (e : TExpr) (t : CType) (f : Box TExpr Global) (es : Vec TExpr Global) (xs : List TExpr) → e ≡ tree.Call t f es → xs ≡ es.items → slice_get xs 0 ≡ None → IsSmall (expr_of e) → ⊥
put_some e t f es xs is items none small =
    let at : expr_of e ≡ x.call (type_of t) (expr_of f.value) (args_from es.items) = ap expr_of is ∙ call_is t f es in
    no_argument es.items (ap (λ z. slice_get z 0) (sym items) ∙ none) (subst IsSmall at small)
  where
    no_argument : (ys : List TExpr) → slice_get ys 0 ≡ None → IsSmall (x.call (type_of t) (expr_of f.value) (args_from ys)) → ⊥
    no_argument [] at_ h = absurd h
    no_argument (y ∷ ys) at_ h = absurd (cc)

-- the code of the argument, and the write behind it
pub put_added : (s : Site) (d : ℕ) (e a : TExpr) (old one : List Item) → expr_code s (expr_of e) d ≡ expr_code s (expr_of a) d ++ put_code → one ≡ old ++ expr_code s (expr_of a) d → one ++ put_code ≡ old ++ expr_code s (expr_of e) d
put_added s d e a old one code e1 = ap (λ z. z ++ put_code) e1 ∙ append_assoc old (expr_code s (expr_of a) d) put_code ∙ ap (λ z. old ++ z) (sym code)
