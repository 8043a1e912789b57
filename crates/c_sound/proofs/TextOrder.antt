-- The texts in a typed expression are numbered in textual order.
use Rattle.std.proofs.Common.{◌≡◌, ℕ, List, [], ◌∷◌, ◌++◌, length, Option, Some, None, false, refl, sym, ap, ◌∙◌, subst, arith, append_assoc, append-nil, length-append}
use Rattle.std.specs.List.{flat_map}
use Rattle.std.proofs.lemmas.List.Concat.{flat_map-append}
use Rattle.c_type.specs.Names.{Name}
use Rattle.c_type.specs.declared.Kind.TheVariants.{Int}
use Rattle.c_type.specs.Types.{CType, num, ptr, arr, fun}
use Rattle.c_tree.specs.TreeExpr.{Expr, Exprs, comma, assign, choice, binary, unary, size_of, size_of_type, cast, index, call, member, arrow, post, name, int, chr, text, no_exprs, more_exprs}
use Rattle.c_tree.specs.TreeDecl as ud
use Rattle.c_tree.specs.TExpr as e
use Rattle.c_tree.specs.TExpr.{TExpr, TArgs, Ref, type_of}
use Rattle.c_tree.specs.Constant.{constant}
use Rattle.c_run.specs.Mentions.{Mention, Text, Use, Extern, Own, Outside, in_expr, in_args}
use Rattle.c_run.specs.Numbers.{text_numbers, own_numbers}
use Rattle.c_rule.specs.RuleScope.{Judged, Is, Fails, Env, Meaning, Alias, Constant, Thing, Function, function_ref, past, meaning_of}
use Rattle.c_rule.specs.RuleTexts.{texts_in, texts_in_all}
use Rattle.c_rule.specs.RuleValues.{used, scalar}
use Rattle.c_rule.specs.RuleExprs as r
use Rattle.c_rule.specs.RuleTree.{IsExpr, IsCalled, AreArgs, Gives}
use Rattle.c_rule.specs.RuleDecls.{Number, with_bits, constant_of, IsConstant, is_positive, dimension_of, past_declr, IsDerived}
use Rattle.c_sound.proofs.Counts.{Counts, counts_both}
use Rattle.c_sound.proofs.RuleSays as s
use Rattle.c_sound.proofs.Outcomes.{Each, onward_each, provided_each, each_is}
use Rattle.c_sound.proofs.RuleSays.{Says}

-- numbers of lists

pub texts_both : (ms ns : List Mention) → text_numbers (ms ++ ns) ≡ text_numbers ms ++ text_numbers ns
texts_both [] ns = refl
texts_both (Text k ∷ ms) ns = ap (λ ks. k ∷ ks) (texts_both ms ns)
texts_both (Use x ∷ ms) ns = texts_both ms ns
texts_both (Extern x ∷ ms) ns = texts_both ms ns
texts_both (Own k t i ∷ ms) ns = texts_both ms ns
texts_both (Outside x t i ∷ ms) ns = texts_both ms ns

pub own_both : (ms ns : List Mention) → own_numbers (ms ++ ns) ≡ own_numbers ms ++ own_numbers ns
own_both [] ns = refl
own_both (Text k ∷ ms) ns = own_both ms ns
own_both (Use x ∷ ms) ns = own_both ms ns
own_both (Extern x ∷ ms) ns = own_both ms ns
own_both (Own k t i ∷ ms) ns = ap (λ ks. k ∷ ks) (own_both ms ns)
own_both (Outside x t i ∷ ms) ns = own_both ms ns

two_own_none : (ms ns : List Mention) → own_numbers ms ≡ [] → own_numbers ns ≡ [] → own_numbers (ms ++ ns) ≡ []
two_own_none ms ns p q = own_both ms ns ∙ rw (p, q) refl

-- no expression declares a static
mutual
  pub own_none : (t : TExpr) → own_numbers (in_expr t) ≡ []
  own_none (e.name t (e.Local i)) = refl
  own_none (e.name t (e.Param i)) = refl
  own_none (e.name t (e.Static k)) = refl
  own_none (e.name t (e.Ext x)) = refl
  own_none (e.name t (e.Func k)) = refl
  own_none (e.name t (e.Outer x)) = refl
  own_none (e.name t (e.Const n)) = refl
  own_none (e.int t n) = refl
  own_none (e.text t k) = refl
  own_none (e.unary t op a) = own_none a
  own_none (e.deref t a) = own_none a
  own_none (e.address t a) = own_none a
  own_none (e.step t op a) = own_none a
  own_none (e.size_of a) = own_none a
  own_none (e.size_of_type of) = refl
  own_none (e.cast t a) = own_none a
  own_none (e.convert t a) = own_none a
  own_none (e.decay t a) = own_none a
  own_none (e.designate t a) = own_none a
  own_none (e.binary t op a b) = two_own_none (in_expr a) (in_expr b) (own_none a) (own_none b)
  own_none (e.both a b) = two_own_none (in_expr a) (in_expr b) (own_none a) (own_none b)
  own_none (e.either a b) = two_own_none (in_expr a) (in_expr b) (own_none a) (own_none b)
  own_none (e.comma t a b) = two_own_none (in_expr a) (in_expr b) (own_none a) (own_none b)
  own_none (e.choice t c a b) = two_own_none (in_expr c) (in_expr a ++ in_expr b) (own_none c) (two_own_none (in_expr a) (in_expr b) (own_none a) (own_none b))
  own_none (e.assign t a b) = two_own_none (in_expr a) (in_expr b) (own_none a) (own_none b)
  own_none (e.update t op at a b) = two_own_none (in_expr a) (in_expr b) (own_none a) (own_none b)
  own_none (e.index t a i) = two_own_none (in_expr a) (in_expr i) (own_none a) (own_none i)
  own_none (e.call t f es) = two_own_none (in_expr f) (in_args es) (own_none f) (args_own_none es)
  own_none (e.member t a m) = own_none a
  own_none (e.arrow t a m) = own_none a

  pub args_own_none : (es : TArgs) → own_numbers (in_args es) ≡ []
  args_own_none e.no_args = refl
  args_own_none (e.more_args a es) = two_own_none (in_expr a) (in_args es) (own_none a) (args_own_none es)

-- parts of an expression

-- what says the same counts the same
same_texts : (n m : ℕ) (ms ns : List Mention) → ms ≡ ns → Counts n (text_numbers ns) m → Counts n (text_numbers ms) m
same_texts n m ms ns q h = subst (λ ks. Counts n (text_numbers ks) m) (sym q) h

-- two lists, one behind the other
pub both_count : (n m l : ℕ) (ms ns : List Mention) → Counts n (text_numbers ms) m → Counts m (text_numbers ns) l → Counts n (text_numbers (ms ++ ns)) l
both_count n m l ms ns h g = subst (λ ks. Counts n ks l) (sym (texts_both ms ns)) (counts_both n m l (text_numbers ms) (text_numbers ns) h g)

-- two parts, the second of which stands behind the texts of the first
two_count : (ts bs ds : List (List ℕ)) (ms ns : List Mention) → Counts (length ts) (text_numbers ms) (length (ts ++ bs)) →
    Counts (length (ts ++ bs)) (text_numbers ns) (length ((ts ++ bs) ++ ds)) → Counts (length ts) (text_numbers (ms ++ ns)) (length (ts ++ (bs ++ ds)))
two_count ts bs ds ms ns h g =
    subst (λ us. Counts (length ts) (text_numbers (ms ++ ns)) (length us)) (append_assoc ts bs ds) (both_count (length ts) (length (ts ++ bs)) (length ((ts ++ bs) ++ ds)) ms ns h g)

-- no texts
none_count : (ts : List (List ℕ)) (ks : List ℕ) → ks ≡ [] → Counts (length ts) ks (length (ts ++ []))
none_count ts ks q = subst (λ js. Counts (length ts) js (length (ts ++ []))) (sym q) (ap length (sym (append-nil ts)))

-- what a rule gives
given_texts : (n m : ℕ) (ms : List Mention) (j : Judged TExpr) (t : TExpr) → Says ms j → j ≡ Is t → Counts n (text_numbers ms) m → Counts n (text_numbers (in_expr t)) m
given_texts n m ms j t h q g = same_texts n m (in_expr t) ms (each_is (λ u. in_expr u ≡ ms) j t h q) g

-- names

abbrev HasNone : TExpr → Type 0
HasNone t = text_numbers (in_expr t) ≡ []

ref_texts : (t : CType) (x : Ref) → HasNone (e.name t x)
ref_texts t (e.Local i) = refl
ref_texts t (e.Param i) = refl
ref_texts t (e.Static k) = refl
ref_texts t (e.Ext x) = refl
ref_texts t (e.Func k) = refl
ref_texts t (e.Outer x) = refl
ref_texts t (e.Const n) = refl

as_expr_texts : (o : Option Meaning) → Each HasNone (r.as_expr o)
as_expr_texts None = tt
as_expr_texts (Some (Alias t)) = tt
as_expr_texts (Some (Constant n)) = refl
as_expr_texts (Some (Thing x t)) = ref_texts t x
as_expr_texts (Some (Function s x t)) = ref_texts t x

called_name_texts : (c : Env) (x : Name) (o : Option Meaning) → Each HasNone (r.called_name c x o)
called_name_texts c x None = ref_texts (fun (num Int)) (function_ref c false x)
called_name_texts c x (Some m) = as_expr_texts (Some m)

-- what is called says what the expression says
called_none : (x : TExpr) → HasNone x → Each HasNone (r.called x)
called_none x h = case_of (r.called x) (s.called_says x)
  where
    case_of : (j : Judged TExpr) → Says (in_expr x) j → Each HasNone j
    case_of (Is t) q = ap text_numbers q ∙ h
    case_of (Fails n) q = tt

-- expressions

called_texts : (c : Env) (f : Expr) (x : TExpr) → ((u : TExpr) → IsExpr c f u → Counts (length c.texts) (text_numbers (in_expr u)) (length (past f c).texts)) →
    IsCalled c f (IsExpr c f) x → Counts (length c.texts) (text_numbers (in_expr x)) (length (past f c).texts)
called_texts c (name l y) x h q =
    none_count c.texts (text_numbers (in_expr x))
    (each_is HasNone _ x (onward_each HasNone HasNone (r.called_name c y (meaning_of c y)) r.called (called_name_texts c y (meaning_of c y)) called_none) q)
called_texts c f x h q = given_texts (length c.texts) (length (past f c).texts) (in_expr q.0) (r.called q.0) x (s.called_says q.0) q.2 (h q.0 q.1)

mutual
  pub expr_texts : (c : Env) (a : Expr) (t : TExpr) → IsExpr c a t → Counts (length c.texts) (text_numbers (in_expr t)) (length (past a c).texts)
  expr_texts c (comma l a b) t (x, y, hx, hy, q) =
      given_texts _ _ (in_expr x ++ in_expr y) (r.comma x y) t (s.comma_says x y) q
      (two_count c.texts (texts_in a) (texts_in b) (in_expr x) (in_expr y) (expr_texts c a x hx) (expr_texts (past a c) b y hy))
  expr_texts c (assign l op a b) t (x, y, hx, hy, q) =
      given_texts _ _ (in_expr x ++ in_expr y) (r.assignment c op x y) t (s.assignment_says c op x y) q
      (two_count c.texts (texts_in a) (texts_in b) (in_expr x) (in_expr y) (expr_texts c a x hx) (expr_texts (past a c) b y hy))
  expr_texts c (choice l a b d) t (x, y, z, hx, hy, hz, q) =
      given_texts _ _ (in_expr x ++ (in_expr y ++ in_expr z)) (r.choice c x y z) t (s.choice_says c x y z) q
      (two_count c.texts (texts_in a) (texts_in b ++ texts_in d) (in_expr x) (in_expr y ++ in_expr z) (expr_texts c a x hx)
      (two_count (past a c).texts (texts_in b) (texts_in d) (in_expr y) (in_expr z) (expr_texts (past a c) b y hy) (expr_texts (past b (past a c)) d z hz)))
  expr_texts c (binary l op a b) t (x, y, hx, hy, q) =
      given_texts _ _ (in_expr x ++ in_expr y) (r.binary c op x y) t (s.binary_says c op x y) q
      (two_count c.texts (texts_in a) (texts_in b) (in_expr x) (in_expr y) (expr_texts c a x hx) (expr_texts (past a c) b y hy))
  expr_texts c (unary l op a) t (x, hx, q) = given_texts _ _ (in_expr x) (r.unary c op x) t (s.unary_says c op x) q (expr_texts c a x hx)
  expr_texts c (size_of l a) t (x, hx, q) = given_texts _ _ (in_expr x) (r.size_of c x) t (s.size_of_says c x) q (expr_texts c a x hx)
  expr_texts c (size_of_type l y) t (u, hu, q) = none_count c.texts _ (rw q refl)
  expr_texts c (cast l y a) t (u, x, hu, hx, q) = given_texts _ _ (in_expr x) (r.cast c u x) t (s.cast_says c u x) q (expr_texts c a x hx)
  expr_texts c (index l a i) t (x, y, hx, hy, q) =
      given_texts _ _ (in_expr x ++ in_expr y) (r.subscript c x y) t (s.subscript_says c x y) q
      (two_count c.texts (texts_in a) (texts_in i) (in_expr x) (in_expr y) (expr_texts c a x hx) (expr_texts (past a c) i y hy))
  expr_texts c (call l f es) t (x, ys, hx, hys, q) =
      same_texts _ _ (in_expr t) (in_expr x ++ in_args ys) (ap in_expr q)
      (two_count c.texts (texts_in f) (texts_in_all es) (in_expr x) (in_args ys) (called_texts c f x (λ u g. expr_texts c f u g) hx) (args_texts (past f c) es ys hys))
  expr_texts c (member l a y) t (x, hx, q) = given_texts _ _ (in_expr x) (r.dot c x y) t (s.dot_says c x y) q (expr_texts c a x hx)
  expr_texts c (arrow l a y) t (x, hx, q) = given_texts _ _ (in_expr x) (r.arrow c x y) t (s.arrow_says c x y) q (expr_texts c a x hx)
  expr_texts c (post l op a) t (x, hx, q) = given_texts _ _ (in_expr x) (r.step c (r.post_op op) x) t (s.step_says c (r.post_op op) x) q (expr_texts c a x hx)
  expr_texts c (name l y) t q = none_count c.texts (text_numbers (in_expr t)) (each_is HasNone (r.as_expr (meaning_of c y)) t (as_expr_texts (meaning_of c y)) q)
  expr_texts c (int l n long) t q = none_count c.texts _ (rw q refl)
  expr_texts c (chr l n) t q = none_count c.texts _ (rw q refl)
  expr_texts c (text l bs) t q =
      same_texts (length c.texts) _ (in_expr t) (Text (length c.texts) ∷ []) (ap in_expr q)
      (refl, let z = length-append c.texts ((bs ++ 0 ∷ []) ∷ []) in omega arith)

  pub args_texts : (c : Env) (es : Exprs) (ys : TArgs) → AreArgs c es ys → Counts (length c.texts) (text_numbers (in_args ys)) (length (c.texts ++ texts_in_all es))
  args_texts c no_exprs ys q = none_count c.texts _ (rw q refl)
  args_texts c (more_exprs a es) ys (x, v, vs, hx, k, hvs, q) =
      same_texts _ _ (in_args ys) (in_expr v ++ in_args vs) (ap in_args q)
      (two_count c.texts (texts_in a) (texts_in_all es) (in_expr v) (in_args vs) (given_texts _ _ (in_expr x) (scalar 20 x) v (s.scalar_says 20 x) k (expr_texts c a x hx)) (args_texts (past a c) es vs hvs))

-- what rules give for expressions

pub gives_texts : (rule : TExpr → Judged TExpr) → ((x : TExpr) → Says (in_expr x) (rule x)) → (c : Env) (a : Expr) (v : TExpr) → Gives rule c a v →
    Counts (length c.texts) (text_numbers (in_expr v)) (length (past a c).texts)
gives_texts rule h c a v (x, hx, q) = given_texts _ _ (in_expr x) (rule x) v (h x) q (expr_texts c a x hx)

-- a constant says what its expression says
abbrev IsNumberOf : TExpr → Number → Type 0
IsNumberOf x k = in_expr k.expr ≡ in_expr x

constant_says : (c : Env) (x : TExpr) → Each (IsNumberOf x) (constant_of c x)
constant_says c x = onward_each (λ v. in_expr v ≡ in_expr x) (IsNumberOf x) (used x) _ (s.used_says x) (λ v h. with_says v (constant c.tags v) h)
  where
    with_says : (v : TExpr) (o : Option ℕ) → in_expr v ≡ in_expr x → Each (IsNumberOf x) (with_bits v o)
    with_says v None h = tt
    with_says v (Some n) h = h

dimension_says : (c : Env) (x : TExpr) → Each (IsNumberOf x) (dimension_of c x)
dimension_says c x = onward_each (IsNumberOf x) (IsNumberOf x) (constant_of c x) _ (constant_says c x) (λ k h. provided_each (IsNumberOf x) 5 (is_positive (type_of k.expr) k.bits) (Is k) (λ q. h))

number_texts : (rule : TExpr → Judged Number) → ((x : TExpr) → Each (IsNumberOf x) (rule x)) → (c : Env) (a : Expr) (k : Number) → Gives rule c a k →
    Counts (length c.texts) (text_numbers (in_expr k.expr)) (length (past a c).texts)
number_texts rule h c a k (x, hx, q) = same_texts _ _ (in_expr k.expr) (in_expr x) (each_is (IsNumberOf x) (rule x) k (h x) q) (expr_texts c a x hx)

pub constant_texts : (c : Env) (a : Expr) (k : Number) → IsConstant c a k → Counts (length c.texts) (text_numbers (in_expr k.expr)) (length (past a c).texts)
constant_texts c a k h = number_texts (constant_of c) (constant_says c) c a k h

pub dimension_texts : (c : Env) (a : Expr) (k : Number) → Gives (dimension_of c) c a k → Counts (length c.texts) (text_numbers (in_expr k.expr)) (length (past a c).texts)
dimension_texts c a k h = number_texts (dimension_of c) (dimension_says c) c a k h

-- declarators

pub derived_texts : (c : Env) (missing : Option ℕ) (base : CType) (d : ud.Declr) (x : Name) (t : CType) (es : List TExpr) → IsDerived c missing base d x t es →
    Counts (length c.texts) (text_numbers (flat_map in_expr es)) (length (past_declr d c).texts)
derived_texts c missing base (ud.pointer l d) x t es h = derived_texts c missing (ptr base) d x t es h
derived_texts c missing base (ud.name l y) x t es h = same_texts _ _ (flat_map in_expr es) [] (ap (flat_map in_expr) h.2) refl
derived_texts c missing base (ud.array l d None) x t es h = derived_texts c missing (arr h.0 base) d x t es h.3
derived_texts c missing base (ud.array l d (Some a)) x t es (k, rest, hd, hk, q) =
    let inner = past_declr d c in
    same_texts _ _ (flat_map in_expr es) (flat_map in_expr rest ++ in_expr k.expr) (ap (flat_map in_expr) q ∙ (flat_map-append in_expr rest (k.expr ∷ []) ∙ ap (λ ms. flat_map in_expr rest ++ ms) (append-nil (in_expr k.expr))))
    (both_count (length c.texts) (length inner.texts) (length (past a inner).texts) (flat_map in_expr rest) (in_expr k.expr) (derived_texts c missing (arr k.bits base) d x t rest hd) (dimension_texts inner a k hk))
derived_texts c missing base (ud.function l d xs) x t es h = derived_texts c missing (fun base) d x t es h
