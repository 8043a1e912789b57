-- The typed expression of an expression suits where names do.
use Rattle.std.proofs.Common.{◌≡◌, ℕ, List, Bool, true, false, refl, sym, subst}
use Rattle.std.proofs.lemmas.Bool.{and_from}
use Rattle.c_type.specs.Names.{pick}
use Rattle.c_type.specs.Types.{CType, num, void, ptr, arr, struct, union, enum, fun, Tag, same_type, is_integer}
use Rattle.c_tree.specs.TreeExpr.{Expr, Exprs, TypeName, comma, assign, choice, binary, unary, size_of, size_of_type, cast, index, call, member, arrow, post, name, int, chr, text, no_exprs, more_exprs}
use Rattle.c_tree.specs.TExpr as e
use Rattle.c_tree.specs.TExpr.{TExpr, TArgs, type_of}
use Rattle.c_rule.specs.RuleScope.{Judged, Is, Fails, Env, past, known, meaning_of}
use Rattle.c_rule.specs.RuleTypes.{void_is_a_result, elements_are_objects, functions_return, elements_are_sized, declared_type, spec_type, void_or, pointer_to, cast_type}
use Rattle.c_rule.specs.RuleValues.{used, integer, scalar, is_scalar, to_type, is_taken, taken, value_for}
use Rattle.c_rule.specs.RuleDecls.{first_value, is_known}
use Rattle.c_rule.specs.RuleExprs as r
use Rattle.c_rule.specs.RuleTree.{IsExpr, IsCalled, AreArgs, Gives}
use Rattle.c_sound.specs.Unit.{Declares, IsMeant, AnyText}
use Rattle.c_sound.specs.Suits.{Suits, SuitArgs, SuitsHere, is_used, is_taken_as}
use Rattle.c_sound.proofs.Stands.{Stands, SaneTags, IsSane, IsDeclared, name_means, past_stands}
use Rattle.c_sound.proofs.KnownSuits.{known_suits}
use Rattle.c_sound.proofs.RuleSuits as p
use Rattle.c_sound.proofs.Outcomes.{Each, each_is, onward_each, provided_each}
use Rattle.c_sound.proofs.RuleSuits.{IsPart, IsValue, IsScalar, IsWide, IsTaken, IsCallee, target_declared}
use Rattle.c_sound.proofs.TypeTests.{same_self}

-- types

pub declared_sane : (c : Env) (t : CType) → Each IsDeclared (declared_type c t)
declared_sane c t =
    provided_each IsDeclared 4 (void_is_a_result t) _ (λ h.
    provided_each IsDeclared 5 (elements_are_objects t) _ (λ k.
    provided_each IsDeclared 6 (functions_return t) _ (λ g.
    provided_each IsDeclared 3 (elements_are_sized (known c) t) _ (λ q. target_declared t (k, g, h)))))

any_sane : (j : Judged CType) → Each IsDeclared j → Each IsSane j
any_sane (Is t) h = h.0
any_sane (Fails n) h = tt

void_or_sane : (t : CType) (j : Judged CType) → Each IsDeclared j → Each IsSane (void_or t j)
void_or_sane void j h = (refl, refl, refl)
void_or_sane (num k) j h = any_sane j h
void_or_sane (ptr t) j h = any_sane j h
void_or_sane (arr m t) j h = any_sane j h
void_or_sane (struct k) j h = any_sane j h
void_or_sane (union k) j h = any_sane j h
void_or_sane (enum k) j h = any_sane j h
void_or_sane (fun t) j h = any_sane j h

cast_sane : (c : Env) (y : TypeName) (t : CType) → cast_type c y ≡ Is t → IsSane t
cast_sane c y t q = each_is IsSane (cast_type c y) t (onward_each (λ s. Unit {0}) IsSane (spec_type c y.types) _ (any (spec_type c y.types)) (λ s k. void_or_sane (pointer_to y.stars s) _ (declared_sane c (pointer_to y.stars s)))) q
  where
    any : (j : Judged CType) → Each (λ s. Unit {0}) j
    any (Is a) = tt
    any (Fails n) = tt

-- expressions

module _ (n : ℕ) (ks : Declares) (ts : List Tag) where
  -- the tags that are closed at c
  tags_sane : (c : Env) → Stands n ks ts c → SaneTags 0 c.tags
  tags_sane c h = subst (SaneTags 0) (sym h.tags) h.sane

  int_part : (k : ℕ) (long : Bool) → IsPart n ks (e.int (num (r.kind_of_int k long)) k)
  int_part k long = record { suits = refl; sane = (refl, refl, refl); placed = λ q. cc }

  called_part : (c : Env) (f : Expr) (x : TExpr) → Stands n ks ts c → ((u : TExpr) → IsExpr c f u → IsPart n ks u) → IsCalled c f (IsExpr c f) x → IsCallee n ks x
  called_part c (name l y) x h part q =
      each_is (IsCallee n ks) _ x
      (onward_each (IsPart n ks) (IsCallee n ks) (r.called_name c y (meaning_of c y)) r.called (p.called_name_suits n ks c y (meaning_of c y) h.bodies (name_means c y h)) (p.called_suits n ks)) q
  called_part c _ x h part q = each_is (IsCallee n ks) (r.called q.0) x (p.called_suits n ks q.0 (part q.0 q.1)) q.2

  mutual
    pub expr_part : (c : Env) (a : Expr) (t : TExpr) → Stands n ks ts c → IsExpr c a t → IsPart n ks t
    expr_part c (comma l a b) t h (x, y, hx, hy, q) =
        each_is (IsPart n ks) (r.comma x y) t (p.comma_suits n ks x y (expr_part c a x h hx) (expr_part (past a c) b y (past_stands n ks ts a c h) hy)) q
    expr_part c (assign l op a b) t h (x, y, hx, hy, q) =
        each_is (IsPart n ks) (r.assignment c op x y) t (p.assignment_suits n ks c op x y (expr_part c a x h hx) (expr_part (past a c) b y (past_stands n ks ts a c h) hy)) q
    expr_part c (choice l a b d) t h (x, y, z, hx, hy, hz, q) =
        let h1 = past_stands n ks ts a c h in
        each_is (IsPart n ks) (r.choice c x y z) t
        (p.choice_suits n ks c x y z (expr_part c a x h hx) (expr_part (past a c) b y h1 hy) (expr_part (past b (past a c)) d z (past_stands n ks ts b (past a c) h1) hz)) q
    expr_part c (binary l op a b) t h (x, y, hx, hy, q) =
        each_is (IsPart n ks) (r.binary c op x y) t (p.binary_rule_suits n ks c op x y (expr_part c a x h hx) (expr_part (past a c) b y (past_stands n ks ts a c h) hy)) q
    expr_part c (unary l op a) t h (x, hx, q) = each_is (IsPart n ks) (r.unary c op x) t (p.unary_rule_suits n ks c op x (expr_part c a x h hx)) q
    expr_part c (size_of l a) t h (x, hx, q) = each_is (IsPart n ks) (r.size_of c x) t (p.size_of_suits n ks c x) q
    expr_part c (size_of_type l y) t h (s, hs, q) = subst (IsPart n ks) (sym q) (record { suits = tt; sane = (refl, refl, refl); placed = λ k. cc })
    expr_part c (cast l y a) t h (s, x, hs, hx, q) = each_is (IsPart n ks) (r.cast c s x) t (p.cast_suits n ks c s x (cast_sane c y s hs) (expr_part c a x h hx)) q
    expr_part c (index l a i) t h (x, y, hx, hy, q) =
        each_is (IsPart n ks) (r.subscript c x y) t (p.subscript_suits n ks c x y (expr_part c a x h hx) (expr_part (past a c) i y (past_stands n ks ts a c h) hy)) q
    expr_part c (call l f es) t h (x, ys, hx, hys, q) =
        subst (IsPart n ks) (sym q) (p.call_part n ks x ys (called_part c f x h (λ u g. expr_part c f u h g) hx) (args_suit (past f c) es ys (past_stands n ks ts f c h) hys))
    expr_part c (member l a y) t h (x, hx, q) = each_is (IsPart n ks) (r.dot c x y) t (p.dot_suits n ks c x y (tags_sane c h) (expr_part c a x h hx)) q
    expr_part c (arrow l a y) t h (x, hx, q) = each_is (IsPart n ks) (r.arrow c x y) t (p.arrow_suits n ks c x y (tags_sane c h) (expr_part c a x h hx)) q
    expr_part c (post l op a) t h (x, hx, q) = each_is (IsPart n ks) (r.step c (r.post_op op) x) t (p.step_suits n ks c (r.post_op op) x (expr_part c a x h hx)) q
    expr_part c (name l y) t h q = each_is (IsPart n ks) (r.as_expr (meaning_of c y)) t (p.as_expr_suits n ks (meaning_of c y) (name_means c y h)) q
    expr_part c (int l k long) t h q = subst (IsPart n ks) (sym q) (int_part k long)
    expr_part c (chr l k) t h q = subst (IsPart n ks) (sym q) (record { suits = refl; sane = (refl, refl, refl); placed = λ z. cc })
    expr_part c (text l bs) t h q = subst (IsPart n ks) (sym q) (record { suits = (tt, refl, refl); sane = (refl, refl, refl); placed = λ z. refl })

    args_suit : (c : Env) (es : Exprs) (ys : TArgs) → Stands n ks ts c → AreArgs c es ys → SuitArgs true (IsMeant n ks) AnyText ys
    args_suit c no_exprs ys h q = subst (SuitArgs true (IsMeant n ks) AnyText) (sym q) tt
    args_suit c (more_exprs a es) ys h (x, v, vs, hx, k, hvs, q) =
        let g = each_is (IsScalar n ks) (scalar 20 x) v (p.scalar_suits n ks 20 x (expr_part c a x h hx)) k in
        subst (SuitArgs true (IsMeant n ks) AnyText) (sym q) (g.value.suits, g.scalar, args_suit (past a c) es vs (past_stands n ks ts a c h) hvs)

  pub expr_suits : (c : Env) (a : Expr) (t : TExpr) → Stands n ks ts c → IsExpr c a t → Suits true (IsMeant n ks) AnyText t
  expr_suits c a t h k = (expr_part c a t h k).suits

  -- what rules give for expressions
  gives_suits : {B : Type 0} (P : B → Type 0) (rule : TExpr → Judged B) (c : Env) (a : Expr) (b : B) → Stands n ks ts c → ((x : TExpr) → IsPart n ks x → Each P (rule x)) → Gives rule c a b → P b
  gives_suits P rule c a b h f (x, hx, q) = each_is P (rule x) b (f x (expr_part c a x h hx)) q

  pub used_gives : (c : Env) (a : Expr) (v : TExpr) → Stands n ks ts c → Gives used c a v → SuitsHere (IsMeant n ks) AnyText is_used v
  used_gives c a v h g = let k = gives_suits (IsValue n ks) used c a v h (p.used_suits n ks) g in (k.suits, k.is_used)

  pub scalar_gives : (m : ℕ) (c : Env) (a : Expr) (v : TExpr) → Stands n ks ts c → Gives (scalar m) c a v → SuitsHere (IsMeant n ks) AnyText is_scalar v
  scalar_gives m c a v h g = let k = gives_suits (IsScalar n ks) (scalar m) c a v h (p.scalar_suits n ks m) g in (k.value.suits, k.scalar)

  pub integer_gives : (m : ℕ) (c : Env) (a : Expr) (v : TExpr) → Stands n ks ts c → Gives (integer m) c a v → SuitsHere (IsMeant n ks) AnyText is_integer v
  integer_gives m c a v h g = let k = gives_suits (IsWide n ks) (integer m) c a v h (p.integer_suits n ks m) g in (k.value.suits, k.integer)

  taken_as : (t : CType) (v : TExpr) → IsTaken n ks t v → is_taken_as t (type_of v) ≡ true
  taken_as t v h = and_from (is_scalar t) (same_type (type_of v) t) h.scalar (subst (λ u. same_type (type_of v) u ≡ true) h.is_type (same_self (type_of v)))

  pub value_gives : (m : ℕ) (c : Env) (t : CType) (a : Expr) (v : TExpr) → IsSane t → Stands n ks ts c → Gives (value_for m c t) c a v → SuitsHere (IsMeant n ks) AnyText (is_taken_as t) v
  value_gives m c t a v s h g = let k = gives_suits (IsTaken n ks t) (value_for m c t) c a v h (λ x hx. p.value_for_suits n ks m c t x s hx) g in (k.value.suits, taken_as t v k)

  -- a value with which an object of static life begins
  abbrev pub IsFirst : CType → TExpr → Type 0
  IsFirst t v = Suits false (IsMeant n ks) AnyText v × (is_taken_as t (type_of v) ≡ true)

  to_type_first : (t : CType) (w : TExpr) → Suits false (IsMeant n ks) AnyText w → Suits true (IsMeant n ks) AnyText (to_type t w) → Suits false (IsMeant n ks) AnyText (to_type t w)
  to_type_first t w h = case_of (same_type t (type_of w))
    where
      case_of : (b : Bool) → Suits true (IsMeant n ks) AnyText (pick b w (e.convert t w)) → Suits false (IsMeant n ks) AnyText (pick b w (e.convert t w))
      case_of true g = h
      case_of false g = (h, g.1, g.2)

  first_suits : (c : Env) (t : CType) (x : TExpr) → IsSane t → IsPart n ks x → Each (IsFirst t) (first_value c t x)
  first_suits c t x s hx =
      onward_each (IsValue n ks) (IsFirst t) (used x) _ (p.used_suits n ks x hx) (λ w h.
      provided_each (IsFirst t) 10 (is_known c.tags t w) _ (λ k.
      let f = known_suits (IsMeant n ks) AnyText c.tags t w k h.suits in
      provided_each (IsFirst t) 10 (is_taken c t w) (Is (to_type t w)) (λ q.
      let g = each_is (IsTaken n ks t) (taken 10 c t w) (to_type t w) (p.taken_suits n ks 10 c t w s h) (rw q refl) in
      (to_type_first t w f g.value.suits, taken_as t (to_type t w) g))))

  pub first_gives : (c : Env) (t : CType) (a : Expr) (v : TExpr) → IsSane t → Stands n ks ts c → Gives (first_value c t) c a v → IsFirst t v
  first_gives c t a v s h g = gives_suits (IsFirst t) (first_value c t) c a v h (λ x k. first_suits c t x s k) g
