-- At most one typed declarator, initialiser and constant belongs to one that is read.
use Rattle.std.proofs.Common.{◌≡◌, ℕ, List, [], ◌∷◌, ◌++◌, Option, Some, None, Bool, true, false, sym, ap, ◌∙◌, subst}
use Rattle.c_type.specs.Names.{Name}
use Rattle.c_type.specs.Types.{CType, ptr, arr, fun}
use Rattle.c_tree.specs.TreeExpr as u
use Rattle.c_tree.specs.TreeDecl as ud
use Rattle.c_tree.specs.TExpr.{TExpr}
use Rattle.c_tree.specs.TStmt as st
use Rattle.c_tree.specs.TStmt.{Declr}
use Rattle.c_rule.specs.RuleScope.{Env}
use Rattle.c_rule.specs.RuleValues.{value_for}
use Rattle.c_rule.specs.RuleDecls.{dimension_of, past_declr, IsDerived, IsDeclr, fills_chars, first_value, IsSingle, IsInit, AreInits, Begins, IsAutoInit, part_types}
use Rattle.c_rule.proofs.OneExpr.{gives_one}

some_or : {A : Type 0} → A → Option A → A
some_or a None = a
some_or a (Some b) = b

pub some_one : {A : Type 0} (o : Option A) (a b : A) → o ≡ Some a → o ≡ Some b → a ≡ b
unfolding some_or
some_one o a b p q = ap (some_or a) (sym p ∙ q)

-- a declarator's name and dimensions do not depend on the type that its words give
pub dims_one : (c : Env) (m : Option ℕ) (base base' : CType) (d : ud.Declr) (x x' : Name) (t t' : CType) (es es' : List TExpr) →
    IsDerived c m base d x t es → IsDerived c m base' d x' t' es' → (x ≡ x') × (es ≡ es')
dims_one c m base base' (ud.pointer l d) x x' t t' es es' h h' = dims_one c m (ptr base) (ptr base') d x x' t t' es es' h h'
dims_one c m base base' (ud.name l y) x x' t t' es es' (p, q, r) (p', q', r') = (p ∙ sym p', r ∙ sym r')
dims_one c m base base' (ud.array l d None) x x' t t' es es' (n, g, q, h) (n', g', q', h') = dims_one c m (arr n base) (arr n' base') d x x' t t' es es' h h'
dims_one c m base base' (ud.array l d (Some a)) x x' t t' es es' (k, rest, h, g, q) (k', rest', h', g', q') =
    let p = dims_one c m (arr k.bits base) (arr k'.bits base') d x x' t t' rest rest' h h' in
    let p1 = gives_one (dimension_of (past_declr d c)) (past_declr d c) a k k' g g' in
    (p.0, q ∙ ap (λ z. z ++ k.expr ∷ []) p.1 ∙ ap (λ z. rest' ++ z.expr ∷ []) p1 ∙ sym q')
dims_one c m base base' (ud.function l d xs) x x' t t' es es' h h' = dims_one c m (fun base) (fun base') d x x' t t' es es' h h'

pub type_one : (c : Env) (m : Option ℕ) (base : CType) (d : ud.Declr) (x x' : Name) (t t' : CType) (es es' : List TExpr) →
    IsDerived c m base d x t es → IsDerived c m base d x' t' es' → t ≡ t'
type_one c m base (ud.pointer l d) x x' t t' es es' h h' = type_one c m (ptr base) d x x' t t' es es' h h'
type_one c m base (ud.name l y) x x' t t' es es' (p, q, r) (p', q', r') = q ∙ sym q'
type_one c m base (ud.array l d None) x x' t t' es es' (n, g, q, h) (n', g', q', h') =
    type_one c m (arr n base) d x x' t t' es es' h (subst (λ z. IsDerived c m (arr z base) d x' t' es') (sym (some_one m n n' q q')) h')
type_one c m base (ud.array l d (Some a)) x x' t t' es es' (k, rest, h, g, q) (k', rest', h', g', q') =
    let p1 = gives_one (dimension_of (past_declr d c)) (past_declr d c) a k k' g g' in
    type_one c m (arr k.bits base) d x x' t t' rest rest' h (subst (λ z. IsDerived c m (arr z.bits base) d x' t' rest') (sym p1) h')
type_one c m base (ud.function l d xs) x x' t t' es es' h h' = type_one c m (fun base) d x x' t t' es es' h h'

abbrev declr : Name → CType → List TExpr → Declr
declr x t es = record { name = x; ty = t; dims = es }

pub declr_one : (c : Env) (m : Option ℕ) (base : CType) (d : ud.Declr) (r r' : Declr) → IsDeclr c m base d r → IsDeclr c m base d r' → r ≡ r'
declr_one c m base d r r' (h, q) (h', q') =
    let p = dims_one c m base base d r.name r'.name r.ty r'.ty r.dims r'.dims h h' in
    let p1 = type_one c m base d r.name r'.name r.ty r'.ty r.dims r'.dims h h' in
    ap (λ z. declr z r.ty r.dims) p.0 ∙ ap (λ z. declr r'.name z r.dims) p1 ∙ ap (declr r'.name r'.ty) p.1

single_one : (fills : Bool) (c : Env) (t : CType) (a : u.Expr) (j j' : st.Init) (f f' : Env) → IsSingle fills c t a j f → IsSingle fills c t a j' f' → (j ≡ j') × (f ≡ f')
single_one true c t a j j' f f' h h' = (h.0 ∙ sym h'.0, h.1 ∙ sym h'.1)
single_one false c t a j j' f f' (v, g, q, r) (v', g', q', r') = (q ∙ ap st.single (gives_one (first_value c t) c a v v' g g') ∙ sym q', r ∙ sym r')

mutual
  pub init_one : (c : Env) (t : CType) (i : ud.Init) (j j' : st.Init) (f f' : Env) → IsInit c t i j f → IsInit c t i j' f' → (j ≡ j') × (f ≡ f')
  init_one c t (ud.single a) j j' f f' h h' = single_one (fills_chars t a) c t a j j' f f' h h'
  init_one c t (ud.group l is) j j' f f' (js, g, h, q) (js', g', h', q') =
      let p = inits_one c (part_types c.tags t) is js js' f f' h h' in
      (q ∙ ap st.group p.0 ∙ sym q', p.1)

  pub inits_one : (c : Env) (ts : List CType) (is : ud.Inits) (js js' : st.Inits) (f f' : Env) → AreInits c ts is js f → AreInits c ts is js' f' → (js ≡ js') × (f ≡ f')
  inits_one c ts ud.no_inits js js' f f' h h' = (h.0 ∙ sym h'.0, h.1 ∙ sym h'.1)
  inits_one c [] (ud.more_inits i is) js js' f f' h h' = absurd h
  inits_one c (t ∷ ts) (ud.more_inits i is) js js' f f' (j, rest, c1, h, k, q) (j', rest', c1', h', k', q') =
      let p = init_one c t i j j' c1 c1' h h' in
      let p1 = inits_one c1 ts is rest rest' f f' k (subst (λ z. AreInits z ts is rest' f') (sym p.1) k') in
      (q ∙ ap (λ z. st.more_inits z rest) p.0 ∙ ap (st.more_inits j') p1.0 ∙ sym q', p1.1)

pub begins_one : (c : Env) (t : CType) (i : Option ud.Init) (j j' : Option st.Init) (f f' : Env) → Begins c t i j f → Begins c t i j' f' → (j ≡ j') × (f ≡ f')
begins_one c t None j j' f f' h h' = (h.0 ∙ sym h'.0, h.1 ∙ sym h'.1)
begins_one c t (Some i) j j' f f' (k, h, q) (k', h', q') =
    let p = init_one c t i k k' f f' h h' in
    (q ∙ ap Some p.0 ∙ sym q', p.1)

pub auto_init_one : (c : Env) (t : CType) (i : ud.Init) (w w' : TExpr) → IsAutoInit c t i w → IsAutoInit c t i w' → w ≡ w'
auto_init_one c t (ud.single a) w w' h h' = gives_one (value_for 11 c t) c a w w' h h'
auto_init_one c t (ud.group l is) w w' h h' = absurd h
