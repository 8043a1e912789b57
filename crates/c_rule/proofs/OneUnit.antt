-- At most one typed unit belongs to a unit.
use Rattle.std.proofs.Common.{◌≡◌, ℕ, List, [], ◌∷◌, ◌++◌, map, Option, Some, None, Bool, true, false, sym, ap, ◌∙◌, subst}
use Rattle.c_type.specs.Names.{Name}
use Rattle.c_type.specs.Types.{CType, Member, Tag, struct, enum, target}
use Rattle.c_type.specs.declared.TagKind.TheVariants.{Struct, Enum}
use Rattle.c_tree.specs.declared.decl.Storage.TheVariants as sg
use Rattle.c_tree.specs.TreeDecl as ud
use Rattle.c_tree.specs.declared.decl.Storage.{Storage}
use Rattle.c_tree.specs.TreeExpr.{Expr, tag}
use Rattle.c_tree.specs.TreeUnit as uu
use Rattle.c_tree.specs.TExpr.{TExpr}
use Rattle.c_tree.specs.TStmt.{Declr, LocalDecl, TStmts}
use Rattle.c_tree.specs.TUnit as t
use Rattle.c_tree.specs.declared.typed_unit.Bound.TheVariants as bd
use Rattle.c_tree.specs.TUnit.{Spec, Mems, Enumerator, Item, ParDecl, Var, Func, TExt, TypedUnit}
use Rattle.c_tree.specs.TreeStmt.{Block}
use Rattle.c_rule.specs.Laws.{OneTypedUnit}
use Rattle.c_rule.specs.RuleScope.{Env, Meaning, Alias, Constant, Function, function_ref, in_scope, known, close, past_option, started}
use Rattle.c_rule.specs.RuleTypes.{is_function, spec_type}
use Rattle.c_rule.specs.RuleDecls.{constant_of, past_declr, IsDeclr, Begins}
use Rattle.c_rule.specs.RuleStmts.{is_static, missing, AreDecls, AreStmts}
use Rattle.c_rule.specs.RuleTags.{IsEnumerator, IsValued, AreEnumerators, AreMembers, AreTypes, IsDef, AreMems, IsMem, AreTypesOrInt, in_file, unplaced, member_of, as_member}
use Rattle.c_rule.specs.RuleUnit.{combined, DeclaresInFile, parameters, IsHead, own_number, next_static, IsFunctionItem, IsElsewhere, IsOutside, IsOwn, IsItemBy, AreItems, AreAliases, AreParameters, AreParDecls, list_of, in_body, at_body, IsBody, IsExt, at_first, AreExts}
use Rattle.c_rule.specs.RuleNames.{storage_of, types_of}
use Rattle.c_rule.proofs.OneExpr.{gives_one, is_one}
use Rattle.c_rule.proofs.OneStmt.{with_statics, decls_one, stmts_one}
use Rattle.c_rule.proofs.OneDecl.{some_one, declr_one, begins_one}

abbrev enumerator : Name → ℕ → Option TExpr → Enumerator
enumerator x n a = record { name = x; value = n; expr = a }

valued_one : (c : Env) (b : Option ℕ) (a : Option Expr) (y y' : Enumerator) → IsValued c b a y → IsValued c b a y' → (y.value ≡ y'.value) × (y.expr ≡ y'.expr)
valued_one c b None y y' h h' = (h.1 ∙ sym h'.1, h.0 ∙ sym h'.0)
valued_one c b (Some a) y y' (k, g, r, q) (k', g', r', q') =
    let p = gives_one (constant_of c) c a k k' g g' in
    (r ∙ ap (λ z. z.bits) p ∙ sym r', q ∙ ap (λ z. Some z.expr) p ∙ sym q')

pub enumerator_one : (c : Env) (b : Option ℕ) (x : ud.En) (y y' : Enumerator) → IsEnumerator c b x y → IsEnumerator c b x y' → y ≡ y'
enumerator_one c b x y y' h h' =
    let p = valued_one c b x.value y y' h.1 h'.1 in
    ap (λ z. enumerator z y.value y.expr) (h.0 ∙ sym h'.0) ∙ ap (λ z. enumerator y'.name z y.expr) p.0 ∙ ap (enumerator y'.name y'.value) p.1

pub enumerators_one : (c : Env) (b : Option ℕ) (xs : List ud.En) (ys ys' : List Enumerator) (f f' : Env) → AreEnumerators c b xs ys f → AreEnumerators c b xs ys' f' → (ys ≡ ys') × (f ≡ f')
enumerators_one c b [] ys ys' f f' h h' = (h.0 ∙ sym h'.0, h.1 ∙ sym h'.1)
enumerators_one c b (x ∷ xs) ys ys' f f' (y, rest, h, g, k, q) (y', rest', h', g', k', q') =
    let p = enumerator_one c b x y y' h h' in
    let k1 = subst (λ z. AreEnumerators (in_file (record { name = x.name; meaning = Constant z.value }) (past_option x.value c)) (Some z.value) xs rest' f') (sym p) k' in
    let p1 = enumerators_one (in_file (record { name = x.name; meaning = Constant y.value }) (past_option x.value c)) (Some y.value) xs rest rest' f f' k k1 in
    (q ∙ ap (λ z. z ∷ rest) p ∙ ap (λ z. y' ∷ z) p1.0 ∙ sym q', p1.1)

pub members_one : (c : Env) (base : CType) (ds : List ud.Declr) (ys ys' : List Declr) (f f' : Env) → AreMembers c base ds ys f → AreMembers c base ds ys' f' → (ys ≡ ys') × (f ≡ f')
members_one c base [] ys ys' f f' h h' = (h.0 ∙ sym h'.0, h.1 ∙ sym h'.1)
members_one c base (d ∷ ds) ys ys' f f' (y, rest, h, g, s, k, q) (y', rest', h', g', s', k', q') =
    let p = declr_one c None base d y y' h h' in
    let p1 = members_one (past_declr d c) base ds rest rest' f f' k k' in
    (q ∙ ap (λ z. z ∷ rest) p ∙ ap (λ z. y' ∷ z) p1.0 ∙ sym q', p1.1)

-- one typed part, one type, and one place behind it
abbrev Alike : Spec → Spec → CType → CType → Env → Env → Type 0
Alike s s' b b' f f' = (s ≡ s') × (b ≡ b') × (f ≡ f')

mutual
  pub types_one : (c : Env) (y : ud.Types) (s s' : Spec) (b b' : CType) (f f' : Env) → AreTypes c y s b f → AreTypes c y s' b' f' → Alike s s' b b' f f'
  types_one c (ud.spec y) s s' b b' f f' (h, q, r) (h', q', r') =
      let p = is_one (spec_type c y) b b' h h' in
      (q ∙ ap t.plain p ∙ sym q', p, r ∙ sym r')
  types_one c (ud.def d) s s' b b' f f' h h' = def_one c d s s' b b' f f' h h'

  pub def_one : (c : Env) (d : ud.TagDef) (s s' : Spec) (b b' : CType) (f f' : Env) → IsDef c d s b f → IsDef c d s' b' f' → Alike s s' b b' f f'
  def_one c (ud.struct l x ms) s s' b b' f f' (ys, ns, c1, h, g, q, r, w) (ys', ns', c1', h', g', q', r', w') =
      let p = mems_one c ms ys ys' ns ns' c1 c1' h h' in (
        q ∙ ap (λ z. t.struct_body (known z) ys) p.2 ∙ ap (t.struct_body (known c1')) p.0 ∙ sym q',
        r ∙ ap (λ z. struct (known z)) p.2 ∙ sym r',
        w ∙ ap (close (unplaced x Struct ns)) p.2 ∙ ap (λ z. close (unplaced x Struct z) c1') p.1 ∙ sym w',
      )
  def_one c (ud.union l x ms) s s' b b' f f' h h' = absurd h
  def_one c (ud.enum l x es) s s' b b' f f' (ys, c1, h, q, r, w) (ys', c1', h', q', r', w') =
      let p = enumerators_one c None es ys ys' c1 c1' h h' in (
        q ∙ ap (λ z. t.enum_body (known z) ys) p.1 ∙ ap (t.enum_body (known c1')) p.0 ∙ sym q',
        r ∙ ap (λ z. enum (known z)) p.1 ∙ sym r',
        w ∙ ap (close (unplaced x Enum (map as_member ys))) p.1 ∙ ap (λ z. close (unplaced x Enum (map as_member z)) c1') p.0 ∙ sym w',
      )

  pub mems_one : (c : Env) (ms : ud.Mems) (ys ys' : Mems) (ns ns' : List Member) (f f' : Env) → AreMems c ms ys ns f → AreMems c ms ys' ns' f' → (ys ≡ ys') × (ns ≡ ns') × (f ≡ f')
  mems_one c ud.no_mems ys ys' ns ns' f f' h h' = (h.0 ∙ sym h'.0, h.1 ∙ sym h'.1, h.2 ∙ sym h'.2)
  mems_one c (ud.more_mems m ms) ys ys' ns ns' f f' (s, ds, rest, others, c1, h, k, q, r) (s', ds', rest', others', c1', h', k', q', r') =
      let p = mem_one c m s s' ds ds' c1 c1' h h' in
      let p1 = mems_one c1 ms rest rest' others others' f f' k (subst (λ z. AreMems z ms rest' others' f') (sym p.2) k') in (
        q ∙ ap (λ z. t.more_mems z ds rest) p.0 ∙ ap (λ z. t.more_mems s' z rest) p.1 ∙ ap (t.more_mems s' ds') p1.0 ∙ sym q',
        r ∙ ap (λ z. map member_of z ++ others) p.1 ∙ ap (λ z. map member_of ds' ++ z) p1.1 ∙ sym r',
        p1.2,
      )

  pub mem_one : (c : Env) (m : ud.Mem) (s s' : Spec) (xs xs' : List Declr) (f f' : Env) → IsMem c m s xs f → IsMem c m s' xs' f' → (s ≡ s') × (xs ≡ xs') × (f ≡ f')
  mem_one c (ud.mem l y ds) s s' xs xs' f f' (b, c1, h, k) (b', c1', h', k') =
      let p = types_one c y s s' b b' c1 c1' h h' in
      let k1 = subst (λ z. AreMembers z b' ds xs' f') (sym p.2) k' in
      let p1 = members_one c1 b ds xs xs' f f' k (subst (λ z. AreMembers c1 z ds xs' f') (sym p.1) k1) in
      (p.0, p1.0, p1.1)

pub types_or_int_one : (c : Env) (y : Option ud.Types) (s s' : Spec) (b b' : CType) (f f' : Env) → AreTypesOrInt c y s b f → AreTypesOrInt c y s' b' f' → Alike s s' b b' f f'
types_or_int_one c None s s' b b' f f' h h' = (h.0 ∙ sym h'.0, h.1 ∙ sym h'.1, h.2 ∙ sym h'.2)
types_or_int_one c (Some y) s s' b b' f f' h h' = types_one c y s s' b b' f f' h h'

pub in_file_one : (c : Env) (x : Name) (m : Meaning) (f f' : Env) → DeclaresInFile c x m f → DeclaresInFile c x m f' → f ≡ f'
in_file_one c x m f f' (r, k, q) (r', k', q') = q ∙ ap (λ z. in_file (record { name = x; meaning = z }) c) (some_one (combined (in_scope x c.file) m) r r' k k') ∙ sym q'

elsewhere_one : (c : Env) (d : Declr) (i : Option ud.Init) (x x' : Item) (f f' : Env) → IsElsewhere c d i x f → IsElsewhere c d i x' f' → (x ≡ x') × (f ≡ f')
elsewhere_one c d i x x' f f' (a, h, q) (a', h', q') = (q ∙ sym q', in_file_one c d.name _ f f' h h')

function_one : (c : Env) (s : Bool) (d : Declr) (i : Option ud.Init) (x x' : Item) (f f' : Env) → IsFunctionItem c s d i x f → IsFunctionItem c s d i x' f' → (x ≡ x') × (f ≡ f')
function_one c s d i x x' f f' (a, h, q) (a', h', q') = (q ∙ sym q', in_file_one c d.name _ f f' h h')

outside_one : (c : Env) (d : Declr) (i : Option ud.Init) (x x' : Item) (f f' : Env) → IsOutside c d i x f → IsOutside c d i x' f' → (x ≡ x') × (f ≡ f')
outside_one c d i x x' f f' (j, c1, z, h, b, q) (j', c1', z', h', b', q') =
    let p = in_file_one c d.name _ c1 c1' h h' in
    let p1 = begins_one c1 d.ty i j j' f f' b (subst (λ y. Begins y d.ty i j' f') (sym p) b') in
    (q ∙ ap {B = Item} (λ y. record { declr = d; bound = bd.Outside; init = y }) p1.0 ∙ sym q', p1.1)

own_one : (c : Env) (d : Declr) (i : Option ud.Init) (x x' : Item) (f f' : Env) → IsOwn c d i x f → IsOwn c d i x' f' → (x ≡ x') × (f ≡ f')
own_one c d i x x' f f' (j, c1, c2, z, h, b, q, r) (j', c1', c2', z', h', b', q', r') =
    let p = in_file_one c d.name _ c1 c1' h h' in
    let p1 = begins_one c1 d.ty i j j' c2 c2' b (subst (λ y. Begins y d.ty i j' c2') (sym p) b') in (
      q ∙ ap {B = Item} (λ y. record { declr = d; bound = bd.Own (own_number c (in_scope d.name c.file)); init = y }) p1.0 ∙ sym q',
      r ∙ ap (with_statics (next_static c (in_scope d.name c.file))) p1.1 ∙ sym r',
    )

pub item_one : (b : Bool) (s : Option Storage) (c : Env) (d : Declr) (i : Option ud.Init) (x x' : Item) (f f' : Env) → IsItemBy b s c d i x f → IsItemBy b s c d i x' f' → (x ≡ x') × (f ≡ f')
item_one true s c d i x x' f f' h h' = function_one c (is_static s) d i x x' f f' h h'
item_one false None c d i x x' f f' h h' = outside_one c d i x x' f f' h h'
item_one false (Some sg.Extern) c d i x x' f f' h h' = elsewhere_one c d i x x' f f' h h'
item_one false (Some sg.Static) c d i x x' f f' h h' = own_one c d i x x' f f' h h'
item_one false (Some sg.Auto) c d i x x' f f' h h' = outside_one c d i x x' f f' h h'
item_one false (Some sg.Register) c d i x x' f f' h h' = outside_one c d i x x' f f' h h'

pub items_one : (c : Env) (s : Option Storage) (base : CType) (is : List ud.Item) (xs xs' : List Item) (f f' : Env) → AreItems c s base is xs f → AreItems c s base is xs' f' → (xs ≡ xs') × (f ≡ f')
items_one c s base [] xs xs' f f' h h' = (h.0 ∙ sym h'.0, h.1 ∙ sym h'.1)
items_one c s base (i ∷ is) xs xs' f f' (d, x, rest, c1, hd, hx, hr, q) (d', x', rest', c1', hd', hx', hr', q') =
    let p = declr_one c (missing s i.init) base i.declr d d' hd hd' in
    let hx1 = subst (λ y. IsItemBy (is_function y.ty) s (past_declr i.declr c) y i.init x' c1') (sym p) hx' in
    let p1 = item_one (is_function d.ty) s (past_declr i.declr c) d i.init x x' c1 c1' hx hx1 in
    let p2 = items_one c1 s base is rest rest' f f' hr (subst (λ y. AreItems y s base is rest' f') (sym p1.1) hr') in
    (q ∙ ap (λ y. y ∷ rest) p1.0 ∙ ap (λ y. x' ∷ y) p2.0 ∙ sym q', p2.1)

pub aliases_one : (c : Env) (base : CType) (ds : List ud.Declr) (xs xs' : List Declr) (f f' : Env) → AreAliases c base ds xs f → AreAliases c base ds xs' f' → (xs ≡ xs') × (f ≡ f')
aliases_one c base [] xs xs' f f' h h' = (h.0 ∙ sym h'.0, h.1 ∙ sym h'.1)
aliases_one c base (d ∷ ds) xs xs' f f' (x, rest, hd, g, hr, q) (x', rest', hd', g', hr', q') =
    let p = declr_one c None base d x x' hd hd' in
    let hr1 = subst (λ y. AreAliases (in_file (record { name = y.name; meaning = Alias y.ty }) (past_declr d c)) base ds rest' f') (sym p) hr' in
    let p1 = aliases_one (in_file (record { name = x.name; meaning = Alias x.ty }) (past_declr d c)) base ds rest rest' f f' hr hr1 in
    (q ∙ ap (λ y. y ∷ rest) p ∙ ap (λ y. x' ∷ y) p1.0 ∙ sym q', p1.1)

pub parameters_one : (c : Env) (xs : List Name) (base : CType) (ds : List ud.Declr) (ys ys' : List Declr) (f f' : Env) → AreParameters c xs base ds ys f → AreParameters c xs base ds ys' f' → (ys ≡ ys') × (f ≡ f')
parameters_one c xs base [] ys ys' f f' h h' = (h.0 ∙ sym h'.0, h.1 ∙ sym h'.1)
parameters_one c xs base (d ∷ ds) ys ys' f f' (y, rest, h, g, s, k, q) (y', rest', h', g', s', k', q') =
    let p = declr_one c (Some 0) base d y y' h h' in
    let p1 = parameters_one (past_declr d c) xs base ds rest rest' f f' k k' in
    (q ∙ ap (λ z. z ∷ rest) p ∙ ap (λ z. y' ∷ z) p1.0 ∙ sym q', p1.1)

abbrev par : Spec → List Declr → ParDecl
par s ds = record { spec = s; declrs = ds }

pub par_decls_one : (c : Env) (xs : List Name) (ps : List ud.ParDecl) (ys ys' : List ParDecl) (f f' : Env) → AreParDecls c xs ps ys f → AreParDecls c xs ps ys' f' → (ys ≡ ys') × (f ≡ f')
par_decls_one c xs [] ys ys' f f' h h' = (h.0 ∙ sym h'.0, h.1 ∙ sym h'.1)
par_decls_one c xs (p ∷ ps) ys ys' f f' (s, b, ds, rest, c1, c2, ht, hp, hr, q) (s', b', ds', rest', c1', c2', ht', hp', hr', q') =
    let a = types_one c p.types s s' b b' c1 c1' ht ht' in
    let hp1 = subst (λ z. AreParameters z xs b' p.declrs ds' c2') (sym a.2) hp' in
    let a1 = parameters_one c1 xs b p.declrs ds ds' c2 c2' hp (subst (λ z. AreParameters c1 xs z p.declrs ds' c2') (sym a.1) hp1) in
    let a2 = par_decls_one c2 xs ps rest rest' f f' hr (subst (λ z. AreParDecls z xs ps rest' f') (sym a1.1) hr') in
    (q ∙ ap (λ z. par z ds ∷ rest) a.0 ∙ ap (λ z. par s' z ∷ rest) a1.0 ∙ ap (λ z. par s' ds' ∷ z) a2.0 ∙ sym q', a2.1)

-- a body from its parts
abbrev body_of : Name → Bool → CType → List Var → List ParDecl → ℕ → ℕ → List LocalDecl → TStmts → ℕ → ℕ → Func
body_of x s r vs ps k l ds ss z m =
    record { name = x; is_static = s; result = r; params = vs; declared = ps; open_ = k; line = l; locals = ds; stmts = ss; close = z; close_line = m }

bodies_equal : (f g : Func) → f.name ≡ g.name → f.is_static ≡ g.is_static → f.result ≡ g.result → f.params ≡ g.params → f.declared ≡ g.declared → f.open_ ≡ g.open_ → f.line ≡ g.line →
    f.locals ≡ g.locals → f.stmts ≡ g.stmts → f.close ≡ g.close → f.close_line ≡ g.close_line → f ≡ g
bodies_equal f g a b c d p q r s t u v =
    ap (λ z. body_of z f.is_static f.result f.params f.declared f.open_ f.line f.locals f.stmts f.close f.close_line) a ∙
    ap (λ z. body_of g.name z f.result f.params f.declared f.open_ f.line f.locals f.stmts f.close f.close_line) b ∙
    ap (λ z. body_of g.name g.is_static z f.params f.declared f.open_ f.line f.locals f.stmts f.close f.close_line) c ∙
    ap (λ z. body_of g.name g.is_static g.result z f.declared f.open_ f.line f.locals f.stmts f.close f.close_line) d ∙
    ap (λ z. body_of g.name g.is_static g.result g.params z f.open_ f.line f.locals f.stmts f.close f.close_line) p ∙
    ap (λ z. body_of g.name g.is_static g.result g.params g.declared z f.line f.locals f.stmts f.close f.close_line) q ∙
    ap (λ z. body_of g.name g.is_static g.result g.params g.declared g.open_ z f.locals f.stmts f.close f.close_line) r ∙
    ap (λ z. body_of g.name g.is_static g.result g.params g.declared g.open_ g.line z f.stmts f.close f.close_line) s ∙
    ap (λ z. body_of g.name g.is_static g.result g.params g.declared g.open_ g.line g.locals z f.close f.close_line) t ∙
    ap (λ z. body_of g.name g.is_static g.result g.params g.declared g.open_ g.line g.locals g.stmts z f.close_line) u ∙
    ap (body_of g.name g.is_static g.result g.params g.declared g.open_ g.line g.locals g.stmts g.close) v

-- behind the closing brace of a body
abbrev behind : Env → Env
behind c = record (started 1 c) { blocks = [] }

pub head_one : (c : Env) (s : Bool) (h : ud.Declr) (d : Declr) (ps : List ud.ParDecl) (ys ys' : List ParDecl) (e e' : Env) → IsHead c s h d ps ys e → IsHead c s h d ps ys' e' → (ys ≡ ys') × (e ≡ e')
head_one c s h d ps ys ys' e e' (c1, hp, g1, g2, hd) (c1', hp', g1', g2', hd') =
    let p = par_decls_one c (list_of h) ps ys ys' c1 c1' hp hp' in
    (p.0, in_file_one c1 d.name _ e e' hd (subst (λ y. DeclaresInFile y d.name (Function s (function_ref y s d.name) d.ty) e') (sym p.1) hd'))

pub body_one : (c : Env) (s : Bool) (h : ud.Declr) (d : Declr) (ps : List ud.ParDecl) (b : Block) (f f' : Func) (e e' : Env) → IsBody c s h d ps b f e → IsBody c s h d ps b f' e' → (f ≡ f') × (e ≡ e')
body_one c s h d ps b f f' e e' (c1, c2, c3, r, hh, hl, hs, n, z, vs, l, m, k, j, q) (c1', c2', c3', r', hh', hl', hs', n', z', vs', l', m', k', j', q') =
    let er : f.result ≡ f'.result = ap target (sym r ∙ r') in
    let p = head_one c s h d ps f.declared f'.declared c1 c1' hh hh' in
    let ev : f.params ≡ f'.params = vs ∙ ap (parameters h) p.0 ∙ sym vs' in
    let hl1 = subst (λ y. AreDecls (in_body (parameters h f'.declared) y) b.decls f'.locals c2') (sym p.1) hl' in
    let p2 = decls_one (in_body (parameters h f.declared) c1) b.decls f.locals f'.locals c2 c2' hl (subst (λ y. AreDecls (in_body (parameters h y) c1) b.decls f'.locals c2') (sym p.0) hl1) in
    let hs1 = subst (λ y. AreStmts y (at_body f'.result) b.stmts f'.stmts c3') (sym p2.1) hs' in
    let p3 = stmts_one c2 (at_body f.result) b.stmts f.stmts f'.stmts c3 c3' hs (subst (λ y. AreStmts c2 (at_body y) b.stmts f'.stmts c3') (sym er) hs1) in (
      bodies_equal f f' (n ∙ sym n') (z ∙ sym z') er ev p.0 (k ∙ ap (λ y. y.starts) p.1 ∙ sym k') (l ∙ sym l') p2.0 p3.0
          (j ∙ ap (λ y. y.starts) p3.1 ∙ sym j') (m ∙ sym m'),
      q ∙ ap behind p3.1 ∙ sym q',
    )

pub ext_one : (c : Env) (y : uu.Ext) (x x' : TExt) (f f' : Env) → IsExt c y x f → IsExt c y x' f' → (x ≡ x') × (f ≡ f')
ext_one c (uu.typedef l y ds) x x' f f' (s, b, xs, c1, h, k, q) (s', b', xs', c1', h', k', q') =
    let p = types_or_int_one c y s s' b b' c1 c1' h h' in
    let k1 = subst (λ z. AreAliases z b' ds xs' f') (sym p.2) k' in
    let p1 = aliases_one c1 b ds xs xs' f f' k (subst (λ z. AreAliases c1 z ds xs' f') (sym p.1) k1) in
    (q ∙ ap (λ z. t.typedef z xs) p.0 ∙ ap (t.typedef s') p1.0 ∙ sym q', p1.1)
ext_one c (uu.tag_only l (ud.ref r)) x x' f f' (b, h, q, k) (b', h', q', k') = (q ∙ ap (λ z. t.tag_only (t.plain z)) (is_one (spec_type c (tag r)) b b' h h') ∙ sym q', k ∙ sym k')
ext_one c (uu.tag_only l (ud.body d)) x x' f f' (s, b, h, q) (s', b', h', q') =
    let p = def_one c d s s' b b' f f' h h' in
    (q ∙ ap t.tag_only p.0 ∙ sym q', p.2)
ext_one c (uu.object l s is) x x' f f' (y, b, xs, c1, h, k, q) (y', b', xs', c1', h', k', q') =
    let p = types_or_int_one c s.types y y' b b' c1 c1' h h' in
    let k1 = subst (λ z. AreItems z s.storage b' is xs' f') (sym p.2) k' in
    let p1 = items_one c1 s.storage b is xs xs' f f' k (subst (λ z. AreItems c1 s.storage z is xs' f') (sym p.1) k1) in
    (q ∙ ap (λ z. t.object z xs) p.0 ∙ ap (t.object y') p1.0 ∙ sym q', p1.1)
ext_one c (uu.func l s h ps b) x x' f f' (y, base, d, g, c1, ht, hd, hb, q) (y', base', d', g', c1', ht', hd', hb', q') =
    let p = types_or_int_one c (types_of s) y y' base base' c1 c1' ht ht' in
    let hd1 = subst (λ z. IsDeclr z None base' h d') (sym p.2) hd' in
    let p1 = declr_one c1 None base h d d' hd (subst (λ z. IsDeclr c1 None z h d') (sym p.1) hd1) in
    let hb1 = subst (λ z. IsBody z (is_static (storage_of s)) h d' ps b g' f') (sym p.2) hb' in
    let p2 = body_one c1 (is_static (storage_of s)) h d ps b g g' f f' hb (subst (λ z. IsBody c1 (is_static (storage_of s)) h z ps b g' f') (sym p1) hb1) in
    (q ∙ ap (λ z. t.func z g) p.0 ∙ ap (t.func y') p2.0 ∙ sym q', p2.1)

exts_one : (c : Env) (ys : List uu.Ext) (xs xs' : List TExt) (f f' : Env) → AreExts c ys xs f → AreExts c ys xs' f' → (xs ≡ xs') × (f ≡ f')
exts_one c [] xs xs' f f' h h' = (h.0 ∙ sym h'.0, h.1 ∙ sym h'.1)
exts_one c (y ∷ ys) xs xs' f f' (x, rest, c1, h, k, q) (x', rest', c1', h', k', q') =
    let p = ext_one c y x x' c1 c1' h h' in
    let p1 = exts_one c1 ys rest rest' f f' k (subst (λ z. AreExts z ys rest' f') (sym p.1) k') in
    (q ∙ ap (λ z. z ∷ rest) p.0 ∙ ap (λ z. x' ∷ z) p1.0 ∙ sym q', p1.1)

abbrev unit_of : List Tag → List (List ℕ) → List TExt → TypedUnit
unit_of ts bs xs = record { tags = ts; texts = bs; exts = xs }

pub unit_one : OneTypedUnit
unit_one y x x' h h' =
    let p = exts_one (at_first y) y.exts x.exts x'.exts h.last h'.last h.parts h'.parts in
    let et : x.tags ≡ x'.tags = h.tags ∙ ap (λ z. z.tags) p.1 ∙ sym h'.tags in
    let eb : x.texts ≡ x'.texts = h.texts ∙ ap (λ z. z.texts) p.1 ∙ sym h'.texts in
    ap (λ z. unit_of z x.texts x.exts) et ∙ ap (λ z. unit_of x'.tags z x.exts) eb ∙ ap (unit_of x'.tags x'.texts) p.0
