-- Where a rule fails in a unit, no typed unit belongs to it.
use Rattle.std.proofs.Common.{◌≡◌, ℕ, List, [], ◌∷◌, map, Option, Some, None, Bool, true, false, sym, ap, ◌∙◌, subst, inl, inr}
use Rattle.c_type.specs.Names.{Name}
use Rattle.c_type.specs.Types.{CType, Member, target}
use Rattle.c_tree.specs.declared.decl.Storage.TheVariants as sg
use Rattle.c_tree.specs.TreeDecl as ud
use Rattle.c_tree.specs.declared.decl.Storage.{Storage}
use Rattle.c_tree.specs.TreeExpr.{tag}
use Rattle.c_tree.specs.TreeStmt.{Block}
use Rattle.c_tree.specs.TreeUnit as uu
use Rattle.c_tree.specs.TExpr as e
use Rattle.c_tree.specs.TStmt.{Declr}
use Rattle.c_tree.specs.TUnit.{Spec, Mems, Enumerator, Item, ParDecl, Func, TExt}
use Rattle.c_rule.specs.Laws.{FailsApart}
use Rattle.c_rule.specs.RuleScope.{Env, Meaning, Alias, Constant, Thing, Function, function_ref, in_scope, known, is_sized, past_option}
use Rattle.c_rule.specs.RuleTypes.{is_function, spec_type}
use Rattle.c_rule.specs.RuleDecls.{constant_of, past_declr, IsDeclr}
use Rattle.c_rule.specs.RuleStmts.{is_free, is_static, missing, AreDecls}
use Rattle.c_rule.specs.RuleTags.{IsValued, AreEnumerators, AreMembers, in_file, names_differ, AreTypes, IsDef, AreMems, IsMem, AreTypesOrInt}
use Rattle.c_rule.specs.RuleNames.{storage_of, types_of, tags_in, defined_in, tag_names}
use Rattle.c_rule.specs.RuleUnit.{combined, DeclaresInFile, own_number, IsItemBy, AreItems, AreAliases, list_of, is_listed, is_structure, AreParameters, AreParDecls, in_body, at_body, parameters, names_of, IsHead, IsBody, IsExt, AreExts, at_first}
use Rattle.c_rule.specs.RuleFails.{Refuses, MaybeFails, DeclrFails, InitFails, DeclsFail, StmtsFail}
use Rattle.c_rule.specs.RuleFailsUnit.{EnumeratorsFail, MembersFail, TypesFail, DefFails, MemsFail, MemFails, IsUnlike, ObjectFails, ItemFails, ItemsFail, AliasesFail, ParametersFail, ParDeclsFail, HeadFails, BodyFails, ExtFails, ExtsFail}
use Rattle.c_rule.proofs.OneDecl.{declr_one}
use Rattle.c_rule.proofs.OneStmt.{decls_one}
use Rattle.c_rule.proofs.OneUnit.{enumerator_one, types_one, mems_one, mem_one, types_or_int_one, in_file_one, item_one, parameters_one, par_decls_one, head_one, ext_one}
use Rattle.c_rule.proofs.ApartStmt.{judged_apart, bools_apart, gives_apart, declr_apart, begins_apart, has_init_apart, decls_apart, stmts_apart}

valued_apart : (c : Env) (b : Option ℕ) (a : Option _) (n : ℕ) (y : Enumerator) → MaybeFails (Refuses (constant_of c) c) a n → IsValued c b a y → ⊥
valued_apart c b None n y h k = h
valued_apart c b (Some a) n y h (v, g, r, q) = gives_apart (constant_of c) c a n v h g

enumerators_apart : (c : Env) (b : Option ℕ) (xs : List ud.En) (n : ℕ) (ys : List Enumerator) (f : Env) → EnumeratorsFail c b xs n → AreEnumerators c b xs ys f → ⊥
enumerators_apart c b [] n ys f h k = h
enumerators_apart c b (x ∷ xs) n ys f (inl h) (y, rest, k, g, m, q) = valued_apart c b x.value n y h k.1
enumerators_apart c b (x ∷ xs) n ys f (inr (inl h)) (y, rest, k, g, m, q) = bools_apart (is_free x.name c.file) g h.1
enumerators_apart c b (x ∷ xs) n ys f (inr (inr (y', k', h))) (y, rest, k, g, m, q) =
    let h1 = subst (λ z. EnumeratorsFail (in_file (record { name = x.name; meaning = Constant z.value }) (past_option x.value c)) (Some z.value) xs n) (enumerator_one c b x y' y k' k) h in
    enumerators_apart (in_file (record { name = x.name; meaning = Constant y.value }) (past_option x.value c)) (Some y.value) xs n rest f h1 m

members_apart : (c : Env) (base : CType) (ds : List ud.Declr) (n : ℕ) (ys : List Declr) (f : Env) → MembersFail c base ds n → AreMembers c base ds ys f → ⊥
members_apart c base [] n ys f h k = h
members_apart c base (d ∷ ds) n ys f (inl h) (y, rest, k, g, s, m, q) = declr_apart c None base d n y h k
members_apart c base (d ∷ ds) n ys f (inr (inl (y', k', inl h))) (y, rest, k, g, s, m, q) = bools_apart (is_function y.ty) (ap (λ z. is_function z.ty) (declr_one c None base d y y' k k') ∙ h.1) g
members_apart c base (d ∷ ds) n ys f (inr (inl (y', k', inr h))) (y, rest, k, g, s, m, q) = bools_apart (is_sized (known c) y.ty) s (ap (λ z. is_sized (known c) z.ty) (declr_one c None base d y y' k k') ∙ h.1)
members_apart c base (d ∷ ds) n ys f (inr (inr h)) (y, rest, k, g, s, m, q) = members_apart (past_declr d c) base ds n rest f h m

mutual
  pub types_apart : (c : Env) (y : ud.Types) (n : ℕ) (s : Spec) (b : CType) (f : Env) → TypesFail c y n → AreTypes c y s b f → ⊥
  types_apart c (ud.spec y) n s b f h (k, q, r) = judged_apart (spec_type c y) b n k h
  types_apart c (ud.def d) n s b f h k = def_apart c d n s b f h k

  pub def_apart : (c : Env) (d : ud.TagDef) (n : ℕ) (s : Spec) (b : CType) (f : Env) → DefFails c d n → IsDef c d s b f → ⊥
  def_apart c (ud.struct l x ms) n s b f (inl h) (ys, ns, c1, k, g, q, r, w) = mems_apart c ms n ys ns c1 h k
  def_apart c (ud.struct l x ms) n s b f (inr (ys', ns', c1', k', m, h)) (ys, ns, c1, k, g, q, r, w) =
      bools_apart (names_differ (map {A = Member} (λ z. z.name) ns)) g (ap (λ z. names_differ (map (λ m. m.name) z)) ((mems_one c ms ys ys' ns ns' c1 c1' k k').1) ∙ h)
  def_apart c (ud.union l x ms) n s b f h k = k
  def_apart c (ud.enum l x es) n s b f h (ys, c1, k, q, r, w) = enumerators_apart c None es n ys c1 h k

  mems_apart : (c : Env) (ms : ud.Mems) (n : ℕ) (ys : Mems) (ns : List Member) (f : Env) → MemsFail c ms n → AreMems c ms ys ns f → ⊥
  mems_apart c ud.no_mems n ys ns f h k = h
  mems_apart c (ud.more_mems m ms) n ys ns f (inl h) (s, ds, rest, others, c1, k, g, q, r) = mem_apart c m n s ds c1 h k
  mems_apart c (ud.more_mems m ms) n ys ns f (inr (s', ds', c1', k', h)) (s, ds, rest, others, c1, k, g, q, r) =
      mems_apart c1 ms n rest others f (subst (λ z. MemsFail z ms n) ((mem_one c m s' s ds' ds c1' c1 k' k).2) h) g

  mem_apart : (c : Env) (m : ud.Mem) (n : ℕ) (s : Spec) (xs : List Declr) (f : Env) → MemFails c m n → IsMem c m s xs f → ⊥
  mem_apart c (ud.mem l y ds) n s xs f (inl h) (b, c1, k, g) = types_apart c y n s b c1 h k
  mem_apart c (ud.mem l y ds) n s xs f (inr (s', b', c1', k', h)) (b, c1, k, g) =
      let p = types_one c y s' s b' b c1' c1 k' k in
      members_apart c1 b ds n xs f (subst (λ z. MembersFail c1 z ds n) p.1 (subst (λ z. MembersFail z b' ds n) p.2 h)) g

types_or_int_apart : (c : Env) (y : Option ud.Types) (n : ℕ) (s : Spec) (b : CType) (f : Env) → MaybeFails (TypesFail c) y n → AreTypesOrInt c y s b f → ⊥
types_or_int_apart c None n s b f h k = h
types_or_int_apart c (Some y) n s b f h k = types_apart c y n s b f h k

unlike_apart : (c : Env) (x : Name) (m : Meaning) (n : ℕ) (f : Env) → IsUnlike c x m n → DeclaresInFile c x m f → ⊥
unlike_apart c x m n f h (r, k, q) = some_apart (combined (in_scope x c.file) m) r k h.1
  where
    some_apart : (o : Option Meaning) (r : Meaning) → o ≡ Some r → o ≡ None → ⊥
    some_apart o r p q = cc

object_apart : (c : Env) (d : Declr) (m : Meaning) (i : Option ud.Init) (n : ℕ) (c1 : Env) → ObjectFails c d m i n → is_sized (known c) d.ty ≡ true → DeclaresInFile c d.name m c1 → (MaybeFails (InitFails c1 d.ty) i n → ⊥) → ⊥
object_apart c d m i n c1 (inl h) z k g = bools_apart (is_sized (known c) d.ty) z h.1
object_apart c d m i n c1 (inr (inl h)) z k g = unlike_apart c d.name m n c1 h k
object_apart c d m i n c1 (inr (inr (c1', k', h))) z k g = g (subst (λ y. MaybeFails (InitFails y d.ty) i n) (in_file_one c d.name m c1' c1 k' k) h)

outside_apart : (c : Env) (d : Declr) (i : Option ud.Init) (n : ℕ) (x : Item) (f : Env) → ObjectFails c d (Thing (e.Ext d.name) d.ty) i n → IsItemBy false None c d i x f → ⊥
outside_apart c d i n x f h (j, c1, z, k, g, q) = object_apart c d (Thing (e.Ext d.name) d.ty) i n c1 h z k (λ u. begins_apart c1 d.ty i n j f u g)

item_apart : (b : Bool) (s : Option Storage) (c : Env) (d : Declr) (i : Option ud.Init) (n : ℕ) (x : Item) (f : Env) → ItemFails b s c d i n → IsItemBy b s c d i x f → ⊥
item_apart true s c d i n x f (inl h) (q, k, r) = has_init_apart i n h q
item_apart true s c d i n x f (inr h) (q, k, r) = unlike_apart c d.name _ n f h k
item_apart false None c d i n x f h k = outside_apart c d i n x f h k
item_apart false (Some sg.Auto) c d i n x f h k = outside_apart c d i n x f h k
item_apart false (Some sg.Register) c d i n x f h k = outside_apart c d i n x f h k
item_apart false (Some sg.Extern) c d i n x f (inl h) (q, k, r) = has_init_apart i n h q
item_apart false (Some sg.Extern) c d i n x f (inr h) (q, k, r) = unlike_apart c d.name _ n f h k
item_apart false (Some sg.Static) c d i n x f h (j, c1, c2, z, k, g, q, r) =
    object_apart c d (Thing (e.Static (own_number c (in_scope d.name c.file))) d.ty) i n c1 h z k (λ u. begins_apart c1 d.ty i n j c2 u g)

items_apart : (c : Env) (s : Option Storage) (base : CType) (is : List ud.Item) (n : ℕ) (xs : List Item) (f : Env) → ItemsFail c s base is n → AreItems c s base is xs f → ⊥
items_apart c s base [] n xs f h k = h
items_apart c s base (i ∷ is) n xs f (inl h) (d, x, rest, c1, hd, hx, hr, q) = declr_apart c (missing s i.init) base i.declr n d h hd
items_apart c s base (i ∷ is) n xs f (inr (d', hd', inl h)) (d, x, rest, c1, hd, hx, hr, q) =
    let e = declr_one c (missing s i.init) base i.declr d' d hd' hd in
    item_apart (is_function d.ty) s (past_declr i.declr c) d i.init n x c1 (subst (λ y. ItemFails (is_function y.ty) s (past_declr i.declr c) y i.init n) e h) hx
items_apart c s base (i ∷ is) n xs f (inr (d', hd', inr (z, c2, h, h1))) (d, x, rest, c1, hd, hx, hr, q) =
    let e = declr_one c (missing s i.init) base i.declr d' d hd' hd in
    let h2 = subst (λ y. IsItemBy (is_function y.ty) s (past_declr i.declr c) y i.init z c2) e h in
    let e1 = item_one (is_function d.ty) s (past_declr i.declr c) d i.init z x c2 c1 h2 hx in
    items_apart c1 s base is n rest f (subst (λ y. ItemsFail y s base is n) e1.1 h1) hr

aliases_apart : (c : Env) (base : CType) (ds : List ud.Declr) (n : ℕ) (xs : List Declr) (f : Env) → AliasesFail c base ds n → AreAliases c base ds xs f → ⊥
aliases_apart c base [] n xs f h k = h
aliases_apart c base (d ∷ ds) n xs f (inl h) (x, rest, hd, g, hr, q) = declr_apart c None base d n x h hd
aliases_apart c base (d ∷ ds) n xs f (inr (x', hd', inl h)) (x, rest, hd, g, hr, q) =
    bools_apart (is_free x.name c.file) g (ap (λ z. is_free z.name c.file) (declr_one c None base d x x' hd hd') ∙ h.1)
aliases_apart c base (d ∷ ds) n xs f (inr (x', hd', inr h)) (x, rest, hd, g, hr, q) =
    aliases_apart (in_file (record { name = x.name; meaning = Alias x.ty }) (past_declr d c)) base ds n rest f
    (subst (λ z. AliasesFail (in_file (record { name = z.name; meaning = Alias z.ty }) (past_declr d c)) base ds n) (declr_one c None base d x' x hd' hd) h) hr

parameters_apart : (c : Env) (xs : List Name) (base : CType) (ds : List ud.Declr) (n : ℕ) (ys : List Declr) (f : Env) → ParametersFail c xs base ds n → AreParameters c xs base ds ys f → ⊥
parameters_apart c xs base [] n ys f h k = h
parameters_apart c xs base (d ∷ ds) n ys f (inl h) (y, rest, k, g, s, m, q) = declr_apart c (Some 0) base d n y h k
parameters_apart c xs base (d ∷ ds) n ys f (inr (inl (y', k', p, inl h))) (y, rest, k, g, s, m, q) =
    bools_apart (is_listed y.name xs) g (ap (λ z. is_listed z.name xs) (declr_one c (Some 0) base d y y' k k') ∙ h)
parameters_apart c xs base (d ∷ ds) n ys f (inr (inl (y', k', p, inr h))) (y, rest, k, g, s, m, q) =
    bools_apart (is_structure y.ty) (ap (λ z. is_structure z.ty) (declr_one c (Some 0) base d y y' k k') ∙ h) s
parameters_apart c xs base (d ∷ ds) n ys f (inr (inr h)) (y, rest, k, g, s, m, q) = parameters_apart (past_declr d c) xs base ds n rest f h m

par_decls_apart : (c : Env) (xs : List Name) (ps : List ud.ParDecl) (n : ℕ) (ys : List ParDecl) (f : Env) → ParDeclsFail c xs ps n → AreParDecls c xs ps ys f → ⊥
par_decls_apart c xs [] n ys f h k = h
par_decls_apart c xs (p ∷ ps) n ys f (inl h) (s, b, ds, rest, c1, c2, ht, hp, hr, q) = types_apart c p.types n s b c1 h ht
par_decls_apart c xs (p ∷ ps) n ys f (inr (s', b', c1', ht', inl h)) (s, b, ds, rest, c1, c2, ht, hp, hr, q) =
    let a = types_one c p.types s' s b' b c1' c1 ht' ht in
    parameters_apart c1 xs b p.declrs n ds c2 (subst (λ z. ParametersFail c1 xs z p.declrs n) a.1 (subst (λ z. ParametersFail z xs b' p.declrs n) a.2 h)) hp
par_decls_apart c xs (p ∷ ps) n ys f (inr (s', b', c1', ht', inr (ds', c2', hp', h))) (s, b, ds, rest, c1, c2, ht, hp, hr, q) =
    let a = types_one c p.types s' s b' b c1' c1 ht' ht in
    let hp1 = subst (λ z. AreParameters c1 xs z p.declrs ds' c2') a.1 (subst (λ z. AreParameters z xs b' p.declrs ds' c2') a.2 hp') in
    let a1 = parameters_one c1 xs b p.declrs ds' ds c2' c2 hp1 hp in
    par_decls_apart c2 xs ps n rest f (subst (λ z. ParDeclsFail z xs ps n) a1.1 h) hr

head_apart : (c : Env) (s : Bool) (h : ud.Declr) (d : Declr) (ps : List ud.ParDecl) (n : ℕ) (ys : List ParDecl) (f : Env) → HeadFails c s h d ps n → IsHead c s h d ps ys f → ⊥
head_apart c s h d ps n ys f (inl u) (c1, hp, g1, g2, hd) = par_decls_apart c (list_of h) ps n ys c1 u hp
head_apart c s h d ps n ys f (inr (inl u)) (c1, hp, g1, g2, hd) = bools_apart (names_differ (list_of h)) g1 u.1
head_apart c s h d ps n ys f (inr (inr (ys', c1', hp', inl u))) (c1, hp, g1, g2, hd) =
    bools_apart (names_differ (names_of ys)) g2 (ap (λ z. names_differ (names_of z)) ((par_decls_one c (list_of h) ps ys ys' c1 c1' hp hp').0) ∙ u.1)
head_apart c s h d ps n ys f (inr (inr (ys', c1', hp', inr u))) (c1, hp, g1, g2, hd) =
    let e = (par_decls_one c (list_of h) ps ys' ys c1' c1 hp' hp).1 in
    unlike_apart c1 d.name _ n f (subst (λ z. IsUnlike z d.name (Function s (function_ref z s d.name) d.ty) n) e u) hd

body_apart : (c : Env) (s : Bool) (h : ud.Declr) (d : Declr) (ps : List ud.ParDecl) (b : Block) (n : ℕ) (f : Func) (e : Env) → BodyFails c s h d ps b n → IsBody c s h d ps b f e → ⊥
body_apart c s h d ps b n f e (inl u) (c1, c2, c3, r, hh, hl, hs, q1, q2, q3, q4, q5, q6, q7, q8) = bools_apart (is_function d.ty) (ap is_function r) u.1
body_apart c s h d ps b n f e (inr (inl u)) (c1, c2, c3, r, hh, hl, hs, q1, q2, q3, q4, q5, q6, q7, q8) = head_apart c s h d ps n f.declared c1 u hh
body_apart c s h d ps b n f e (inr (inr (ys, c1', hh', inl u))) (c1, c2, c3, r, hh, hl, hs, q1, q2, q3, q4, q5, q6, q7, q8) =
    let p = head_one c s h d ps ys f.declared c1' c1 hh' hh in
    decls_apart (in_body (parameters h f.declared) c1) b.decls n f.locals c2
    (subst (λ z. DeclsFail (in_body (parameters h z) c1) b.decls n) p.0 (subst (λ z. DeclsFail (in_body (parameters h ys) z) b.decls n) p.1 u)) hl
body_apart c s h d ps b n f e (inr (inr (ys, c1', hh', inr (t, xs, c2', r', hl', u)))) (c1, c2, c3, r, hh, hl, hs, q1, q2, q3, q4, q5, q6, q7, q8) =
    let p = head_one c s h d ps ys f.declared c1' c1 hh' hh in
    let hl1 = subst (λ z. AreDecls (in_body (parameters h z) c1) b.decls xs c2') p.0 (subst (λ z. AreDecls (in_body (parameters h ys) z) b.decls xs c2') p.1 hl') in
    let e2 = (decls_one (in_body (parameters h f.declared) c1) b.decls xs f.locals c2' c2 hl1 hl).1 in
    let er : t ≡ f.result = ap target (sym r' ∙ r) in
    stmts_apart c2 (at_body f.result) b.stmts n f.stmts c3 (subst (λ z. StmtsFail c2 (at_body z) b.stmts n) er (subst (λ z. StmtsFail z (at_body t) b.stmts n) e2 u)) hs

ext_apart : (c : Env) (y : uu.Ext) (n : ℕ) (x : TExt) (f : Env) → ExtFails c y n → IsExt c y x f → ⊥
ext_apart c (uu.typedef l y ds) n x f (inl h) (s, b, xs, c1, k, g, q) = types_or_int_apart c y n s b c1 h k
ext_apart c (uu.typedef l y ds) n x f (inr (s', b', c1', k', h)) (s, b, xs, c1, k, g, q) =
    let p = types_or_int_one c y s' s b' b c1' c1 k' k in
    aliases_apart c1 b ds n xs f (subst (λ z. AliasesFail c1 z ds n) p.1 (subst (λ z. AliasesFail z b' ds n) p.2 h)) g
ext_apart c (uu.tag_only l (ud.ref r)) n x f h (b, k, q, g) = judged_apart (spec_type c (tag r)) b n k h
ext_apart c (uu.tag_only l (ud.body d)) n x f h (s, b, k, q) = def_apart c d n s b f h k
ext_apart c (uu.object l s is) n x f (inl h) (y, b, xs, c1, k, g, q) = types_or_int_apart c s.types n y b c1 h k
ext_apart c (uu.object l s is) n x f (inr (y', b', c1', k', h)) (y, b, xs, c1, k, g, q) =
    let p = types_or_int_one c s.types y' y b' b c1' c1 k' k in
    items_apart c1 s.storage b is n xs f (subst (λ z. ItemsFail c1 s.storage z is n) p.1 (subst (λ z. ItemsFail z s.storage b' is n) p.2 h)) g
ext_apart c (uu.func l s h ps b) n x f (inl u) (y, base, d, g, c1, ht, hd, hb, q) = types_or_int_apart c (types_of s) n y base c1 u ht
ext_apart c (uu.func l s h ps b) n x f (inr (y', base', c1', ht', inl u)) (y, base, d, g, c1, ht, hd, hb, q) =
    let p = types_or_int_one c (types_of s) y' y base' base c1' c1 ht' ht in
    declr_apart c1 None base h n d (subst (λ z. DeclrFails c1 None z h n) p.1 (subst (λ z. DeclrFails z None base' h n) p.2 u)) hd
ext_apart c (uu.func l s h ps b) n x f (inr (y', base', c1', ht', inr (d', hd', u))) (y, base, d, g, c1, ht, hd, hb, q) =
    let p = types_or_int_one c (types_of s) y' y base' base c1' c1 ht' ht in
    let hd1 = subst (λ z. IsDeclr c1 None z h d') p.1 (subst (λ z. IsDeclr z None base' h d') p.2 hd') in
    let p1 = declr_one c1 None base h d' d hd1 hd in
    let u1 = subst (λ z. BodyFails c1 (is_static (storage_of s)) h z ps b n) p1 (subst (λ z. BodyFails z (is_static (storage_of s)) h d' ps b n) p.2 u) in
    body_apart c1 (is_static (storage_of s)) h d ps b n g f u1 hb

exts_apart : (c : Env) (ys : List uu.Ext) (n : ℕ) (xs : List TExt) (f : Env) → ExtsFail c ys n → AreExts c ys xs f → ⊥
exts_apart c [] n xs f h k = h
exts_apart c (y ∷ ys) n xs f (inl h) (x, rest, c1, k, g, q) = ext_apart c y n x c1 h k
exts_apart c (y ∷ ys) n xs f (inr (x', c1', k', h)) (x, rest, c1, k, g, q) =
    exts_apart c1 ys n rest f (subst (λ z. ExtsFail z ys n) ((ext_one c y x' x c1' c1 k' k).1) h) g

pub unit_apart : FailsApart
unit_apart y n x (inl h) k = exts_apart (at_first y) y.exts n x.exts k.last h k.parts
unit_apart y n x (inr (inl h)) k = bools_apart (names_differ (defined_in y)) k.defined_once h.1
unit_apart y n x (inr (inr h)) k = bools_apart (names_differ (tag_names (tags_in y))) k.tags_once h.1
