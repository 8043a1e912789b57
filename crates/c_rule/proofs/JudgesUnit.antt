-- What the typing function says of tags, declarations at file level, functions and units.
use Rattle.std.proofs.Common.{◌≡◌, ℕ, List, [], ◌∷◌, map, Option, Some, None, Bool, true, false, not, ◌⊎◌, refl, inl, inr}
use Rattle.c_type.specs.Names.{Name}
use Rattle.c_type.specs.Types.{CType, num, void, ptr, arr, struct, union, enum, fun}
use Rattle.c_tree.specs.declared.decl.Storage.{Storage}
use Rattle.c_tree.specs.declared.decl.Storage.TheVariants as sg
use Rattle.c_tree.specs.TreeDecl as ud
use Rattle.c_tree.specs.TreeExpr.{Expr, tag}
use Rattle.c_tree.specs.TreeStmt.{Block}
use Rattle.c_tree.specs.TreeUnit as uu
use Rattle.c_tree.specs.TExpr as e
use Rattle.c_tree.specs.TStmt.{Declr}
use Rattle.c_rule.specs.RuleScope.{Is, Fails, Env, Meaning, Alias, Constant, Thing, Function, in_scope, function_ref, known, is_sized, past_option}
use Rattle.c_rule.specs.RuleTypes.{is_function, spec_type}
use Rattle.c_rule.specs.RuleDecls.{constant_of, past_declr, is_some, IsDeclr}
use Rattle.c_rule.specs.RuleStmts.{is_free, is_static, missing}
use Rattle.c_rule.specs.RuleTags.{IsEnumerator, AreEnumerators, AreMembers, in_file, names_differ, AreTypes, IsDef, AreMems, AreTypesOrInt}
use Rattle.c_rule.specs.RuleNames.{storage_of, types_of, tags_in, defined_in, tag_names}
use Rattle.c_rule.specs.RuleUnit as w
use Rattle.c_rule.specs.RuleUnit.{combined, DeclaresInFile, own_number, next_static, IsItemBy, AreAliases, list_of, is_listed, is_structure, AreParameters, AreParDecls, in_body, at_body, parameters, names_of, IsHead, IsBody, IsExt, AreExts, at_first, IsTyped}
use Rattle.c_rule.specs.RuleFails.{Refuses, MaybeFails, DeclrFails, IsUnsized}
use Rattle.c_rule.specs.RuleFailsUnit as f
use Rattle.c_rule.specs.RuleFailsUnit.{UnitFails}
use Rattle.c_rule.specs.Judging.{Behind, judged_by, judged_declr, judged_begin, judged_decls, judged_stmts}
use Rattle.c_rule.specs.JudgingUnit as j
use Rattle.c_rule.proofs.Answers.{Answer, is_a, fails_a, rule_a, onward_a, provided_a}
use Rattle.c_rule.proofs.Judges.{by_a, declr_a, begin_a, has_init, no_init, decls_a, stmts_a}
use Rattle.std.proofs.lemmas.Bool.{not-true, not-false}

-- tags

enumerator_a : (c : Env) (b : Option ℕ) (x : ud.En) → Answer (IsEnumerator c b x) (MaybeFails (Refuses (constant_of c) c) x.value) (j.judged_enumerator c b x.name x.value)
enumerator_a c b x = by_value c b x.name x.value
  where
    by_value : (c : Env) (b : Option ℕ) (y : Name) (v : Option Expr) → Answer (λ z. IsEnumerator c b (record { line = x.line; name = y; value = v }) z) (MaybeFails (Refuses (constant_of c) c) v) (j.judged_enumerator c b y v)
    by_value c b y None = is_a _ (refl, (refl, refl))
    by_value c b y (Some a) = onward_a (judged_by (constant_of c) c a) _ (by_a (constant_of c) c a) (λ n g. g) (λ k h. is_a _ (refl, (k, h, refl, refl)))

enumerators_a : (c : Env) (b : Option ℕ) (xs : List ud.En) → Answer (λ z. AreEnumerators c b xs z.tree z.env) (f.EnumeratorsFail c b xs) (j.judged_enumerators c b xs)
enumerators_a c b [] = is_a _ (refl, refl)
enumerators_a c b (x ∷ xs) =
    onward_a (j.judged_enumerator c b x.name x.value) _ (enumerator_a c b x) (λ n g. inl g) (λ y h.
    provided_a 1 (is_free x.name c.file) _ (λ q. inr (inl (refl, q))) (λ q.
    onward_a (j.judged_enumerators (in_file (record { name = x.name; meaning = Constant y.value }) (past_option x.value c)) (Some y.value) xs) _
    (enumerators_a (in_file (record { name = x.name; meaning = Constant y.value }) (past_option x.value c)) (Some y.value) xs) (λ n g. inr (inr (y, h, g))) (λ rest k.
    is_a _ (y, rest.tree, h, q, k, refl))))

-- a member that is no function and has a size
abbrev IsMember : Env → CType → ud.Declr → Declr → Type 0
IsMember c base d y = IsDeclr c None base d y × (is_function y.ty ≡ false) × (is_sized (known c) y.ty ≡ true)

abbrev MemberFails : Env → CType → ud.Declr → ℕ → Type 0
MemberFails c base d n = DeclrFails c None base d n ⊎ ((y : Declr) × IsDeclr c None base d y × (((n ≡ 7) × (is_function y.ty ≡ true)) ⊎ IsUnsized c y.ty n))

member_a : (c : Env) (base : CType) (d : ud.Declr) → Answer (IsMember c base d) (MemberFails c base d) (j.judged_member c base d)
member_a c base d =
    onward_a (judged_declr c None base d) _ (declr_a c None base d) (λ n g. inl g) (λ y h.
    provided_a 7 (not (is_function y.ty)) _ (λ q. inr (y, h, inl (refl, not-false (is_function y.ty) q))) (λ q.
    provided_a 3 (is_sized (known c) y.ty) _ (λ z. inr (y, h, inr (refl, z))) (λ z. is_a _ (h, not-true (is_function y.ty) q, z))))

members_a : (c : Env) (base : CType) (ds : List ud.Declr) → Answer (λ z. AreMembers c base ds z.tree z.env) (f.MembersFail c base ds) (j.judged_members c base ds)
members_a c base [] = is_a _ (refl, refl)
members_a c base (d ∷ ds) =
    onward_a (j.judged_member c base d) _ (member_a c base d) (λ n g. member_fails n g) (λ y h.
    onward_a (j.judged_members (past_declr d c) base ds) _ (members_a (past_declr d c) base ds) (λ n g. inr (inr g)) (λ rest k.
    is_a _ (y, rest.tree, h.0, h.1, h.2, k, refl)))
  where
    member_fails : (n : ℕ) → MemberFails c base d n → f.MembersFail c base (d ∷ ds) n
    member_fails n (inl g) = inl g
    member_fails n (inr g) = inr (inl g)

-- what words name, with their spelling
abbrev AreTyped : Env → ud.Types → Behind j.Typed → Type 0
AreTyped c y z = AreTypes c y z.tree.spec z.tree.base z.env

mutual
  types_a : (c : Env) (y : ud.Types) → Answer (AreTyped c y) (f.TypesFail c y) (j.judged_types c y)
  types_a c (ud.spec y) =
      onward_a {P = λ b. spec_type c y ≡ Is b} {F = λ n. spec_type c y ≡ Fails n} (spec_type c y) _ (rule_a _ (λ b q. q) (λ n q. q)) (λ n q. q) (λ b q. is_a _ (q, refl, refl))
  types_a c (ud.def d) = def_a c d

  def_a : (c : Env) (d : ud.TagDef) → Answer (λ z. IsDef c d z.tree.spec z.tree.base z.env) (f.DefFails c d) (j.judged_def c d)
  def_a c (ud.struct l x ms) =
      onward_a (j.judged_mems c ms) _ (mems_a c ms) (λ n g. inl g) (λ b h.
      provided_a 7 (names_differ (map (λ m. m.name) b.tree.members)) _ (λ q. inr (b.tree.mems, b.tree.members, b.env, h, refl, q)) (λ q.
      is_a _ (b.tree.mems, b.tree.members, b.env, h, q, refl, refl, refl)))
  def_a c (ud.union l x ms) = fails_a 3 refl
  def_a c (ud.enum l x es) = onward_a (j.judged_enumerators c None es) _ (enumerators_a c None es) (λ n g. g) (λ ys h. is_a _ (ys.tree, ys.env, h, refl, refl, refl))

  mems_a : (c : Env) (ms : ud.Mems) → Answer (λ z. AreMems c ms z.tree.mems z.tree.members z.env) (f.MemsFail c ms) (j.judged_mems c ms)
  mems_a c ud.no_mems = is_a _ (refl, refl, refl)
  mems_a c (ud.more_mems (ud.mem l y ds) ms) =
      onward_a (j.judged_types c y) _ (types_a c y) (λ n g. inl (inl g)) (λ s h.
      onward_a (j.judged_members s.env s.tree.base ds) _ (members_a s.env s.tree.base ds) (λ n g. inl (inr (s.tree.spec, s.tree.base, s.env, h, g))) (λ xs k.
      onward_a (j.judged_mems xs.env ms) _ (mems_a xs.env ms) (λ n g. inr (s.tree.spec, xs.tree, xs.env, (s.tree.base, s.env, h, k), g)) (λ rest m.
      is_a _ (s.tree.spec, xs.tree, rest.tree.mems, rest.tree.members, xs.env, (s.tree.base, s.env, h, k), m, refl, refl))))

types_or_int_a : (c : Env) (y : Option ud.Types) → Answer (λ z. AreTypesOrInt c y z.tree.spec z.tree.base z.env) (MaybeFails (f.TypesFail c) y) (j.judged_types_or_int c y)
types_or_int_a c None = is_a _ (refl, refl, refl)
types_or_int_a c (Some y) = types_a c y

-- declarations at file level

declared_as_a : (c : Env) (x : Name) (m : Meaning) (o : Option Meaning) → combined (in_scope x c.file) m ≡ o → Answer (DeclaresInFile c x m) (f.IsUnlike c x m) (j.declared_as c x o)
declared_as_a c x m None q = fails_a 1 (refl, q)
declared_as_a c x m (Some r) q = is_a _ (r, q, refl)

in_file_a : (c : Env) (x : Name) (m : Meaning) → Answer (DeclaresInFile c x m) (f.IsUnlike c x m) (j.declared_in_file c x m)
in_file_a c x m = declared_as_a c x m (combined (in_scope x c.file) m) refl

outside_a : (c : Env) (d : Declr) (i : Option ud.Init) → Answer (λ z. IsItemBy false None c d i z.tree z.env) (f.ItemFails false None c d i) (j.judged_outside c d i)
outside_a c d i =
    provided_a 3 (is_sized (known c) d.ty) _ (λ q. inl (refl, q)) (λ q.
    onward_a (j.declared_in_file c d.name (Thing (e.Ext d.name) d.ty)) _ (in_file_a c d.name (Thing (e.Ext d.name) d.ty)) (λ n g. inr (inl g)) (λ c1 h.
    onward_a (judged_begin c1 d.ty i) _ (begin_a c1 d.ty i) (λ n g. inr (inr (c1, h, g))) (λ k hk. is_a _ (k.tree, c1, q, h, hk, refl))))

own_a : (c : Env) (d : Declr) (i : Option ud.Init) → Answer (λ z. IsItemBy false (Some sg.Static) c d i z.tree z.env) (f.ItemFails false (Some sg.Static) c d i) (j.judged_own c d i)
own_a c d i =
    let m = Thing (e.Static (own_number c (in_scope d.name c.file))) d.ty in
    provided_a 3 (is_sized (known c) d.ty) _ (λ q. inl (refl, q)) (λ q.
    onward_a (j.declared_in_file c d.name m) _ (in_file_a c d.name m) (λ n g. inr (inl g)) (λ c1 h.
    onward_a (judged_begin c1 d.ty i) _ (begin_a c1 d.ty i) (λ n g. inr (inr (c1, h, g))) (λ k hk. is_a _ (k.tree, c1, k.env, q, h, hk, refl, refl))))

item_a : (b : Bool) (s : Option Storage) (c : Env) (d : Declr) (i : Option ud.Init) → Answer (λ z. IsItemBy b s c d i z.tree z.env) (f.ItemFails b s c d i) (j.judged_item b s c d i)
item_a true s c d i =
    let m = Function (is_static s) (function_ref c (is_static s) d.name) d.ty in
    provided_a 11 (not (is_some i)) _ (λ q. inl (has_init i q)) (λ q.
    onward_a (j.declared_in_file c d.name m) _ (in_file_a c d.name m) (λ n g. inr g) (λ c1 h. is_a _ (no_init i q, h, refl)))
item_a false None c d i = outside_a c d i
item_a false (Some sg.Auto) c d i = outside_a c d i
item_a false (Some sg.Register) c d i = outside_a c d i
item_a false (Some sg.Extern) c d i =
    provided_a 11 (not (is_some i)) _ (λ q. inl (has_init i q)) (λ q.
    onward_a (j.declared_in_file c d.name (Thing (e.Ext d.name) d.ty)) _ (in_file_a c d.name (Thing (e.Ext d.name) d.ty)) (λ n g. inr g) (λ c1 h. is_a _ (no_init i q, h, refl)))
item_a false (Some sg.Static) c d i = own_a c d i

file_items_a : (c : Env) (s : Option Storage) (base : CType) (is : List ud.Item) → Answer (λ z. w.AreItems c s base is z.tree z.env) (f.ItemsFail c s base is) (j.judged_file_items c s base is)
file_items_a c s base [] = is_a _ (refl, refl)
file_items_a c s base (i ∷ is) =
    onward_a (judged_declr c (missing s i.init) base i.declr) _ (declr_a c (missing s i.init) base i.declr) (λ n g. inl g) (λ d hd.
    onward_a (j.judged_item (is_function d.ty) s (past_declr i.declr c) d i.init) _ (item_a (is_function d.ty) s (past_declr i.declr c) d i.init) (λ n g. inr (d, hd, inl g)) (λ x hx.
    onward_a (j.judged_file_items x.env s base is) _ (file_items_a x.env s base is) (λ n g. inr (d, hd, inr (x.tree, x.env, hx, g))) (λ rest hr.
    is_a _ (d, x.tree, rest.tree, x.env, hd, hx, hr, refl))))

aliases_a : (c : Env) (base : CType) (ds : List ud.Declr) → Answer (λ z. AreAliases c base ds z.tree z.env) (f.AliasesFail c base ds) (j.judged_aliases c base ds)
aliases_a c base [] = is_a _ (refl, refl)
aliases_a c base (d ∷ ds) =
    onward_a (judged_declr c None base d) _ (declr_a c None base d) (λ n g. inl g) (λ x h.
    provided_a 1 (is_free x.name c.file) _ (λ q. inr (x, h, inl (refl, q))) (λ q.
    onward_a (j.judged_aliases (in_file (record { name = x.name; meaning = Alias x.ty }) (past_declr d c)) base ds) _
    (aliases_a (in_file (record { name = x.name; meaning = Alias x.ty }) (past_declr d c)) base ds) (λ n g. inr (x, h, inr g)) (λ rest k.
    is_a _ (x, rest.tree, h, q, k, refl))))

-- functions

-- a declared parameter that is in the list and no structure
abbrev IsParameter : Env → List Name → CType → ud.Declr → Declr → Type 0
IsParameter c xs base d y = IsDeclr c (Some 0) base d y × (is_listed y.name xs ≡ true) × (is_structure y.ty ≡ false)

abbrev ParameterFails : Env → List Name → CType → ud.Declr → ℕ → Type 0
ParameterFails c xs base d n = DeclrFails c (Some 0) base d n ⊎ ((y : Declr) × IsDeclr c (Some 0) base d y × (n ≡ 8) × ((is_listed y.name xs ≡ false) ⊎ (is_structure y.ty ≡ true)))

parameter_a : (c : Env) (xs : List Name) (base : CType) (d : ud.Declr) → Answer (IsParameter c xs base d) (ParameterFails c xs base d) (j.judged_parameter c xs base d)
parameter_a c xs base d =
    onward_a (judged_declr c (Some 0) base d) _ (declr_a c (Some 0) base d) (λ n g. inl g) (λ y h.
    provided_a 8 (is_listed y.name xs) _ (λ q. inr (y, h, refl, inl q)) (λ q.
    provided_a 8 (not (is_structure y.ty)) _ (λ z. inr (y, h, refl, inr (not-false (is_structure y.ty) z))) (λ z. is_a _ (h, q, not-true (is_structure y.ty) z))))

parameters_a : (c : Env) (xs : List Name) (base : CType) (ds : List ud.Declr) → Answer (λ z. AreParameters c xs base ds z.tree z.env) (f.ParametersFail c xs base ds) (j.judged_parameters c xs base ds)
parameters_a c xs base [] = is_a _ (refl, refl)
parameters_a c xs base (d ∷ ds) =
    onward_a (j.judged_parameter c xs base d) _ (parameter_a c xs base d) (λ n g. parameter_fails n g) (λ y h.
    onward_a (j.judged_parameters (past_declr d c) xs base ds) _ (parameters_a (past_declr d c) xs base ds) (λ n g. inr (inr g)) (λ rest k.
    is_a _ (y, rest.tree, h.0, h.1, h.2, k, refl)))
  where
    parameter_fails : (n : ℕ) → ParameterFails c xs base d n → f.ParametersFail c xs base (d ∷ ds) n
    parameter_fails n (inl g) = inl g
    parameter_fails n (inr g) = inr (inl g)

par_decls_a : (c : Env) (xs : List Name) (ps : List ud.ParDecl) → Answer (λ z. AreParDecls c xs ps z.tree z.env) (f.ParDeclsFail c xs ps) (j.judged_par_decls c xs ps)
par_decls_a c xs [] = is_a _ (refl, refl)
par_decls_a c xs (p ∷ ps) =
    onward_a (j.judged_types c p.types) _ (types_a c p.types) (λ n g. inl g) (λ s h.
    onward_a (j.judged_parameters s.env xs s.tree.base p.declrs) _ (parameters_a s.env xs s.tree.base p.declrs) (λ n g. inr (s.tree.spec, s.tree.base, s.env, h, inl g)) (λ ds k.
    onward_a (j.judged_par_decls ds.env xs ps) _ (par_decls_a ds.env xs ps) (λ n g. inr (s.tree.spec, s.tree.base, s.env, h, inr (ds.tree, ds.env, k, g))) (λ rest m.
    is_a _ (s.tree.spec, s.tree.base, ds.tree, rest.tree, s.env, ds.env, h, k, m, refl))))

head_a : (c : Env) (s : Bool) (h : ud.Declr) (d : Declr) (ps : List ud.ParDecl) → Answer (λ z. IsHead c s h d ps z.tree z.env) (f.HeadFails c s h d ps) (j.judged_head c s h d ps)
head_a c s h d ps =
    onward_a (j.judged_par_decls c (list_of h) ps) _ (par_decls_a c (list_of h) ps) (λ n g. inl g) (λ ys k.
    provided_a 1 (names_differ (list_of h)) _ (λ q. inr (inl (refl, q))) (λ q.
    provided_a 1 (names_differ (names_of ys.tree)) _ (λ z. inr (inr (ys.tree, ys.env, k, inl (refl, z)))) (λ z.
    onward_a (j.declared_in_file ys.env d.name (Function s (function_ref ys.env s d.name) d.ty)) _ (in_file_a ys.env d.name (Function s (function_ref ys.env s d.name) d.ty))
    (λ n g. inr (inr (ys.tree, ys.env, k, inr g))) (λ c1 m. is_a _ (ys.env, k, q, z, m)))))

result_a : (t : CType) → Answer (λ r. t ≡ fun r) (λ n. (n ≡ 6) × (is_function t ≡ false)) (j.result t)
result_a (num k) = fails_a 6 (refl, refl)
result_a void = fails_a 6 (refl, refl)
result_a (ptr t) = fails_a 6 (refl, refl)
result_a (arr n t) = fails_a 6 (refl, refl)
result_a (struct k) = fails_a 6 (refl, refl)
result_a (union k) = fails_a 6 (refl, refl)
result_a (enum k) = fails_a 6 (refl, refl)
result_a (fun t) = is_a _ refl

body_a : (c : Env) (s : Bool) (h : ud.Declr) (d : Declr) (ps : List ud.ParDecl) (b : Block) → Answer (λ z. IsBody c s h d ps b z.tree z.env) (f.BodyFails c s h d ps b) (j.judged_body c s h d ps b)
body_a c s h d ps b =
    onward_a (j.result d.ty) _ (result_a d.ty) (λ n g. inl g) (λ r hr.
    onward_a (j.judged_head c s h d ps) _ (head_a c s h d ps) (λ n g. inr (inl g)) (λ ys hh.
    onward_a (judged_decls (in_body (parameters h ys.tree) ys.env) b.decls) _ (decls_a (in_body (parameters h ys.tree) ys.env) b.decls) (λ n g. inr (inr (ys.tree, ys.env, hh, inl g))) (λ xs hx.
    onward_a (judged_stmts xs.env (at_body r) b.stmts) _ (stmts_a xs.env (at_body r) b.stmts) (λ n g. inr (inr (ys.tree, ys.env, hh, inr (r, xs.tree, xs.env, hr, hx, g)))) (λ ss hs.
    is_a _ (ys.env, xs.env, ss.env, hr, hh, hx, hs, refl, refl, refl, refl, refl, refl, refl, refl)))))

-- units

ext_a : (c : Env) (y : uu.Ext) → Answer (λ z. IsExt c y z.tree z.env) (f.ExtFails c y) (j.judged_ext c y)
ext_a c (uu.typedef l y ds) =
    onward_a (j.judged_types_or_int c y) _ (types_or_int_a c y) (λ n g. inl g) (λ s h.
    onward_a (j.judged_aliases s.env s.tree.base ds) _ (aliases_a s.env s.tree.base ds) (λ n g. inr (s.tree.spec, s.tree.base, s.env, h, g)) (λ xs k.
    is_a _ (s.tree.spec, s.tree.base, xs.tree, s.env, h, k, refl)))
ext_a c (uu.tag_only l (ud.ref r)) =
    onward_a {P = λ b. spec_type c (tag r) ≡ Is b} {F = λ n. spec_type c (tag r) ≡ Fails n} (spec_type c (tag r)) _ (rule_a _ (λ b q. q) (λ n q. q)) (λ n q. q) (λ b q. is_a _ (b, q, refl, refl))
ext_a c (uu.tag_only l (ud.body d)) = onward_a (j.judged_def c d) _ (def_a c d) (λ n g. g) (λ s h. is_a _ (s.tree.spec, s.tree.base, h, refl))
ext_a c (uu.object l s is) =
    onward_a (j.judged_types_or_int c s.types) _ (types_or_int_a c s.types) (λ n g. inl g) (λ y h.
    onward_a (j.judged_file_items y.env s.storage y.tree.base is) _ (file_items_a y.env s.storage y.tree.base is) (λ n g. inr (y.tree.spec, y.tree.base, y.env, h, g)) (λ xs k.
    is_a _ (y.tree.spec, y.tree.base, xs.tree, y.env, h, k, refl)))
ext_a c (uu.func l s h ps b) =
    onward_a (j.judged_types_or_int c (types_of s)) _ (types_or_int_a c (types_of s)) (λ n g. inl g) (λ y hy.
    onward_a (judged_declr y.env None y.tree.base h) _ (declr_a y.env None y.tree.base h) (λ n g. inr (y.tree.spec, y.tree.base, y.env, hy, inl g)) (λ d hd.
    onward_a (j.judged_body y.env (is_static (storage_of s)) h d ps b) _ (body_a y.env (is_static (storage_of s)) h d ps b) (λ n g. inr (y.tree.spec, y.tree.base, y.env, hy, inr (d, hd, g))) (λ k hk.
    is_a _ (y.tree.spec, y.tree.base, d, k.tree, y.env, hy, hd, hk, refl))))

exts_a : (c : Env) (ys : List uu.Ext) → Answer (λ z. AreExts c ys z.tree z.env) (f.ExtsFail c ys) (j.judged_exts c ys)
exts_a c [] = is_a _ (refl, refl)
exts_a c (y ∷ ys) =
    onward_a (j.judged_ext c y) _ (ext_a c y) (λ n g. inl g) (λ x h.
    onward_a (j.judged_exts x.env ys) _ (exts_a x.env ys) (λ n g. inr (x.tree, x.env, h, g)) (λ rest k.
    is_a _ (x.tree, rest.tree, x.env, h, k, refl)))

pub unit_a : (y : uu.Unit) → Answer (IsTyped y) (UnitFails y) (j.judged y)
unit_a y =
    provided_a 1 (names_differ (defined_in y)) _ (λ q. inr (inl (refl, q))) (λ p.
    provided_a 3 (names_differ (tag_names (tags_in y))) _ (λ q. inr (inr (refl, q))) (λ q.
    onward_a (j.judged_exts (at_first y) y.exts) _ (exts_a (at_first y) y.exts) (λ n g. inl g) (λ xs h.
    is_a _ (record { last = xs.env; parts = h; defined_once = p; tags_once = q; tags = refl; texts = refl }))))
