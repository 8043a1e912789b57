-- Where a rule fails in tags, in declarations at file level, in functions and in a unit.
use Rattle.std.specs.Prelude.{◌≡◌, ℕ, List, [], ◌∷◌, map, Option, Some, None, Bool, true, false, ◌⊎◌}
use Rattle.c_type.specs.Names.{Name}
use Rattle.c_type.specs.Types.{CType, Member, fun}
use Rattle.c_tree.specs.declared.decl.Storage.TheVariants as sg
use Rattle.c_tree.specs.TreeDecl as ud
use Rattle.c_tree.specs.declared.decl.Storage.{Storage}
use Rattle.c_tree.specs.TreeExpr.{tag}
use Rattle.c_tree.specs.TreeStmt.{Block}
use Rattle.c_tree.specs.TreeUnit as uu
use Rattle.c_tree.specs.TExpr as e
use Rattle.c_tree.specs.TStmt.{Declr, LocalDecl}
use Rattle.c_tree.specs.TUnit.{Spec, Mems, Enumerator, Item, ParDecl, TExt}
use Rattle.c_rule.specs.RuleScope.{Fails, Env, Meaning, Alias, Constant, Thing, Function, in_scope, function_ref, past_option}
use Rattle.c_rule.specs.RuleTypes.{is_function, spec_type}
use Rattle.c_rule.specs.RuleDecls.{constant_of, past_declr, IsDeclr}
use Rattle.c_rule.specs.RuleStmts.{is_free, is_static, missing, AreDecls}
use Rattle.c_rule.specs.RuleTags.{IsEnumerator, in_file, names_differ, AreTypes, AreMems, IsMem, AreTypesOrInt}
use Rattle.c_rule.specs.RuleNames.{storage_of, types_of, tags_in, defined_in, tag_names}
use Rattle.c_rule.specs.RuleUnit.{combined, DeclaresInFile, own_number, IsItemBy, list_of, is_listed, is_structure, AreParameters, AreParDecls, in_body, at_body, parameters, names_of, IsHead, IsExt, at_first}
use Rattle.c_rule.specs.RuleFails.{Refuses, MaybeFails, DeclrFails, InitFails, HasInit, IsUnsized, DeclsFail, StmtsFail}

-- tags

-- rule 1 on a name that may not be declared again in the file
abbrev pub IsTakenInFile : Env → Name → ℕ → Type 0
IsTakenInFile c x n = (n ≡ 1) × (is_free x c.file ≡ false)

abbrev pub EnumeratorsFail : Env → Option ℕ → List ud.En → ℕ → Type 0
EnumeratorsFail c before [] n = ⊥
EnumeratorsFail c before (x ∷ xs) n =
    MaybeFails (Refuses (constant_of c) c) x.value n ⊎ (IsTakenInFile c x.name n ⊎
    ((y : Enumerator) × IsEnumerator c before x y ×
    EnumeratorsFail (in_file (record { name = x.name; meaning = Constant y.value }) (past_option x.value c)) (Some y.value) xs n))

-- rule 7 on a member that is a function
abbrev pub MembersFail : Env → CType → List ud.Declr → ℕ → Type 0
MembersFail c base [] n = ⊥
MembersFail c base (d ∷ ds) n =
    DeclrFails c None base d n ⊎ (((y : Declr) × IsDeclr c None base d y × (((n ≡ 7) × (is_function y.ty ≡ true)) ⊎ IsUnsized c y.ty n)) ⊎
    MembersFail (past_declr d c) base ds n)

-- rule 7 on two members of one name; rule 3 on the body of a union, which no text spells
abbrev mutual
  pub TypesFail : Env → ud.Types → ℕ → Type 0
  TypesFail c (ud.spec y) n = spec_type c y ≡ Fails n
  TypesFail c (ud.def d) n = DefFails c d n

  pub DefFails : Env → ud.TagDef → ℕ → Type 0
  DefFails c (ud.struct l x ms) n =
      MemsFail c ms n ⊎ ((ys : Mems) × (members : List Member) × (c1 : Env) × AreMems c ms ys members c1 × (n ≡ 7) × (names_differ (map (λ m. m.name) members) ≡ false))
  DefFails c (ud.union l x ms) n = n ≡ 3
  DefFails c (ud.enum l x es) n = EnumeratorsFail c None es n

  pub MemsFail : Env → ud.Mems → ℕ → Type 0
  MemsFail c ud.no_mems n = ⊥
  MemsFail c (ud.more_mems m ms) n = MemFails c m n ⊎ ((s : Spec) × (ds : List Declr) × (c1 : Env) × IsMem c m s ds c1 × MemsFail c1 ms n)

  pub MemFails : Env → ud.Mem → ℕ → Type 0
  MemFails c (ud.mem l y ds) n = TypesFail c y n ⊎ ((s : Spec) × (base : CType) × (c1 : Env) × AreTypes c y s base c1 × MembersFail c1 base ds n)

-- declarations at file level

-- rule 1 on a name that is declared again with another type or choice of `static`
abbrev pub IsUnlike : Env → Name → Meaning → ℕ → Type 0
IsUnlike c x m n = (n ≡ 1) × (combined (in_scope x c.file) m ≡ None)

-- in an object at file level that is not `extern`: its size, its name, or its initialiser
abbrev pub ObjectFails : Env → Declr → Meaning → Option ud.Init → ℕ → Type 0
ObjectFails c d m i n = IsUnsized c d.ty n ⊎ (IsUnlike c d.name m n ⊎ ((c1 : Env) × DeclaresInFile c d.name m c1 × MaybeFails (InitFails c1 d.ty) i n))

-- in a declarator at file level, by its type and its storage word
abbrev pub ItemFails : Bool → Option Storage → Env → Declr → Option ud.Init → ℕ → Type 0
ItemFails true s c d i n = HasInit i n ⊎ IsUnlike c d.name (Function (is_static s) (function_ref c (is_static s) d.name) d.ty) n
ItemFails false (Some sg.Extern) c d i n = HasInit i n ⊎ IsUnlike c d.name (Thing (e.Ext d.name) d.ty) n
ItemFails false (Some sg.Static) c d i n = ObjectFails c d (Thing (e.Static (own_number c (in_scope d.name c.file))) d.ty) i n
ItemFails false _ c d i n = ObjectFails c d (Thing (e.Ext d.name) d.ty) i n

abbrev pub ItemsFail : Env → Option Storage → CType → List ud.Item → ℕ → Type 0
ItemsFail c s base [] n = ⊥
ItemsFail c s base (i ∷ is) n =
    DeclrFails c (missing s i.init) base i.declr n ⊎ ((d : Declr) × IsDeclr c (missing s i.init) base i.declr d ×
    (ItemFails (is_function d.ty) s (past_declr i.declr c) d i.init n ⊎
    ((x : Item) × (c1 : Env) × IsItemBy (is_function d.ty) s (past_declr i.declr c) d i.init x c1 × ItemsFail c1 s base is n)))

abbrev pub AliasesFail : Env → CType → List ud.Declr → ℕ → Type 0
AliasesFail c base [] n = ⊥
AliasesFail c base (d ∷ ds) n =
    DeclrFails c None base d n ⊎ ((x : Declr) × IsDeclr c None base d x × (IsTakenInFile c x.name n ⊎
    AliasesFail (in_file (record { name = x.name; meaning = Alias x.ty }) (past_declr d c)) base ds n))

-- functions

-- rule 8 on a declared parameter that is not in the list or is a structure
abbrev pub ParametersFail : Env → List Name → CType → List ud.Declr → ℕ → Type 0
ParametersFail c xs base [] n = ⊥
ParametersFail c xs base (d ∷ ds) n =
    DeclrFails c (Some 0) base d n ⊎ (((y : Declr) × IsDeclr c (Some 0) base d y × (n ≡ 8) × ((is_listed y.name xs ≡ false) ⊎ (is_structure y.ty ≡ true))) ⊎
    ParametersFail (past_declr d c) xs base ds n)

abbrev pub ParDeclsFail : Env → List Name → List ud.ParDecl → ℕ → Type 0
ParDeclsFail c xs [] n = ⊥
ParDeclsFail c xs (p ∷ ps) n =
    TypesFail c p.types n ⊎ ((s : Spec) × (base : CType) × (c1 : Env) × AreTypes c p.types s base c1 ×
    (ParametersFail c1 xs base p.declrs n ⊎ ((ds : List Declr) × (c2 : Env) × AreParameters c1 xs base p.declrs ds c2 × ParDeclsFail c2 xs ps n)))

-- rule 1 on names of the list that are alike, or that are declared twice, and on the function's name
abbrev pub HeadFails : Env → Bool → ud.Declr → Declr → List ud.ParDecl → ℕ → Type 0
HeadFails c s h d ps n =
    ParDeclsFail c (list_of h) ps n ⊎ (((n ≡ 1) × (names_differ (list_of h) ≡ false)) ⊎
    ((ys : List ParDecl) × (c1 : Env) × AreParDecls c (list_of h) ps ys c1 ×
    (((n ≡ 1) × (names_differ (names_of ys) ≡ false)) ⊎ IsUnlike c1 d.name (Function s (function_ref c1 s d.name) d.ty) n)))

-- rule 6 on a body of what is no function, which no text spells
abbrev pub BodyFails : Env → Bool → ud.Declr → Declr → List ud.ParDecl → Block → ℕ → Type 0
BodyFails c s h d ps b n =
    ((n ≡ 6) × (is_function d.ty ≡ false)) ⊎ (HeadFails c s h d ps n ⊎ ((ys : List ParDecl) × (c1 : Env) × IsHead c s h d ps ys c1 ×
    (DeclsFail (in_body (parameters h ys) c1) b.decls n ⊎
    ((result : CType) × (xs : List LocalDecl) × (c2 : Env) × (d.ty ≡ fun result) × AreDecls (in_body (parameters h ys) c1) b.decls xs c2 ×
    StmtsFail c2 (at_body result) b.stmts n))))

-- units

abbrev pub ExtFails : Env → uu.Ext → ℕ → Type 0
ExtFails c (uu.typedef l y ds) n =
    MaybeFails (TypesFail c) y n ⊎ ((s : Spec) × (base : CType) × (c1 : Env) × AreTypesOrInt c y s base c1 × AliasesFail c1 base ds n)
ExtFails c (uu.tag_only l (ud.ref r)) n = spec_type c (tag r) ≡ Fails n
ExtFails c (uu.tag_only l (ud.body d)) n = DefFails c d n
ExtFails c (uu.object l s is) n =
    MaybeFails (TypesFail c) s.types n ⊎ ((y : Spec) × (base : CType) × (c1 : Env) × AreTypesOrInt c s.types y base c1 × ItemsFail c1 s.storage base is n)
ExtFails c (uu.func l s h ps b) n =
    MaybeFails (TypesFail c) (types_of s) n ⊎ ((y : Spec) × (base : CType) × (c1 : Env) × AreTypesOrInt c (types_of s) y base c1 ×
    (DeclrFails c1 None base h n ⊎ ((d : Declr) × IsDeclr c1 None base h d × BodyFails c1 (is_static (storage_of s)) h d ps b n)))

abbrev pub ExtsFail : Env → List uu.Ext → ℕ → Type 0
ExtsFail c [] n = ⊥
ExtsFail c (y ∷ ys) n = ExtFails c y n ⊎ ((x : TExt) × (c1 : Env) × IsExt c y x c1 × ExtsFail c1 ys n)

-- Rule n fails in a unit: in one of its parts, or rule 1 on a name with two initialisers or bodies, or rule 3 on a tag that is
-- defined twice.
abbrev pub UnitFails : uu.Unit → ℕ → Type 0
UnitFails y n =
    ExtsFail (at_first y) y.exts n ⊎ (((n ≡ 1) × (names_differ (defined_in y) ≡ false)) ⊎ ((n ≡ 3) × (names_differ (tag_names (tags_in y)) ≡ false)))
