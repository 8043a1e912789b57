-- The rules on declarations at file level, and which typed unit belongs to a unit.
use Rattle.std.specs.Prelude.{◌≡◌, ℕ, suc, List, [], ◌∷◌, map, Option, Some, None, Bool, true, false, ◌&&◌, ◌||◌}
use Rattle.std.specs.List.{flat_map}
use Rattle.c_type.specs.Names.{Name, pick, same_name}
use Rattle.c_type.specs.declared.Kind.TheVariants.{Int}
use Rattle.c_type.specs.Types.{CType, num, ptr, arr, struct, union, fun, same_type}
use Rattle.c_tree.specs.declared.decl.Storage.TheVariants as sg
use Rattle.c_tree.specs.TreeDecl as ud
use Rattle.c_tree.specs.declared.decl.Storage.{Storage}
use Rattle.c_tree.specs.TreeExpr.{tag}
use Rattle.c_tree.specs.TreeStmt.{Block}
use Rattle.c_tree.specs.TreeUnit as uu
use Rattle.c_tree.specs.TExpr as e
use Rattle.c_tree.specs.TStmt as st
use Rattle.c_tree.specs.TStmt.{Declr}
use Rattle.c_tree.specs.TUnit as t
use Rattle.c_tree.specs.TUnit.{Spec, Item, ParDecl, Var, Func, TExt, TypedUnit}
use Rattle.c_tree.specs.declared.typed_unit.Bound.TheVariants.{Own, Outside, Elsewhere, OwnFunction, OutsideFunction}
use Rattle.c_rule.specs.RuleNames.{storage_of, types_of, tags_in, bodies_in, defined_in, tag_names}
use Rattle.c_rule.specs.RuleScope.{Is, Env, Entry, Meaning, Alias, Thing, Function, in_scope, function_ref, same_bool, known, is_sized, started}
use Rattle.c_rule.specs.RuleTypes.{is_function, spec_type, joined}
use Rattle.c_rule.specs.RuleDecls.{past_declr, IsDeclr, Begins}
use Rattle.c_rule.specs.RuleStmts.{is_free, is_static, missing, Place, AreDecls, AreStmts}
use Rattle.c_rule.specs.RuleTags.{names_differ, AreTypes, IsDef, AreTypesOrInt, in_file}

-- declarations again

abbrev pub is_own : e.Ref → Bool
is_own (e.Static k) = true
is_own _ = false

abbrev pub object_again : e.Ref → Option CType → Option Meaning
object_again r None = None
object_again r (Some t) = Some (Thing r t)

-- Rule 1: what a name means that is declared at file level once more. An object keeps its choice of `static`, and its number
-- too. A function keeps its type and its choice.
abbrev pub again : Meaning → Meaning → Option Meaning
again (Thing r a) (Thing q b) = pick (same_bool (is_own r) (is_own q)) (object_again r (joined a b)) None
again (Function s r a) (Function z q b) = pick (same_bool s z && same_type a b) (Some (Function s r a)) None
again _ _ = None

abbrev pub combined : Option Meaning → Meaning → Option Meaning
combined None m = Some m
combined (Some old) m = again old m

-- rule 1 at file level
abbrev pub DeclaresInFile : Env → Name → Meaning → Env → Type 0
DeclaresInFile c x m c' = (r : Meaning) × (combined (in_scope x c.file) m ≡ Some r) × (c' ≡ in_file (record { name = x; meaning = r }) c)

-- a static that is declared once more has the number that it had, and a new one the next
abbrev pub own_number : Env → Option Meaning → ℕ
own_number c (Some (Thing (e.Static k) t)) = k
own_number c _ = c.statics

abbrev pub next_static : Env → Option Meaning → ℕ
next_static c (Some (Thing (e.Static k) t)) = c.statics
next_static c _ = suc c.statics

-- objects and functions declared at file level

-- a function; rule 11: it has no initialiser
abbrev pub IsFunctionItem : Env → Bool → Declr → Option ud.Init → Item → Env → Type 0
IsFunctionItem c s d i x c' =
    (i ≡ None) × DeclaresInFile c d.name (Function s (function_ref c s d.name) d.ty) c' × (x ≡ record { declr = d; bound = pick s OwnFunction OutsideFunction; init = None })

-- an external object declared with `extern`; rule 11: it has no initialiser
abbrev pub IsElsewhere : Env → Declr → Option ud.Init → Item → Env → Type 0
IsElsewhere c d i x c' = (i ≡ None) × DeclaresInFile c d.name (Thing (e.Ext d.name) d.ty) c' × (x ≡ record { declr = d; bound = Elsewhere; init = None })

-- an external object, whose initialiser may name it
abbrev pub IsOutside : Env → Declr → Option ud.Init → Item → Env → Type 0
IsOutside c d i x c' =
    (j : Option st.Init) × (c1 : Env) × (is_sized (known c) d.ty ≡ true) × DeclaresInFile c d.name (Thing (e.Ext d.name) d.ty) c1 × Begins c1 d.ty i j c' ×
    (x ≡ record { declr = d; bound = Outside; init = j })

-- a static object, whose initialiser may name it
abbrev pub IsOwn : Env → Declr → Option ud.Init → Item → Env → Type 0
IsOwn c d i x c' =
    (j : Option st.Init) × (c1 : Env) × (c2 : Env) × (is_sized (known c) d.ty ≡ true) ×
    DeclaresInFile c d.name (Thing (e.Static (own_number c (in_scope d.name c.file))) d.ty) c1 × Begins c1 d.ty i j c2 ×
    (x ≡ record { declr = d; bound = Own (own_number c (in_scope d.name c.file)); init = j }) ×
    (c' ≡ record c2 { statics = next_static c (in_scope d.name c.file) })

-- what a declarator declares, by its type and its storage word
abbrev pub IsItemBy : Bool → Option Storage → Env → Declr → Option ud.Init → Item → Env → Type 0
IsItemBy true s c d i x c' = IsFunctionItem c (is_static s) d i x c'
IsItemBy false (Some sg.Extern) c d i x c' = IsElsewhere c d i x c'
IsItemBy false (Some sg.Static) c d i x c' = IsOwn c d i x c'
IsItemBy false _ c d i x c' = IsOutside c d i x c'

-- the declarators of a declaration, each in the scope of those before it
abbrev pub AreItems : Env → Option Storage → CType → List ud.Item → List Item → Env → Type 0
AreItems c s base [] xs c' = (xs ≡ []) × (c' ≡ c)
AreItems c s base (i ∷ is) xs c' =
    (d : Declr) × (x : Item) × (rest : List Item) × (c1 : Env) × IsDeclr c (missing s i.init) base i.declr d ×
    IsItemBy (is_function d.ty) s (past_declr i.declr c) d i.init x c1 × AreItems c1 s base is rest c' × (xs ≡ x ∷ rest)

-- typedef names; rule 1: each is new in the file
abbrev pub AreAliases : Env → CType → List ud.Declr → List Declr → Env → Type 0
AreAliases c base [] xs c' = (xs ≡ []) × (c' ≡ c)
AreAliases c base (d ∷ ds) xs c' =
    (x : Declr) × (rest : List Declr) × IsDeclr c None base d x × (is_free x.name c.file ≡ true) ×
    AreAliases (in_file (record { name = x.name; meaning = Alias x.ty }) (past_declr d c)) base ds rest c' × (xs ≡ x ∷ rest)

-- functions

-- the names of a function's list, which is the innermost suffix of its name
abbrev pub list_of : ud.Declr → List Name
list_of (ud.pointer l d) = list_of d
list_of (ud.name l x) = []
list_of (ud.array l d a) = list_of d
list_of (ud.function l (ud.name m x) xs) = xs
list_of (ud.function l d xs) = list_of d

-- rule 8: an array becomes a pointer to its element, and a function a pointer to it
abbrev pub as_parameter : CType → CType
as_parameter (arr n t) = ptr t
as_parameter (fun t) = ptr (fun t)
as_parameter t = t

abbrev pub is_listed : Name → List Name → Bool
is_listed x [] = false
is_listed x (y ∷ ys) = same_name x y || is_listed x ys

abbrev pub is_structure : CType → Bool
is_structure (struct k) = true
is_structure (union k) = true
is_structure _ = false

-- rule 8: each declared parameter is in the list and no structure; an outermost dimension may be missing
abbrev pub AreParameters : Env → List Name → CType → List ud.Declr → List Declr → Env → Type 0
AreParameters c xs base [] ys c' = (ys ≡ []) × (c' ≡ c)
AreParameters c xs base (d ∷ ds) ys c' =
    (y : Declr) × (rest : List Declr) × IsDeclr c (Some 0) base d y × (is_listed y.name xs ≡ true) × (is_structure y.ty ≡ false) ×
    AreParameters (past_declr d c) xs base ds rest c' × (ys ≡ y ∷ rest)

-- the declarations of parameters
abbrev pub AreParDecls : Env → List Name → List ud.ParDecl → List ParDecl → Env → Type 0
AreParDecls c xs [] ys c' = (ys ≡ []) × (c' ≡ c)
AreParDecls c xs (p ∷ ps) ys c' =
    (s : Spec) × (base : CType) × (ds : List Declr) × (rest : List ParDecl) × (c1 : Env) × (c2 : Env) × AreTypes c p.types s base c1 ×
    AreParameters c1 xs base p.declrs ds c2 × AreParDecls c2 xs ps rest c' × (ys ≡ record { spec = s; declrs = ds } ∷ rest)

-- rule 8: the type of a name of the list: that of its declaration, or int
abbrev pub parameter_type : Name → List Declr → CType
parameter_type x [] = num Int
parameter_type x (d ∷ ds) = pick (same_name x d.name) (as_parameter d.ty) (parameter_type x ds)

abbrev pub as_var : List Declr → Name → Var
as_var ds x = record { name = x; ty = parameter_type x ds }

-- the scope of a function's parameters
abbrev pub parameter_scope : ℕ → List Var → List Entry
parameter_scope i [] = []
parameter_scope i (v ∷ vs) = record { name = v.name; meaning = Thing (e.Param i) v.ty } ∷ parameter_scope (suc i) vs

abbrev pub declared_in : List ParDecl → List Declr
declared_in ps = flat_map (λ p. p.declrs) ps

-- behind the opening brace of a function's body
abbrev pub in_body : List Var → Env → Env
in_body vs c = record (started 1 c) { blocks = parameter_scope 0 vs ∷ []; autos = 0 }

abbrev pub at_body : CType → Place
at_body r = record { loop = false; breaks = false; result = r }

-- the parameters of a function with the names of its list
abbrev pub parameters : ud.Declr → List ParDecl → List Var
parameters h ys = map (as_var (declared_in ys)) (list_of h)

-- rule 1: the names of a function's list differ, and each is declared once
abbrev pub names_of : List ParDecl → List Name
names_of ys = map (λ y. y.name) (declared_in ys)

-- the head of a function d with the declarations ys of its parameters, which stand before its own name is in scope
abbrev pub IsHead : Env → Bool → ud.Declr → Declr → List ud.ParDecl → List ParDecl → Env → Type 0
IsHead c s h d ps ys c' =
    (c1 : Env) × AreParDecls c (list_of h) ps ys c1 × (names_differ (list_of h) ≡ true) × (names_differ (names_of ys) ≡ true) ×
    DeclaresInFile c1 d.name (Function s (function_ref c1 s d.name) d.ty) c'

-- A function with its body. The parameters and the outermost block are one scope.
abbrev pub IsBody : Env → Bool → ud.Declr → Declr → List ud.ParDecl → Block → Func → Env → Type 0
IsBody c s h d ps b f c' =
    (c1 : Env) × (c2 : Env) × (c3 : Env) × (d.ty ≡ fun f.result) × IsHead c s h d ps f.declared c1 × AreDecls (in_body (parameters h f.declared) c1) b.decls f.locals c2 ×
    AreStmts c2 (at_body f.result) b.stmts f.stmts c3 × (f.name ≡ d.name) × (f.is_static ≡ s) × (f.params ≡ parameters h f.declared) ×
    (f.line ≡ b.line) × (f.close_line ≡ b.close_line) × (f.open_ ≡ c1.starts) × (f.close ≡ c3.starts) × (c' ≡ record (started 1 c3) { blocks = [] })

-- units

-- what a part of a unit becomes
abbrev pub IsExt : Env → uu.Ext → TExt → Env → Type 0
IsExt c (uu.typedef l y ds) x c' =
    (s : Spec) × (base : CType) × (xs : List Declr) × (c1 : Env) × AreTypesOrInt c y s base c1 × AreAliases c1 base ds xs c' × (x ≡ t.typedef s xs)
IsExt c (uu.tag_only l (ud.ref r)) x c' = (base : CType) × (spec_type c (tag r) ≡ Is base) × (x ≡ t.tag_only (t.plain base)) × (c' ≡ c)
IsExt c (uu.tag_only l (ud.body d)) x c' = (s : Spec) × (base : CType) × IsDef c d s base c' × (x ≡ t.tag_only s)
IsExt c (uu.object l s is) x c' =
    (y : Spec) × (base : CType) × (xs : List Item) × (c1 : Env) × AreTypesOrInt c s.types y base c1 × AreItems c1 s.storage base is xs c' × (x ≡ t.object y xs)
IsExt c (uu.func l s h ps b) x c' =
    (y : Spec) × (base : CType) × (d : Declr) × (f : Func) × (c1 : Env) × AreTypesOrInt c (types_of s) y base c1 × IsDeclr c1 None base h d ×
    IsBody c1 (is_static (storage_of s)) h d ps b f c' × (x ≡ t.func y f)

abbrev pub AreExts : Env → List uu.Ext → List TExt → Env → Type 0
AreExts c [] xs c' = (xs ≡ []) × (c' ≡ c)
AreExts c (y ∷ ys) xs c' = (x : TExt) × (rest : List TExt) × (c1 : Env) × IsExt c y x c1 × AreExts c1 ys rest c' × (xs ≡ x ∷ rest)

-- the environment before the first part of a unit
abbrev pub at_first : uu.Unit → Env
at_first y = record { blocks = []; file = []; tags = []; texts = []; starts = 0; autos = 0; statics = 0; heads = tags_in y; bodies = bodies_in y }

-- The typed unit that belongs to a unit: its parts meet the rules, each where those before it stand; each name has at most
-- one initialiser or body (rule 1); each tag is defined once (rule 3). Its tags and texts are those that the parts met.
pub record IsTyped (y : uu.Unit) (x : TypedUnit) : Type 0 where
  pub last : Env
  pub parts : AreExts (at_first y) y.exts x.exts last
  pub defined_once : names_differ (defined_in y) ≡ true
  pub tags_once : names_differ (tag_names (tags_in y)) ≡ true
  pub tags : x.tags ≡ last.tags
  pub texts : x.texts ≡ last.texts
