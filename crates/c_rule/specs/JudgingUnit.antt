-- The typing function on tags, declarations at file level, functions and units.
use Rattle.std.specs.Prelude.{ℕ, List, [], ◌∷◌, ◌++◌, map, Option, Some, None, Bool, true, false, not}
use Rattle.c_type.specs.Names.{Name, pick}
use Rattle.c_type.specs.declared.Kind.TheVariants.{Int}
use Rattle.c_type.specs.declared.TagKind.TheVariants.{Struct, Enum}
use Rattle.c_type.specs.Types.{CType, num, struct, enum, fun, Member}
use Rattle.c_tree.specs.declared.decl.Storage.TheVariants as sg
use Rattle.c_tree.specs.TreeDecl as ud
use Rattle.c_tree.specs.declared.decl.Storage.{Storage}
use Rattle.c_tree.specs.TreeExpr.{Expr, tag}
use Rattle.c_tree.specs.TreeStmt.{Block}
use Rattle.c_tree.specs.TreeUnit as uu
use Rattle.c_tree.specs.TExpr as e
use Rattle.c_tree.specs.TStmt.{Declr}
use Rattle.c_tree.specs.TUnit as t
use Rattle.c_tree.specs.TUnit.{Spec, Mems, Enumerator, Item, ParDecl, Func, TExt, TypedUnit}
use Rattle.c_tree.specs.declared.typed_unit.Bound.TheVariants.{Own, Outside, Elsewhere, OwnFunction, OutsideFunction}
use Rattle.c_rule.specs.RuleScope.{Judged, Is, Fails, onward, provided, Env, Meaning, Alias, Constant, Thing, Function, in_scope, function_ref, known, is_sized, close, past_option, started}
use Rattle.c_rule.specs.RuleTypes.{is_function, spec_type}
use Rattle.c_rule.specs.RuleDecls.{constant_of, past_declr}
use Rattle.c_rule.specs.RuleStmts.{is_free, is_static, missing}
use Rattle.c_rule.specs.RuleTags.{next_value, in_file, member_of, names_differ, unplaced, as_member}
use Rattle.c_rule.specs.RuleNames.{storage_of, types_of, tags_in, defined_in, tag_names}
use Rattle.c_rule.specs.RuleUnit.{combined, own_number, next_static, list_of, is_listed, is_structure, in_body, at_body, parameters, names_of, at_first}
use Rattle.c_rule.specs.Judging.{Behind, behind, judged_by, judged_declr, judged_begin, without_init, judged_decls, judged_stmts}

-- tags

abbrev pub judged_enumerator : Env → Option ℕ → Name → Option Expr → Judged Enumerator
judged_enumerator c before x None = Is (record { name = x; value = next_value before; expr = None })
judged_enumerator c before x (Some a) = onward (judged_by (constant_of c) c a) (λ k. Is (record { name = x; value = k.bits; expr = Some k.expr }))

abbrev pub judged_enumerators : Env → Option ℕ → List ud.En → Judged (Behind (List Enumerator))
judged_enumerators c before [] = behind [] c
judged_enumerators c before (x ∷ xs) =
    onward (judged_enumerator c before x.name x.value) (λ y. provided 1 (is_free x.name c.file)
    (onward (judged_enumerators (in_file (record { name = x.name; meaning = Constant y.value }) (past_option x.value c)) (Some y.value) xs) (λ rest.
    behind (y ∷ rest.tree) rest.env)))

abbrev pub judged_member : Env → CType → ud.Declr → Judged Declr
judged_member c base d = onward (judged_declr c None base d) (λ y. provided 7 (not (is_function y.ty)) (provided 3 (is_sized (known c) y.ty) (Is y)))

abbrev pub judged_members : Env → CType → List ud.Declr → Judged (Behind (List Declr))
judged_members c base [] = behind [] c
judged_members c base (d ∷ ds) = onward (judged_member c base d) (λ y. onward (judged_members (past_declr d c) base ds) (λ rest. behind (y ∷ rest.tree) rest.env))

-- words with the type that they name
pub record Typed : Type 0 where
  pub spec : Spec
  pub base : CType

abbrev pub typed : Spec → CType → Env → Judged (Behind Typed)
typed s b c = behind (record { spec = s; base = b }) c

-- the declarations of members with the members without offsets
pub record Body : Type 0 where
  pub mems : Mems
  pub members : List Member

abbrev mutual
  pub judged_types : Env → ud.Types → Judged (Behind Typed)
  judged_types c (ud.spec y) = onward (spec_type c y) (λ base. typed (t.plain base) base c)
  judged_types c (ud.def d) = judged_def c d

  pub judged_def : Env → ud.TagDef → Judged (Behind Typed)
  judged_def c (ud.struct l x ms) =
      onward (judged_mems c ms) (λ b. provided 7 (names_differ (map (λ m. m.name) b.tree.members))
      (typed (t.struct_body (known b.env) b.tree.mems) (struct (known b.env)) (close (unplaced x Struct b.tree.members) b.env)))
  judged_def c (ud.union l x ms) = Fails 3
  judged_def c (ud.enum l x es) =
      onward (judged_enumerators c None es) (λ ys. typed (t.enum_body (known ys.env) ys.tree) (enum (known ys.env)) (close (unplaced x Enum (map as_member ys.tree)) ys.env))

  pub judged_mems : Env → ud.Mems → Judged (Behind Body)
  judged_mems c ud.no_mems = behind (record { mems = t.no_mems; members = [] }) c
  judged_mems c (ud.more_mems (ud.mem l y ds) ms) =
      onward (judged_types c y) (λ s. onward (judged_members s.env s.tree.base ds) (λ xs. onward (judged_mems xs.env ms) (λ rest.
      behind (record { mems = t.more_mems s.tree.spec xs.tree rest.tree.mems; members = map member_of xs.tree ++ rest.tree.members }) rest.env)))

abbrev pub judged_types_or_int : Env → Option ud.Types → Judged (Behind Typed)
judged_types_or_int c None = typed (t.plain (num Int)) (num Int) c
judged_types_or_int c (Some y) = judged_types c y

-- declarations at file level

-- rule 1 at file level
abbrev pub declared_as : Env → Name → Option Meaning → Judged Env
declared_as c x None = Fails 1
declared_as c x (Some r) = Is (in_file (record { name = x; meaning = r }) c)

abbrev pub declared_in_file : Env → Name → Meaning → Judged Env
declared_in_file c x m = declared_as c x (combined (in_scope x c.file) m)

abbrev pub judged_outside : Env → Declr → Option ud.Init → Judged (Behind Item)
judged_outside c d i =
    provided 3 (is_sized (known c) d.ty) (onward (declared_in_file c d.name (Thing (e.Ext d.name) d.ty)) (λ c1. onward (judged_begin c1 d.ty i) (λ j.
    behind (record { declr = d; bound = Outside; init = j.tree }) j.env)))

abbrev pub judged_own : Env → Declr → Option ud.Init → Judged (Behind Item)
judged_own c d i =
    provided 3 (is_sized (known c) d.ty) (onward (declared_in_file c d.name (Thing (e.Static (own_number c (in_scope d.name c.file))) d.ty)) (λ c1.
    onward (judged_begin c1 d.ty i) (λ j.
    behind (record { declr = d; bound = Own (own_number c (in_scope d.name c.file)); init = j.tree }) (record j.env { statics = next_static c (in_scope d.name c.file) }))))

-- a declarator at file level, by its type and its storage word
abbrev pub judged_item : Bool → Option Storage → Env → Declr → Option ud.Init → Judged (Behind Item)
judged_item true s c d i =
    without_init i (onward (declared_in_file c d.name (Function (is_static s) (function_ref c (is_static s) d.name) d.ty)) (λ c1.
    behind (record { declr = d; bound = pick (is_static s) OwnFunction OutsideFunction; init = None }) c1))
judged_item false (Some sg.Extern) c d i =
    without_init i (onward (declared_in_file c d.name (Thing (e.Ext d.name) d.ty)) (λ c1. behind (record { declr = d; bound = Elsewhere; init = None }) c1))
judged_item false (Some sg.Static) c d i = judged_own c d i
judged_item false _ c d i = judged_outside c d i

abbrev pub judged_file_items : Env → Option Storage → CType → List ud.Item → Judged (Behind (List Item))
judged_file_items c s base [] = behind [] c
judged_file_items c s base (i ∷ is) =
    onward (judged_declr c (missing s i.init) base i.declr) (λ d. onward (judged_item (is_function d.ty) s (past_declr i.declr c) d i.init) (λ x.
    onward (judged_file_items x.env s base is) (λ rest. behind (x.tree ∷ rest.tree) rest.env)))

abbrev pub judged_aliases : Env → CType → List ud.Declr → Judged (Behind (List Declr))
judged_aliases c base [] = behind [] c
judged_aliases c base (d ∷ ds) =
    onward (judged_declr c None base d) (λ x. provided 1 (is_free x.name c.file)
    (onward (judged_aliases (in_file (record { name = x.name; meaning = Alias x.ty }) (past_declr d c)) base ds) (λ rest. behind (x ∷ rest.tree) rest.env)))

-- functions

-- rule 8 on a declared parameter
abbrev pub judged_parameter : Env → List Name → CType → ud.Declr → Judged Declr
judged_parameter c xs base d = onward (judged_declr c (Some 0) base d) (λ y. provided 8 (is_listed y.name xs) (provided 8 (not (is_structure y.ty)) (Is y)))

abbrev pub judged_parameters : Env → List Name → CType → List ud.Declr → Judged (Behind (List Declr))
judged_parameters c xs base [] = behind [] c
judged_parameters c xs base (d ∷ ds) =
    onward (judged_parameter c xs base d) (λ y. onward (judged_parameters (past_declr d c) xs base ds) (λ rest. behind (y ∷ rest.tree) rest.env))

abbrev pub judged_par_decls : Env → List Name → List ud.ParDecl → Judged (Behind (List ParDecl))
judged_par_decls c xs [] = behind [] c
judged_par_decls c xs (p ∷ ps) =
    onward (judged_types c p.types) (λ s. onward (judged_parameters s.env xs s.tree.base p.declrs) (λ ds. onward (judged_par_decls ds.env xs ps) (λ rest.
    behind (record { spec = s.tree.spec; declrs = ds.tree } ∷ rest.tree) rest.env)))

abbrev pub judged_head : Env → Bool → ud.Declr → Declr → List ud.ParDecl → Judged (Behind (List ParDecl))
judged_head c s h d ps =
    onward (judged_par_decls c (list_of h) ps) (λ ys. provided 1 (names_differ (list_of h)) (provided 1 (names_differ (names_of ys.tree))
    (onward (declared_in_file ys.env d.name (Function s (function_ref ys.env s d.name) d.ty)) (λ c1. behind ys.tree c1))))

-- what a function gives; rule 6 where the declarator is no function
abbrev pub result : CType → Judged CType
result (fun t) = Is t
result _ = Fails 6

abbrev pub judged_body : Env → Bool → ud.Declr → Declr → List ud.ParDecl → Block → Judged (Behind Func)
judged_body c s h d ps b =
    onward (result d.ty) (λ r. onward (judged_head c s h d ps) (λ ys. onward (judged_decls (in_body (parameters h ys.tree) ys.env) b.decls) (λ xs.
    onward (judged_stmts xs.env (at_body r) b.stmts) (λ ss.
    behind (record {
      name = d.name;
      is_static = s;
      result = r;
      params = parameters h ys.tree;
      declared = ys.tree;
      open_ = ys.env.starts;
      line = b.line;
      locals = xs.tree;
      stmts = ss.tree;
      close = ss.env.starts;
      close_line = b.close_line;
    }) (record (started 1 ss.env) { blocks = [] })))))

-- units

abbrev pub judged_ext : Env → uu.Ext → Judged (Behind TExt)
judged_ext c (uu.typedef l y ds) =
    onward (judged_types_or_int c y) (λ s. onward (judged_aliases s.env s.tree.base ds) (λ xs. behind (t.typedef s.tree.spec xs.tree) xs.env))
judged_ext c (uu.tag_only l (ud.ref r)) = onward (spec_type c (tag r)) (λ base. behind (t.tag_only (t.plain base)) c)
judged_ext c (uu.tag_only l (ud.body d)) = onward (judged_def c d) (λ s. behind (t.tag_only s.tree.spec) s.env)
judged_ext c (uu.object l s is) =
    onward (judged_types_or_int c s.types) (λ y. onward (judged_file_items y.env s.storage y.tree.base is) (λ xs. behind (t.object y.tree.spec xs.tree) xs.env))
judged_ext c (uu.func l s h ps b) =
    onward (judged_types_or_int c (types_of s)) (λ y. onward (judged_declr y.env None y.tree.base h) (λ d.
    onward (judged_body y.env (is_static (storage_of s)) h d ps b) (λ f. behind (t.func y.tree.spec f.tree) f.env)))

abbrev pub judged_exts : Env → List uu.Ext → Judged (Behind (List TExt))
judged_exts c [] = behind [] c
judged_exts c (y ∷ ys) = onward (judged_ext c y) (λ x. onward (judged_exts x.env ys) (λ rest. behind (x.tree ∷ rest.tree) rest.env))

-- the typed unit of a unit, or the number of a rule that fails in it
abbrev pub judged : uu.Unit → Judged TypedUnit
judged y =
    provided 1 (names_differ (defined_in y)) (provided 3 (names_differ (tag_names (tags_in y))) (onward (judged_exts (at_first y) y.exts) (λ xs.
    Is (record { tags = xs.env.tags; texts = xs.env.texts; exts = xs.tree }))))
