-- The typing function: the typed tree of an expression, a declarator, an initialiser or a statement, or the number of the
-- first rule that fails there. Types go up from the parts; a part stands in the environment behind those before it.
use Rattle.std.specs.Prelude.{ℕ, suc, List, [], ◌∷◌, ◌++◌, length, Option, Some, None, Bool, true, false, not}
use Rattle.c_type.specs.Names.{Name}
use Rattle.c_type.specs.Kinds.{extend}
use Rattle.c_type.specs.declared.Kind.TheVariants.{Char, Int}
use Rattle.c_type.specs.Types.{CType, num, ptr, arr, fun}
use Rattle.c_tree.specs.declared.decl.Storage.TheVariants as sg
use Rattle.c_tree.specs.TreeDecl as ud
use Rattle.c_tree.specs.declared.decl.Storage.{Storage}
use Rattle.c_tree.specs.TreeStmt as us
use Rattle.c_tree.specs.TreeExpr.{Expr, Exprs, comma, assign, choice, binary, unary, size_of, size_of_type, cast, index, call, member, arrow, post, name, int, chr, text, no_exprs, more_exprs}
use Rattle.c_tree.specs.TExpr as e
use Rattle.c_tree.specs.TExpr.{TExpr, TArgs, type_of}
use Rattle.c_tree.specs.TStmt as st
use Rattle.c_tree.specs.TStmt.{TStmt, TStmts, TItems, Declr, Local, LocalDecl}
use Rattle.c_rule.specs.RuleScope.{Judged, Is, Fails, onward, provided, Env, Meaning, Thing, Function, in_scope, function_ref, meaning_of, known, is_sized, past, past_option, started}
use Rattle.c_rule.specs.RuleTypes.{is_function, cast_type, sized_type, declared_type, spec_or_int}
use Rattle.c_rule.specs.RuleValues.{used, scalar, integer, value_for}
use Rattle.c_rule.specs.RuleExprs as r
use Rattle.c_rule.specs.RuleDecls.{dimension_of, constant_of, is_name, is_some, past_declr, fills_chars, bytes_of, first_value, is_aggregate, part_types}
use Rattle.c_rule.specs.RuleStmts.{is_free, innermost, added, enter, leave, missing, declr_line, is_static, with_earlier, past_init, Place, in_loop, in_switch, returned, labels_differ}

-- a typed tree with the environment behind it
pub record Behind (A : Type 0) : Type 0 where
  pub tree : A
  pub env : Env

abbrev pub behind : {A : Type 0} → A → Env → Judged (Behind A)
behind x c = Is (record { tree = x; env = c })

-- expressions

-- the called expression; a name is looked up as a function
abbrev pub judged_called : Env → Expr → Judged TExpr → Judged TExpr
judged_called c (name l y) j = onward (r.called_name c y (meaning_of c y)) r.called
judged_called c f j = onward j r.called

abbrev mutual
  pub judged_expr : Env → Expr → Judged TExpr
  judged_expr c (comma l a b) = onward (judged_expr c a) (λ x. onward (judged_expr (past a c) b) (λ y. r.comma x y))
  judged_expr c (assign l op a b) = onward (judged_expr c a) (λ x. onward (judged_expr (past a c) b) (λ y. r.assignment c op x y))
  judged_expr c (choice l a b d) =
      onward (judged_expr c a) (λ x. onward (judged_expr (past a c) b) (λ y. onward (judged_expr (past b (past a c)) d) (λ z. r.choice c x y z)))
  judged_expr c (binary l op a b) = onward (judged_expr c a) (λ x. onward (judged_expr (past a c) b) (λ y. r.binary c op x y))
  judged_expr c (unary l op a) = onward (judged_expr c a) (r.unary c op)
  judged_expr c (size_of l a) = onward (judged_expr c a) (r.size_of c)
  judged_expr c (size_of_type l y) = onward (sized_type c y) (λ s. Is (e.size_of_type s))
  judged_expr c (cast l y a) = onward (cast_type c y) (λ s. onward (judged_expr c a) (r.cast c s))
  judged_expr c (index l a i) = onward (judged_expr c a) (λ x. onward (judged_expr (past a c) i) (λ y. r.subscript c x y))
  judged_expr c (call l f es) =
      onward (judged_called c f (judged_expr c f)) (λ x. onward (judged_args (past f c) es) (λ ys. Is (e.call (r.result_of (type_of x)) x ys)))
  judged_expr c (member l a y) = onward (judged_expr c a) (λ x. r.dot c x y)
  judged_expr c (arrow l a y) = onward (judged_expr c a) (λ x. r.arrow c x y)
  judged_expr c (post l op a) = onward (judged_expr c a) (r.step c (r.post_op op))
  judged_expr c (name l y) = r.as_expr (meaning_of c y)
  judged_expr c (int l n long) = Is (e.int (num (r.kind_of_int n long)) n)
  judged_expr c (chr l n) = Is (e.int (num Int) (extend 128 n))
  judged_expr c (text l bs) = Is (e.text (arr (suc (length bs)) (num Char)) (length c.texts))

  pub judged_args : Env → Exprs → Judged TArgs
  judged_args c no_exprs = Is e.no_args
  judged_args c (more_exprs a es) = onward (judged_expr c a) (λ x. onward (scalar 20 x) (λ v. onward (judged_args (past a c) es) (λ vs. Is (e.more_args v vs))))

-- what a rule gives for an expression
abbrev pub judged_by : {B : Type 0} → (TExpr → Judged B) → Env → Expr → Judged B
judged_by rule c a = onward (judged_expr c a) rule

-- the same of one that may be left out
abbrev pub judged_option : (TExpr → Judged TExpr) → Env → Option Expr → Judged (Option TExpr)
judged_option rule c None = Is None
judged_option rule c (Some a) = onward (judged_by rule c a) (λ v. Is (Some v))

-- declarators and initialisers

abbrev pub with_dimension : TExpr → Declr → Judged Declr
with_dimension v r = Is (record r { dims = r.dims ++ v ∷ [] })

-- the missing dimension of an array, by rule 5
abbrev pub missing_dimension : Option ℕ → (ℕ → Judged Declr) → Judged Declr
missing_dimension None go = Fails 5
missing_dimension (Some n) go = go n

-- a declarator by the type that its words give
abbrev pub judged_derived : Env → Option ℕ → CType → ud.Declr → Judged Declr
judged_derived c m base (ud.pointer l d) = judged_derived c m (ptr base) d
judged_derived c m base (ud.name l y) = Is (record { name = y; ty = base; dims = [] })
judged_derived c m base (ud.array l d None) = provided 5 (is_name d) (missing_dimension m (λ n. judged_derived c m (arr n base) d))
judged_derived c m base (ud.array l d (Some a)) =
    onward (judged_by (dimension_of (past_declr d c)) (past_declr d c) a) (λ k. onward (judged_derived c m (arr k.bits base) d) (with_dimension k.expr))
judged_derived c m base (ud.function l d xs) = judged_derived c m (fun base) d

abbrev pub judged_declr : Env → Option ℕ → CType → ud.Declr → Judged Declr
judged_declr c m base d = onward (judged_derived c m base d) (λ r. onward (declared_type c r.ty) (λ t. Is r))

abbrev pub judged_single : (fills : Bool) → Env → CType → Expr → Judged (Behind st.Init)
judged_single true c t a = behind (st.bytes (bytes_of a)) c
judged_single false c t a = onward (judged_by (first_value c t) c a) (λ v. behind (st.single v) (past a c))

abbrev mutual
  pub judged_init : Env → CType → ud.Init → Judged (Behind st.Init)
  judged_init c t (ud.single a) = judged_single (fills_chars t a) c t a
  judged_init c t (ud.group l is) = provided 10 (is_aggregate t) (onward (judged_inits c (part_types c.tags t) is) (λ js. behind (st.group js.tree) js.env))

  pub judged_inits : Env → List CType → ud.Inits → Judged (Behind st.Inits)
  judged_inits c ts ud.no_inits = behind st.no_inits c
  judged_inits c [] (ud.more_inits i is) = Fails 10
  judged_inits c (t ∷ ts) (ud.more_inits i is) =
      onward (judged_init c t i) (λ j. onward (judged_inits j.env ts is) (λ rest. behind (st.more_inits j.tree rest.tree) rest.env))

abbrev pub judged_begin : Env → CType → Option ud.Init → Judged (Behind (Option st.Init))
judged_begin c t None = behind None c
judged_begin c t (Some i) = onward (judged_init c t i) (λ j. behind (Some j.tree) j.env)

abbrev pub judged_auto_init : Env → CType → ud.Init → Judged TExpr
judged_auto_init c t (ud.single a) = judged_by (value_for 11 c t) c a
judged_auto_init c t (ud.group l is) = Fails 11

-- blocks

-- rule 1 in a block
abbrev pub declared_here : Env → Name → Meaning → Judged Env
declared_here c x m = provided 1 (is_free x (innermost c.blocks)) (Is (record c { blocks = added (record { name = x; meaning = m }) c.blocks }))

-- rule 11 where none may stand
abbrev pub without_init : {A : Type 0} → Option ud.Init → Judged A → Judged A
without_init i j = provided 11 (not (is_some i)) j

abbrev pub judged_auto : Env → ℕ → Declr → Option ud.Init → Judged (Behind Local)
judged_auto c l d i = provided 3 (is_sized (known c) d.ty) (onward (declared_here c d.name (Thing (e.Local c.autos) d.ty)) (by_init i))
  where
    by_init : Option ud.Init → Env → Judged (Behind Local)
    by_init None c1 = behind (st.auto d c.autos) (record c1 { autos = suc c1.autos })
    by_init (Some a) c1 = onward (judged_auto_init c1 d.ty a) (λ w. behind (st.auto_init d c.autos c.starts l w) (past_init a (started 1 (record c1 { autos = suc c1.autos }))))

abbrev pub judged_static : Env → Declr → Option ud.Init → Judged (Behind Local)
judged_static c d i =
    provided 3 (is_sized (known c) d.ty) (onward (declared_here c d.name (Thing (e.Static c.statics) d.ty)) (λ c1. onward (judged_begin c1 d.ty i) (λ j.
    behind (st.static_ d c.statics j.tree) (record j.env { statics = suc c.statics }))))

-- a declarator of a block, by its type and its storage word
abbrev pub judged_local : Bool → Option Storage → Env → ℕ → Declr → Option ud.Init → Judged (Behind Local)
judged_local true s c l d i =
    without_init i (onward (declared_here c d.name (Function (is_static s) (function_ref c (is_static s) d.name) d.ty)) (λ c1. behind (st.function d (is_static s)) c1))
judged_local false (Some sg.Extern) c l d i =
    without_init i (onward (declared_here c d.name (Thing (e.Ext d.name) (with_earlier (in_scope d.name c.file) d.ty))) (λ c1. behind (st.extern_ d) c1))
judged_local false (Some sg.Static) c l d i = judged_static c d i
judged_local false _ c l d i = judged_auto c l d i

abbrev pub judged_locals : Env → Option Storage → CType → List ud.Item → Judged (Behind (List Local))
judged_locals c s base [] = behind [] c
judged_locals c s base (i ∷ is) =
    onward (judged_declr c (missing s i.init) base i.declr) (λ d. onward (judged_local (is_function d.ty) s (past_declr i.declr c) (declr_line i.declr) d i.init) (λ x.
    onward (judged_locals x.env s base is) (λ rest. behind (x.tree ∷ rest.tree) rest.env)))

abbrev pub judged_decls : Env → List ud.LocalDecl → Judged (Behind (List LocalDecl))
judged_decls c [] = behind [] c
judged_decls c (d ∷ ds) =
    onward (spec_or_int c d.specs.types) (λ base. onward (judged_locals c d.specs.storage base d.items) (λ ls.
    onward (judged_decls ls.env ds) (λ rest. behind (record { items = ls.tree } ∷ rest.tree) rest.env)))

-- statements

abbrev mutual
  pub judged_stmt : Env → Place → us.Stmt → Judged (Behind TStmt)
  judged_stmt c p (us.expr l a) = onward (judged_by used c a) (λ v. behind (st.expr c.starts l v) (past a (started 1 c)))
  judged_stmt c p (us.empty l) = behind (st.empty c.starts l) (started 1 c)
  judged_stmt c p (us.if_only l a s) =
      onward (judged_by (scalar 15) c a) (λ v. onward (judged_stmt (past a (started 1 c)) p s) (λ x. behind (st.if_only c.starts l v x.tree) x.env))
  judged_stmt c p (us.if_else l a s z) =
      onward (judged_by (scalar 15) c a) (λ v. onward (judged_stmt (past a (started 1 c)) p s) (λ x. onward (judged_stmt x.env p z) (λ y.
      behind (st.if_else c.starts l v x.tree y.tree) y.env)))
  judged_stmt c p (us.while l a s) =
      onward (judged_by (scalar 15) c a) (λ v. onward (judged_stmt (past a (started 1 c)) (in_loop p) s) (λ x. behind (st.while_ c.starts l v x.tree) x.env))
  judged_stmt c p (us.do_while l s m a) =
      onward (judged_stmt c (in_loop p) s) (λ x. onward (judged_by (scalar 15) x.env a) (λ v. behind (st.do_ x.env.starts m x.tree v) (past a (started 1 x.env))))
  judged_stmt c p (us.for l a b d s) =
      onward (judged_option used c a) (λ v1. onward (judged_option (scalar 15) (past_option a c) b) (λ v2.
      onward (judged_option used (past_option b (past_option a c)) d) (λ v3.
      onward (judged_stmt (past_option d (past_option b (past_option a (started 3 c)))) (in_loop p) s) (λ x. behind (st.for_ c.starts l v1 v2 v3 x.tree) x.env))))
  judged_stmt c p (us.switch l a is) =
      onward (judged_by (integer 24) c a) (λ v. onward (judged_items (past a (started 1 c)) (in_switch p) is) (λ js.
      provided 24 (labels_differ js.tree) (behind (st.switch c.starts l v js.tree) js.env)))
  judged_stmt c p (us.break l) = provided 24 p.breaks (behind (st.break_ c.starts l) (started 1 c))
  judged_stmt c p (us.continue l) = provided 24 p.loop (behind (st.continue_ c.starts l) (started 1 c))
  judged_stmt c p (us.return l a) = onward (judged_option (returned c p.result) c a) (λ v. behind (st.return_ c.starts l v) (past_option a (started 1 c)))
  judged_stmt c p (us.block l ds ss m) =
      onward (judged_decls (enter c) ds) (λ xs. onward (judged_stmts xs.env p ss) (λ ys. behind (st.block l xs.tree ys.tree m) (leave c ys.env)))

  pub judged_stmts : Env → Place → us.Stmts → Judged (Behind TStmts)
  judged_stmts c p us.no_stmts = behind st.no_stmts c
  judged_stmts c p (us.more_stmts s ss) = onward (judged_stmt c p s) (λ x. onward (judged_stmts x.env p ss) (λ rest. behind (st.more_stmts x.tree rest.tree) rest.env))

  pub judged_items : Env → Place → us.SwItems → Judged (Behind TItems)
  judged_items c p us.no_items = behind st.no_items c
  judged_items c p (us.more_items (us.case l a) is) =
      onward (judged_by (constant_of c) c a) (λ k. onward (judged_items (past a c) p is) (λ rest. behind (st.case_ k.expr k.bits rest.tree) rest.env))
  judged_items c p (us.more_items (us.default l) is) = onward (judged_items c p is) (λ rest. behind (st.default_ rest.tree) rest.env)
  judged_items c p (us.more_items (us.stmt s) is) =
      onward (judged_stmt c p s) (λ x. onward (judged_items x.env p is) (λ rest. behind (st.more_items x.tree rest.tree) rest.env))
