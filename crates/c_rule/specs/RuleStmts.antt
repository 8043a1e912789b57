-- The rules on statements and blocks.
use Rattle.std.specs.Prelude.{◌≡◌, ℕ, suc, List, [], ◌∷◌, Option, Some, None, Bool, true, false, not, nat_eq, ◌&&◌, ◌||◌}
use Rattle.c_type.specs.Names.{Name, pick, or_default}
use Rattle.c_type.specs.Types.{CType}
use Rattle.c_tree.specs.declared.decl.Storage.TheVariants as sg
use Rattle.c_tree.specs.TreeDecl as ud
use Rattle.c_tree.specs.declared.decl.Storage.{Storage}
use Rattle.c_tree.specs.TreeExpr as u
use Rattle.c_tree.specs.TreeStmt as us
use Rattle.c_tree.specs.TExpr as e
use Rattle.c_tree.specs.TExpr.{TExpr}
use Rattle.c_tree.specs.TStmt as st
use Rattle.c_tree.specs.TStmt.{TStmt, TStmts, TItems, Declr, Local, LocalDecl}
use Rattle.c_rule.specs.RuleScope.{Judged, Is, Env, Entry, Meaning, Thing, Function, in_scope, function_ref, known, is_sized, past, past_option, started}
use Rattle.c_rule.specs.RuleTypes.{is_function, spec_or_int, joined}
use Rattle.c_rule.specs.RuleValues.{used, integer, scalar, value_for}
use Rattle.c_rule.specs.RuleTree.{Gives}
use Rattle.c_rule.specs.RuleDecls.{Number, IsConstant, past_declr, IsDeclr, Begins, IsAutoInit, given_by}

-- scopes

abbrev pub is_free : Name → List Entry → Bool
is_free x es = none (in_scope x es)
  where
    none : Option Meaning → Bool
    none None = true
    none (Some m) = false

abbrev pub innermost : List (List Entry) → List Entry
innermost [] = []
innermost (es ∷ rest) = es

abbrev pub added : Entry → List (List Entry) → List (List Entry)
added x [] = (x ∷ []) ∷ []
added x (es ∷ rest) = (x ∷ es) ∷ rest

-- rule 1: in a block a name is declared once
abbrev pub Declares : Env → Name → Meaning → Env → Type 0
Declares c x m d = (is_free x (innermost c.blocks) ≡ true) × (d ≡ record c { blocks = added (record { name = x; meaning = m }) c.blocks })

-- inside a block
abbrev pub enter : Env → Env
enter c = record c { blocks = [] ∷ c.blocks }

-- behind a block that began at c
abbrev pub leave : Env → Env → Env
leave c inner = record inner { blocks = c.blocks }

-- declarations in blocks

abbrev pub is_extern : Option Storage → Bool
is_extern (Some sg.Extern) = true
is_extern _ = false

abbrev pub is_static : Option Storage → Bool
is_static (Some sg.Static) = true
is_static _ = false

-- rule 5: the number that a missing dimension has, where it may be missing
abbrev pub missing : Option Storage → Option ud.Init → Option ℕ
missing s i = pick (is_extern s) (Some 0) (given_by i)

-- the line of a declarator's first token
abbrev pub declr_line : ud.Declr → ℕ
declr_line (ud.pointer l d) = l
declr_line (ud.name l x) = l
declr_line (ud.array l d a) = l
declr_line (ud.function l d xs) = l

-- a function; rule 11: it has no initialiser
abbrev pub IsFunctionHere : Env → Bool → Declr → Option ud.Init → Local → Env → Type 0
IsFunctionHere c s d i x c' = (i ≡ None) × Declares c d.name (Function s (function_ref c s d.name) d.ty) c' × (x ≡ st.function d s)

-- the type that a declaration in a block gives an external: its own, with the dimension that the file gave where its own is missing
abbrev pub with_earlier : Option Meaning → CType → CType
with_earlier (Some (Thing (e.Ext y) a)) t = or_default t (joined a t)
with_earlier _ t = t

-- an external object; rule 11: it has no initialiser
abbrev pub IsExternHere : Env → Declr → Option ud.Init → Local → Env → Type 0
IsExternHere c d i x c' = (i ≡ None) × Declares c d.name (Thing (e.Ext d.name) (with_earlier (in_scope d.name c.file) d.ty)) c' × (x ≡ st.extern_ d)

-- a static object with the next number; its initialiser may name it
abbrev pub IsStaticHere : Env → Declr → Option ud.Init → Local → Env → Type 0
IsStaticHere c d i x c' =
    (j : Option st.Init) × (c1 : Env) × (c2 : Env) × (is_sized (known c) d.ty ≡ true) × Declares c d.name (Thing (e.Static c.statics) d.ty) c1 ×
    Begins c1 d.ty i j c2 × (x ≡ st.static_ d c.statics j) × (c' ≡ record c2 { statics = suc c.statics })

-- behind an automatic initialiser
abbrev pub past_init : ud.Init → Env → Env
past_init (ud.single a) c = past a c
past_init (ud.group l is) c = c

-- an automatic object with the next number; its initialiser may name it, and is the next start, on the declarator's line
abbrev pub IsAutoHere : Env → ℕ → Declr → Option ud.Init → Local → Env → Type 0
IsAutoHere c l d None x c' =
    (c1 : Env) × (is_sized (known c) d.ty ≡ true) × Declares c d.name (Thing (e.Local c.autos) d.ty) c1 × (x ≡ st.auto d c.autos) × (c' ≡ record c1 { autos = suc c1.autos })
IsAutoHere c l d (Some a) x c' =
    (w : TExpr) × (c1 : Env) × (is_sized (known c) d.ty ≡ true) × Declares c d.name (Thing (e.Local c.autos) d.ty) c1 × IsAutoInit c1 d.ty a w ×
    (x ≡ st.auto_init d c.autos c.starts l w) × (c' ≡ past_init a (started 1 (record c1 { autos = suc c1.autos })))

-- what a declarator of a block declares, by its type and its storage word
abbrev pub IsLocalBy : Bool → Option Storage → Env → ℕ → Declr → Option ud.Init → Local → Env → Type 0
IsLocalBy true s c l d i x c' = IsFunctionHere c (is_static s) d i x c'
IsLocalBy false (Some sg.Extern) c l d i x c' = IsExternHere c d i x c'
IsLocalBy false (Some sg.Static) c l d i x c' = IsStaticHere c d i x c'
IsLocalBy false _ c l d i x c' = IsAutoHere c l d i x c'

-- the declarators of a declaration, each in the scope of those before it
abbrev pub AreLocals : Env → Option Storage → CType → List ud.Item → List Local → Env → Type 0
AreLocals c s base [] xs c' = (xs ≡ []) × (c' ≡ c)
AreLocals c s base (i ∷ is) xs c' =
    (d : Declr) × (x : Local) × (rest : List Local) × (c1 : Env) × IsDeclr c (missing s i.init) base i.declr d ×
    IsLocalBy (is_function d.ty) s (past_declr i.declr c) (declr_line i.declr) d i.init x c1 × AreLocals c1 s base is rest c' × (xs ≡ x ∷ rest)

-- the declarations of a block
abbrev pub AreDecls : Env → List ud.LocalDecl → List LocalDecl → Env → Type 0
AreDecls c [] xs c' = (xs ≡ []) × (c' ≡ c)
AreDecls c (d ∷ ds) xs c' =
    (base : CType) × (ls : List Local) × (rest : List LocalDecl) × (c1 : Env) × (spec_or_int c d.specs.types ≡ Is base) ×
    AreLocals c d.specs.storage base d.items ls c1 × AreDecls c1 ds rest c' × (xs ≡ record { items = ls } ∷ rest)

-- statements

-- where a statement stands: in a loop, in a loop or switch, in a function with that result
pub record Place : Type 0 where
  pub loop : Bool
  pub breaks : Bool
  pub result : CType

abbrev pub in_loop : Place → Place
in_loop p = record p { loop = true; breaks = true }

abbrev pub in_switch : Place → Place
in_switch p = record p { breaks = true }

-- a part that may be left out
abbrev pub Maybe : (u.Expr → TExpr → Type 0) → Option u.Expr → Option TExpr → Type 0
Maybe Typed None v = v ≡ None
Maybe Typed (Some a) v = (w : TExpr) × Typed a w × (v ≡ Some w)

-- rule 23: a value is allowed as by rule 21 for the function's type, so none where it is void
abbrev pub returned : Env → CType → TExpr → Judged TExpr
returned c t x = value_for 23 c t x

-- rule 24: the cases of a switch differ, and it has at most one default

abbrev pub has_case : ℕ → TItems → Bool
has_case n st.no_items = false
has_case n (st.case_ a m is) = nat_eq n m || has_case n is
has_case n (st.default_ is) = has_case n is
has_case n (st.more_items s is) = has_case n is

abbrev pub has_default : TItems → Bool
has_default st.no_items = false
has_default (st.case_ a m is) = has_default is
has_default (st.default_ is) = true
has_default (st.more_items s is) = has_default is

abbrev pub labels_differ : TItems → Bool
labels_differ st.no_items = true
labels_differ (st.case_ a n is) = not (has_case n is) && labels_differ is
labels_differ (st.default_ is) = not (has_default is) && labels_differ is
labels_differ (st.more_items s is) = labels_differ is

-- T is the typed statement of a statement. It has the next start, and its line is the start's. A test is a scalar, by rule 15.
abbrev mutual
  pub IsStmt : Env → Place → us.Stmt → TStmt → Env → Type 0
  IsStmt c p (us.expr l a) t c' = (v : TExpr) × Gives used c a v × (t ≡ st.expr c.starts l v) × (c' ≡ past a (started 1 c))
  IsStmt c p (us.empty l) t c' = (t ≡ st.empty c.starts l) × (c' ≡ started 1 c)
  IsStmt c p (us.if_only l a s) t c' =
      (v : TExpr) × (x : TStmt) × Gives (scalar 15) c a v × IsStmt (past a (started 1 c)) p s x c' × (t ≡ st.if_only c.starts l v x)
  IsStmt c p (us.if_else l a s r) t c' =
      (v : TExpr) × (x : TStmt) × (y : TStmt) × (c1 : Env) × Gives (scalar 15) c a v × IsStmt (past a (started 1 c)) p s x c1 × IsStmt c1 p r y c' ×
      (t ≡ st.if_else c.starts l v x y)
  IsStmt c p (us.while l a s) t c' =
      (v : TExpr) × (x : TStmt) × Gives (scalar 15) c a v × IsStmt (past a (started 1 c)) (in_loop p) s x c' × (t ≡ st.while_ c.starts l v x)
  IsStmt c p (us.do_while l s m a) t c' =
      (x : TStmt) × (v : TExpr) × (c1 : Env) × IsStmt c (in_loop p) s x c1 × Gives (scalar 15) c1 a v × (t ≡ st.do_ c1.starts m x v) × (c' ≡ past a (started 1 c1))
  IsStmt c p (us.for l a b d s) t c' =
      (v1 : Option TExpr) × (v2 : Option TExpr) × (v3 : Option TExpr) × (x : TStmt) × Maybe (Gives used c) a v1 × Maybe (Gives (scalar 15) (past_option a c)) b v2 ×
      Maybe (Gives used (past_option b (past_option a c))) d v3 × IsStmt (past_option d (past_option b (past_option a (started 3 c)))) (in_loop p) s x c' ×
      (t ≡ st.for_ c.starts l v1 v2 v3 x)
  IsStmt c p (us.switch l a is) t c' =
      (v : TExpr) × (js : TItems) × Gives (integer 24) c a v × AreItems (past a (started 1 c)) (in_switch p) is js c' ×
      (labels_differ js ≡ true) × (t ≡ st.switch c.starts l v js)
  IsStmt c p (us.break l) t c' = (p.breaks ≡ true) × (t ≡ st.break_ c.starts l) × (c' ≡ started 1 c)
  IsStmt c p (us.continue l) t c' = (p.loop ≡ true) × (t ≡ st.continue_ c.starts l) × (c' ≡ started 1 c)
  IsStmt c p (us.return l a) t c' =
      (v : Option TExpr) × Maybe (Gives (returned c p.result) c) a v × (t ≡ st.return_ c.starts l v) × (c' ≡ past_option a (started 1 c))
  IsStmt c p (us.block l ds ss m) t c' =
      (xs : List LocalDecl) × (ys : TStmts) × (c1 : Env) × (c2 : Env) × AreDecls (enter c) ds xs c1 × AreStmts c1 p ss ys c2 × (t ≡ st.block l xs ys m) ×
      (c' ≡ leave c c2)

  pub AreStmts : Env → Place → us.Stmts → TStmts → Env → Type 0
  AreStmts c p us.no_stmts ys c' = (ys ≡ st.no_stmts) × (c' ≡ c)
  AreStmts c p (us.more_stmts s ss) ys c' =
      (x : TStmt) × (rest : TStmts) × (c1 : Env) × IsStmt c p s x c1 × AreStmts c1 p ss rest c' × (ys ≡ st.more_stmts x rest)

  -- A case is a constant, whose 32 bits are its value in the widened type of the switch.
  pub AreItems : Env → Place → us.SwItems → TItems → Env → Type 0
  AreItems c p us.no_items js c' = (js ≡ st.no_items) × (c' ≡ c)
  AreItems c p (us.more_items (us.case l a) is) js c' =
      (k : Number) × (rest : TItems) × IsConstant c a k × AreItems (past a c) p is rest c' × (js ≡ st.case_ k.expr k.bits rest)
  AreItems c p (us.more_items (us.default l) is) js c' = (rest : TItems) × AreItems c p is rest c' × (js ≡ st.default_ rest)
  AreItems c p (us.more_items (us.stmt s) is) js c' =
      (x : TStmt) × (rest : TItems) × (c1 : Env) × IsStmt c p s x c1 × AreItems c1 p is rest c' × (js ≡ st.more_items x rest)
