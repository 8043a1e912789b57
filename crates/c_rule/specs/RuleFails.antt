-- Where a rule fails in expressions, declarators, initialisers, blocks and statements: at a place whose parts before it have
-- their typed trees. The number n is the rule's, by the file Rules.
use Rattle.std.specs.Prelude.{◌≡◌, ℕ, List, [], ◌∷◌, Option, Some, None, Bool, true, false, ◌&&◌, ◌⊎◌}
use Rattle.c_type.specs.Names.{Name}
use Rattle.c_type.specs.Types.{CType}
use Rattle.c_tree.specs.declared.decl.Storage.TheVariants as sg
use Rattle.c_tree.specs.TreeDecl as ud
use Rattle.c_tree.specs.declared.decl.Storage.{Storage}
use Rattle.c_tree.specs.TreeStmt as us
use Rattle.c_tree.specs.TreeExpr.{Expr, Exprs, comma, assign, choice, binary, unary, size_of, size_of_type, cast, index, call, member, arrow, post, name, int, chr, text, no_exprs, more_exprs}
use Rattle.c_tree.specs.TExpr as e
use Rattle.c_tree.specs.TExpr.{TExpr}
use Rattle.c_tree.specs.TStmt as st
use Rattle.c_tree.specs.TStmt.{TStmt, TItems, Declr, Local, LocalDecl}
use Rattle.c_rule.specs.RuleScope.{Judged, Is, Fails, onward, Env, Meaning, Thing, meaning_of, known, is_sized, past, past_option, started}
use Rattle.c_rule.specs.RuleTypes.{is_function, cast_type, sized_type, declared_type, spec_or_int}
use Rattle.c_rule.specs.RuleValues.{used, scalar, integer, value_for}
use Rattle.c_rule.specs.RuleExprs as r
use Rattle.c_rule.specs.RuleTree.{IsExpr}
use Rattle.c_rule.specs.RuleDecls.{dimension_of, constant_of, is_name, is_some, past_declr, IsDerived, IsDeclr, fills_chars, first_value, is_aggregate, part_types, IsInit}
use Rattle.c_rule.specs.RuleStmts.{is_free, innermost, Declares, enter, missing, declr_line, IsLocalBy, AreLocals, AreDecls, Place, in_loop, in_switch, returned, labels_differ, IsStmt, AreItems}

-- expressions

-- an expression is typed, and the rule of what takes it fails
abbrev pub OneFails : {B : Type 0} → (TExpr → Judged B) → Env → Expr → ℕ → Type 0
OneFails rule c a n = (x : TExpr) × IsExpr c a x × (rule x ≡ Fails n)

-- two operands are typed, and the rule of their operator fails
abbrev pub TwoFail : (TExpr → TExpr → Judged TExpr) → Env → Expr → Expr → ℕ → Type 0
TwoFail rule c a b n = (x : TExpr) × (y : TExpr) × IsExpr c a x × IsExpr (past a c) b y × (rule x y ≡ Fails n)

-- the called expression; a name is looked up as a function
abbrev pub CalledFails : Env → Expr → (ℕ → Type 0) → ℕ → Type 0
CalledFails c (name l y) InPart n = onward (r.called_name c y (meaning_of c y)) r.called ≡ Fails n
CalledFails c f InPart n = InPart n ⊎ OneFails r.called c f n

-- a rule fails in an operand, or the operands are typed and the operator's rule fails
abbrev mutual
  pub ExprFails : Env → Expr → ℕ → Type 0
  ExprFails c (comma l a b) n = ExprFails c a n ⊎ (ExprFails (past a c) b n ⊎ TwoFail r.comma c a b n)
  ExprFails c (assign l op a b) n = ExprFails c a n ⊎ (ExprFails (past a c) b n ⊎ TwoFail (r.assignment c op) c a b n)
  ExprFails c (choice l a b d) n =
      ExprFails c a n ⊎ (ExprFails (past a c) b n ⊎ (ExprFails (past b (past a c)) d n ⊎
      ((x : TExpr) × (y : TExpr) × (z : TExpr) × IsExpr c a x × IsExpr (past a c) b y × IsExpr (past b (past a c)) d z × (r.choice c x y z ≡ Fails n))))
  ExprFails c (binary l op a b) n = ExprFails c a n ⊎ (ExprFails (past a c) b n ⊎ TwoFail (r.binary c op) c a b n)
  ExprFails c (unary l op a) n = ExprFails c a n ⊎ OneFails (r.unary c op) c a n
  ExprFails c (size_of l a) n = ExprFails c a n ⊎ OneFails (r.size_of c) c a n
  ExprFails c (size_of_type l y) n = sized_type c y ≡ Fails n
  ExprFails c (cast l y a) n = (cast_type c y ≡ Fails n) ⊎ (ExprFails c a n ⊎ ((s : CType) × (cast_type c y ≡ Is s) × OneFails (r.cast c s) c a n))
  ExprFails c (index l a i) n = ExprFails c a n ⊎ (ExprFails (past a c) i n ⊎ TwoFail (r.subscript c) c a i n)
  ExprFails c (call l f es) n = CalledFails c f (ExprFails c f) n ⊎ ArgsFail (past f c) es n
  ExprFails c (member l a y) n = ExprFails c a n ⊎ OneFails (λ x. r.dot c x y) c a n
  ExprFails c (arrow l a y) n = ExprFails c a n ⊎ OneFails (λ x. r.arrow c x y) c a n
  ExprFails c (post l op a) n = ExprFails c a n ⊎ OneFails (r.step c (r.post_op op)) c a n
  ExprFails c (name l y) n = r.as_expr (meaning_of c y) ≡ Fails n
  ExprFails c (int l m long) n = ⊥
  ExprFails c (chr l m) n = ⊥
  ExprFails c (text l bs) n = ⊥

  pub ArgsFail : Env → Exprs → ℕ → Type 0
  ArgsFail c no_exprs n = ⊥
  ArgsFail c (more_exprs a es) n = ExprFails c a n ⊎ (OneFails (scalar 20) c a n ⊎ ArgsFail (past a c) es n)

-- a rule fails in an expression, or in what is asked of it
abbrev pub Refuses : {B : Type 0} → (TExpr → Judged B) → Env → Expr → ℕ → Type 0
Refuses rule c a n = ExprFails c a n ⊎ OneFails rule c a n

-- a rule fails in a part that may be left out
abbrev pub MaybeFails : {A : Type 0} → (A → ℕ → Type 0) → Option A → ℕ → Type 0
MaybeFails InPart None n = ⊥
MaybeFails InPart (Some a) n = InPart a n

-- declarators and initialisers

-- rule 5 on a dimension that is missing where it may not be
abbrev pub DerivedFails : Env → Option ℕ → ud.Declr → ℕ → Type 0
DerivedFails c m (ud.pointer l d) n = DerivedFails c m d n
DerivedFails c m (ud.name l y) n = ⊥
DerivedFails c m (ud.array l d None) n = ((n ≡ 5) × (is_name d && is_some m ≡ false)) ⊎ DerivedFails c m d n
DerivedFails c m (ud.array l d (Some a)) n = DerivedFails c m d n ⊎ Refuses (dimension_of (past_declr d c)) (past_declr d c) a n
DerivedFails c m (ud.function l d xs) n = DerivedFails c m d n

-- in a declarator's dimensions, or in the type that it derives
abbrev pub DeclrFails : Env → Option ℕ → CType → ud.Declr → ℕ → Type 0
DeclrFails c m base d n =
    DerivedFails c m d n ⊎ ((x : Name) × (t : CType) × (es : List TExpr) × IsDerived c m base d x t es × (declared_type c t ≡ Fails n))

-- rule 10 on a list for what is no array or structure, and on a list with too many parts
abbrev mutual
  pub InitFails : Env → CType → ud.Init → ℕ → Type 0
  InitFails c t (ud.single a) n = (fills_chars t a ≡ false) × Refuses (first_value c t) c a n
  InitFails c t (ud.group l is) n = ((n ≡ 10) × (is_aggregate t ≡ false)) ⊎ InitsFail c (part_types c.tags t) is n

  pub InitsFail : Env → List CType → ud.Inits → ℕ → Type 0
  InitsFail c ts ud.no_inits n = ⊥
  InitsFail c [] (ud.more_inits i is) n = n ≡ 10
  InitsFail c (t ∷ ts) (ud.more_inits i is) n = InitFails c t i n ⊎ ((j : st.Init) × (c1 : Env) × IsInit c t i j c1 × InitsFail c1 ts is n)

-- rule 11 on a list for an automatic object
abbrev pub AutoInitFails : Env → CType → ud.Init → ℕ → Type 0
AutoInitFails c t (ud.single a) n = Refuses (value_for 11 c t) c a n
AutoInitFails c t (ud.group l is) n = n ≡ 11

-- rule 11 on an initialiser where none may stand
abbrev pub HasInit : Option ud.Init → ℕ → Type 0
HasInit i n = (n ≡ 11) × (is_some i ≡ true)

-- rule 3 on an object whose size is not known
abbrev pub IsUnsized : Env → CType → ℕ → Type 0
IsUnsized c t n = (n ≡ 3) × (is_sized (known c) t ≡ false)

-- blocks

-- rule 1 on a name that is declared again in a block
abbrev pub IsTaken : Env → Name → ℕ → Type 0
IsTaken c x n = (n ≡ 1) × (is_free x (innermost c.blocks) ≡ false)

-- in an object of a block that is not `extern`: its size, its name, or its initialiser in the environment behind it
abbrev pub ObjectFails : Env → Name → CType → Meaning → (Env → ℕ → Type 0) → ℕ → Type 0
ObjectFails c x t m InInit n = IsUnsized c t n ⊎ (IsTaken c x n ⊎ ((c1 : Env) × Declares c x m c1 × InInit c1 n))

-- in a declarator of a block, by its type and its storage word
abbrev pub LocalFails : Bool → Option Storage → Env → Declr → Option ud.Init → ℕ → Type 0
LocalFails true s c d i n = HasInit i n ⊎ IsTaken c d.name n
LocalFails false (Some sg.Extern) c d i n = HasInit i n ⊎ IsTaken c d.name n
LocalFails false (Some sg.Static) c d i n = ObjectFails c d.name d.ty (Thing (e.Static c.statics) d.ty) (λ c1. MaybeFails (InitFails c1 d.ty) i) n
LocalFails false _ c d i n = ObjectFails c d.name d.ty (Thing (e.Local c.autos) d.ty) (λ c1. MaybeFails (AutoInitFails c1 d.ty) i) n

abbrev pub LocalsFail : Env → Option Storage → CType → List ud.Item → ℕ → Type 0
LocalsFail c s base [] n = ⊥
LocalsFail c s base (i ∷ is) n =
    DeclrFails c (missing s i.init) base i.declr n ⊎ ((d : Declr) × IsDeclr c (missing s i.init) base i.declr d ×
    (LocalFails (is_function d.ty) s (past_declr i.declr c) d i.init n ⊎
    ((x : Local) × (c1 : Env) × IsLocalBy (is_function d.ty) s (past_declr i.declr c) (declr_line i.declr) d i.init x c1 × LocalsFail c1 s base is n)))

abbrev pub DeclsFail : Env → List ud.LocalDecl → ℕ → Type 0
DeclsFail c [] n = ⊥
DeclsFail c (d ∷ ds) n =
    (spec_or_int c d.specs.types ≡ Fails n) ⊎ ((base : CType) × (spec_or_int c d.specs.types ≡ Is base) ×
    (LocalsFail c d.specs.storage base d.items n ⊎ ((ls : List Local) × (c1 : Env) × AreLocals c d.specs.storage base d.items ls c1 × DeclsFail c1 ds n)))

-- statements

-- rule 24 on jumps that stand nowhere, and on the labels of a switch
abbrev mutual
  pub StmtFails : Env → Place → us.Stmt → ℕ → Type 0
  StmtFails c p (us.expr l a) n = Refuses used c a n
  StmtFails c p (us.empty l) n = ⊥
  StmtFails c p (us.if_only l a s) n = Refuses (scalar 15) c a n ⊎ StmtFails (past a (started 1 c)) p s n
  StmtFails c p (us.if_else l a s z) n =
      Refuses (scalar 15) c a n ⊎ (StmtFails (past a (started 1 c)) p s n ⊎
      ((x : TStmt) × (c1 : Env) × IsStmt (past a (started 1 c)) p s x c1 × StmtFails c1 p z n))
  StmtFails c p (us.while l a s) n = Refuses (scalar 15) c a n ⊎ StmtFails (past a (started 1 c)) (in_loop p) s n
  StmtFails c p (us.do_while l s m a) n =
      StmtFails c (in_loop p) s n ⊎ ((x : TStmt) × (c1 : Env) × IsStmt c (in_loop p) s x c1 × Refuses (scalar 15) c1 a n)
  StmtFails c p (us.for l a b d s) n =
      MaybeFails (Refuses used c) a n ⊎ (MaybeFails (Refuses (scalar 15) (past_option a c)) b n ⊎
      (MaybeFails (Refuses used (past_option b (past_option a c))) d n ⊎
      StmtFails (past_option d (past_option b (past_option a (started 3 c)))) (in_loop p) s n))
  StmtFails c p (us.switch l a is) n =
      Refuses (integer 24) c a n ⊎ (ItemsFail (past a (started 1 c)) (in_switch p) is n ⊎
      ((js : TItems) × (c1 : Env) × AreItems (past a (started 1 c)) (in_switch p) is js c1 × (n ≡ 24) × (labels_differ js ≡ false)))
  StmtFails c p (us.break l) n = (n ≡ 24) × (p.breaks ≡ false)
  StmtFails c p (us.continue l) n = (n ≡ 24) × (p.loop ≡ false)
  StmtFails c p (us.return l a) n = MaybeFails (Refuses (returned c p.result) c) a n
  StmtFails c p (us.block l ds ss m) n =
      DeclsFail (enter c) ds n ⊎ ((xs : List LocalDecl) × (c1 : Env) × AreDecls (enter c) ds xs c1 × StmtsFail c1 p ss n)

  pub StmtsFail : Env → Place → us.Stmts → ℕ → Type 0
  StmtsFail c p us.no_stmts n = ⊥
  StmtsFail c p (us.more_stmts s ss) n = StmtFails c p s n ⊎ ((x : TStmt) × (c1 : Env) × IsStmt c p s x c1 × StmtsFail c1 p ss n)

  pub ItemsFail : Env → Place → us.SwItems → ℕ → Type 0
  ItemsFail c p us.no_items n = ⊥
  ItemsFail c p (us.more_items (us.case l a) is) n = Refuses (constant_of c) c a n ⊎ ItemsFail (past a c) p is n
  ItemsFail c p (us.more_items (us.default l) is) n = ItemsFail c p is n
  ItemsFail c p (us.more_items (us.stmt s) is) n = StmtFails c p s n ⊎ ((x : TStmt) × (c1 : Env) × IsStmt c p s x c1 × ItemsFail c1 p is n)
