-- What stands around a block is the same behind it.
use Rattle.std.proofs.Common.{◌≡◌, ℕ, suc, List, [], ◌∷◌, Option, Some, None, Bool, true, false, refl, sym, ap, ◌∙◌, subst}
use Rattle.c_type.specs.Names.{Name}
use Rattle.c_type.specs.Types.{CType}
use Rattle.c_tree.specs.declared.decl.Storage.{Storage}
use Rattle.c_tree.specs.declared.decl.Storage.TheVariants as sg
use Rattle.c_tree.specs.TreeDecl as ud
use Rattle.c_tree.specs.TreeExpr.{Expr}
use Rattle.c_tree.specs.TreeStmt as us
use Rattle.c_tree.specs.TStmt as st
use Rattle.c_tree.specs.TStmt.{TStmts, Declr, Local, LocalDecl}
use Rattle.c_rule.specs.RuleScope.{Judged, Is, Fails, onward, provided, Env, Entry, Meaning, known, is_sized, past, past_option, started}
use Rattle.c_rule.specs.RuleTypes.{is_function, spec_or_int}
use Rattle.c_rule.specs.RuleValues.{used, scalar, integer}
use Rattle.c_rule.specs.RuleDecls.{constant_of, past_declr, fills_chars, first_value, is_aggregate, part_types}
use Rattle.c_rule.specs.RuleStmts.{is_free, innermost, added, enter, leave, missing, past_init, declr_line, Place, in_loop, in_switch, returned, labels_differ}
use Rattle.c_scope.specs.declared.error.TypeErr.{TypeErr}
use Rattle.c_scope.specs.declared.error.TypeErr.TheVariants.{Rule, Memory}
use Rattle.c_scope.specs.Blocks.{around}
use Rattle.c_rule.specs.Judging.{Behind, behind, judged_by, judged_option, judged_declr, judged_single, judged_init, judged_inits, judged_begin, judged_auto_init, declared_here, judged_auto, judged_static, judged_local, judged_locals, judged_decls, judged_stmt, judged_stmts, judged_items}
use Rattle.c_scope.specs.Says.{Refused}

-- where an outcome has an environment behind it, that meets the condition
abbrev pub Leaves : {A : Type 0} → (Env → Type 0) → Judged (Behind A) → Type 0
Leaves P (Is r) = P r.env
Leaves P (Fails n) = Unit {0}

whatever : {A B : Type 0} (P : Env → Type 0) (j : Judged B) (f : B → Judged (Behind A)) → ((b : B) → Leaves P (f b)) → Leaves P (onward j f)
whatever P (Is b) f h = h b
whatever P (Fails n) f h = tt

behind_part : {A B : Type 0} (P Q : Env → Type 0) (j : Judged (Behind B)) (f : Behind B → Judged (Behind A)) → Leaves P j → ((b : Behind B) → P b.env → Leaves Q (f b)) → Leaves Q (onward j f)
behind_part P Q (Is b) f h k = k b h
behind_part P Q (Fails n) f h k = tt

where_it_holds : {A : Type 0} (P : Env → Type 0) (n : ℕ) (b : Bool) (j : Judged (Behind A)) → Leaves P j → Leaves P (provided n b j)
where_it_holds P n true j h = h
where_it_holds P n false j h = tt

-- the scopes are those, and the scopes around the innermost one are those
abbrev pub Inside : List (List Entry) → Env → Type 0
Inside bs c = c.blocks ≡ bs

abbrev pub Around : List (List Entry) → Env → Type 0
Around bs c = around c.blocks ≡ bs

option_stays : (a : Option Expr) (c : Env) → (past_option a c).blocks ≡ c.blocks
option_stays None c = refl
option_stays (Some a) c = refl

declr_stays : (d : ud.Declr) (c : Env) → (past_declr d c).blocks ≡ c.blocks
declr_stays (ud.pointer l d) c = declr_stays d c
declr_stays (ud.name l x) c = refl
declr_stays (ud.array l d a) c = option_stays a (past_declr d c) ∙ declr_stays d c
declr_stays (ud.function l d xs) c = declr_stays d c

past_init_stays : (a : ud.Init) (c : Env) → (past_init a c).blocks ≡ c.blocks
past_init_stays (ud.single a) c = refl
past_init_stays (ud.group l is) c = refl

single_stays : (b : Bool) (c : Env) (t : CType) (a : Expr) → Leaves (Inside c.blocks) (judged_single b c t a)
single_stays true c t a = refl
single_stays false c t a = whatever (Inside c.blocks) (judged_by (first_value c t) c a) _ (λ v. refl)

mutual
  init_stays : (c : Env) (t : CType) (i : ud.Init) → Leaves (Inside c.blocks) (judged_init c t i)
  init_stays c t (ud.single a) = single_stays (fills_chars t a) c t a
  init_stays c t (ud.group l is) =
      where_it_holds (Inside c.blocks) 10 (is_aggregate t) _
      (behind_part (Inside c.blocks) (Inside c.blocks) (judged_inits c (part_types c.tags t) is) _ (inits_stay c (part_types c.tags t) is) (λ js h. h))

  inits_stay : (c : Env) (ts : List CType) (is : ud.Inits) → Leaves (Inside c.blocks) (judged_inits c ts is)
  inits_stay c ts ud.no_inits = refl
  inits_stay c [] (ud.more_inits i is) = tt
  inits_stay c (t ∷ ts) (ud.more_inits i is) =
      behind_part (Inside c.blocks) (Inside c.blocks) (judged_init c t i) _ (init_stays c t i) (λ j h.
      behind_part (Inside j.env.blocks) (Inside c.blocks) (judged_inits j.env ts is) _ (inits_stay j.env ts is) (λ r k. k ∙ h))

begin_stays : (c : Env) (t : CType) (i : Option ud.Init) → Leaves (Inside c.blocks) (judged_begin c t i)
begin_stays c t None = refl
begin_stays c t (Some i) = behind_part (Inside c.blocks) (Inside c.blocks) (judged_init c t i) _ (init_stays c t i) (λ j h. h)

around_added : (x : Entry) (bs : List (List Entry)) → around (added x bs) ≡ around bs
around_added x [] = refl
around_added x (es ∷ rest) = refl

freely : {A : Type 0} (P : Env → Type 0) (b : Bool) (d : Env) (f : Env → Judged (Behind A)) → Leaves P (f d) → Leaves P (onward (provided 1 b (Is d)) f)
freely P true d f h = h
freely P false d f h = tt

-- behind a declaration in the innermost scope
declared_stays : {A : Type 0} (P : Env → Type 0) (c : Env) (x : Name) (m : Meaning) (f : Env → Judged (Behind A)) → ((d : Env) → around d.blocks ≡ around c.blocks → Leaves P (f d)) →
    Leaves P (onward (declared_here c x m) f)
declared_stays P c x m f h =
    let d : Env = record c { blocks = added (record { name = x; meaning = m }) c.blocks } in
    freely P (is_free x (innermost c.blocks)) d f (h d (around_added (record { name = x; meaning = m }) c.blocks))

auto_stays : (c : Env) (l : ℕ) (d : Declr) (i : Option ud.Init) → Leaves (Around (around c.blocks)) (judged_auto c l d i)
auto_stays c l d None = where_it_holds (Around (around c.blocks)) 3 (is_sized (known c) d.ty) _ (declared_stays (Around (around c.blocks)) c d.name _ _ (λ e h. h))
auto_stays c l d (Some a) =
    where_it_holds (Around (around c.blocks)) 3 (is_sized (known c) d.ty) _
    (declared_stays (Around (around c.blocks)) c d.name _ _ (λ e h.
    whatever (Around (around c.blocks)) (judged_auto_init e d.ty a) _ (λ w. ap around (past_init_stays a (started 1 (record e { autos = suc e.autos }))) ∙ h)))

static_stays : (c : Env) (d : Declr) (i : Option ud.Init) → Leaves (Around (around c.blocks)) (judged_static c d i)
static_stays c d i =
    where_it_holds (Around (around c.blocks)) 3 (is_sized (known c) d.ty) _
    (declared_stays (Around (around c.blocks)) c d.name _ _ (λ e h.
    behind_part (Inside e.blocks) (Around (around c.blocks)) (judged_begin e d.ty i) _ (begin_stays e d.ty i) (λ j k. ap around k ∙ h)))

local_stays : (b : Bool) (s : Option Storage) (c : Env) (l : ℕ) (d : Declr) (i : Option ud.Init) → Leaves (Around (around c.blocks)) (judged_local b s c l d i)
local_stays true s c l d i = where_it_holds (Around (around c.blocks)) 11 _ _ (declared_stays (Around (around c.blocks)) c d.name _ _ (λ e h. h))
local_stays false None c l d i = auto_stays c l d i
local_stays false (Some sg.Auto) c l d i = auto_stays c l d i
local_stays false (Some sg.Register) c l d i = auto_stays c l d i
local_stays false (Some sg.Extern) c l d i = where_it_holds (Around (around c.blocks)) 11 _ _ (declared_stays (Around (around c.blocks)) c d.name _ _ (λ e h. h))
local_stays false (Some sg.Static) c l d i = static_stays c d i

locals_stay : (c : Env) (s : Option Storage) (base : CType) (is : List ud.Item) → Leaves (Around (around c.blocks)) (judged_locals c s base is)
locals_stay c s base [] = refl
locals_stay c s base (i ∷ is) =
    let e : Env = past_declr i.declr c in
    whatever (Around (around c.blocks)) (judged_declr c (missing s i.init) base i.declr) _ (λ d.
    behind_part (Around (around e.blocks)) (Around (around c.blocks)) (judged_local (is_function d.ty) s e (declr_line i.declr) d i.init) _
    (local_stays (is_function d.ty) s e (declr_line i.declr) d i.init) (λ x h.
    behind_part (Around (around x.env.blocks)) (Around (around c.blocks)) (judged_locals x.env s base is) _ (locals_stay x.env s base is) (λ r k.
    k ∙ h ∙ ap around (declr_stays i.declr c))))

decls_stay : (c : Env) (ds : List ud.LocalDecl) → Leaves (Around (around c.blocks)) (judged_decls c ds)
decls_stay c [] = refl
decls_stay c (d ∷ ds) =
    whatever (Around (around c.blocks)) (spec_or_int c d.specs.types) _ (λ base.
    behind_part (Around (around c.blocks)) (Around (around c.blocks)) (judged_locals c d.specs.storage base d.items) _ (locals_stay c d.specs.storage base d.items) (λ ls h.
    behind_part (Around (around ls.env.blocks)) (Around (around c.blocks)) (judged_decls ls.env ds) _ (decls_stay ls.env ds) (λ r k. k ∙ h)))

mutual
  stmt_stays : (c : Env) (p : Place) (s : us.Stmt) → Leaves (Inside c.blocks) (judged_stmt c p s)
  stmt_stays c p (us.expr l a) = whatever (Inside c.blocks) (judged_by used c a) _ (λ v. refl)
  stmt_stays c p (us.empty l) = refl
  stmt_stays c p (us.if_only l a s) =
      whatever (Inside c.blocks) (judged_by (scalar 15) c a) _ (λ v.
      behind_part (Inside c.blocks) (Inside c.blocks) (judged_stmt (past a (started 1 c)) p s) _ (stmt_stays (past a (started 1 c)) p s) (λ x h. h))
  stmt_stays c p (us.if_else l a s z) =
      whatever (Inside c.blocks) (judged_by (scalar 15) c a) _ (λ v.
      behind_part (Inside c.blocks) (Inside c.blocks) (judged_stmt (past a (started 1 c)) p s) _ (stmt_stays (past a (started 1 c)) p s) (λ x h.
      behind_part (Inside x.env.blocks) (Inside c.blocks) (judged_stmt x.env p z) _ (stmt_stays x.env p z) (λ y k. k ∙ h)))
  stmt_stays c p (us.while l a s) =
      whatever (Inside c.blocks) (judged_by (scalar 15) c a) _ (λ v.
      behind_part (Inside c.blocks) (Inside c.blocks) (judged_stmt (past a (started 1 c)) (in_loop p) s) _ (stmt_stays (past a (started 1 c)) (in_loop p) s) (λ x h. h))
  stmt_stays c p (us.do_while l s m a) =
      behind_part (Inside c.blocks) (Inside c.blocks) (judged_stmt c (in_loop p) s) _ (stmt_stays c (in_loop p) s) (λ x h.
      whatever (Inside c.blocks) (judged_by (scalar 15) x.env a) _ (λ v. h))
  stmt_stays c p (us.for l a b d s) =
      let e : Env = past_option d (past_option b (past_option a (started 3 c))) in
      let q : e.blocks ≡ c.blocks = option_stays d (past_option b (past_option a (started 3 c))) ∙ option_stays b (past_option a (started 3 c)) ∙ option_stays a (started 3 c) in
      whatever (Inside c.blocks) (judged_option used c a) _ (λ v1.
      whatever (Inside c.blocks) (judged_option (scalar 15) (past_option a c) b) _ (λ v2.
      whatever (Inside c.blocks) (judged_option used (past_option b (past_option a c)) d) _ (λ v3.
      behind_part (Inside e.blocks) (Inside c.blocks) (judged_stmt e (in_loop p) s) _ (stmt_stays e (in_loop p) s) (λ x h. h ∙ q))))
  stmt_stays c p (us.switch l a is) =
      whatever (Inside c.blocks) (judged_by (integer 24) c a) _ (λ v.
      behind_part (Inside c.blocks) (Inside c.blocks) (judged_items (past a (started 1 c)) (in_switch p) is) _ (items_stay (past a (started 1 c)) (in_switch p) is) (λ js h.
      where_it_holds (Inside c.blocks) 24 (labels_differ js.tree) _ h))
  stmt_stays c p (us.break l) = where_it_holds (Inside c.blocks) 24 p.breaks _ refl
  stmt_stays c p (us.continue l) = where_it_holds (Inside c.blocks) 24 p.loop _ refl
  stmt_stays c p (us.return l a) = whatever (Inside c.blocks) (judged_option (returned c p.result) c a) _ (λ v. option_stays a (started 1 c))
  stmt_stays c p (us.block l ds ss m) = whatever (Inside c.blocks) (judged_decls (enter c) ds) _ (λ xs. whatever (Inside c.blocks) (judged_stmts xs.env p ss) _ (λ ys. refl))

  stmts_stay : (c : Env) (p : Place) (ss : us.Stmts) → Leaves (Inside c.blocks) (judged_stmts c p ss)
  stmts_stay c p us.no_stmts = refl
  stmts_stay c p (us.more_stmts s ss) =
      behind_part (Inside c.blocks) (Inside c.blocks) (judged_stmt c p s) _ (stmt_stays c p s) (λ x h.
      behind_part (Inside x.env.blocks) (Inside c.blocks) (judged_stmts x.env p ss) _ (stmts_stay x.env p ss) (λ r k. k ∙ h))

  items_stay : (c : Env) (p : Place) (is : us.SwItems) → Leaves (Inside c.blocks) (judged_items c p is)
  items_stay c p us.no_items = refl
  items_stay c p (us.more_items (us.case l a) is) =
      whatever (Inside c.blocks) (judged_by (constant_of c) c a) _ (λ k.
      behind_part (Inside c.blocks) (Inside c.blocks) (judged_items (past a c) p is) _ (items_stay (past a c) p is) (λ r h. h))
  items_stay c p (us.more_items (us.default l) is) = behind_part (Inside c.blocks) (Inside c.blocks) (judged_items c p is) _ (items_stay c p is) (λ r h. h)
  items_stay c p (us.more_items (us.stmt s) is) =
      behind_part (Inside c.blocks) (Inside c.blocks) (judged_stmt c p s) _ (stmt_stays c p s) (λ x h.
      behind_part (Inside x.env.blocks) (Inside c.blocks) (judged_items x.env p is) _ (items_stay x.env p is) (λ r k. k ∙ h))

module _ (c c1 : Env) (p : Place) (l m : ℕ) (ds : List ud.LocalDecl) (ss : us.Stmts) (q : c1 ≡ enter c) where
  -- a block by its parts, from inside which the scopes around it are left as they were
  pub left_block : (c2 c3 : Env) (xs : List LocalDecl) (ys : TStmts) → judged_decls c1 ds ≡ behind xs c2 → judged_stmts c2 p ss ≡ behind ys c3 →
      judged_stmt c p (us.block l ds ss m) ≡ behind (st.block l xs ys m) (record c3 { blocks = around c3.blocks })
  left_block c2 c3 xs ys h k =
      let h1 : judged_decls (enter c) ds ≡ behind xs c2 = subst (λ z. judged_decls z ds ≡ behind xs c2) q h in
      let e1 : around c2.blocks ≡ c.blocks = subst (λ (j : Judged (Behind (List LocalDecl))). Leaves (Around c.blocks) j) h1 (decls_stay (enter c) ds) in
      let e2 : c3.blocks ≡ c2.blocks = subst (λ (j : Judged (Behind TStmts)). Leaves (Inside c2.blocks) j) k (stmts_stay c2 p ss) in
      let out : around c3.blocks ≡ c.blocks = ap around e2 ∙ e1 in
      ap (λ z. onward z (λ x. onward (judged_stmts x.env p ss) (λ y. behind (st.block l x.tree y.tree m) (leave c y.env)))) h1 ∙
      ap (λ z. onward z (λ y. behind (st.block l xs y.tree m) (leave c y.env))) k ∙ ap (λ bs. behind (st.block l xs ys m) (record c3 { blocks = bs })) (sym out)

  pub decls_refused : (e : TypeErr) → Refused (judged_decls c1 ds) e → Refused (judged_stmt c p (us.block l ds ss m)) e
  decls_refused (Rule n r) h =
      ap (λ z. onward z (λ x. onward (judged_stmts x.env p ss) (λ y. behind (st.block l x.tree y.tree m) (leave c y.env)))) (subst (λ z. judged_decls z ds ≡ Fails n) q h)
  decls_refused Memory h = tt

  pub stmts_refused : (c2 : Env) (xs : List LocalDecl) (e : TypeErr) → judged_decls c1 ds ≡ behind xs c2 → Refused (judged_stmts c2 p ss) e → Refused (judged_stmt c p (us.block l ds ss m)) e
  stmts_refused c2 xs (Rule n r) h k =
      ap (λ z. onward z (λ x. onward (judged_stmts x.env p ss) (λ y. behind (st.block l x.tree y.tree m) (leave c y.env)))) (subst (λ z. judged_decls z ds ≡ behind xs c2) q h) ∙
      ap (λ z. onward z (λ y. behind (st.block l xs y.tree m) (leave c y.env))) k
  stmts_refused c2 xs Memory h k = tt
