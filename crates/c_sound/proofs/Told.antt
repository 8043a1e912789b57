-- A typed unit declares each external object that it names as one.
use Rattle.std.proofs.Common.{◌≡◌, ℕ, List, [], ◌∷◌, ◌++◌, Option, Some, None, Bool, true, false, refl, sym, ap, ◌∙◌, subst}
use Rattle.std.specs.Prelude.{◌||◌, ◌&&◌, not}
use Rattle.std.specs.List.{flat_map, list_any}
use Rattle.std.proofs.lemmas.List.{append_assoc}
use Rattle.c_type.specs.Names.{Name, pick}
use Rattle.c_type.specs.Types.{CType}
use Rattle.c_tree.specs.declared.decl.Storage.{Storage}
use Rattle.c_tree.specs.declared.decl.Storage.TheVariants as sg
use Rattle.c_tree.specs.TreeDecl as ud
use Rattle.c_tree.specs.TreeStmt as us
use Rattle.c_tree.specs.TreeStmt.{Block}
use Rattle.c_tree.specs.TreeUnit as uu
use Rattle.c_tree.specs.TExpr as e
use Rattle.c_tree.specs.TExpr.{TExpr, TArgs, Ref}
use Rattle.c_tree.specs.TStmt as st
use Rattle.c_tree.specs.TStmt.{Init, Inits, Declr, Local, LocalDecl, TStmt, TStmts, TItems, locals}
use Rattle.c_tree.specs.TUnit as u
use Rattle.c_tree.specs.TUnit.{Enumerator, Spec, Mems, ParDecl, Item, Func, TExt}
use Rattle.c_tree.specs.declared.typed_unit.Bound.TheVariants as bd
use Rattle.c_run.specs.Mentions as m
use Rattle.c_run.specs.Mentions.{Mention, Text, Use, Extern, Own, Outside, in_expr, in_args, in_init, in_inits, in_begin, in_option, in_declr, in_enumerator, in_spec, in_mems, in_pars, in_local, in_stmt, in_stmts, in_items, in_item, in_exts}
use Rattle.c_join.specs.JoinSaid as j
use Rattle.c_join.specs.JoinSaid.{Event}
use Rattle.c_rule.specs.RuleScope.{Env}
use Rattle.c_rule.specs.RuleTypes.{is_function}
use Rattle.c_rule.specs.RuleDecls.{past_declr}
use Rattle.c_rule.specs.RuleStmts.{is_static, IsLocalBy, AreLocals, AreDecls, Place, in_loop, in_switch, IsStmt, AreStmts, AreItems}
use Rattle.c_rule.specs.RuleUnit as r
use Rattle.c_rule.specs.RuleUnit.{IsItemBy, at_body, IsBody, IsExt, AreExts}
use Rattle.c_sound.specs.Unit.{gives_object, declares_object}
use Rattle.c_sound.proofs.Objects.{same_itself}

-- each external object that is declared is told
abbrev pub Tells : (Name → Type 0) → List Mention → Type 0
Tells E [] = Unit {0}
Tells E (Text k ∷ ms) = Tells E ms
Tells E (Use x ∷ ms) = Tells E ms
Tells E (Extern x ∷ ms) = E x × Tells E ms
Tells E (Own k t i ∷ ms) = Tells E ms
Tells E (Outside x t i ∷ ms) = E x × Tells E ms

tells_both : (E : Name → Type 0) (xs ys : List Mention) → Tells E xs → Tells E ys → Tells E (xs ++ ys)
tells_both E [] ys h k = k
tells_both E (Text n ∷ xs) ys h k = tells_both E xs ys h k
tells_both E (Use x ∷ xs) ys h k = tells_both E xs ys h k
tells_both E (Extern x ∷ xs) ys h k = (h.0, tells_both E xs ys h.1 k)
tells_both E (Own n t i ∷ xs) ys h k = tells_both E xs ys h k
tells_both E (Outside x t i ∷ xs) ys h k = (h.0, tells_both E xs ys h.1 k)

tells_more : (E F : Name → Type 0) (ms : List Mention) → ((x : Name) → E x → F x) → Tells E ms → Tells F ms
tells_more E F [] f h = tt
tells_more E F (Text n ∷ xs) f h = tells_more E F xs f h
tells_more E F (Use x ∷ xs) f h = tells_more E F xs f h
tells_more E F (Extern x ∷ xs) f h = (f x h.0, tells_more E F xs f h.1)
tells_more E F (Own n t i ∷ xs) f h = tells_more E F xs f h
tells_more E F (Outside x t i ∷ xs) f h = (f x h.0, tells_more E F xs f h.1)

-- an event declares that external object
abbrev Says : List Event → Name → Type 0
Says vs x = list_any (declares_object x) vs ≡ true

says_left : (vs ws : List Event) (x : Name) → Says vs x → Says (vs ++ ws) x
says_left [] ws x h = cc
says_left (v ∷ vs) ws x h = case_of (declares_object x v) h (says_left vs ws x)
  where
    case_of : (b : Bool) → (b || list_any (declares_object x) vs) ≡ true → (Says vs x → Says (vs ++ ws) x) → (b || list_any (declares_object x) (vs ++ ws)) ≡ true
    case_of true g k = refl
    case_of false g k = k g

says_right : (vs ws : List Event) (x : Name) → Says ws x → Says (vs ++ ws) x
says_right [] ws x h = h
says_right (v ∷ vs) ws x h = case_of (declares_object x v) (says_right vs ws x h)
  where
    case_of : (b : Bool) → Says (vs ++ ws) x → (b || list_any (declares_object x) (vs ++ ws)) ≡ true
    case_of true g = refl
    case_of false g = g

-- two parts with their events
both_tell : (vs ws : List Event) (ms ns : List Mention) → Tells (Says vs) ms → Tells (Says ws) ns → Tells (Says (vs ++ ws)) (ms ++ ns)
both_tell vs ws ms ns h k =
    tells_both (Says (vs ++ ws)) ms ns (tells_more (Says vs) (Says (vs ++ ws)) ms (says_left vs ws) h) (tells_more (Says ws) (Says (vs ++ ws)) ns (says_right vs ws) k)

-- expressions, dimensions and initialisers declare nothing

used_tells : (E : Name → Type 0) (r : Ref) → Tells E (m.used r)
used_tells E (e.Local i) = tt
used_tells E (e.Param i) = tt
used_tells E (e.Static k) = tt
used_tells E (e.Ext x) = tt
used_tells E (e.Func k) = tt
used_tells E (e.Outer x) = tt
used_tells E (e.Const n) = tt

mutual
  pub expr_tells : (E : Name → Type 0) (a : TExpr) → Tells E (in_expr a)
  expr_tells E (e.name t r) = used_tells E r
  expr_tells E (e.int t n) = tt
  expr_tells E (e.text t k) = tt
  expr_tells E (e.unary t op a) = expr_tells E a
  expr_tells E (e.deref t a) = expr_tells E a
  expr_tells E (e.address t a) = expr_tells E a
  expr_tells E (e.step t op a) = expr_tells E a
  expr_tells E (e.size_of a) = expr_tells E a
  expr_tells E (e.size_of_type of) = tt
  expr_tells E (e.cast t a) = expr_tells E a
  expr_tells E (e.convert t a) = expr_tells E a
  expr_tells E (e.decay t a) = expr_tells E a
  expr_tells E (e.designate t a) = expr_tells E a
  expr_tells E (e.binary t op a b) = tells_both E (in_expr a) (in_expr b) (expr_tells E a) (expr_tells E b)
  expr_tells E (e.both a b) = tells_both E (in_expr a) (in_expr b) (expr_tells E a) (expr_tells E b)
  expr_tells E (e.either a b) = tells_both E (in_expr a) (in_expr b) (expr_tells E a) (expr_tells E b)
  expr_tells E (e.comma t a b) = tells_both E (in_expr a) (in_expr b) (expr_tells E a) (expr_tells E b)
  expr_tells E (e.choice t c a b) =
      tells_both E (in_expr c) (in_expr a ++ in_expr b) (expr_tells E c) (tells_both E (in_expr a) (in_expr b) (expr_tells E a) (expr_tells E b))
  expr_tells E (e.assign t a b) = tells_both E (in_expr a) (in_expr b) (expr_tells E a) (expr_tells E b)
  expr_tells E (e.update t op at a b) = tells_both E (in_expr a) (in_expr b) (expr_tells E a) (expr_tells E b)
  expr_tells E (e.index t a i) = tells_both E (in_expr a) (in_expr i) (expr_tells E a) (expr_tells E i)
  expr_tells E (e.call t f es) = tells_both E (in_expr f) (in_args es) (expr_tells E f) (args_tells E es)
  expr_tells E (e.member t a k) = expr_tells E a
  expr_tells E (e.arrow t a k) = expr_tells E a

  pub args_tells : (E : Name → Type 0) (es : TArgs) → Tells E (in_args es)
  args_tells E e.no_args = tt
  args_tells E (e.more_args a es) = tells_both E (in_expr a) (in_args es) (expr_tells E a) (args_tells E es)

pub option_tells : (E : Name → Type 0) (a : Option TExpr) → Tells E (in_option a)
option_tells E None = tt
option_tells E (Some a) = expr_tells E a

exprs_tells : (E : Name → Type 0) (as_ : List TExpr) → Tells E (flat_map in_expr as_)
exprs_tells E [] = tt
exprs_tells E (a ∷ as_) = tells_both E (in_expr a) (flat_map in_expr as_) (expr_tells E a) (exprs_tells E as_)

pub declr_tells : (E : Name → Type 0) (d : Declr) → Tells E (in_declr d)
declr_tells E d = exprs_tells E d.dims

pub declrs_tells : (E : Name → Type 0) (ds : List Declr) → Tells E (flat_map in_declr ds)
declrs_tells E [] = tt
declrs_tells E (d ∷ ds) = tells_both E (in_declr d) (flat_map in_declr ds) (declr_tells E d) (declrs_tells E ds)

mutual
  pub init_tells : (E : Name → Type 0) (i : Init) → Tells E (in_init i)
  init_tells E (st.single a) = expr_tells E a
  init_tells E (st.bytes bs) = tt
  init_tells E (st.group is) = inits_tells E is

  pub inits_tells : (E : Name → Type 0) (is : Inits) → Tells E (in_inits is)
  inits_tells E st.no_inits = tt
  inits_tells E (st.more_inits i is) = tells_both E (in_init i) (in_inits is) (init_tells E i) (inits_tells E is)

pub begin_tells : (E : Name → Type 0) (i : Option Init) → Tells E (in_begin i)
begin_tells E None = tt
begin_tells E (Some i) = init_tells E i

enumerators_tells : (E : Name → Type 0) (xs : List Enumerator) → Tells E (flat_map in_enumerator xs)
enumerators_tells E [] = tt
enumerators_tells E (x ∷ xs) = tells_both E (in_option x.expr) (flat_map in_enumerator xs) (option_tells E x.expr) (enumerators_tells E xs)

mutual
  pub spec_tells : (E : Name → Type 0) (s : Spec) → Tells E (in_spec s)
  spec_tells E (u.plain t) = tt
  spec_tells E (u.struct_body k ms) = mems_tells E ms
  spec_tells E (u.enum_body k es) = enumerators_tells E es

  mems_tells : (E : Name → Type 0) (ms : Mems) → Tells E (in_mems ms)
  mems_tells E u.no_mems = tt
  mems_tells E (u.more_mems s ds ms) =
      tells_both E (in_spec s) (flat_map in_declr ds ++ in_mems ms) (spec_tells E s)
      (tells_both E (flat_map in_declr ds) (in_mems ms) (declrs_tells E ds) (mems_tells E ms))

pub pars_tells : (E : Name → Type 0) (ps : List ParDecl) → Tells E (flat_map in_pars ps)
pars_tells E [] = tt
pars_tells E (p ∷ ps) =
    tells_both E (in_spec p.spec ++ flat_map in_declr p.declrs) (flat_map in_pars ps)
    (tells_both E (in_spec p.spec) (flat_map in_declr p.declrs) (spec_tells E p.spec) (declrs_tells E p.declrs)) (pars_tells E ps)

-- blocks

-- what gives an object declares its name
says_object : (x : Name) (w : j.Saying) (vs : List Event) → gives_object w ≡ true → Says (j.event (j.External x) w ∷ vs) x
says_object x w vs g = ap (λ b. (b && gives_object w) || list_any (declares_object x) vs) (same_itself x) ∙ ap (λ b. b || list_any (declares_object x) vs) g

no_function : (t : CType) → is_function t ≡ false → not (is_function t) ≡ true
no_function t b = ap not b

-- a declarator of a block, and what it declares
abbrev LocalTells : Local → Type 0
LocalTells x = Tells (Says (j.in_local x)) (in_local x)

auto_tells : (c : Env) (l : ℕ) (d : Declr) (i : Option ud.Init) (x : Local) (f : Env) → IsLocalBy false None c l d i x f → LocalTells x
auto_tells c l d None x f (c1, z, k, q, p) = subst LocalTells (sym q) (declr_tells (Says (j.in_declr d)) d)
auto_tells c l d (Some a) x f (w, c1, z, k, g, q, p) =
    subst LocalTells (sym q) (tells_both (Says (j.in_declr d ++ j.in_expr w)) (in_declr d) (in_expr w) (declr_tells (Says (j.in_declr d ++ j.in_expr w)) d) (expr_tells (Says (j.in_declr d ++ j.in_expr w)) w))

local_tells : (b : Bool) (s : Option Storage) (c : Env) (l : ℕ) (d : Declr) (i : Option ud.Init) (x : Local) (f : Env) → is_function d.ty ≡ b → IsLocalBy b s c l d i x f → LocalTells x
local_tells true s c l d i x f b (q, k, p) = subst LocalTells (sym p) (declr_tells _ d)
local_tells false None c l d i x f b h = auto_tells c l d i x f h
local_tells false (Some sg.Auto) c l d i x f b h = auto_tells c l d i x f h
local_tells false (Some sg.Register) c l d i x f b h = auto_tells c l d i x f h
local_tells false (Some sg.Extern) c l d i x f b (q, k, p) =
    subst LocalTells (sym p) (says_object d.name (j.Declared d.ty) (j.in_declr d) (no_function d.ty b), declr_tells _ d)
local_tells false (Some sg.Static) c l d i x f b (v, c1, c2, z, k, g, q, p) =
    subst LocalTells (sym q) (tells_both _ (in_declr d) (in_begin v) (declr_tells _ d) (begin_tells _ v))

-- declarators one behind the other
abbrev LocalsTell : List Local → Type 0
LocalsTell xs = Tells (Says (flat_map j.in_local xs)) (flat_map in_local xs)

locals_tell : (c : Env) (s : Option Storage) (base : CType) (is : List ud.Item) (xs : List Local) (f : Env) → AreLocals c s base is xs f → LocalsTell xs
locals_tell c s base [] xs f h = subst LocalsTell (sym h.0) tt
locals_tell c s base (i ∷ is) xs f (d, x, rest, c1, hd, hx, hr, q) =
    subst LocalsTell (sym q)
    (both_tell (j.in_local x) (flat_map j.in_local rest) (in_local x) (flat_map in_local rest) (local_tells (is_function d.ty) s (past_declr i.declr c) _ d i.init x c1 refl hx) (locals_tell c1 s base is rest f hr))

said_both : (xs ys : List Local) → flat_map in_local (xs ++ ys) ≡ flat_map in_local xs ++ flat_map in_local ys
said_both [] ys = refl
said_both (x ∷ xs) ys = ap (λ z. in_local x ++ z) (said_both xs ys) ∙ sym (append_assoc (in_local x) (flat_map in_local xs) (flat_map in_local ys))

events_both : (xs ys : List Local) → flat_map j.in_local (xs ++ ys) ≡ flat_map j.in_local xs ++ flat_map j.in_local ys
events_both [] ys = refl
events_both (x ∷ xs) ys = ap (λ z. j.in_local x ++ z) (events_both xs ys) ∙ sym (append_assoc (j.in_local x) (flat_map j.in_local xs) (flat_map j.in_local ys))

decls_tell : (c : Env) (ds : List ud.LocalDecl) (xs : List LocalDecl) (f : Env) → AreDecls c ds xs f → LocalsTell (locals xs)
decls_tell c [] xs f h = subst (λ z. LocalsTell (locals z)) (sym h.0) tt
decls_tell c (d ∷ ds) xs f (base, ls, rest, c1, hb, hl, hr, q) =
    let h = both_tell (flat_map j.in_local ls) (flat_map j.in_local (locals rest)) (flat_map in_local ls) (flat_map in_local (locals rest))
    (locals_tell c d.specs.storage base d.items ls c1 hl) (decls_tell c1 ds rest f hr) in
    subst (λ z. LocalsTell (locals z)) (sym q)
    (subst (λ y. Tells (Says y) (flat_map in_local (ls ++ locals rest))) (sym (events_both ls (locals rest)))
    (subst (λ y. Tells (Says (flat_map j.in_local ls ++ flat_map j.in_local (locals rest))) y) (sym (said_both ls (locals rest))) h))

-- statements

abbrev StmtTells : TStmt → Type 0
StmtTells t = Tells (Says (j.in_stmt t)) (in_stmt t)

abbrev StmtsTell : TStmts → Type 0
StmtsTell t = Tells (Says (j.in_stmts t)) (in_stmts t)

abbrev ItemsTell : TItems → Type 0
ItemsTell t = Tells (Says (j.in_items t)) (in_items t)

-- an expression, and what stands behind it
behind_expr : (a : TExpr) (vs : List Event) (ms : List Mention) → Tells (Says vs) ms → Tells (Says (j.in_expr a ++ vs)) (in_expr a ++ ms)
behind_expr a vs ms h = both_tell (j.in_expr a) vs (in_expr a) ms (expr_tells (Says (j.in_expr a)) a) h

behind_option : (a : Option TExpr) (vs : List Event) (ms : List Mention) → Tells (Says vs) ms → Tells (Says (j.in_option a ++ vs)) (in_option a ++ ms)
behind_option a vs ms h = both_tell (j.in_option a) vs (in_option a) ms (option_tells (Says (j.in_option a)) a) h

mutual
  stmt_tells : (c : Env) (p : Place) (s : us.Stmt) (t : TStmt) (f : Env) → IsStmt c p s t f → StmtTells t
  stmt_tells c p (us.expr l a) t f (v, h, q, e) = subst StmtTells (sym q) (expr_tells _ v)
  stmt_tells c p (us.empty l) t f h = subst StmtTells (sym h.0) tt
  stmt_tells c p (us.if_only l a s) t f (v, x, h, k, q) = subst StmtTells (sym q) (behind_expr v (j.in_stmt x) (in_stmt x) (stmt_tells _ p s x f k))
  stmt_tells c p (us.if_else l a s z) t f (v, x, y, c1, h, k, g, q) =
      subst StmtTells (sym q)
      (behind_expr v (j.in_stmt x ++ j.in_stmt y) (in_stmt x ++ in_stmt y) (both_tell (j.in_stmt x) (j.in_stmt y) (in_stmt x) (in_stmt y) (stmt_tells _ p s x c1 k) (stmt_tells c1 p z y f g)))
  stmt_tells c p (us.while l a s) t f (v, x, h, k, q) = subst StmtTells (sym q) (behind_expr v (j.in_stmt x) (in_stmt x) (stmt_tells _ (in_loop p) s x f k))
  stmt_tells c p (us.do_while l s m a) t f (x, v, c1, k, h, q, e) =
      subst StmtTells (sym q) (both_tell (j.in_stmt x) (j.in_expr v) (in_stmt x) (in_expr v) (stmt_tells c (in_loop p) s x c1 k) (expr_tells _ v))
  stmt_tells c p (us.for l a b d s) t f (v1, v2, v3, x, h1, h2, h3, k, q) =
      subst StmtTells (sym q)
      (behind_option v1 (j.in_option v2 ++ (j.in_option v3 ++ j.in_stmt x)) (in_option v2 ++ (in_option v3 ++ in_stmt x))
      (behind_option v2 (j.in_option v3 ++ j.in_stmt x) (in_option v3 ++ in_stmt x) (behind_option v3 (j.in_stmt x) (in_stmt x) (stmt_tells _ (in_loop p) s x f k))))
  stmt_tells c p (us.switch l a is) t f (v, js, h, k, z, q) = subst StmtTells (sym q) (behind_expr v (j.in_items js) (in_items js) (items_tell _ (in_switch p) is js f k))
  stmt_tells c p (us.break l) t f (g, q, e) = subst StmtTells (sym q) tt
  stmt_tells c p (us.continue l) t f (g, q, e) = subst StmtTells (sym q) tt
  stmt_tells c p (us.return l a) t f (v, h, q, e) = subst StmtTells (sym q) (option_tells _ v)
  stmt_tells c p (us.block l ds ss m) t f (xs, ys, c1, c2, h, k, q, e) =
      subst StmtTells (sym q)
      (both_tell (flat_map j.in_local (locals xs)) (j.in_stmts ys) (flat_map in_local (locals xs)) (in_stmts ys) (decls_tell _ ds xs c1 h) (stmts_tell c1 p ss ys c2 k))

  stmts_tell : (c : Env) (p : Place) (ss : us.Stmts) (ys : TStmts) (f : Env) → AreStmts c p ss ys f → StmtsTell ys
  stmts_tell c p us.no_stmts ys f h = subst StmtsTell (sym h.0) tt
  stmts_tell c p (us.more_stmts s ss) ys f (x, rest, c1, h, k, q) =
      subst StmtsTell (sym q) (both_tell (j.in_stmt x) (j.in_stmts rest) (in_stmt x) (in_stmts rest) (stmt_tells c p s x c1 h) (stmts_tell c1 p ss rest f k))

  items_tell : (c : Env) (p : Place) (is : us.SwItems) (js : TItems) (f : Env) → AreItems c p is js f → ItemsTell js
  items_tell c p us.no_items js f h = subst ItemsTell (sym h.0) tt
  items_tell c p (us.more_items (us.case l a) is) js f (m, rest, h, k, q) =
      subst ItemsTell (sym q) (behind_expr m.expr (j.in_items rest) (in_items rest) (items_tell _ p is rest f k))
  items_tell c p (us.more_items (us.default l) is) js f (rest, k, q) = subst ItemsTell (sym q) (items_tell c p is rest f k)
  items_tell c p (us.more_items (us.stmt s) is) js f (x, rest, c1, h, k, q) =
      subst ItemsTell (sym q) (both_tell (j.in_stmt x) (j.in_items rest) (in_stmt x) (in_items rest) (stmt_tells c p s x c1 h) (items_tell c1 p is rest f k))

-- file level

abbrev ItemTells : Item → Type 0
ItemTells x = Tells (Says (j.in_item x)) (in_item x)

-- what a declarator's dimensions and its initialiser say
rest_tells : (E : Name → Type 0) (d : Declr) (v : Option st.Init) → Tells E (in_declr d ++ in_begin v)
rest_tells E d v = tells_both E (in_declr d) (in_begin v) (declr_tells E d) (begin_tells E v)

outside_gives : (t : CType) (v : Option st.Init) → is_function t ≡ false → gives_object (j.outside t v) ≡ true
outside_gives t None b = no_function t b
outside_gives t (Some i) b = no_function t b

outside_tells : (c : Env) (d : Declr) (i : Option ud.Init) (x : Item) (f : Env) → is_function d.ty ≡ false → IsItemBy false None c d i x f → ItemTells x
outside_tells c d i x f b (v, c1, z, k, g, q) =
    subst ItemTells (sym q) (says_object d.name (j.outside d.ty v) (j.in_declr d ++ j.in_begin v) (outside_gives d.ty v b), rest_tells _ d v)

function_tells : (d : Declr) (s : Bool) → ItemTells (record { declr = d; bound = pick s bd.OwnFunction bd.OutsideFunction; init = None })
function_tells d true = rest_tells _ d None
function_tells d false = rest_tells _ d None

item_tells : (b : Bool) (s : Option Storage) (c : Env) (d : Declr) (i : Option ud.Init) (x : Item) (f : Env) → is_function d.ty ≡ b → IsItemBy b s c d i x f → ItemTells x
item_tells true s c d i x f b (q, k, p) = subst ItemTells (sym p) (function_tells d (is_static s))
item_tells false None c d i x f b h = outside_tells c d i x f b h
item_tells false (Some sg.Auto) c d i x f b h = outside_tells c d i x f b h
item_tells false (Some sg.Register) c d i x f b h = outside_tells c d i x f b h
item_tells false (Some sg.Extern) c d i x f b (q, k, p) =
    subst ItemTells (sym p) (says_object d.name (j.Declared d.ty) (j.in_declr d ++ j.in_begin None) (no_function d.ty b), rest_tells _ d None)
item_tells false (Some sg.Static) c d i x f b (v, c1, c2, z, k, g, q, p) = subst ItemTells (sym q) (rest_tells _ d v)

file_items_tell : (c : Env) (s : Option Storage) (base : CType) (is : List ud.Item) (xs : List Item) (f : Env) → r.AreItems c s base is xs f →
    Tells (Says (flat_map j.in_item xs)) (flat_map in_item xs)
file_items_tell c s base [] xs f h = subst (λ z. Tells (Says (flat_map j.in_item z)) (flat_map in_item z)) (sym h.0) tt
file_items_tell c s base (i ∷ is) xs f (d, x, rest, c1, hd, hx, hr, q) =
    subst (λ z. Tells (Says (flat_map j.in_item z)) (flat_map in_item z)) (sym q)
    (both_tell (j.in_item x) (flat_map j.in_item rest) (in_item x) (flat_map in_item rest) (item_tells (is_function d.ty) s (past_declr i.declr c) d i.init x c1 refl hx) (file_items_tell c1 s base is rest f hr))

abbrev ExtTells : TExt → Type 0
ExtTells x = Tells (Says (j.in_ext x)) (m.in_ext x)

-- a function with its parameters
func_tells : (y : Spec) (g : Func) → Tells (Says (flat_map j.in_local (locals g.locals))) (flat_map in_local (locals g.locals)) → StmtsTell g.stmts → ExtTells (u.func y g)
func_tells y g h k =
    both_tell (j.in_spec y) (j.in_func g) (in_spec y) (flat_map in_pars g.declared ++ (flat_map in_local (locals g.locals) ++ in_stmts g.stmts)) (spec_tells _ y)
    (tells_more _ (Says (j.in_func g)) (flat_map in_pars g.declared ++ (flat_map in_local (locals g.locals) ++ in_stmts g.stmts)) (says_right (j.defined g ∷ []) (flat_map j.in_pars g.declared ++ (flat_map j.in_local (locals g.locals) ++ j.in_stmts g.stmts)))
    (both_tell (flat_map j.in_pars g.declared) (flat_map j.in_local (locals g.locals) ++ j.in_stmts g.stmts) (flat_map in_pars g.declared) (flat_map in_local (locals g.locals) ++ in_stmts g.stmts)
    (pars_tells _ g.declared)
    (both_tell (flat_map j.in_local (locals g.locals)) (j.in_stmts g.stmts) (flat_map in_local (locals g.locals)) (in_stmts g.stmts) h k)))

body_tells : (c : Env) (s : Bool) (h : ud.Declr) (d : Declr) (ps : List ud.ParDecl) (b : Block) (y : Spec) (g : Func) (f : Env) → IsBody c s h d ps b g f → ExtTells (u.func y g)
body_tells c s h d ps b y g f (c1, c2, c3, e, hh, hl, hs, q1, q2, q3, q4, q5, q6, q7, q8) =
    func_tells y g (decls_tell _ b.decls g.locals c2 hl) (stmts_tell c2 (at_body g.result) b.stmts g.stmts c3 hs)

ext_tells : (c : Env) (y : uu.Ext) (x : TExt) (f : Env) → IsExt c y x f → ExtTells x
ext_tells c (uu.typedef l y ds) x f (s, b, xs, c1, h, k, q) = subst ExtTells (sym q) (tells_both _ (in_spec s) (flat_map in_declr xs) (spec_tells _ s) (declrs_tells _ xs))
ext_tells c (uu.tag_only l (ud.ref z)) x f (b, h, q, e) = subst ExtTells (sym q) tt
ext_tells c (uu.tag_only l (ud.body d)) x f (s, b, h, q) = subst ExtTells (sym q) (spec_tells _ s)
ext_tells c (uu.object l s is) x f (y, b, xs, c1, h, k, q) =
    subst ExtTells (sym q)
    (both_tell (j.in_spec y) (flat_map j.in_item xs) (in_spec y) (flat_map in_item xs) (spec_tells _ y) (file_items_tell c1 s.storage b is xs f k))
ext_tells c (uu.func l s h ps b) x f (y, base, d, g, c1, ht, hd, hb, q) = subst ExtTells (sym q) (body_tells c1 _ h d ps b y g f hb)

-- a typed unit's events declare each external object that it declares
pub exts_tell : (c : Env) (ys : List uu.Ext) (xs : List TExt) (f : Env) → AreExts c ys xs f → Tells (λ x. list_any (declares_object x) (flat_map j.in_ext xs) ≡ true) (in_exts xs)
exts_tell c [] xs f h = subst (λ z. Tells (Says (flat_map j.in_ext z)) (in_exts z)) (sym h.0) tt
exts_tell c (y ∷ ys) xs f (x, rest, c1, h, k, q) =
    subst (λ z. Tells (Says (flat_map j.in_ext z)) (in_exts z)) (sym q)
    (both_tell (j.in_ext x) (flat_map j.in_ext rest) (m.in_ext x) (in_exts rest) (ext_tells c y x c1 h) (exts_tell c1 ys rest f k))
