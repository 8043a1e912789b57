-- The numbers in a typed block count up, statement by statement.
use Rattle.std.proofs.Common.{◌≡◌, ℕ, suc, ◌+◌, List, [], ◌∷◌, ◌++◌, length, Option, Some, None, Bool, true, false, refl, sym, ap, ◌∙◌, subst, arith}
use Rattle.std.specs.List.{flat_map}
use Rattle.std.proofs.lemmas.List.{append_assoc}
use Rattle.c_type.specs.Names.{Name}
use Rattle.c_type.specs.Types.{CType}
use Rattle.c_tree.specs.declared.decl.Storage.{Storage}
use Rattle.c_tree.specs.declared.decl.Storage.TheVariants as sg
use Rattle.c_tree.specs.TreeDecl as ud
use Rattle.c_tree.specs.TreeExpr.{Expr}
use Rattle.c_tree.specs.TreeStmt as us
use Rattle.c_tree.specs.TExpr.{TExpr}
use Rattle.c_tree.specs.TStmt as st
use Rattle.c_tree.specs.TStmt.{Declr, Local, LocalDecl, TStmt, TStmts, TItems, locals}
use Rattle.c_tree.specs.Bodies.{Auto, autos_local, autos_stmt, autos_stmts, autos_items}
use Rattle.c_tree.specs.Starts.{Start, at, starts_local, starts_stmt, starts_stmts, starts_items}
use Rattle.c_run.specs.Mentions.{Mention, Own, in_expr, in_option, in_local, in_stmt, in_stmts, in_items, in_begin, in_declr}
use Rattle.c_run.specs.Numbers.{text_numbers, own_numbers}
use Rattle.c_rule.specs.RuleScope.{Env, Meaning, past, past_option, started}
use Rattle.c_rule.specs.RuleTexts.{texts_in}
use Rattle.c_rule.specs.RuleTypes.{is_function}
use Rattle.c_rule.specs.RuleValues.{used, scalar, integer, value_for}
use Rattle.c_rule.specs.RuleTree.{Gives}
use Rattle.c_rule.specs.RuleDecls.{past_declr}
use Rattle.c_rule.specs.RuleStmts.{missing, Maybe, returned, enter, Declares, IsLocalBy, AreLocals, AreDecls, Place, in_loop, in_switch, IsStmt, AreStmts, AreItems}
use Rattle.c_sound.proofs.Counts.{Counts}
use Rattle.c_sound.proofs.RuleSays.{used_says, scalar_says, integer_says, value_says}
use Rattle.c_sound.proofs.TextOrder.{gives_texts, constant_texts}
use Rattle.c_sound.proofs.Parts.{SameNumbers, option_numbers, Part, part_both, same_part, here_part, expr_part, begun, started_expr, option_part, declr_part, begins_part, own_begin, own_begun}
use Rattle.std.proofs.lemmas.List.{append-nil}
use Rattle.std.proofs.lemmas.Grind.{flat_map-append}

-- declarations

declares_part : (c d : Env) (x : Name) (m : Meaning) → Declares c x m d → Part c d [] [] []
declares_part c d x m h = subst (λ z. Part c z [] [] []) (sym h.1) (same_part c _ refl refl refl refl refl)

-- a part behind which nothing is counted
pub and_nothing : (c d f : Env) (ss : List Start) (as_ : List Auto) (ms : List Mention) → Part c d ss as_ ms → Part d f [] [] [] → Part c f ss as_ ms
and_nothing c d f ss as_ ms h k =
    subst (λ z. Part c f z as_ ms) (append-nil ss)
    (subst (λ z. Part c f (ss ++ []) z ms) (append-nil as_) (subst (λ z. Part c f (ss ++ []) (as_ ++ []) z) (append-nil ms) (part_both c d f ss [] as_ [] ms [] h k)))

-- an automatic object behind its declaration
made : (c c1 : Env) (t : CType) → c1.autos ≡ c.autos → Part c1 (record c1 { autos = suc c1.autos }) [] (record { number = c.autos; ty = t } ∷ []) []
made c c1 t q = record { starts = refl; autos = (sym q, refl); texts = refl; statics = refl; file = refl }

-- its initialiser
begun_with : (c : Env) (k l : ℕ) (a : Expr) (w : TExpr) → k ≡ c.starts → Counts (length c.texts) (text_numbers (in_expr w)) (length (past a c).texts) → Part c (past a (started 1 c)) (at k l ∷ []) [] (in_expr w)
begun_with c k l a w q t = subst (λ z. Part c (past a (started 1 c)) (at z l ∷ []) [] (in_expr w)) (sym q) (started_expr c l a w t)

auto_part : (c0 c : Env) (l : ℕ) (d : Declr) (i : Option ud.Init) (x : Local) (f : Env) → Part c0 c [] [] (in_declr d) → IsLocalBy false None c l d i x f → Part c0 f (starts_local x) (autos_local x) (in_local x)
auto_part c0 c l d None x f h (c1, z, k, q, p) =
    let m = made c c1 d.ty (ap (λ (e : Env). e.autos) k.1) in
    let h1 = and_nothing c0 c c1 [] [] (in_declr d) h (declares_part c c1 d.name _ k) in
    subst (λ y. Part c0 f (starts_local y) (autos_local y) (in_local y)) (sym q)
    (subst (λ y. Part c0 y [] (record { number = c.autos; ty = d.ty } ∷ []) (in_declr d)) (sym p)
    (subst (λ y. Part c0 (record c1 { autos = suc c1.autos }) [] (record { number = c.autos; ty = d.ty } ∷ []) y) (append-nil (in_declr d))
    (part_both c0 c1 _ [] [] [] (record { number = c.autos; ty = d.ty } ∷ []) (in_declr d) [] h1 m)))
auto_part c0 c l d (Some (ud.single a)) x f h (w, c1, z, k, g, q, p) =
    let c2 = record c1 { autos = suc c1.autos } in
    let m = made c c1 d.ty (ap (λ (e : Env). e.autos) k.1) in
    let h1 = and_nothing c0 c c1 [] [] (in_declr d) h (declares_part c c1 d.name _ k) in
    let b = begun_with c2 c.starts l a w (sym (ap (λ (e : Env). e.starts) k.1)) (gives_texts (value_for 11 c1 d.ty) (value_says 11 c1 d.ty) c1 a w g) in
    subst (λ y. Part c0 f (starts_local y) (autos_local y) (in_local y)) (sym q)
    (subst (λ y. Part c0 y (at c.starts l ∷ []) (record { number = c.autos; ty = d.ty } ∷ []) (in_declr d ++ in_expr w)) (sym p)
    (part_both c0 c1 _ [] (at c.starts l ∷ []) [] (record { number = c.autos; ty = d.ty } ∷ []) (in_declr d) (in_expr w) h1
    (part_both c1 c2 _ [] (at c.starts l ∷ []) (record { number = c.autos; ty = d.ty } ∷ []) [] [] (in_expr w) m b)))
auto_part c0 c l d (Some (ud.group n is)) x f h (w, c1, z, k, g, q, p) = absurd g

-- a static with the next number
static_part : (c0 : Env) (d : Declr) (k : ℕ) (v : Option st.Init) (c2 : Env) → Part c0 c2 [] [] (in_declr d ++ in_begin v) → k ≡ c2.statics →
    Part c0 (record c2 { statics = suc k }) [] [] (Own k d.ty v ∷ (in_declr d ++ in_begin v))
static_part c0 d k v c2 h q =
    let e = own_begun d v in
    let n : c0.statics ≡ c2.statics = subst (λ z. Counts c0.statics z c2.statics) e h.statics in
    let m : suc c0.statics ≡ suc k = ap suc (n ∙ sym q) in
    record { starts = h.starts; autos = h.autos; texts = h.texts; statics = (q ∙ sym n, subst (λ z. Counts (suc c0.statics) z (suc k)) (sym e) m); file = h.file }

local_part : (b : Bool) (s : Option Storage) (c0 c : Env) (l : ℕ) (d : Declr) (i : Option ud.Init) (x : Local) (f : Env) → Part c0 c [] [] (in_declr d) → IsLocalBy b s c l d i x f →
    Part c0 f (starts_local x) (autos_local x) (in_local x)
local_part true s c0 c l d i x f h (q, k, p) =
    subst (λ y. Part c0 f (starts_local y) (autos_local y) (in_local y)) (sym p) (and_nothing c0 c f [] [] (in_declr d) h (declares_part c f d.name _ k))
local_part false None c0 c l d i x f h g = auto_part c0 c l d i x f h g
local_part false (Some sg.Auto) c0 c l d i x f h g = auto_part c0 c l d i x f h g
local_part false (Some sg.Register) c0 c l d i x f h g = auto_part c0 c l d i x f h g
local_part false (Some sg.Extern) c0 c l d i x f h (q, k, p) =
    subst (λ y. Part c0 f (starts_local y) (autos_local y) (in_local y)) (sym p) (and_nothing c0 c f [] [] (in_declr d) h (declares_part c f d.name _ k))
local_part false (Some sg.Static) c0 c l d i x f h (v, c1, c2, z, k, g, q, p) =
    let h1 = and_nothing c0 c c1 [] [] (in_declr d) h (declares_part c c1 d.name _ k) in
    let b = begins_part c1 d.ty i v c2 g in
    let n : c1.statics ≡ c2.statics = subst (λ y. Counts c1.statics y c2.statics) (own_begin v) b.statics in
    subst (λ y. Part c0 f (starts_local y) (autos_local y) (in_local y)) (sym q)
    (subst (λ y. Part c0 y [] [] (Own c.statics d.ty v ∷ (in_declr d ++ in_begin v))) (sym p)
    (static_part c0 d c.statics v c2 (part_both c0 c1 c2 [] [] [] [] (in_declr d) (in_begin v) h1 b) (sym (ap (λ (e : Env). e.statics) k.1) ∙ n)))

-- declarators one behind the other
abbrev pub LocalsPart : Env → Env → List Local → Type 0
LocalsPart c f xs = Part c f (flat_map starts_local xs) (flat_map autos_local xs) (flat_map in_local xs)

locals_part : (c : Env) (s : Option Storage) (base : CType) (is : List ud.Item) (xs : List Local) (f : Env) → AreLocals c s base is xs f → LocalsPart c f xs
locals_part c s base [] xs f h = subst (LocalsPart c f) (sym h.0) (here_part c f h.1)
locals_part c s base (i ∷ is) xs f (d, x, rest, c1, hd, hx, hr, q) =
    subst (LocalsPart c f) (sym q)
    (part_both c c1 f (starts_local x) (flat_map starts_local rest) (autos_local x) (flat_map autos_local rest) (in_local x) (flat_map in_local rest)
    (local_part (is_function d.ty) s c (past_declr i.declr c) _ d i.init x c1 (declr_part c (missing s i.init) base i.declr d hd) hx) (locals_part c1 s base is rest f hr))

both_locals : (c d f : Env) (xs ys : List Local) → LocalsPart c d xs → LocalsPart d f ys → LocalsPart c f (xs ++ ys)
both_locals c d f xs ys h k =
    subst (λ z. Part c f z (flat_map autos_local (xs ++ ys)) (flat_map in_local (xs ++ ys))) (sym (flat_map-append starts_local xs ys))
    (subst (λ z. Part c f (flat_map starts_local xs ++ flat_map starts_local ys) z (flat_map in_local (xs ++ ys))) (sym (flat_map-append autos_local xs ys))
    (subst (λ z. Part c f (flat_map starts_local xs ++ flat_map starts_local ys) (flat_map autos_local xs ++ flat_map autos_local ys) z) (sym (flat_map-append in_local xs ys))
    (part_both c d f (flat_map starts_local xs) (flat_map starts_local ys) (flat_map autos_local xs) (flat_map autos_local ys) (flat_map in_local xs) (flat_map in_local ys) h k)))

pub decls_part : (c : Env) (ds : List ud.LocalDecl) (xs : List LocalDecl) (f : Env) → AreDecls c ds xs f → LocalsPart c f (locals xs)
decls_part c [] xs f h = subst (λ z. LocalsPart c f (locals z)) (sym h.0) (here_part c f h.1)
decls_part c (d ∷ ds) xs f (base, ls, rest, c1, hb, hl, hr, q) =
    subst (λ z. LocalsPart c f (locals z)) (sym q) (both_locals c c1 f ls (locals rest) (locals_part c d.specs.storage base d.items ls c1 hl) (decls_part c1 ds rest f hr))

-- statements

abbrev pub StmtPart : Env → Env → TStmt → Type 0
StmtPart c f t = Part c f (starts_stmt t) (autos_stmt t) (in_stmt t)

abbrev pub StmtsPart : Env → Env → TStmts → Type 0
StmtsPart c f t = Part c f (starts_stmts t) (autos_stmts t) (in_stmts t)

abbrev pub ItemsPart : Env → Env → TItems → Type 0
ItemsPart c f t = Part c f (starts_items t) (autos_items t) (in_items t)

used_texts : (c : Env) (a : Expr) (v : TExpr) → Gives used c a v → Counts (length c.texts) (text_numbers (in_expr v)) (length (past a c).texts)
used_texts c a v g = gives_texts used used_says c a v g

test_texts : (c : Env) (a : Expr) (v : TExpr) → Gives (scalar 15) c a v → Counts (length c.texts) (text_numbers (in_expr v)) (length (past a c).texts)
test_texts c a v g = gives_texts (scalar 15) (scalar_says 15) c a v g

-- a start with its expression, and what stands behind
with_start : (c f : Env) (l : ℕ) (a : Expr) (v : TExpr) (ss : List Start) (as_ : List Auto) (ms : List Mention) → Counts (length c.texts) (text_numbers (in_expr v)) (length (past a c).texts) →
    Part (past a (started 1 c)) f ss as_ ms → Part c f (at c.starts l ∷ ss) as_ (in_expr v ++ ms)
with_start c f l a v ss as_ ms t h = part_both c (past a (started 1 c)) f (at c.starts l ∷ []) ss [] as_ (in_expr v) ms (started_expr c l a v t) h

-- the three starts of a `for`
three : (n : ℕ) → Counts n (n ∷ ((n + 1) ∷ ((n + 2) ∷ []))) (n + 3)
three n = (refl, (omega arith, (omega arith, omega arith)))

same_texts : (a : Option Expr) (c d : Env) → c.texts ≡ d.texts → (past_option a c).texts ≡ (past_option a d).texts
same_texts None c d q = q
same_texts (Some a) c d q = ap (λ z. z ++ texts_in a) q

-- behind the parts of a `for`
behind_for : Option Expr → Option Expr → Option Expr → Env → Env
behind_for a b d c = past_option d (past_option b (past_option a c))

for_numbers : (a b d : Option Expr) (c : Env) → SameNumbers c (behind_for a b d c)
unfolding behind_for
for_numbers a b d c =
    let h = option_numbers a c in
    let k = option_numbers b (past_option a c) in
    let m = option_numbers d (past_option b (past_option a c)) in
    record { starts = m.starts ∙ k.starts ∙ h.starts; autos = m.autos ∙ k.autos ∙ h.autos; statics = m.statics ∙ k.statics ∙ h.statics; file = m.file ∙ k.file ∙ h.file }

-- the parts of a `for`
for_part : (c : Env) (l : ℕ) (a b d : Option Expr) (v1 v2 v3 : Option TExpr) → Maybe (Gives used c) a v1 → Maybe (Gives (scalar 15) (past_option a c)) b v2 →
    Maybe (Gives used (past_option b (past_option a c))) d v3 →
    Part c (past_option d (past_option b (past_option a (started 3 c)))) (at c.starts l ∷ (at (c.starts + 1) l ∷ (at (c.starts + 2) l ∷ []))) [] (in_option v1 ++ (in_option v2 ++ in_option v3))
unfolding behind_for
for_part c l a b d v1 v2 v3 h1 h2 h3 =
    let c1 = past_option a c in
    let c2 = past_option b c1 in
    let p1 = option_part used used_says c a v1 h1 in
    let p2 = option_part (scalar 15) (scalar_says 15) c1 b v2 h2 in
    let p3 = option_part used used_says c2 d v3 h3 in
    let p = part_both c c1 (past_option d c2) [] [] [] [] (in_option v1) (in_option v2 ++ in_option v3) p1 (part_both c1 c2 (past_option d c2) [] [] [] [] (in_option v2) (in_option v3) p2 p3) in
    let m = for_numbers a b d (started 3 c) in
    let t = same_texts d c2 (past_option b (past_option a (started 3 c))) (same_texts b c1 (past_option a (started 3 c)) (same_texts a c (started 3 c) refl)) in
    let n = for_numbers a b d c in
    record {
      starts = subst (λ z. Counts c.starts (c.starts ∷ ((c.starts + 1) ∷ ((c.starts + 2) ∷ []))) z) (sym m.starts) (three c.starts);
      autos = sym m.autos;
      texts = subst (λ z. Counts (length c.texts) (text_numbers (in_option v1 ++ (in_option v2 ++ in_option v3))) (length z)) t p.texts;
      statics = subst (λ z. Counts c.statics (own_numbers (in_option v1 ++ (in_option v2 ++ in_option v3))) z) (n.statics ∙ sym m.statics) p.statics;
      file = m.file;
    }

-- a `return`
returned_part : (c : Env) (l : ℕ) (r : CType) (a : Option Expr) (v : Option TExpr) → Maybe (Gives (returned c r) c) a v → Part c (past_option a (started 1 c)) (at c.starts l ∷ []) [] (in_option v)
returned_part c l r None v h = subst (λ z. Part c (started 1 c) (at c.starts l ∷ []) [] (in_option z)) (sym h) (begun c l)
returned_part c l r (Some a) v (w, g, q) =
    subst (λ z. Part c (past a (started 1 c)) (at c.starts l ∷ []) [] (in_option z)) (sym q) (started_expr c l a w (gives_texts (returned c r) (value_says 23 c r) c a w g))

mutual
  pub stmt_part : (c : Env) (p : Place) (s : us.Stmt) (t : TStmt) (f : Env) → IsStmt c p s t f → StmtPart c f t
  stmt_part c p (us.expr l a) t f (v, h, q, e) =
      subst (StmtPart c f) (sym q) (subst (λ z. Part c z (at c.starts l ∷ []) [] (in_expr v)) (sym e) (started_expr c l a v (used_texts c a v h)))
  stmt_part c p (us.empty l) t f h = subst (StmtPart c f) (sym h.0) (subst (λ z. Part c z (at c.starts l ∷ []) [] []) (sym h.1) (begun c l))
  stmt_part c p (us.if_only l a s) t f (v, x, h, k, q) =
      subst (StmtPart c f) (sym q) (with_start c f l a v (starts_stmt x) (autos_stmt x) (in_stmt x) (test_texts c a v h) (stmt_part _ p s x f k))
  stmt_part c p (us.if_else l a s z) t f (v, x, y, c1, h, k, g, q) =
      subst (StmtPart c f) (sym q)
      (with_start c f l a v (starts_stmt x ++ starts_stmt y) (autos_stmt x ++ autos_stmt y) (in_stmt x ++ in_stmt y) (test_texts c a v h)
      (part_both _ c1 f (starts_stmt x) (starts_stmt y) (autos_stmt x) (autos_stmt y) (in_stmt x) (in_stmt y) (stmt_part _ p s x c1 k) (stmt_part c1 p z y f g)))
  stmt_part c p (us.while l a s) t f (v, x, h, k, q) =
      subst (StmtPart c f) (sym q) (with_start c f l a v (starts_stmt x) (autos_stmt x) (in_stmt x) (test_texts c a v h) (stmt_part _ (in_loop p) s x f k))
  stmt_part c p (us.do_while l s m a) t f (x, v, c1, k, h, q, e) =
      subst (StmtPart c f) (sym q)
      (subst (λ z. Part c f (starts_stmt x ++ at c1.starts m ∷ []) z (in_stmt x ++ in_expr v)) (append-nil (autos_stmt x))
      (part_both c c1 f (starts_stmt x) (at c1.starts m ∷ []) (autos_stmt x) [] (in_stmt x) (in_expr v) (stmt_part c (in_loop p) s x c1 k)
      (subst (λ z. Part c1 z (at c1.starts m ∷ []) [] (in_expr v)) (sym e) (started_expr c1 m a v (test_texts c1 a v h)))))
  stmt_part c p (us.for l a b d s) t f (v1, v2, v3, x, h1, h2, h3, k, q) =
      let w = part_both c _ f (at c.starts l ∷ (at (c.starts + 1) l ∷ (at (c.starts + 2) l ∷ []))) (starts_stmt x) [] (autos_stmt x) (in_option v1 ++ (in_option v2 ++ in_option v3)) (in_stmt x)
      (for_part c l a b d v1 v2 v3 h1 h2 h3) (stmt_part _ (in_loop p) s x f k) in
      let e = append_assoc (in_option v1) (in_option v2 ++ in_option v3) (in_stmt x) ∙ ap (λ z. in_option v1 ++ z) (append_assoc (in_option v2) (in_option v3) (in_stmt x)) in
      subst (StmtPart c f) (sym q) (subst (λ z. Part c f (at c.starts l ∷ (at (c.starts + 1) l ∷ (at (c.starts + 2) l ∷ starts_stmt x))) (autos_stmt x) z) e w)
  stmt_part c p (us.switch l a is) t f (v, js, h, k, z, q) =
      subst (StmtPart c f) (sym q)
      (with_start c f l a v (starts_items js) (autos_items js) (in_items js) (gives_texts (integer 24) (integer_says 24) c a v h) (items_part _ (in_switch p) is js f k))
  stmt_part c p (us.break l) t f (g, q, e) = subst (StmtPart c f) (sym q) (subst (λ z. Part c z (at c.starts l ∷ []) [] []) (sym e) (begun c l))
  stmt_part c p (us.continue l) t f (g, q, e) = subst (StmtPart c f) (sym q) (subst (λ z. Part c z (at c.starts l ∷ []) [] []) (sym e) (begun c l))
  stmt_part c p (us.return l a) t f (v, h, q, e) =
      subst (StmtPart c f) (sym q) (subst (λ z. Part c z (at c.starts l ∷ []) [] (in_option v)) (sym e) (returned_part c l p.result a v h))
  stmt_part c p (us.block l ds ss m) t f (xs, ys, c1, c2, h, k, q, e) =
      let w = part_both (enter c) c1 c2 (flat_map starts_local (locals xs)) (starts_stmts ys) (flat_map autos_local (locals xs)) (autos_stmts ys) (flat_map in_local (locals xs)) (in_stmts ys)
      (decls_part (enter c) ds xs c1 h) (stmts_part c1 p ss ys c2 k) in
      subst (StmtPart c f) (sym q)
      (subst (λ z. Part c z (flat_map starts_local (locals xs) ++ starts_stmts ys) (flat_map autos_local (locals xs) ++ autos_stmts ys) (flat_map in_local (locals xs) ++ in_stmts ys)) (sym e)
      (record { starts = w.starts; autos = w.autos; texts = w.texts; statics = w.statics; file = w.file }))

  pub stmts_part : (c : Env) (p : Place) (ss : us.Stmts) (ys : TStmts) (f : Env) → AreStmts c p ss ys f → StmtsPart c f ys
  stmts_part c p us.no_stmts ys f h = subst (StmtsPart c f) (sym h.0) (here_part c f h.1)
  stmts_part c p (us.more_stmts s ss) ys f (x, rest, c1, h, k, q) =
      subst (StmtsPart c f) (sym q)
      (part_both c c1 f (starts_stmt x) (starts_stmts rest) (autos_stmt x) (autos_stmts rest) (in_stmt x) (in_stmts rest) (stmt_part c p s x c1 h) (stmts_part c1 p ss rest f k))

  items_part : (c : Env) (p : Place) (is : us.SwItems) (js : TItems) (f : Env) → AreItems c p is js f → ItemsPart c f js
  items_part c p us.no_items js f h = subst (ItemsPart c f) (sym h.0) (here_part c f h.1)
  items_part c p (us.more_items (us.case l a) is) js f (m, rest, h, k, q) =
      subst (ItemsPart c f) (sym q)
      (part_both c (past a c) f [] (starts_items rest) [] (autos_items rest) (in_expr m.expr) (in_items rest) (expr_part c a m.expr (constant_texts c a m h)) (items_part (past a c) p is rest f k))
  items_part c p (us.more_items (us.default l) is) js f (rest, k, q) = subst (ItemsPart c f) (sym q) (items_part c p is rest f k)
  items_part c p (us.more_items (us.stmt s) is) js f (x, rest, c1, h, k, q) =
      subst (ItemsPart c f) (sym q)
      (part_both c c1 f (starts_stmt x) (starts_items rest) (autos_stmt x) (autos_items rest) (in_stmt x) (in_items rest) (stmt_part c p s x c1 h) (items_part c1 p is rest f k))
