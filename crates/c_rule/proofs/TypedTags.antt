-- The tags of a typed unit are laid: only the closing brace of a tag adds one, and its members are sized there.
use Rattle.std.proofs.Common.{◌≡◌, ℕ, ◌≤◌, List, [], ◌∷◌, ◌++◌, length, map, Option, Some, None, Bool, true, false, refl, sym, ap, ◌∙◌, subst, arith}
use Rattle.std.proofs.lemmas.Bool.{ltb-true}
use Rattle.c_type.specs.Names.{Name}
use Rattle.c_type.specs.Types.{CType, num, void, ptr, arr, struct, union, enum, fun, Member, Tag}
use Rattle.c_type.specs.declared.TagKind.TheVariants.{Struct, Enum}
use Rattle.c_type.specs.Sizes.{IsWithin, AreWithin, AreLaid, laid_as}
use Rattle.c_tree.specs.declared.decl.Storage.TheVariants as sg
use Rattle.c_tree.specs.TreeDecl as ud
use Rattle.c_tree.specs.declared.decl.Storage.{Storage}
use Rattle.c_tree.specs.TreeExpr.{Expr}
use Rattle.c_tree.specs.TreeStmt as us
use Rattle.c_tree.specs.TreeStmt.{Block}
use Rattle.c_tree.specs.TreeUnit as uu
use Rattle.c_tree.specs.TStmt as st
use Rattle.c_tree.specs.TStmt.{Declr, Local, LocalDecl, TStmt, TStmts, TItems}
use Rattle.c_tree.specs.TUnit.{Spec, Mems, Enumerator, Item, ParDecl, Func, TExt}
use Rattle.c_rule.specs.Laws.{TagsAreLaid}
use Rattle.c_rule.specs.RuleScope.{Env, known, is_sized, past, past_option, started}
use Rattle.c_rule.specs.RuleDecls.{past_declr, fills_chars, IsSingle, IsInit, AreInits, Begins, part_types}
use Rattle.c_rule.specs.RuleStmts.{past_init, enter, IsLocalBy, AreLocals, AreDecls, Place, in_loop, in_switch, IsStmt, AreStmts, AreItems}
use Rattle.c_rule.specs.RuleTags.{AreEnumerators, AreMembers, AreTypes, IsDef, AreMems, IsMem, AreTypesOrInt, unplaced, as_member, member_of}
use Rattle.c_rule.specs.RuleNames.{types_of}
use Rattle.c_rule.specs.RuleUnit as r
use Rattle.c_rule.specs.RuleUnit.{IsItemBy, AreAliases, AreParameters, AreParDecls, list_of, in_body, at_body, parameters, IsHead, IsBody, IsExt, AreExts, at_first}
use Rattle.c_rule.proofs.LaidTags.{laid_with, count_more, all_within_more}

-- parts that close no tag

option_tags : (a : Option Expr) (c : Env) → (past_option a c).tags ≡ c.tags
option_tags None c = refl
option_tags (Some a) c = refl

declr_tags : (d : ud.Declr) (c : Env) → (past_declr d c).tags ≡ c.tags
declr_tags (ud.pointer l d) c = declr_tags d c
declr_tags (ud.name l x) c = refl
declr_tags (ud.array l d a) c = option_tags a (past_declr d c) ∙ declr_tags d c
declr_tags (ud.function l d xs) c = declr_tags d c

auto_tags : (i : ud.Init) (c : Env) → (past_init i c).tags ≡ c.tags
auto_tags (ud.single a) c = refl
auto_tags (ud.group l is) c = refl

single_tags : (b : Bool) (c : Env) (t : CType) (a : Expr) (j : st.Init) (f : Env) → IsSingle b c t a j f → f.tags ≡ c.tags
single_tags true c t a j f h = ap (λ z. z.tags) h.1
single_tags false c t a j f h = ap (λ z. z.tags) h.3

mutual
  init_tags : (c : Env) (t : CType) (i : ud.Init) (j : st.Init) (f : Env) → IsInit c t i j f → f.tags ≡ c.tags
  init_tags c t (ud.single a) j f h = single_tags (fills_chars t a) c t a j f h
  init_tags c t (ud.group l is) j f (js, g, h, q) = inits_tags c (part_types c.tags t) is js f h

  inits_tags : (c : Env) (ts : List CType) (is : ud.Inits) (js : st.Inits) (f : Env) → AreInits c ts is js f → f.tags ≡ c.tags
  inits_tags c ts ud.no_inits js f h = ap (λ z. z.tags) h.1
  inits_tags c [] (ud.more_inits i is) js f h = absurd h
  inits_tags c (t ∷ ts) (ud.more_inits i is) js f (j, rest, c1, h, k, q) = inits_tags c1 ts is rest f k ∙ init_tags c t i j c1 h

begins_tags : (c : Env) (t : CType) (i : Option ud.Init) (j : Option st.Init) (f : Env) → Begins c t i j f → f.tags ≡ c.tags
begins_tags c t None j f h = ap (λ z. z.tags) h.1
begins_tags c t (Some i) j f (k, h, q) = init_tags c t i k f h

auto_local_tags : (c : Env) (l : ℕ) (d : Declr) (i : Option ud.Init) (x : Local) (f : Env) → IsLocalBy false None c l d i x f → f.tags ≡ c.tags
auto_local_tags c l d None x f (c1, z, k, q, p) = ap (λ z. z.tags) p ∙ ap (λ z. z.tags) k.1
auto_local_tags c l d (Some a) x f (w, c1, z, k, g, q, p) = ap (λ z. z.tags) p ∙ auto_tags a _ ∙ ap (λ z. z.tags) k.1

local_tags : (b : Bool) (s : Option Storage) (c : Env) (l : ℕ) (d : Declr) (i : Option ud.Init) (x : Local) (f : Env) → IsLocalBy b s c l d i x f → f.tags ≡ c.tags
local_tags true s c l d i x f (q, k, p) = ap (λ z. z.tags) k.1
local_tags false None c l d i x f h = auto_local_tags c l d i x f h
local_tags false (Some sg.Auto) c l d i x f h = auto_local_tags c l d i x f h
local_tags false (Some sg.Register) c l d i x f h = auto_local_tags c l d i x f h
local_tags false (Some sg.Extern) c l d i x f (q, k, p) = ap (λ z. z.tags) k.1
local_tags false (Some sg.Static) c l d i x f (j, c1, c2, z, k, g, q, p) = ap (λ z. z.tags) p ∙ begins_tags c1 d.ty i j c2 g ∙ ap (λ z. z.tags) k.1

locals_tags : (c : Env) (s : Option Storage) (base : CType) (is : List ud.Item) (xs : List Local) (f : Env) → AreLocals c s base is xs f → f.tags ≡ c.tags
locals_tags c s base [] xs f h = ap (λ z. z.tags) h.1
locals_tags c s base (i ∷ is) xs f (d, x, rest, c1, hd, hx, hr, q) =
    locals_tags c1 s base is rest f hr ∙ local_tags _ s (past_declr i.declr c) _ d i.init x c1 hx ∙ declr_tags i.declr c

decls_tags : (c : Env) (ds : List ud.LocalDecl) (xs : List LocalDecl) (f : Env) → AreDecls c ds xs f → f.tags ≡ c.tags
decls_tags c [] xs f h = ap (λ z. z.tags) h.1
decls_tags c (d ∷ ds) xs f (base, ls, rest, c1, hb, hl, hr, q) = decls_tags c1 ds rest f hr ∙ locals_tags c d.specs.storage base d.items ls c1 hl

mutual
  stmt_tags : (c : Env) (p : Place) (s : us.Stmt) (t : TStmt) (f : Env) → IsStmt c p s t f → f.tags ≡ c.tags
  stmt_tags c p (us.expr l a) t f (v, h, q, e) = ap (λ z. z.tags) e
  stmt_tags c p (us.empty l) t f h = ap (λ z. z.tags) h.1
  stmt_tags c p (us.if_only l a s) t f (v, x, h, k, q) = stmt_tags (past a (started 1 c)) p s x f k
  stmt_tags c p (us.if_else l a s z) t f (v, x, y, c1, h, k, g, q) = stmt_tags c1 p z y f g ∙ stmt_tags (past a (started 1 c)) p s x c1 k
  stmt_tags c p (us.while l a s) t f (v, x, h, k, q) = stmt_tags (past a (started 1 c)) (in_loop p) s x f k
  stmt_tags c p (us.do_while l s m a) t f (x, v, c1, k, h, q, e) = ap (λ z. z.tags) e ∙ stmt_tags c (in_loop p) s x c1 k
  stmt_tags c p (us.for l a b d s) t f (v1, v2, v3, x, h1, h2, h3, k, q) =
      stmt_tags _ (in_loop p) s x f k ∙ option_tags d _ ∙ option_tags b _ ∙ option_tags a (started 3 c)
  stmt_tags c p (us.switch l a is) t f (v, js, h, k, z, q) = items_tags (past a (started 1 c)) (in_switch p) is js f k
  stmt_tags c p (us.break l) t f (g, q, e) = ap (λ z. z.tags) e
  stmt_tags c p (us.continue l) t f (g, q, e) = ap (λ z. z.tags) e
  stmt_tags c p (us.return l a) t f (v, h, q, e) = ap (λ z. z.tags) e ∙ option_tags a (started 1 c)
  stmt_tags c p (us.block l ds ss m) t f (xs, ys, c1, c2, h, k, q, e) = ap (λ z. z.tags) e ∙ stmts_tags c1 p ss ys c2 k ∙ decls_tags (enter c) ds xs c1 h

  stmts_tags : (c : Env) (p : Place) (ss : us.Stmts) (ys : TStmts) (f : Env) → AreStmts c p ss ys f → f.tags ≡ c.tags
  stmts_tags c p us.no_stmts ys f h = ap (λ z. z.tags) h.1
  stmts_tags c p (us.more_stmts s ss) ys f (x, rest, c1, h, k, q) = stmts_tags c1 p ss rest f k ∙ stmt_tags c p s x c1 h

  items_tags : (c : Env) (p : Place) (is : us.SwItems) (js : TItems) (f : Env) → AreItems c p is js f → f.tags ≡ c.tags
  items_tags c p us.no_items js f h = ap (λ z. z.tags) h.1
  items_tags c p (us.more_items (us.case l a) is) js f (m, rest, h, k, q) = items_tags (past a c) p is rest f k
  items_tags c p (us.more_items (us.default l) is) js f (rest, k, q) = items_tags c p is rest f k
  items_tags c p (us.more_items (us.stmt s) is) js f (x, rest, c1, h, k, q) = items_tags c1 p is rest f k ∙ stmt_tags c p s x c1 h

enumerators_tags : (c : Env) (b : Option ℕ) (xs : List ud.En) (ys : List Enumerator) (f : Env) → AreEnumerators c b xs ys f → f.tags ≡ c.tags
enumerators_tags c b [] ys f h = ap (λ z. z.tags) h.1
enumerators_tags c b (x ∷ xs) ys f (y, rest, h, g, k, q) = enumerators_tags _ _ xs rest f k ∙ option_tags x.value c

parameters_tags : (c : Env) (xs : List Name) (base : CType) (ds : List ud.Declr) (ys : List Declr) (f : Env) → AreParameters c xs base ds ys f → f.tags ≡ c.tags
parameters_tags c xs base [] ys f h = ap (λ z. z.tags) h.1
parameters_tags c xs base (d ∷ ds) ys f (y, rest, h, g, s, k, q) = parameters_tags (past_declr d c) xs base ds rest f k ∙ declr_tags d c

outside_tags : (c : Env) (d : Declr) (i : Option ud.Init) (x : Item) (f : Env) → IsItemBy false None c d i x f → f.tags ≡ c.tags
outside_tags c d i x f (j, c1, z, k, g, q) = begins_tags c1 d.ty i j f g ∙ ap (λ z. z.tags) k.2

item_tags : (b : Bool) (s : Option Storage) (c : Env) (d : Declr) (i : Option ud.Init) (x : Item) (f : Env) → IsItemBy b s c d i x f → f.tags ≡ c.tags
item_tags true s c d i x f (q, k, p) = ap (λ z. z.tags) k.2
item_tags false None c d i x f h = outside_tags c d i x f h
item_tags false (Some sg.Auto) c d i x f h = outside_tags c d i x f h
item_tags false (Some sg.Register) c d i x f h = outside_tags c d i x f h
item_tags false (Some sg.Extern) c d i x f (q, k, p) = ap (λ z. z.tags) k.2
item_tags false (Some sg.Static) c d i x f (j, c1, c2, z, k, g, q, p) = ap (λ z. z.tags) p ∙ begins_tags c1 d.ty i j c2 g ∙ ap (λ z. z.tags) k.2

file_items_tags : (c : Env) (s : Option Storage) (base : CType) (is : List ud.Item) (xs : List Item) (f : Env) → r.AreItems c s base is xs f → f.tags ≡ c.tags
file_items_tags c s base [] xs f h = ap (λ z. z.tags) h.1
file_items_tags c s base (i ∷ is) xs f (d, x, rest, c1, hd, hx, hr, q) =
    file_items_tags c1 s base is rest f hr ∙ item_tags _ s (past_declr i.declr c) d i.init x c1 hx ∙ declr_tags i.declr c

aliases_tags : (c : Env) (base : CType) (ds : List ud.Declr) (xs : List Declr) (f : Env) → AreAliases c base ds xs f → f.tags ≡ c.tags
aliases_tags c base [] xs f h = ap (λ z. z.tags) h.1
aliases_tags c base (d ∷ ds) xs f (x, rest, hd, g, hr, q) = aliases_tags _ base ds rest f hr ∙ declr_tags d c

-- parts that may close tags

-- no tag goes away, and laid tags stay laid
record Grows (c f : Env) : Type 0 where
  more : known c ≤ known f
  laid : AreLaid c.tags → AreLaid f.tags

same_grows : (c f : Env) → f.tags ≡ c.tags → Grows c f
same_grows c f q = record { more = subst (λ ts. known c ≤ length ts) (sym q) (omega arith); laid = λ h. subst AreLaid (sym q) h }

then_grows : (c d f : Env) → Grows c d → Grows d f → Grows c f
then_grows c d f h k = record { more = let p = h.more in let q = k.more in omega arith; laid = λ g. k.laid (h.laid g) }

-- a type whose size is known holds closed tags alone
sized_within : (n : ℕ) (t : CType) → is_sized n t ≡ true → IsWithin n t
sized_within n (num k) h = tt
sized_within n void h = tt
sized_within n (ptr t) h = tt
sized_within n (arr m t) h = sized_within n t h
sized_within n (struct k) h = ltb-true k n h
sized_within n (union k) h = ltb-true k n h
sized_within n (enum k) h = tt
sized_within n (fun t) h = tt

both_within : (n : ℕ) (xs ys : List Member) → AreWithin n xs → AreWithin n ys → AreWithin n (xs ++ ys)
both_within n [] ys h k = k
both_within n (x ∷ xs) ys h k = (h.0, both_within n xs ys h.1 k)

members_tags : (c : Env) (base : CType) (ds : List ud.Declr) (ys : List Declr) (f : Env) → AreMembers c base ds ys f → (f.tags ≡ c.tags) × AreWithin (known c) (map member_of ys)
members_tags c base [] ys f h = (ap (λ z. z.tags) h.1, subst (λ z. AreWithin (known c) (map member_of z)) (sym h.0) tt)
members_tags c base (d ∷ ds) ys f (y, rest, h, g, s, k, q) =
    let p = members_tags (past_declr d c) base ds rest f k in
    let e = subst (λ z. AreWithin (length z) (map member_of rest)) (declr_tags d c) p.1 in
    (p.0 ∙ declr_tags d c, subst (λ z. AreWithin (known c) (map member_of z)) (sym q) (sized_within (known c) y.ty s, e))

-- a structure whose members are sized is closed
closed_grows : (c : Env) (t : Tag) → ((AreLaid c.tags) → AreLaid (c.tags ++ laid_as t.kind c.tags t ∷ [])) → (f : Env) → f.tags ≡ c.tags ++ laid_as t.kind c.tags t ∷ [] → Grows c f
closed_grows c t h f q = record {
  more = subst (λ n. known c ≤ n) (sym (ap length q ∙ count_more c.tags (laid_as t.kind c.tags t))) (omega arith);
  laid = λ g. subst AreLaid (sym q) (h g);
}

mutual
  types_grow : (c : Env) (y : ud.Types) (s : Spec) (b : CType) (f : Env) → AreTypes c y s b f → Grows c f
  types_grow c (ud.spec y) s b f (h, q, e) = same_grows c f (ap (λ z. z.tags) e)
  types_grow c (ud.def d) s b f h = def_grows c d s b f h

  def_grows : (c : Env) (d : ud.TagDef) (s : Spec) (b : CType) (f : Env) → IsDef c d s b f → Grows c f
  def_grows c (ud.struct l x ms) s b f (ys, ns, c1, h, g, q, e, w) =
      let p = mems_grow c ms ys ns c1 h in
      then_grows c c1 f p.0 (closed_grows c1 (unplaced x Struct ns) (λ k. laid_with c1.tags (unplaced x Struct ns) k p.1) f (ap (λ z. z.tags) w))
  def_grows c (ud.union l x ms) s b f h = absurd h
  def_grows c (ud.enum l x es) s b f (ys, c1, h, q, e, w) =
      then_grows c c1 f (same_grows c c1 (enumerators_tags c None es ys c1 h)) (closed_grows c1 (unplaced x Enum (map as_member ys)) (λ k. laid_with c1.tags (unplaced x Enum (map as_member ys)) k tt) f (ap (λ z. z.tags) w))

  mems_grow : (c : Env) (ms : ud.Mems) (ys : Mems) (ns : List Member) (f : Env) → AreMems c ms ys ns f → Grows c f × AreWithin (known f) ns
  mems_grow c ud.no_mems ys ns f h = (same_grows c f (ap (λ z. z.tags) h.2), subst (AreWithin (known f)) (sym h.1) tt)
  mems_grow c (ud.more_mems m ms) ys ns f (s, ds, rest, others, c1, h, k, q, e) =
      let p = mem_grows c m s ds c1 h in
      let p1 = mems_grow c1 ms rest others f k in
      let le : known c1 ≤ known f = p1.0.more in
      (then_grows c c1 f p.0 p1.0, subst (AreWithin (known f)) (sym e) (both_within (known f) (map member_of ds) others (all_within_more (known c1) (known f) (map member_of ds) le p.1) p1.1))

  mem_grows : (c : Env) (m : ud.Mem) (s : Spec) (xs : List Declr) (f : Env) → IsMem c m s xs f → Grows c f × AreWithin (known f) (map member_of xs)
  mem_grows c (ud.mem l y ds) s xs f (b, c1, h, k) =
      let p = members_tags c1 b ds xs f k in
      (then_grows c c1 f (types_grow c y s b c1 h) (same_grows c1 f p.0), subst (λ z. AreWithin (length z) (map member_of xs)) (sym p.0) p.1)

types_or_int_grow : (c : Env) (y : Option ud.Types) (s : Spec) (b : CType) (f : Env) → AreTypesOrInt c y s b f → Grows c f
types_or_int_grow c None s b f h = same_grows c f (ap (λ z. z.tags) h.2)
types_or_int_grow c (Some y) s b f h = types_grow c y s b f h

par_decls_grow : (c : Env) (xs : List Name) (ps : List ud.ParDecl) (ys : List ParDecl) (f : Env) → AreParDecls c xs ps ys f → Grows c f
par_decls_grow c xs [] ys f h = same_grows c f (ap (λ z. z.tags) h.1)
par_decls_grow c xs (p ∷ ps) ys f (s, b, ds, rest, c1, c2, ht, hp, hr, q) =
    then_grows c c1 f (types_grow c p.types s b c1 ht) (then_grows c1 c2 f (same_grows c1 c2 (parameters_tags c1 xs b p.declrs ds c2 hp)) (par_decls_grow c2 xs ps rest f hr))

head_grows : (c : Env) (s : Bool) (h : ud.Declr) (d : Declr) (ps : List ud.ParDecl) (ys : List ParDecl) (f : Env) → IsHead c s h d ps ys f → Grows c f
head_grows c s h d ps ys f (c1, hp, g1, g2, k) = then_grows c c1 f (par_decls_grow c (list_of h) ps ys c1 hp) (same_grows c1 f (ap (λ z. z.tags) k.2))

body_grows : (c : Env) (s : Bool) (h : ud.Declr) (d : Declr) (ps : List ud.ParDecl) (b : Block) (g : Func) (f : Env) → IsBody c s h d ps b g f → Grows c f
body_grows c s h d ps b g f (c1, c2, c3, t, hh, hl, hs, q1, q2, q3, q4, q5, q6, q7, q8) =
    let e = ap (λ z. z.tags) q8 ∙ stmts_tags c2 (at_body g.result) b.stmts g.stmts c3 hs ∙ decls_tags (in_body (parameters h g.declared) c1) b.decls g.locals c2 hl in
    then_grows c c1 f (head_grows c s h d ps g.declared c1 hh) (same_grows c1 f e)

ext_grows : (c : Env) (y : uu.Ext) (x : TExt) (f : Env) → IsExt c y x f → Grows c f
ext_grows c (uu.typedef l y ds) x f (s, b, xs, c1, h, k, q) = then_grows c c1 f (types_or_int_grow c y s b c1 h) (same_grows c1 f (aliases_tags c1 b ds xs f k))
ext_grows c (uu.tag_only l (ud.ref t)) x f (b, h, q, e) = same_grows c f (ap (λ z. z.tags) e)
ext_grows c (uu.tag_only l (ud.body d)) x f (s, b, h, q) = def_grows c d s b f h
ext_grows c (uu.object l s is) x f (y, b, xs, c1, h, k, q) = then_grows c c1 f (types_or_int_grow c s.types y b c1 h) (same_grows c1 f (file_items_tags c1 s.storage b is xs f k))
ext_grows c (uu.func l s h ps b) x f (y, base, d, g, c1, ht, hd, hb, q) = then_grows c c1 f (types_or_int_grow c (types_of s) y base c1 ht) (body_grows c1 _ h d ps b g f hb)

exts_grow : (c : Env) (ys : List uu.Ext) (xs : List TExt) (f : Env) → AreExts c ys xs f → Grows c f
exts_grow c [] xs f h = same_grows c f (ap (λ z. z.tags) h.1)
exts_grow c (y ∷ ys) xs f (x, rest, c1, h, k, q) = then_grows c c1 f (ext_grows c y x c1 h) (exts_grow c1 ys rest f k)

pub unit_laid : TagsAreLaid
unit_laid y x h = subst AreLaid (sym h.tags) ((exts_grow (at_first y) y.exts x.exts h.last h.parts).laid (record { earlier = λ k lt. absurd (omega arith); laid = λ k lt. absurd (omega arith) }))
