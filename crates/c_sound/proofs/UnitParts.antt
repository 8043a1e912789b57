-- The numbers in a typed unit are in textual order.
use Rattle.std.proofs.Common.{◌≡◌, ℕ, suc, ◌+◌, List, [], ◌∷◌, ◌++◌, length, map, Option, Some, None, Bool, true, false, refl, sym, ap, ◌∙◌, subst, arith}
use Rattle.std.specs.List.{flat_map}
use Rattle.std.proofs.lemmas.List.{append_assoc}
use Rattle.c_type.specs.Names.{Name, pick}
use Rattle.c_type.specs.Types.{CType, Member, Tag}
use Rattle.c_type.specs.declared.TagKind.TheVariants.{Struct, Enum}
use Rattle.c_tree.specs.declared.decl.Storage.{Storage}
use Rattle.c_tree.specs.declared.decl.Storage.TheVariants as sg
use Rattle.c_tree.specs.declared.typed_unit.Bound.TheVariants.{Own, Outside, Elsewhere, OwnFunction, OutsideFunction}
use Rattle.c_tree.specs.TreeDecl as ud
use Rattle.c_tree.specs.TreeStmt.{Block}
use Rattle.c_tree.specs.TreeUnit as uu
use Rattle.c_tree.specs.TExpr as e
use Rattle.c_tree.specs.TStmt as st
use Rattle.c_tree.specs.TStmt.{Declr, locals}
use Rattle.c_tree.specs.TUnit as t
use Rattle.c_tree.specs.TUnit.{Item, ParDecl, Func, TExt, TypedUnit, Enumerator, Spec, Mems, funcs_of}
use Rattle.c_tree.specs.Bodies.{Auto, autos, autos_local, autos_stmts}
use Rattle.c_tree.specs.Starts.{at, starts_func, starts_local, starts_stmts}
use Rattle.c_run.specs.Mentions as m
use Rattle.c_run.specs.Mentions.{Mention, in_expr, in_option, in_local, in_stmts, in_item, in_ext, in_exts, in_spec, in_mems, in_enumerator, in_declr, in_begin, in_pars}
use Rattle.c_run.specs.Numbers.{text_numbers, own_numbers, IsCounted, AllCounted}
use Rattle.c_rule.specs.RuleScope.{Env, Alias, Constant, Thing, in_scope, past_option, close, started}
use Rattle.c_rule.specs.RuleTypes.{is_function}
use Rattle.c_rule.specs.RuleDecls.{past_declr}
use Rattle.c_rule.specs.RuleNames.{types_of}
use Rattle.c_rule.specs.RuleStmts.{missing, is_static}
use Rattle.c_rule.specs.RuleTags.{IsValued, AreEnumerators, AreMembers, AreTypes, IsDef, AreMems, IsMem, AreTypesOrInt, in_file, unplaced, as_member}
use Rattle.c_rule.specs.RuleUnit as r
use Rattle.c_rule.specs.RuleUnit.{own_number, next_static, IsItemBy, AreItems, AreAliases, AreParameters, AreParDecls, list_of, in_body, at_body, parameters, IsHead, IsBody, IsExt, AreExts, at_first, IsTyped}
use Rattle.c_sound.specs.Laws.{TypedIsNumbered}
use Rattle.c_sound.proofs.Counts.{Counts, counts_counted, counts_length}
use Rattle.c_sound.proofs.TextOrder.{texts_both, own_both, constant_texts}
use Rattle.c_sound.proofs.Parts.{Part, part_both, expr_part, declr_part, begins_part, own_begin, own_all, own_begun}
use Rattle.c_sound.proofs.BlockParts.{decls_part, stmts_part}
use Rattle.c_sound.proofs.FileParts.{Seen, first_seen, AllBelow, FilePart, file_both, part_file, same_file, here_file, said_file, all_below_more, scope_below, declared_part, owned_by}
use Rattle.std.proofs.lemmas.List.{append-nil}

-- words outside of blocks

option_file : (c : Env) (before : Option ℕ) (a : Option e.TExpr) (x : Option _) (y : Enumerator) → IsValued c before x y → FilePart c (past_option x c) [] (in_enumerator y)
option_file c before a None y h = subst (λ z. FilePart c c [] (in_option z)) (sym h.0) (here_file c c refl)
option_file c before a (Some x) y (k, h, v, q) = subst (λ z. FilePart c (past_option (Some x) c) [] (in_option z)) (sym q) (part_file c _ [] [] (in_expr k.expr) (expr_part c x k.expr (constant_texts c x k h)))

enumerators_file : (c : Env) (b : Option ℕ) (xs : List ud.En) (ys : List Enumerator) (f : Env) → AreEnumerators c b xs ys f → FilePart c f [] (flat_map in_enumerator ys)
enumerators_file c b [] ys f h = subst (λ z. FilePart c f [] (flat_map in_enumerator z)) (sym h.0) (here_file c f h.1)
enumerators_file c b (x ∷ xs) ys f (y, rest, h, g, k, q) =
    let c1 = past_option x.value c in
    let c2 = in_file (record { name = x.name; meaning = Constant y.value }) c1 in
    subst (λ z. FilePart c f [] (flat_map in_enumerator z)) (sym q)
    (file_both c c1 f [] [] (in_enumerator y) (flat_map in_enumerator rest) (option_file c b None x.value y h.1)
    (file_both c1 c2 f [] [] [] (flat_map in_enumerator rest) (same_file c1 c2 refl refl refl (λ b. (tt, b))) (enumerators_file c2 (Some y.value) xs rest f k)))

members_file : (c : Env) (base : CType) (ds : List ud.Declr) (ys : List Declr) (f : Env) → AreMembers c base ds ys f → FilePart c f [] (flat_map in_declr ys)
members_file c base [] ys f h = subst (λ z. FilePart c f [] (flat_map in_declr z)) (sym h.0) (here_file c f h.1)
members_file c base (d ∷ ds) ys f (y, rest, h, g, s, k, q) =
    subst (λ z. FilePart c f [] (flat_map in_declr z)) (sym q)
    (file_both c (past_declr d c) f [] [] (in_declr y) (flat_map in_declr rest) (part_file c _ [] [] (in_declr y) (declr_part c None base d y h)) (members_file (past_declr d c) base ds rest f k))

-- a tag that is closed has no number of these
closed_file : (c f : Env) (ms : List Mention) (r : Tag) (g : Env) → FilePart c f [] ms → g ≡ close r f → FilePart c g [] ms
closed_file c f ms r g h q =
    subst (λ z. FilePart c z [] ms) (sym q) (subst (FilePart c (close r f) []) (append-nil ms) (file_both c f (close r f) [] [] ms [] h (same_file f (close r f) refl refl refl (λ b. b))))

mutual
  types_file : (c : Env) (y : ud.Types) (s : Spec) (b : CType) (f : Env) → AreTypes c y s b f → FilePart c f [] (in_spec s)
  types_file c (ud.spec y) s b f (h, q, e) = subst (λ z. FilePart c f [] (in_spec z)) (sym q) (here_file c f e)
  types_file c (ud.def d) s b f h = def_file c d s b f h

  def_file : (c : Env) (d : ud.TagDef) (s : Spec) (b : CType) (f : Env) → IsDef c d s b f → FilePart c f [] (in_spec s)
  def_file c (ud.struct l x ms) s b f (ys, ns, c1, h, g, q, e, w) = subst (λ z. FilePart c f [] (in_spec z)) (sym q) (closed_file c c1 (in_mems ys) (unplaced x Struct ns) f (mems_file c ms ys ns c1 h) w)
  def_file c (ud.union l x ms) s b f h = absurd h
  def_file c (ud.enum l x es) s b f (ys, c1, h, q, e, w) = subst (λ z. FilePart c f [] (in_spec z)) (sym q) (closed_file c c1 (flat_map in_enumerator ys) (unplaced x Enum (map as_member ys)) f (enumerators_file c None es ys c1 h) w)

  mems_file : (c : Env) (ms : ud.Mems) (ys : Mems) (ns : List Member) (f : Env) → AreMems c ms ys ns f → FilePart c f [] (in_mems ys)
  mems_file c ud.no_mems ys ns f h = subst (λ z. FilePart c f [] (in_mems z)) (sym h.0) (here_file c f h.2)
  mems_file c (ud.more_mems m ms) ys ns f (s, ds, rest, others, c1, h, k, q, e) =
      subst (λ z. FilePart c f [] (in_mems z)) (sym q)
      (subst (FilePart c f []) (append_assoc (in_spec s) (flat_map in_declr ds) (in_mems rest))
      (file_both c c1 f [] [] (in_spec s ++ flat_map in_declr ds) (in_mems rest) (mem_file c m s ds c1 h) (mems_file c1 ms rest others f k)))

  mem_file : (c : Env) (m : ud.Mem) (s : Spec) (xs : List Declr) (f : Env) → IsMem c m s xs f → FilePart c f [] (in_spec s ++ flat_map in_declr xs)
  mem_file c (ud.mem l y ds) s xs f (b, c1, h, k) = file_both c c1 f [] [] (in_spec s) (flat_map in_declr xs) (types_file c y s b c1 h) (members_file c1 b ds xs f k)

types_or_int_file : (c : Env) (y : Option ud.Types) (s : Spec) (b : CType) (f : Env) → AreTypesOrInt c y s b f → FilePart c f [] (in_spec s)
types_or_int_file c None s b f h = subst (λ z. FilePart c f [] (in_spec z)) (sym h.0) (here_file c f h.2)
types_or_int_file c (Some y) s b f h = types_file c y s b f h

-- items

-- an item that declares no static of its own: its name, and what its declarator and its initialiser say
plain_item : (c0 c c1 f : Env) (d : Declr) (v : Option st.Init) (ns : List Mention) → text_numbers (in_declr d ++ in_begin v) ≡ text_numbers ns → own_numbers (in_declr d ++ in_begin v) ≡ own_numbers ns →
    Part c0 c [] [] (in_declr d) → FilePart c c1 [] [] → FilePart c1 f [] (in_begin v) → FilePart c0 f [] ns
plain_item c0 c c1 f d v ns te oe h k g =
    said_file c0 f [] (in_declr d ++ in_begin v) ns te oe
    (file_both c0 c f [] [] (in_declr d) (in_begin v) (part_file c0 c [] [] (in_declr d) h) (file_both c c1 f [] [] [] (in_begin v) k g))

outside_file : (c0 c : Env) (d : Declr) (i : Option ud.Init) (x : Item) (f : Env) → Part c0 c [] [] (in_declr d) → IsItemBy false None c d i x f → FilePart c0 f [] (in_item x)
outside_file c0 c d i x f h (v, c1, z, k, g, q) =
    subst (λ y. FilePart c0 f [] (in_item y)) (sym q)
    (plain_item c0 c c1 f d v (in_item (record { declr = d; bound = Outside; init = v })) refl refl h (declared_part c c1 d.name (Thing (e.Ext d.name) d.ty) (λ n. tt) k)
    (part_file c1 f [] [] (in_begin v) (begins_part c1 d.ty i v f g)))

function_file : (c0 f : Env) (d : Declr) (s : Bool) → FilePart c0 f [] (in_declr d) → FilePart c0 f [] (in_item (record { declr = d; bound = pick s OwnFunction OutsideFunction; init = None }))
function_file c0 f d true h = subst (FilePart c0 f []) (sym (append-nil (in_declr d))) h
function_file c0 f d false h = subst (FilePart c0 f []) (sym (append-nil (in_declr d))) h

-- a static is said before its declarator
own_texts : (d : Declr) (n : ℕ) (v : Option st.Init) → text_numbers (in_declr d ++ (m.Own n d.ty v ∷ in_begin v)) ≡ text_numbers (in_declr d ++ in_begin v)
own_texts d n v = texts_both (in_declr d) (m.Own n d.ty v ∷ in_begin v) ∙ sym (texts_both (in_declr d) (in_begin v))

own_first : (d : Declr) (n : ℕ) (v : Option st.Init) → own_numbers (in_declr d ++ (m.Own n d.ty v ∷ in_begin v)) ≡ n ∷ own_numbers (in_declr d ++ in_begin v)
own_first d n v =
    own_both (in_declr d) (m.Own n d.ty v ∷ in_begin v) ∙ ap (λ z. z ++ (n ∷ own_numbers (in_begin v))) (own_all d.dims) ∙ ap (λ z. n ∷ z) (own_begin v ∙ sym (own_begun d v))

-- its number, and what its initialiser says
own_begins : (c c1 c2 : Env) (d : Declr) (v : Option st.Init) → r.DeclaresInFile c d.name (Thing (e.Static (own_number c (in_scope d.name c.file))) d.ty) c1 → Part c1 c2 [] [] (in_begin v) →
    FilePart c (record c2 { statics = next_static c (in_scope d.name c.file) }) [] (m.Own (own_number c (in_scope d.name c.file)) d.ty v ∷ in_begin v)
own_begins c c1 c2 d v (y, g, q) h =
    let old = in_scope d.name c.file in
    let d1 : c1.texts ≡ c.texts = ap (λ (z : Env). z.texts) q in
    record {
      starts = sym (ap (λ (z : Env). z.starts) q) ∙ h.starts;
      texts = subst (λ z. Counts (length z) (text_numbers (in_begin v)) (length c2.texts)) d1 h.texts;
      statics = λ b.
          let w = owned_by c old d.ty y (scope_below c.statics d.name c.file b) g in
          let file : c2.file ≡ record { name = d.name; meaning = y } ∷ c.file = h.file ∙ ap (λ (z : Env). z.file) q in
          let rest = all_below_more c.statics (next_static c old) c.file w.more b in (
            subst (λ z. Seen c.statics (own_number c old ∷ z) (next_static c old)) (sym (own_begin v)) w.seen,
            subst (AllBelow (next_static c old)) (sym file) (w.below, rest),
          );
    }

-- a static: its number, and what its declarator and its initialiser say
own_file : (c0 c : Env) (d : Declr) (i : Option ud.Init) (x : Item) (f : Env) → Part c0 c [] [] (in_declr d) → IsItemBy false (Some sg.Static) c d i x f → FilePart c0 f [] (in_item x)
own_file c0 c d i x f h (v, c1, c2, z, k, g, q, p) =
    let n = own_number c (in_scope d.name c.file) in
    subst (λ y. FilePart c0 f [] (in_item y)) (sym q)
    (said_file c0 f [] (in_declr d ++ (m.Own n d.ty v ∷ in_begin v)) (in_item (record { declr = d; bound = Own n; init = v })) (own_texts d n v) (own_first d n v)
    (file_both c0 c f [] [] (in_declr d) (m.Own n d.ty v ∷ in_begin v) (part_file c0 c [] [] (in_declr d) h)
    (subst (λ y. FilePart c y [] (m.Own n d.ty v ∷ in_begin v)) (sym p) (own_begins c c1 c2 d v k (begins_part c1 d.ty i v c2 g)))))

item_file : (b : Bool) (s : Option Storage) (c0 c : Env) (d : Declr) (i : Option ud.Init) (x : Item) (f : Env) → Part c0 c [] [] (in_declr d) → IsItemBy b s c d i x f → FilePart c0 f [] (in_item x)
item_file true s c0 c d i x f h (q, k, p) =
    subst (λ y. FilePart c0 f [] (in_item y)) (sym p)
    (function_file c0 f d (is_static s)
    (subst (FilePart c0 f []) (append-nil (in_declr d)) (file_both c0 c f [] [] (in_declr d) [] (part_file c0 c [] [] (in_declr d) h) (declared_part c f d.name _ (λ n. tt) k))))
item_file false None c0 c d i x f h g = outside_file c0 c d i x f h g
item_file false (Some sg.Auto) c0 c d i x f h g = outside_file c0 c d i x f h g
item_file false (Some sg.Register) c0 c d i x f h g = outside_file c0 c d i x f h g
item_file false (Some sg.Extern) c0 c d i x f h (q, k, p) =
    subst (λ y. FilePart c0 f [] (in_item y)) (sym p)
    (plain_item c0 c f f d None (in_item (record { declr = d; bound = Elsewhere; init = None })) refl refl h (declared_part c f d.name _ (λ n. tt) k) (here_file f f refl))
item_file false (Some sg.Static) c0 c d i x f h g = own_file c0 c d i x f h g

items_file : (c : Env) (s : Option Storage) (base : CType) (is : List ud.Item) (xs : List Item) (f : Env) → AreItems c s base is xs f → FilePart c f [] (flat_map in_item xs)
items_file c s base [] xs f h = subst (λ z. FilePart c f [] (flat_map in_item z)) (sym h.0) (here_file c f h.1)
items_file c s base (i ∷ is) xs f (d, x, rest, c1, hd, hx, hr, q) =
    subst (λ z. FilePart c f [] (flat_map in_item z)) (sym q)
    (file_both c c1 f [] [] (in_item x) (flat_map in_item rest)
    (item_file (is_function d.ty) s c (past_declr i.declr c) d i.init x c1 (declr_part c (missing s i.init) base i.declr d hd) hx) (items_file c1 s base is rest f hr))

aliases_file : (c : Env) (base : CType) (ds : List ud.Declr) (xs : List Declr) (f : Env) → AreAliases c base ds xs f → FilePart c f [] (flat_map in_declr xs)
aliases_file c base [] xs f h = subst (λ z. FilePart c f [] (flat_map in_declr z)) (sym h.0) (here_file c f h.1)
aliases_file c base (d ∷ ds) xs f (x, rest, hd, g, hr, q) =
    let c0 = past_declr d c in
    let c1 = in_file (record { name = x.name; meaning = Alias x.ty }) c0 in
    subst (λ z. FilePart c f [] (flat_map in_declr z)) (sym q)
    (file_both c c0 f [] [] (in_declr x) (flat_map in_declr rest) (part_file c c0 [] [] (in_declr x) (declr_part c None base d x hd))
    (file_both c0 c1 f [] [] [] (flat_map in_declr rest) (same_file c0 c1 refl refl refl (λ b. (tt, b))) (aliases_file c1 base ds rest f hr)))

-- functions

parameters_file : (c : Env) (xs : List Name) (base : CType) (ds : List ud.Declr) (ys : List Declr) (f : Env) → AreParameters c xs base ds ys f → FilePart c f [] (flat_map in_declr ys)
parameters_file c xs base [] ys f h = subst (λ z. FilePart c f [] (flat_map in_declr z)) (sym h.0) (here_file c f h.1)
parameters_file c xs base (d ∷ ds) ys f (y, rest, h, g, s, k, q) =
    subst (λ z. FilePart c f [] (flat_map in_declr z)) (sym q)
    (file_both c (past_declr d c) f [] [] (in_declr y) (flat_map in_declr rest) (part_file c _ [] [] (in_declr y) (declr_part c (Some 0) base d y h)) (parameters_file (past_declr d c) xs base ds rest f k))

par_decls_file : (c : Env) (xs : List Name) (ps : List ud.ParDecl) (ys : List ParDecl) (f : Env) → AreParDecls c xs ps ys f → FilePart c f [] (flat_map in_pars ys)
par_decls_file c xs [] ys f h = subst (λ z. FilePart c f [] (flat_map in_pars z)) (sym h.0) (here_file c f h.1)
par_decls_file c xs (p ∷ ps) ys f (s, b, ds, rest, c1, c2, ht, hp, hr, q) =
    subst (λ z. FilePart c f [] (flat_map in_pars z)) (sym q)
    (file_both c c2 f [] [] (in_spec s ++ flat_map in_declr ds) (flat_map in_pars rest)
    (file_both c c1 c2 [] [] (in_spec s) (flat_map in_declr ds) (types_file c p.types s b c1 ht) (parameters_file c1 xs b p.declrs ds c2 hp)) (par_decls_file c2 xs ps rest f hr))

head_file : (c : Env) (s : Bool) (h : ud.Declr) (d : Declr) (ps : List ud.ParDecl) (ys : List ParDecl) (f : Env) → IsHead c s h d ps ys f → FilePart c f [] (flat_map in_pars ys)
head_file c s h d ps ys f (c1, hp, g1, g2, k) =
    subst (FilePart c f []) (append-nil (flat_map in_pars ys)) (file_both c c1 f [] [] (flat_map in_pars ys) [] (par_decls_file c (list_of h) ps ys c1 hp) (declared_part c1 f d.name _ (λ n. tt) k))

-- what stands between the braces of a function
record BodyPart (c f : Env) (g : Func) : Type 0 where
  file : FilePart c f (starts_func g) (flat_map in_pars g.declared ++ (flat_map in_local (locals g.locals) ++ in_stmts g.stmts))
  autos : IsCounted 0 (map (λ (x : Auto). x.number) (autos g))

opening : (c : Env) (h : ud.Declr) (ys : List ParDecl) (k l : ℕ) → k ≡ c.starts → FilePart c (in_body (parameters h ys) c) (at k l ∷ []) []
opening c h ys k l q = record { starts = (q, (let e : suc c.starts ≡ c.starts + 1 = omega arith in e)); texts = refl; statics = λ b. (refl, b) }

closing : (c f : Env) (k l : ℕ) → k ≡ c.starts → f ≡ record (started 1 c) { blocks = [] } → FilePart c f (at k l ∷ []) []
closing c f k l q e = subst (λ z. FilePart c z (at k l ∷ []) []) (sym e) (record { starts = (q, (let e : suc c.starts ≡ c.starts + 1 = omega arith in e)); texts = refl; statics = λ b. (refl, b) })

body_file : (c : Env) (s : Bool) (h : ud.Declr) (d : Declr) (ps : List ud.ParDecl) (b : Block) (g : Func) (f : Env) → IsBody c s h d ps b g f → BodyPart c f g
body_file c s h d ps b g f (c1, c2, c3, e, hh, hl, hs, q1, q2, q3, q4, q5, q6, q7, q8) =
    let c0 = in_body (parameters h g.declared) c1 in
    let ls = decls_part c0 b.decls g.locals c2 hl in
    let ss = stmts_part c2 (at_body g.result) b.stmts g.stmts c3 hs in
    let inside = part_both c0 c2 c3 (flat_map starts_local (locals g.locals)) (starts_stmts g.stmts) (flat_map autos_local (locals g.locals)) (autos_stmts g.stmts) (flat_map in_local (locals g.locals)) (in_stmts g.stmts) ls ss in
    let ms = flat_map in_local (locals g.locals) ++ in_stmts g.stmts in
    let shut = file_both c0 c3 f (flat_map starts_local (locals g.locals) ++ starts_stmts g.stmts) (at g.close g.close_line ∷ []) ms []
    (part_file c0 c3 _ (flat_map autos_local (locals g.locals) ++ autos_stmts g.stmts) ms inside) (closing c3 f g.close g.close_line q7 q8) in
    let open_ = file_both c1 c0 f (at g.open_ g.line ∷ []) ((flat_map starts_local (locals g.locals) ++ starts_stmts g.stmts) ++ at g.close g.close_line ∷ []) [] (ms ++ []) (opening c1 h g.declared g.open_ g.line q6) shut in
    let whole = file_both c c1 f [] (at g.open_ g.line ∷ ((flat_map starts_local (locals g.locals) ++ starts_stmts g.stmts) ++ at g.close g.close_line ∷ [])) (flat_map in_pars g.declared) (ms ++ [])
    (head_file c s h d ps g.declared c1 hh) open_ in
    record {
      file = subst (λ z. FilePart c f z (flat_map in_pars g.declared ++ ms)) (ap (λ z. at g.open_ g.line ∷ z) (append_assoc (flat_map starts_local (locals g.locals)) (starts_stmts g.stmts) (at g.close g.close_line ∷ [])))
          (subst (λ z. FilePart c f (at g.open_ g.line ∷ ((flat_map starts_local (locals g.locals) ++ starts_stmts g.stmts) ++ at g.close g.close_line ∷ [])) (flat_map in_pars g.declared ++ z)) (append-nil ms) whole);
      autos = counts_counted 0 c3.autos _ inside.autos;
    }

-- units

-- parts of a unit with their functions
record ExtPart (c f : Env) (xs : List TExt) : Type 0 where
  file : FilePart c f (flat_map starts_func (funcs_of xs)) (in_exts xs)
  autos : AllCounted (funcs_of xs)

-- a part without a function in front of others
plain_ext : (c d f : Env) (x : TExt) (rest : List TExt) → funcs_of (x ∷ rest) ≡ funcs_of rest → FilePart c d [] (in_ext x) → ExtPart d f rest → ExtPart c f (x ∷ rest)
plain_ext c d f x rest e h k = record {
  file = subst (λ z. FilePart c f (flat_map starts_func z) (in_exts (x ∷ rest))) (sym e) (file_both c d f [] (flat_map starts_func (funcs_of rest)) (in_ext x) (in_exts rest) h k.file);
  autos = subst AllCounted (sym e) k.autos;
}

ext_part : (c : Env) (y : uu.Ext) (x : TExt) (d f : Env) (rest : List TExt) → IsExt c y x d → ExtPart d f rest → ExtPart c f (x ∷ rest)
ext_part c (uu.typedef l y ds) x d f rest (s, b, xs, c1, h, k, q) p =
    subst (λ z. ExtPart c f (z ∷ rest)) (sym q)
    (plain_ext c d f (t.typedef s xs) rest refl (file_both c c1 d [] [] (in_spec s) (flat_map in_declr xs) (types_or_int_file c y s b c1 h) (aliases_file c1 b ds xs d k)) p)
ext_part c (uu.tag_only l (ud.ref z)) x d f rest (b, h, q, e) p =
    subst (λ z. ExtPart c f (z ∷ rest)) (sym q) (plain_ext c d f (t.tag_only (t.plain b)) rest refl (here_file c d e) p)
ext_part c (uu.tag_only l (ud.body y)) x d f rest (s, b, h, q) p =
    subst (λ z. ExtPart c f (z ∷ rest)) (sym q) (plain_ext c d f (t.tag_only s) rest refl (def_file c y s b d h) p)
ext_part c (uu.object l s is) x d f rest (y, b, xs, c1, h, k, q) p =
    subst (λ z. ExtPart c f (z ∷ rest)) (sym q)
    (plain_ext c d f (t.object y xs) rest refl (file_both c c1 d [] [] (in_spec y) (flat_map in_item xs) (types_or_int_file c s.types y b c1 h) (items_file c1 s.storage b is xs d k)) p)
ext_part c (uu.func l s hd ps b) x d f rest (y, base, dc, g, c1, ht, hdec, hb, q) p =
    let w = body_file c1 _ hd dc ps b g d hb in
    let h = file_both c c1 d [] (starts_func g) (in_spec y) (flat_map in_pars g.declared ++ (flat_map in_local (locals g.locals) ++ in_stmts g.stmts)) (types_or_int_file c (types_of s) y base c1 ht) w.file in
    subst (λ z. ExtPart c f (z ∷ rest)) (sym q)
    (record { file = file_both c d f (starts_func g) (flat_map starts_func (funcs_of rest)) (in_ext (t.func y g)) (in_exts rest) h p.file; autos = (w.autos, p.autos) })

exts_part : (c : Env) (ys : List uu.Ext) (xs : List TExt) (f : Env) → AreExts c ys xs f → ExtPart c f xs
exts_part c [] xs f h = subst (ExtPart c f) (sym h.0) (record { file = here_file c f h.1; autos = tt })
exts_part c (y ∷ ys) xs f (x, rest, c1, h, k, q) = subst (ExtPart c f) (sym q) (ext_part c y x c1 f rest h (exts_part c1 ys rest f k))

pub typed_is_numbered : TypedIsNumbered
typed_is_numbered y x h =
    let p = exts_part (at_first y) y.exts x.exts h.last h.parts in
    record {
      starts_count = counts_counted 0 h.last.starts _ p.file.starts;
      autos_count = p.autos;
      texts_count = counts_counted 0 (length h.last.texts) _ p.file.texts;
      texts_are = (let q = counts_length 0 (length h.last.texts) (text_numbers (in_exts x.exts)) p.file.texts in let e : length x.texts ≡ length h.last.texts = ap length h.texts in omega arith);
      statics_count = first_seen 0 h.last.statics _ (p.file.statics tt).0;
    }
