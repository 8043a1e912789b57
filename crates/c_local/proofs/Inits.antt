-- The initialisers of an array or a structure are judged in order.
use Rattle.std.proofs.Common.{◌≡◌, ℕ, ◌+◌, ◌<◌, ◌≤◌, List, [], ◌∷◌, ◌++◌, Some, None, Bool, true, false, drop, length, map, replicate, slice_index_or, refl, ap, sym, ◌∙◌, arith, append_assoc, length-drop, Vec, Box, Global}
use Rattle.std.proofs.lemmas.List.{drop_all, map-append, append-nil, get_or-map}
use mathlib.Core.Former.{Count}
use Rattle.c_type.specs.declared.CType.{CType, Arr, Struct}
use Rattle.c_type.specs.declared.Member.{Member}
use Rattle.c_type.specs.declared.TagId.{TagId}
use Rattle.c_type.specs.Names.{Name, pick, at_or}
use Rattle.c_type.specs.Of.{type_of, members_of}
use Rattle.c_type.specs.Sizes.{no_tag}
use Rattle.c_type.specs.Types as t
use Rattle.c_tree.specs.declared.decl.Init.{Init, Group}
use Rattle.c_tree.specs.declared.typed_stmt.TInit as ti
use Rattle.c_tree.specs.declared.typed_stmt.TInit.{TInit}
use Rattle.c_tree.specs.TreeExpr.{Expr, text}
use Rattle.c_tree.specs.TreeOf.{init_of, inits_from}
use Rattle.c_tree.proofs.Of.{init_of-Group}
use Rattle.c_tree.specs.TStmt as st
use Rattle.c_tree.specs.TypedOf as typed
use Rattle.c_rule.specs.RuleScope.{Judged, Fails, onward, Env}
use Rattle.c_rule.specs.RuleDecls.{fills_chars}
use Rattle.c_scope.specs.declared.error.TypeErr.{TypeErr}
use Rattle.c_scope.specs.declared.error.TypeErr.TheVariants.{Rule, Memory}
use Rattle.c_rule.specs.Judging.{Behind, behind, judged_single, judged_init, judged_inits}
use Rattle.c_scope.specs.Says.{Refused}
use Rattle.c_local.specs.Initialisers.{filled_by, grouped}
use Rattle.c_local.proofs.FromHere.{from_here}
use Rattle.c_local.proofs.Lists.{onto, with_parts, front}

-- texts that fill arrays of char

text_fills_by : (b : Bool) (c : Env) (p : t.CType) (l : ℕ) (bs xs : Name) → pick b (Some bs) None ≡ Some xs → judged_single b c p (text l bs) ≡ behind (st.bytes (xs ++ 0 ∷ [])) c
text_fills_by true c p l bs xs h = let e : bs ≡ xs = cc in ap (λ y. behind (st.bytes (y ++ 0 ∷ [])) c) e
text_fills_by false c p l bs xs h = absurd (cc)

pub text_fills : (c : Env) (p : t.CType) (a : Expr) (xs : Name) → filled_by p a ≡ Some xs → judged_single (fills_chars p a) c p a ≡ behind (st.bytes (xs ++ 0 ∷ [])) c
text_fills c p (text l bs) xs h = text_fills_by (fills_chars p (text l bs)) c p l bs xs h
text_fills c p _ xs h = absurd (cc)

none_fills_by : (b : Bool) (bs : Name) → pick b (Some bs) None ≡ None → b ≡ false
none_fills_by true bs h = absurd (cc)
none_fills_by false bs h = refl

pub none_fills : (p : t.CType) (a : Expr) → filled_by p a ≡ None → fills_chars p a ≡ false
none_fills p (text l bs) h = none_fills_by (fills_chars p (text l bs)) bs h
none_fills p _ h = refl

-- the types of members

-- the types of these members
abbrev pub types_in : List Member → List t.CType
types_in ms = map (λ m. m.ty) (members_of ms)

pub one_type_more : (ts us : List CType) (y : CType) (ms : List Member) (i : ℕ) (m : Member) (all : List t.CType) → i < length ms → m ≡ slice_index_or ms i m → type_of y ≡ type_of m.ty →
    us ≡ ts ++ y ∷ [] → map type_of ts ++ types_in (drop i ms) ≡ all → map type_of us ++ types_in (drop (i + 1) ms) ≡ all
one_type_more ts us y ms i m all lt is e more h =
    ap (λ l. map type_of l ++ types_in (drop (i + 1) ms)) more ∙ ap (λ l. l ++ types_in (drop (i + 1) ms)) (map-append type_of ts (y ∷ [])) ∙
    append_assoc (map type_of ts) (type_of y ∷ []) (types_in (drop (i + 1) ms)) ∙ ap (λ z. map type_of ts ++ (z ∷ types_in (drop (i + 1) ms))) e ∙
    ap (λ l. map type_of ts ++ types_in l) (sym (from_here ms i m lt is)) ∙ h

pub types_end : (ts : List CType) (ms : List Member) (i : ℕ) (all : List t.CType) → length ms ≤ i → map type_of ts ++ types_in (drop i ms) ≡ all → map type_of ts ≡ all
types_end ts ms i all le h = sym (append-nil (map type_of ts)) ∙ ap (λ l. map type_of ts ++ types_in l) (sym (drop_all i ms le)) ∙ h

-- lists

-- the outcome of what is left, by its first part
pub part_row : (c : Env) (ps : List t.CType) (is : List Init) (k : ℕ) (p : t.CType) (x : Init) → k < length ps → slice_index_or ps k p ≡ p → k < length is → x ≡ slice_index_or is k x →
    judged_inits c (drop k ps) (inits_from (drop k is)) ≡ front st.more_inits (judged_init c p (init_of x)) (λ d. judged_inits d (drop (k + 1) ps) (inits_from (drop (k + 1) is)))
part_row c ps is k p x lp ep li ei =
    ap (λ l. judged_inits c l (inits_from (drop k is))) (from_here ps k p lp (sym ep)) ∙ ap (λ l. judged_inits c (p ∷ drop (k + 1) ps) (inits_from l)) (from_here is k x li ei)

-- the types of a structure's members
pub type_at : (ts : List CType) (k : ℕ) (y : CType) → k < length ts → y ≡ slice_index_or ts k y → slice_index_or (map type_of ts) k (type_of y) ≡ type_of y
type_at ts k y lt e = get_or-map type_of ts k y (type_of y) lt ∙ ap type_of (sym e)

-- more initialisers than parts

none_left : (c : Env) (is : List Init) → 0 < length is → judged_inits c [] (inits_from is) ≡ Fails 10
none_left c [] lt = absurd (omega arith)
none_left c (i ∷ is) lt = refl

pub parts_past : (view : TInit → st.Inits → st.Inits) (xs : List TInit) (whole : Judged (Behind st.Inits)) (c : Env) (ps : List t.CType) (is : List Init) (k : ℕ) → k < length is → length ps ≤ k →
    whole ≡ with_parts view xs (judged_inits c (drop k ps) (inits_from (drop k is))) → whole ≡ Fails 10
parts_past view xs whole c ps is k lt le h =
    h ∙ ap (λ l. with_parts view xs (judged_inits c l (inits_from (drop k is)))) (drop_all k ps le) ∙ ap (with_parts view xs) (none_left c (drop k is) (omega (arith, length-drop k is)))

-- behind the last initialiser
pub parts_end : (c : Env) (ps : List t.CType) (is : List Init) (k : ℕ) → length is ≤ k → judged_inits c ps (inits_from (drop k is)) ≡ behind st.no_inits c
parts_end c ps is k le = ap (λ l. judged_inits c ps (inits_from l)) (drop_all k is le)

pub onto_group : (is : List TInit) → onto (λ i r. st.more_inits (typed.init_of i) r) is st.no_inits ≡ grouped is
onto_group [] = refl
onto_group (i ∷ is) = ap (st.more_inits (typed.init_of i)) (onto_group is)

-- groups

inits_are : (n : _) (row : ti.TheBlock.Row_of-TInit n) → typed.inits_of row ≡ grouped (ti.items-the_row-TInit n row)
inits_are n ti.TheBlock.end_of-TInit = refl
inits_are n (ti.TheBlock.more_of-TInit i row) = ap (st.more_inits (typed.init_of i)) (inits_are _ row)

abbrev inits_in : TInit → (n : Count) × ti.TheBlock.Row_of-TInit n
inits_in (ti.TheBlock.Group' _ row) = (_, row)
inits_in _ = (_, ti.TheBlock.end_of-TInit)

typed_group : (is : Vec TInit Global) → typed.init_of (ti.Group is) ≡ st.group (grouped is.items)
typed_group is =
    let row = inits_in (ti.Group is) in
    ap st.group (inits_are row.0 row.1 ∙ ap grouped (ti.items_hidden-the_row-TInit-0 is))

-- a group, by the outcome of its parts
abbrev pub as_group : Judged (Behind st.Inits) → Judged (Behind st.Init)
as_group j = onward j (λ js. behind (st.group js.tree) js.env)

pub array_row : (c : Env) (y : CType) (n : ℕ) (of : Box CType Global) (e : Init) (l : ℕ) (is : Vec Init Global) → y ≡ Arr n of → e ≡ Group l is →
    judged_init c (type_of y) (init_of e) ≡ as_group (judged_inits c (replicate n (type_of of.value)) (inits_from is.items))
array_row c y n of e l is ey ee =
    ap (λ z. judged_init c (type_of z) (init_of e)) ey ∙ ap (judged_init c (t.arr n (type_of of.value))) (ap init_of ee ∙ init_of-Group l is)

pub struct_row : (c : Env) (y : CType) (k : TagId) (ts : List t.CType) (e : Init) (l : ℕ) (is : Vec Init Global) → y ≡ Struct k → e ≡ Group l is →
    ts ≡ map (λ m. m.ty) (at_or no_tag c.tags k.0).members → judged_init c (type_of y) (init_of e) ≡ as_group (judged_inits c ts (inits_from is.items))
struct_row c y k ts e l is ey ee et =
    ap (λ z. judged_init c (type_of z) (init_of e)) ey ∙ ap (judged_init c (t.struct k.0)) (ap init_of ee ∙ init_of-Group l is) ∙
    ap (λ ps. as_group (judged_inits c ps (inits_from is.items))) (sym et)

pub group_says : (whole : Judged (Behind st.Init)) (j : Judged (Behind st.Inits)) (is : Vec TInit Global) (d : Env) → whole ≡ as_group j → j ≡ behind (grouped is.items) d →
    whole ≡ behind (typed.init_of (ti.Group is)) d
group_says whole j is d p q = p ∙ ap as_group q ∙ ap (λ y. behind y d) (sym (typed_group is))

pub group_refused : (whole : Judged (Behind st.Init)) (j : Judged (Behind st.Inits)) (e : TypeErr) → whole ≡ as_group j → Refused j e → Refused whole e
group_refused whole j (Rule n l) p q = p ∙ ap as_group q
group_refused whole j Memory p q = q
