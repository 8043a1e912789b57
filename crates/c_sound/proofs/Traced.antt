-- What stands behind what a unit says: a mention of an object brings what the object begins as, a definition brings the object or the function.
use Rattle.std.proofs.Common.{◌≡◌, ℕ, List, [], ◌∷◌, ◌++◌, Option, Some, None, ◌⊎◌, inl, inr, refl, sym, subst}
use Rattle.std.specs.List.{flat_map}
use Rattle.c_type.specs.Names.{Name}
use Rattle.c_type.specs.Types.{CType}
use Rattle.c_tree.specs.TExpr as e
use Rattle.c_tree.specs.TExpr.{TExpr, TArgs, Ref}
use Rattle.c_tree.specs.TStmt as st
use Rattle.c_tree.specs.TStmt.{Declr, Init, Inits, Local, TStmt, TStmts, TItems, locals}
use Rattle.c_tree.specs.TUnit as u
use Rattle.c_tree.specs.TUnit.{Enumerator, Spec, Mems, Item, ParDecl, Func, TExt, funcs_of}
use Rattle.c_tree.specs.declared.typed_unit.Bound.{Bound}
use Rattle.c_tree.specs.declared.typed_unit.Bound.TheVariants as bounds
use Rattle.c_join.specs.JoinSaid as said
use Rattle.c_join.specs.JoinSaid.{Event, Whose, External, Saying, Declared, Common, Begun, Defined, Used, Named, Called, event, defined, of_function}
use Rattle.c_run.specs.Mentions as ment
use Rattle.c_run.specs.Mentions.{Mention, Text, Use, Extern, Outside, in_exts}
use Rattle.c_sound.proofs.Listed.{IsIn, Within, in_first, in_second, in_either}
use Rattle.c_sound.proofs.Strengthen.{SaidIn}

-- what an object of static life begins as is said too
abbrev pub BehindMention : List Event → List Mention → Mention → Type 0
BehindMention es ns (Text k) = Unit {0}
BehindMention es ns (Use x) = Unit {0}
BehindMention es ns (Extern x) = Unit {0}
BehindMention es ns (ment.Own k t i) = SaidIn es ns (said.in_begin i) (ment.in_begin i)
BehindMention es ns (Outside x t i) = SaidIn es ns (said.in_begin i) (ment.in_begin i)

-- an object that is defined is mentioned, and a body that is defined is one of these
abbrev pub BehindSaying : List Func → List Mention → Whose → Saying → Type 0
BehindSaying fs ns w (Declared t) = Unit {0}
BehindSaying fs ns w (Common t) = (x : Name) × (w ≡ External x) × IsIn (Outside x t None) ns
BehindSaying fs ns w (Begun t) = (x : Name) × (i : Init) × (w ≡ External x) × IsIn (Outside x t (Some i)) ns
BehindSaying fs ns w (Defined t ps) = (f : Func) × IsIn f fs × (event w (Defined t ps) ≡ defined f)
BehindSaying fs ns w Used = Unit {0}
BehindSaying fs ns w (Named t) = Unit {0}
BehindSaying fs ns w (Called es) = Unit {0}

abbrev pub Traced : List Func → List Event → List Mention → Type 0
Traced fs es ns = ((m : Mention) → IsIn m ns → BehindMention es ns m) × ((v : Event) → IsIn v es → BehindSaying fs ns v.about v.says)

mention_more : (es es' : List Event) (ns ns' : List Mention) → Within es es' → Within ns ns' → (m : Mention) → BehindMention es ns m → BehindMention es' ns' m
mention_more es es' ns ns' p q (Text k) h = tt
mention_more es es' ns ns' p q (Use x) h = tt
mention_more es es' ns ns' p q (Extern x) h = tt
mention_more es es' ns ns' p q (ment.Own k t i) h = (λ v j. p v (h.0 v j), λ m j. q m (h.1 m j))
mention_more es es' ns ns' p q (Outside x t i) h = (λ v j. p v (h.0 v j), λ m j. q m (h.1 m j))

saying_more : (fs fs' : List Func) (ns ns' : List Mention) → Within fs fs' → Within ns ns' → (w : Whose) (s : Saying) → BehindSaying fs ns w s → BehindSaying fs' ns' w s
saying_more fs fs' ns ns' p q w (Declared t) h = tt
saying_more fs fs' ns ns' p q w (Common t) h = (h.0, h.1, q _ h.2)
saying_more fs fs' ns ns' p q w (Begun t) h = (h.0, h.1, h.2, q _ h.3)
saying_more fs fs' ns ns' p q w (Defined t ps) h = (h.0, p _ h.1, h.2)
saying_more fs fs' ns ns' p q w Used h = tt
saying_more fs fs' ns ns' p q w (Named t) h = tt
saying_more fs fs' ns ns' p q w (Called es) h = tt

traced_both : (fs fs' : List Func) (es es' : List Event) (ns ns' : List Mention) → Traced fs es ns → Traced fs' es' ns' → Traced (fs ++ fs') (es ++ es') (ns ++ ns')
traced_both fs fs' es es' ns ns' h g =
    (λ m i. mentions_of m (in_either m ns ns' i), λ v i. events_of v (in_either v es es' i))
  where
    mentions_of : (m : Mention) → IsIn m ns ⊎ IsIn m ns' → BehindMention (es ++ es') (ns ++ ns') m
    mentions_of m (inl i) = mention_more es (es ++ es') ns (ns ++ ns') (λ v j. in_first v es es' j) (λ n j. in_first n ns ns' j) m (h.0 m i)
    mentions_of m (inr i) = mention_more es' (es ++ es') ns' (ns ++ ns') (λ v j. in_second v es es' j) (λ n j. in_second n ns ns' j) m (g.0 m i)

    events_of : (v : Event) → IsIn v es ⊎ IsIn v es' → BehindSaying (fs ++ fs') (ns ++ ns') v.about v.says
    events_of v (inl i) = saying_more fs (fs ++ fs') ns (ns ++ ns') (λ f j. in_first f fs fs' j) (λ n j. in_first n ns ns' j) v.about v.says (h.1 v i)
    events_of v (inr i) = saying_more fs' (fs ++ fs') ns' (ns ++ ns') (λ f j. in_second f fs fs' j) (λ n j. in_second n ns ns' j) v.about v.says (g.1 v i)

-- two parts without bodies
two : (es es' : List Event) (ns ns' : List Mention) → Traced [] es ns → Traced [] es' ns' → Traced [] (es ++ es') (ns ++ ns')
two es es' ns ns' h g = traced_both [] [] es es' ns ns' h g

-- a mention in front of what is traced
after_mention : (fs : List Func) (es : List Event) (m : Mention) (ns : List Mention) → BehindMention es (m ∷ ns) m → Traced fs es ns → Traced fs es (m ∷ ns)
after_mention fs es m ns b h = (λ n i. mentions_of n i, λ v i. saying_more fs fs ns (m ∷ ns) (λ f j. j) (λ n j. inr j) v.about v.says (h.1 v i))
  where
    mentions_of : (n : Mention) → IsIn n (m ∷ ns) → BehindMention es (m ∷ ns) n
    mentions_of n (inl q) = subst (BehindMention es (m ∷ ns)) (sym q) b
    mentions_of n (inr i) = mention_more es es ns (m ∷ ns) (λ v j. j) (λ k j. inr j) n (h.0 n i)

-- an event in front of what is traced
after_event : (fs : List Func) (v : Event) (es : List Event) (ns : List Mention) → BehindSaying fs ns v.about v.says → Traced fs es ns → Traced fs (v ∷ es) ns
after_event fs v es ns b h = (λ m i. mention_more es (v ∷ es) ns ns (λ w j. inr j) (λ n j. j) m (h.0 m i), λ w i. events_of w i)
  where
    events_of : (w : Event) → IsIn w (v ∷ es) → BehindSaying fs ns w.about w.says
    events_of w (inl q) = subst (λ z. BehindSaying fs ns z.about z.says) (sym q) b
    events_of w (inr i) = h.1 w i

nothing : (fs : List Func) → Traced fs [] []
nothing fs = (λ m i. absurd i, λ v i. absurd i)

ref_traced : (t : CType) (r : Ref) → Traced [] (said.in_ref t r) (ment.used r)
ref_traced t (e.Local i) = nothing []
ref_traced t (e.Param i) = nothing []
ref_traced t (e.Static k) = nothing []
ref_traced t (e.Ext x) = after_event [] (event (External x) Used) [] (Use x ∷ []) tt (after_mention [] [] (Use x) [] tt (nothing []))
ref_traced t (e.Func k) = after_event [] (event (said.Own k) (Named t)) [] [] tt (nothing [])
ref_traced t (e.Outer x) = after_event [] (event (said.Outer x) (Named t)) [] [] tt (nothing [])
ref_traced t (e.Const n) = nothing []

call_ref : (r : Ref) (es : TArgs) → Traced [] (said.of_ref r es) []
call_ref (e.Local i) es = nothing []
call_ref (e.Param i) es = nothing []
call_ref (e.Static k) es = nothing []
call_ref (e.Ext x) es = nothing []
call_ref (e.Func k) es = after_event [] (event (said.Own k) (Called es)) [] [] tt (nothing [])
call_ref (e.Outer x) es = after_event [] (event (said.Outer x) (Called es)) [] [] tt (nothing [])
call_ref (e.Const n) es = nothing []

call_traced : (f : TExpr) (es : TArgs) → Traced [] (said.of_call f es) []
call_traced (e.name t r) es = call_ref r es
call_traced (e.int t n) es = nothing []
call_traced (e.text t k) es = nothing []
call_traced (e.unary t op a) es = nothing []
call_traced (e.deref t a) es = nothing []
call_traced (e.address t a) es = nothing []
call_traced (e.step t op a) es = nothing []
call_traced (e.size_of a) es = nothing []
call_traced (e.size_of_type of) es = nothing []
call_traced (e.cast t a) es = nothing []
call_traced (e.convert t a) es = nothing []
call_traced (e.decay t a) es = nothing []
call_traced (e.designate t a) es = nothing []
call_traced (e.binary t op a b) es = nothing []
call_traced (e.both a b) es = nothing []
call_traced (e.either a b) es = nothing []
call_traced (e.comma t a b) es = nothing []
call_traced (e.choice t c a b) es = nothing []
call_traced (e.assign t a b) es = nothing []
call_traced (e.update t op at a b) es = nothing []
call_traced (e.index t a i) es = nothing []
call_traced (e.call t f fs) es = nothing []
call_traced (e.member t a m) es = nothing []
call_traced (e.arrow t a m) es = nothing []

mutual
  expr_traced : (a : TExpr) → Traced [] (said.in_expr a) (ment.in_expr a)
  expr_traced (e.name t r) = ref_traced t r
  expr_traced (e.int t n) = nothing []
  expr_traced (e.text t k) = after_mention [] [] (Text k) [] tt (nothing [])
  expr_traced (e.unary t op a) = expr_traced a
  expr_traced (e.deref t a) = expr_traced a
  expr_traced (e.address t a) = expr_traced a
  expr_traced (e.step t op a) = expr_traced a
  expr_traced (e.size_of a) = expr_traced a
  expr_traced (e.size_of_type of) = nothing []
  expr_traced (e.cast t a) = expr_traced a
  expr_traced (e.convert t a) = expr_traced a
  expr_traced (e.decay t a) = expr_traced a
  expr_traced (e.designate t a) = expr_traced a
  expr_traced (e.binary t op a b) = two (said.in_expr a) (said.in_expr b) (ment.in_expr a) (ment.in_expr b) (expr_traced a) (expr_traced b)
  expr_traced (e.both a b) = two (said.in_expr a) (said.in_expr b) (ment.in_expr a) (ment.in_expr b) (expr_traced a) (expr_traced b)
  expr_traced (e.either a b) = two (said.in_expr a) (said.in_expr b) (ment.in_expr a) (ment.in_expr b) (expr_traced a) (expr_traced b)
  expr_traced (e.comma t a b) = two (said.in_expr a) (said.in_expr b) (ment.in_expr a) (ment.in_expr b) (expr_traced a) (expr_traced b)
  expr_traced (e.choice t c a b) =
      two (said.in_expr c) (said.in_expr a ++ said.in_expr b) (ment.in_expr c) (ment.in_expr a ++ ment.in_expr b) (expr_traced c) (two (said.in_expr a) (said.in_expr b) (ment.in_expr a) (ment.in_expr b) (expr_traced a) (expr_traced b))
  expr_traced (e.assign t a b) = two (said.in_expr a) (said.in_expr b) (ment.in_expr a) (ment.in_expr b) (expr_traced a) (expr_traced b)
  expr_traced (e.update t op at a b) = two (said.in_expr a) (said.in_expr b) (ment.in_expr a) (ment.in_expr b) (expr_traced a) (expr_traced b)
  expr_traced (e.index t a i) = two (said.in_expr a) (said.in_expr i) (ment.in_expr a) (ment.in_expr i) (expr_traced a) (expr_traced i)
  expr_traced (e.call t f es) =
      two (said.in_expr f) (said.of_call f es ++ said.in_args es) (ment.in_expr f) (ment.in_args es) (expr_traced f) (two (said.of_call f es) (said.in_args es) [] (ment.in_args es) (call_traced f es) (args_traced es))
  expr_traced (e.member t a m) = expr_traced a
  expr_traced (e.arrow t a m) = expr_traced a

  args_traced : (es : TArgs) → Traced [] (said.in_args es) (ment.in_args es)
  args_traced e.no_args = nothing []
  args_traced (e.more_args a es) = two (said.in_expr a) (said.in_args es) (ment.in_expr a) (ment.in_args es) (expr_traced a) (args_traced es)

option_traced : (a : Option TExpr) → Traced [] (said.in_option a) (ment.in_option a)
option_traced None = nothing []
option_traced (Some a) = expr_traced a

flat_traced : {A : Type 0} (f : A → List Event) (g : A → List Mention) → ((x : A) → Traced [] (f x) (g x)) → (xs : List A) → Traced [] (flat_map f xs) (flat_map g xs)
flat_traced f g each [] = nothing []
flat_traced f g each (x ∷ xs) = two (f x) (flat_map f xs) (g x) (flat_map g xs) (each x) (flat_traced f g each xs)

declr_traced : (d : Declr) → Traced [] (said.in_declr d) (ment.in_declr d)
declr_traced d = flat_traced said.in_expr ment.in_expr expr_traced d.dims

mutual
  init_traced : (i : Init) → Traced [] (said.in_init i) (ment.in_init i)
  init_traced (st.single a) = expr_traced a
  init_traced (st.bytes bs) = nothing []
  init_traced (st.group is) = inits_traced is

  inits_traced : (is : Inits) → Traced [] (said.in_inits is) (ment.in_inits is)
  inits_traced st.no_inits = nothing []
  inits_traced (st.more_inits i is) = two (said.in_init i) (said.in_inits is) (ment.in_init i) (ment.in_inits is) (init_traced i) (inits_traced is)

begin_traced : (i : Option Init) → Traced [] (said.in_begin i) (ment.in_begin i)
begin_traced None = nothing []
begin_traced (Some i) = init_traced i

-- a declarator with what its object begins as
begun_traced : (d : Declr) (i : Option Init) → Traced [] (said.in_declr d ++ said.in_begin i) (ment.in_declr d ++ ment.in_begin i)
begun_traced d i = two (said.in_declr d) (said.in_begin i) (ment.in_declr d) (ment.in_begin i) (declr_traced d) (begin_traced i)

own_traced : (k : ℕ) (t : CType) (d : Declr) (i : Option Init) → Traced [] (said.in_declr d ++ said.in_begin i) (ment.Own k t i ∷ (ment.in_declr d ++ ment.in_begin i))
own_traced k t d i =
    after_mention [] (said.in_declr d ++ said.in_begin i) (ment.Own k t i) (ment.in_declr d ++ ment.in_begin i)
    (λ v j. in_second v (said.in_declr d) (said.in_begin i) j, λ n j. inr (in_second n (ment.in_declr d) (ment.in_begin i) j)) (begun_traced d i)

outside_traced : (x : Name) (t : CType) (d : Declr) (i : Option Init) →
    Traced [] (event (External x) (said.outside t i) ∷ (said.in_declr d ++ said.in_begin i)) (Outside x t i ∷ (ment.in_declr d ++ ment.in_begin i))
outside_traced x t d i =
    after_event [] (event (External x) (said.outside t i)) (said.in_declr d ++ said.in_begin i) (Outside x t i ∷ (ment.in_declr d ++ ment.in_begin i)) (behind i (ment.in_declr d ++ ment.in_begin i))
    (after_mention [] (said.in_declr d ++ said.in_begin i) (Outside x t i) (ment.in_declr d ++ ment.in_begin i)
    (λ v j. in_second v (said.in_declr d) (said.in_begin i) j, λ n j. inr (in_second n (ment.in_declr d) (ment.in_begin i) j)) (begun_traced d i))
  where
    behind : (j : Option Init) (ns : List Mention) → BehindSaying [] (Outside x t j ∷ ns) (External x) (said.outside t j)
    behind None ns = (x, refl, inl refl)
    behind (Some k) ns = (x, k, refl, inl refl)

local_traced : (x : Local) → Traced [] (said.in_local x) (ment.in_local x)
local_traced (st.auto d i) = declr_traced d
local_traced (st.auto_init d i k l a) = two (said.in_declr d) (said.in_expr a) (ment.in_declr d) (ment.in_expr a) (declr_traced d) (expr_traced a)
local_traced (st.static_ d k i) = own_traced k d.ty d i
local_traced (st.extern_ d) =
    after_event [] (event (External d.name) (Declared d.ty)) (said.in_declr d) (Extern d.name ∷ ment.in_declr d) tt
    (after_mention [] (said.in_declr d) (Extern d.name) (ment.in_declr d) tt (declr_traced d))
local_traced (st.function d s) = after_event [] (event (of_function s d.name) (Declared d.ty)) (said.in_declr d) (ment.in_declr d) tt (declr_traced d)

mutual
  stmt_traced : (s : TStmt) → Traced [] (said.in_stmt s) (ment.in_stmt s)
  stmt_traced (st.expr k l a) = expr_traced a
  stmt_traced (st.empty k l) = nothing []
  stmt_traced (st.if_only k l a s) = two (said.in_expr a) (said.in_stmt s) (ment.in_expr a) (ment.in_stmt s) (expr_traced a) (stmt_traced s)
  stmt_traced (st.if_else k l a s q) =
      two (said.in_expr a) (said.in_stmt s ++ said.in_stmt q) (ment.in_expr a) (ment.in_stmt s ++ ment.in_stmt q) (expr_traced a)
      (two (said.in_stmt s) (said.in_stmt q) (ment.in_stmt s) (ment.in_stmt q) (stmt_traced s) (stmt_traced q))
  stmt_traced (st.while_ k l a s) = two (said.in_expr a) (said.in_stmt s) (ment.in_expr a) (ment.in_stmt s) (expr_traced a) (stmt_traced s)
  stmt_traced (st.do_ k l s a) = two (said.in_stmt s) (said.in_expr a) (ment.in_stmt s) (ment.in_expr a) (stmt_traced s) (expr_traced a)
  stmt_traced (st.for_ k l a b c s) =
      two (said.in_option a) (said.in_option b ++ (said.in_option c ++ said.in_stmt s)) (ment.in_option a) (ment.in_option b ++ (ment.in_option c ++ ment.in_stmt s)) (option_traced a)
      (two (said.in_option b) (said.in_option c ++ said.in_stmt s) (ment.in_option b) (ment.in_option c ++ ment.in_stmt s) (option_traced b)
      (two (said.in_option c) (said.in_stmt s) (ment.in_option c) (ment.in_stmt s) (option_traced c) (stmt_traced s)))
  stmt_traced (st.switch k l a is) = two (said.in_expr a) (said.in_items is) (ment.in_expr a) (ment.in_items is) (expr_traced a) (items_traced is)
  stmt_traced (st.break_ k l) = nothing []
  stmt_traced (st.continue_ k l) = nothing []
  stmt_traced (st.return_ k l a) = option_traced a
  stmt_traced (st.block line ds ss close_line) =
      two (flat_map said.in_local (locals ds)) (said.in_stmts ss) (flat_map ment.in_local (locals ds)) (ment.in_stmts ss)
      (flat_traced said.in_local ment.in_local local_traced (locals ds)) (stmts_traced ss)

  stmts_traced : (ss : TStmts) → Traced [] (said.in_stmts ss) (ment.in_stmts ss)
  stmts_traced st.no_stmts = nothing []
  stmts_traced (st.more_stmts s ss) = two (said.in_stmt s) (said.in_stmts ss) (ment.in_stmt s) (ment.in_stmts ss) (stmt_traced s) (stmts_traced ss)

  items_traced : (is : TItems) → Traced [] (said.in_items is) (ment.in_items is)
  items_traced st.no_items = nothing []
  items_traced (st.case_ a n is) = two (said.in_expr a) (said.in_items is) (ment.in_expr a) (ment.in_items is) (expr_traced a) (items_traced is)
  items_traced (st.default_ is) = items_traced is
  items_traced (st.more_items s is) = two (said.in_stmt s) (said.in_items is) (ment.in_stmt s) (ment.in_items is) (stmt_traced s) (items_traced is)

mutual
  spec_traced : (s : Spec) → Traced [] (said.in_spec s) (ment.in_spec s)
  spec_traced (u.plain t) = nothing []
  spec_traced (u.struct_body k ms) = mems_traced ms
  spec_traced (u.enum_body k es) = flat_traced said.in_enumerator ment.in_enumerator (λ x. option_traced x.expr) es

  mems_traced : (ms : Mems) → Traced [] (said.in_mems ms) (ment.in_mems ms)
  mems_traced u.no_mems = nothing []
  mems_traced (u.more_mems s ds ms) =
      two (said.in_spec s) (flat_map said.in_declr ds ++ said.in_mems ms) (ment.in_spec s) (flat_map ment.in_declr ds ++ ment.in_mems ms) (spec_traced s)
      (two (flat_map said.in_declr ds) (said.in_mems ms) (flat_map ment.in_declr ds) (ment.in_mems ms) (flat_traced said.in_declr ment.in_declr declr_traced ds) (mems_traced ms))

bound_traced : (b : Bound) (d : Declr) (i : Option Init) →
    Traced [] (said.said b d.name d.ty i ++ (said.in_declr d ++ said.in_begin i)) (ment.said b d.name d.ty i ++ (ment.in_declr d ++ ment.in_begin i))
bound_traced (bounds.Own k) d i = own_traced k d.ty d i
bound_traced bounds.Outside d i = outside_traced d.name d.ty d i
bound_traced bounds.Elsewhere d i =
    after_event [] (event (External d.name) (Declared d.ty)) (said.in_declr d ++ said.in_begin i) (Extern d.name ∷ (ment.in_declr d ++ ment.in_begin i)) tt
    (after_mention [] (said.in_declr d ++ said.in_begin i) (Extern d.name) (ment.in_declr d ++ ment.in_begin i) tt (begun_traced d i))
bound_traced bounds.OwnFunction d i =
    after_event [] (event (said.Hidden d.name) (Declared d.ty)) (said.in_declr d ++ said.in_begin i) (ment.in_declr d ++ ment.in_begin i) tt (begun_traced d i)
bound_traced bounds.OutsideFunction d i =
    after_event [] (event (External d.name) (Declared d.ty)) (said.in_declr d ++ said.in_begin i) (ment.in_declr d ++ ment.in_begin i) tt (begun_traced d i)

item_traced : (x : Item) → Traced [] (said.in_item x) (ment.in_item x)
item_traced x = bound_traced x.bound x.declr x.init

declrs_traced : (ds : List Declr) → Traced [] (flat_map said.in_declr ds) (flat_map ment.in_declr ds)
declrs_traced ds = flat_traced said.in_declr ment.in_declr declr_traced ds

pars_traced : (p : ParDecl) → Traced [] (said.in_pars p) (ment.in_pars p)
pars_traced p = two (said.in_spec p.spec) (flat_map said.in_declr p.declrs) (ment.in_spec p.spec) (flat_map ment.in_declr p.declrs) (spec_traced p.spec) (declrs_traced p.declrs)

-- what a function's body says
abbrev pub body_events : Func → List Event
body_events f = flat_map said.in_local (locals f.locals) ++ said.in_stmts f.stmts

abbrev pub body_mentions : Func → List Mention
body_mentions f = flat_map ment.in_local (locals f.locals) ++ ment.in_stmts f.stmts

func_traced : (f : Func) → Traced (f ∷ []) (said.in_func f) (flat_map ment.in_pars f.declared ++ body_mentions f)
func_traced f =
    after_event (f ∷ []) (defined f) (flat_map said.in_pars f.declared ++ body_events f) (flat_map ment.in_pars f.declared ++ body_mentions f) (f, inl refl, refl)
    (traced_both [] (f ∷ []) (flat_map said.in_pars f.declared) (body_events f) (flat_map ment.in_pars f.declared) (body_mentions f)
    (flat_traced said.in_pars ment.in_pars pars_traced f.declared)
    (traced_both [] (f ∷ []) (flat_map said.in_local (locals f.locals)) (said.in_stmts f.stmts) (flat_map ment.in_local (locals f.locals)) (ment.in_stmts f.stmts)
    (flat_traced said.in_local ment.in_local local_traced (locals f.locals)) (more_bodies (stmts_traced f.stmts))))
  where
    more_bodies : Traced [] (said.in_stmts f.stmts) (ment.in_stmts f.stmts) → Traced (f ∷ []) (said.in_stmts f.stmts) (ment.in_stmts f.stmts)
    more_bodies h = (h.0, λ v i. saying_more [] (f ∷ []) (ment.in_stmts f.stmts) (ment.in_stmts f.stmts) (λ g j. absurd j) (λ n j. j) v.about v.says (h.1 v i))

pub exts_traced : (xs : List TExt) → Traced (funcs_of xs) (flat_map said.in_ext xs) (in_exts xs)
exts_traced [] = nothing []
exts_traced (u.typedef s ds ∷ xs) =
    traced_both [] (funcs_of xs) (said.in_spec s ++ flat_map said.in_declr ds) (flat_map said.in_ext xs) (ment.in_spec s ++ flat_map ment.in_declr ds) (in_exts xs)
    (two (said.in_spec s) (flat_map said.in_declr ds) (ment.in_spec s) (flat_map ment.in_declr ds) (spec_traced s) (declrs_traced ds)) (exts_traced xs)
exts_traced (u.tag_only s ∷ xs) = traced_both [] (funcs_of xs) (said.in_spec s) (flat_map said.in_ext xs) (ment.in_spec s) (in_exts xs) (spec_traced s) (exts_traced xs)
exts_traced (u.object s is ∷ xs) =
    traced_both [] (funcs_of xs) (said.in_spec s ++ flat_map said.in_item is) (flat_map said.in_ext xs) (ment.in_spec s ++ flat_map ment.in_item is) (in_exts xs)
    (two (said.in_spec s) (flat_map said.in_item is) (ment.in_spec s) (flat_map ment.in_item is) (spec_traced s) (flat_traced said.in_item ment.in_item item_traced is)) (exts_traced xs)
exts_traced (u.func s f ∷ xs) =
    traced_both (f ∷ []) (funcs_of xs) (said.in_spec s ++ said.in_func f) (flat_map said.in_ext xs) (ment.in_spec s ++ (flat_map ment.in_pars f.declared ++ body_mentions f)) (in_exts xs)
    (traced_both [] (f ∷ []) (said.in_spec s) (said.in_func f) (ment.in_spec s) (flat_map ment.in_pars f.declared ++ body_mentions f) (spec_traced s) (func_traced f)) (exts_traced xs)

later : (x : TExt) (xs : List TExt) (f : Func) →
    IsIn (defined f) (flat_map said.in_ext xs) × SaidIn (flat_map said.in_ext xs) (in_exts xs) (body_events f) (body_mentions f) →
    IsIn (defined f) (flat_map said.in_ext (x ∷ xs)) × SaidIn (flat_map said.in_ext (x ∷ xs)) (in_exts (x ∷ xs)) (body_events f) (body_mentions f)
later x xs f h = (
  in_second (defined f) (said.in_ext x) (flat_map said.in_ext xs) h.0,
  (
    λ v j. in_second v (said.in_ext x) (flat_map said.in_ext xs) (h.1.0 v j),
    λ n j. in_second n (ment.in_ext x) (in_exts xs) (h.1.1 n j),
  ),
)

-- what a body says is said in the unit, and its definition too
pub func_said : (xs : List TExt) (f : Func) → IsIn f (funcs_of xs) →
    IsIn (defined f) (flat_map said.in_ext xs) × SaidIn (flat_map said.in_ext xs) (in_exts xs) (body_events f) (body_mentions f)
func_said [] f h = absurd h
func_said (u.typedef s ds ∷ xs) f h = later (u.typedef s ds) xs f (func_said xs f h)
func_said (u.tag_only s ∷ xs) f h = later (u.tag_only s) xs f (func_said xs f h)
func_said (u.object s is ∷ xs) f h = later (u.object s is) xs f (func_said xs f h)
func_said (u.func s g ∷ xs) f (inl q) =
    subst (λ g. IsIn (defined f) (flat_map said.in_ext (u.func s g ∷ xs)) × SaidIn (flat_map said.in_ext (u.func s g ∷ xs)) (in_exts (u.func s g ∷ xs)) (body_events f) (body_mentions f)) q (
      in_first (defined f) (said.in_ext (u.func s f)) (flat_map said.in_ext xs) (in_second (defined f) (said.in_spec s) (said.in_func f) (inl refl)),
      (
        λ v j. in_first v (said.in_ext (u.func s f)) (flat_map said.in_ext xs) (in_second v (said.in_spec s) (said.in_func f) (inr (in_second v (flat_map said.in_pars f.declared) (body_events f) j))),
        λ n j. in_first n (ment.in_ext (u.func s f)) (in_exts xs) (in_second n (ment.in_spec s) (flat_map ment.in_pars f.declared ++ body_mentions f) (in_second n (flat_map ment.in_pars f.declared) (body_mentions f) j)),
      ),
    )
func_said (u.func s g ∷ xs) f (inr h) = later (u.func s g) xs f (func_said xs f h)
