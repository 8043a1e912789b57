-- A tree that suits by one reading of its names and texts suits by a stronger one, where what the tree says is said in its unit.
use Rattle.std.proofs.Common.{ℕ, List, [], ◌∷◌, ◌++◌, Bool, true, false, Option, Some, None, inl, refl}
use Rattle.std.specs.List.{flat_map}
use Rattle.c_type.specs.Types.{CType, Tag, is_integer}
use Rattle.c_tree.specs.TExpr as e
use Rattle.c_tree.specs.TExpr.{TExpr, TArgs, Ref}
use Rattle.c_tree.specs.TStmt as st
use Rattle.c_tree.specs.TStmt.{Init, Inits, Local, TStmt, TStmts, TItems, locals}
use Rattle.c_tree.specs.TUnit.{Func}
use Rattle.c_join.specs.JoinSaid as said
use Rattle.c_join.specs.JoinSaid.{Event}
use Rattle.c_run.specs.Mentions as ment
use Rattle.c_run.specs.Mentions.{Mention, Text}
use Rattle.c_rule.specs.RuleDecls.{part_types}
use Rattle.c_rule.specs.RuleValues.{is_scalar}
use Rattle.c_sound.specs.Suits.{is_used, is_taken_as, Suits, SuitArgs, SuitsHere, SuitsOption, SuitsLocal, SuitLocals, SuitsStmt, SuitStmts, SuitItems, SuitsFunc, SuitsInit, SuitInits, SuitsBegin}
use Rattle.c_sound.proofs.Listed.{IsIn, Within, in_first, in_second}

-- these events and mentions are among those
abbrev pub SaidIn : List Event → List Mention → List Event → List Mention → Type 0
SaidIn vs ms es ns = Within es vs × Within ns ms

pub said_first : (vs : List Event) (ms : List Mention) (es es' : List Event) (ns ns' : List Mention) → SaidIn vs ms (es ++ es') (ns ++ ns') → SaidIn vs ms es ns
said_first vs ms es es' ns ns' h = (λ v i. h.0 v (in_first v es es' i), λ m i. h.1 m (in_first m ns ns' i))

pub said_second : (vs : List Event) (ms : List Mention) (es es' : List Event) (ns ns' : List Mention) → SaidIn vs ms (es ++ es') (ns ++ ns') → SaidIn vs ms es' ns'
said_second vs ms es es' ns ns' h = (λ v i. h.0 v (in_second v es es' i), λ m i. h.1 m (in_second m ns ns' i))

module _ (vs : List Event) (ms : List Mention) (R S : CType → Ref → Type 0) (T V : ℕ → Type 0)
    (name_is : (t : CType) (r : Ref) → SaidIn vs ms (said.in_ref t r) (ment.used r) → R t r → S t r)
    (text_is : (k : ℕ) → IsIn (Text k) ms → T k → V k) where
  both_first : (a b : TExpr) → SaidIn vs ms (said.in_expr a ++ said.in_expr b) (ment.in_expr a ++ ment.in_expr b) → SaidIn vs ms (said.in_expr a) (ment.in_expr a)
  both_first a b w = said_first vs ms (said.in_expr a) (said.in_expr b) (ment.in_expr a) (ment.in_expr b) w

  both_second : (a b : TExpr) → SaidIn vs ms (said.in_expr a ++ said.in_expr b) (ment.in_expr a ++ ment.in_expr b) → SaidIn vs ms (said.in_expr b) (ment.in_expr b)
  both_second a b w = said_second vs ms (said.in_expr a) (said.in_expr b) (ment.in_expr a) (ment.in_expr b) w

  mutual
    pub suits_stronger : (calls : Bool) (a : TExpr) → SaidIn vs ms (said.in_expr a) (ment.in_expr a) → Suits calls R T a → Suits calls S V a
    suits_stronger calls (e.name t r) w h = (name_is t r w h.0, h.1)
    suits_stronger calls (e.int t n) w h = h
    suits_stronger calls (e.text t k) w h = (text_is k (w.1 (Text k) (inl refl)) h.0, h.1, h.2)
    suits_stronger calls (e.unary t op a) w h = (suits_stronger calls a w h.0, h.1)
    suits_stronger calls (e.deref t a) w h = (suits_stronger calls a w h.0, h.1, h.2)
    suits_stronger calls (e.address t a) w h = (suits_stronger calls a w h.0, h.1, h.2)
    suits_stronger calls (e.step t op a) w h = (suits_stronger calls a w h.0, h.1, h.2, h.3)
    suits_stronger calls (e.size_of a) w h = tt
    suits_stronger calls (e.size_of_type of) w h = tt
    suits_stronger calls (e.cast t a) w h = (suits_stronger calls a w h.0, h.1, h.2)
    suits_stronger calls (e.convert t a) w h = (suits_stronger calls a w h.0, h.1, h.2)
    suits_stronger calls (e.decay t a) w h = (suits_stronger calls a w h.0, h.1, h.2)
    suits_stronger calls (e.designate t a) w h = (suits_stronger calls a w h.0, h.1, h.2)
    suits_stronger calls (e.binary t op a b) w h = (suits_stronger calls a (both_first a b w) h.0, suits_stronger calls b (both_second a b w) h.1, h.2)
    suits_stronger calls (e.both a b) w h = (suits_stronger calls a (both_first a b w) h.0, suits_stronger calls b (both_second a b w) h.1, h.2, h.3)
    suits_stronger calls (e.either a b) w h = (suits_stronger calls a (both_first a b w) h.0, suits_stronger calls b (both_second a b w) h.1, h.2, h.3)
    suits_stronger calls (e.comma t a b) w h = (suits_stronger calls a (both_first a b w) h.0, suits_stronger calls b (both_second a b w) h.1, h.2, h.3, h.4)
    suits_stronger calls (e.choice t c a b) w h =
        let rest = said_second vs ms (said.in_expr c) (said.in_expr a ++ said.in_expr b) (ment.in_expr c) (ment.in_expr a ++ ment.in_expr b) w in (
          suits_stronger calls c (said_first vs ms (said.in_expr c) (said.in_expr a ++ said.in_expr b) (ment.in_expr c) (ment.in_expr a ++ ment.in_expr b) w) h.0,
          suits_stronger calls a (both_first a b rest) h.1,
          suits_stronger calls b (both_second a b rest) h.2,
          h.3,
          h.4,
          h.5,
          h.6,
        )
    suits_stronger calls (e.assign t a b) w h = (suits_stronger calls a (both_first a b w) h.0, suits_stronger calls b (both_second a b w) h.1, h.2, h.3)
    suits_stronger calls (e.update t op at a b) w h = (suits_stronger calls a (both_first a b w) h.0, suits_stronger calls b (both_second a b w) h.1, h.2, h.3, h.4, h.5, h.6, h.7)
    suits_stronger calls (e.index t a i) w h = (suits_stronger calls a (both_first a i w) h.0, suits_stronger calls i (both_second a i w) h.1, h.2, h.3, h.4, h.5)
    suits_stronger calls (e.call t f es) w h =
        let rest = said_second vs ms (said.in_expr f) (said.of_call f es ++ said.in_args es) (ment.in_expr f) (ment.in_args es) w in (
          h.0,
          suits_stronger calls f (said_first vs ms (said.in_expr f) (said.of_call f es ++ said.in_args es) (ment.in_expr f) (ment.in_args es) w) h.1,
          args_stronger calls es (said_second vs ms (said.of_call f es) (said.in_args es) [] (ment.in_args es) rest) h.2,
          h.3,
        )
    suits_stronger calls (e.member t a m) w h = (suits_stronger calls a w h.0, h.1, h.2, h.3)
    suits_stronger calls (e.arrow t a m) w h = (suits_stronger calls a w h.0, h.1, h.2, h.3)

    args_stronger : (calls : Bool) (es : TArgs) → SaidIn vs ms (said.in_args es) (ment.in_args es) → SuitArgs calls R T es → SuitArgs calls S V es
    args_stronger calls e.no_args w h = tt
    args_stronger calls (e.more_args a es) w h = (
      suits_stronger calls a (said_first vs ms (said.in_expr a) (said.in_args es) (ment.in_expr a) (ment.in_args es) w) h.0,
      h.1,
      args_stronger calls es (said_second vs ms (said.in_expr a) (said.in_args es) (ment.in_expr a) (ment.in_args es) w) h.2,
    )

  here_stronger : (allowed : CType → Bool) (a : TExpr) → SaidIn vs ms (said.in_expr a) (ment.in_expr a) → SuitsHere R T allowed a → SuitsHere S V allowed a
  here_stronger allowed a w h = (suits_stronger true a w h.0, h.1)

  option_stronger : (allowed : CType → Bool) (a : Option TExpr) → SaidIn vs ms (said.in_option a) (ment.in_option a) → SuitsOption R T allowed a → SuitsOption S V allowed a
  option_stronger allowed None w h = tt
  option_stronger allowed (Some a) w h = here_stronger allowed a w h

  local_stronger : (x : Local) → SaidIn vs ms (said.in_local x) (ment.in_local x) → SuitsLocal R T x → SuitsLocal S V x
  local_stronger (st.auto d i) w h = tt
  local_stronger (st.auto_init d i k l a) w h = here_stronger (is_taken_as d.ty) a (said_second vs ms (said.in_declr d) (said.in_expr a) (ment.in_declr d) (ment.in_expr a) w) h
  local_stronger (st.static_ d k i) w h = tt
  local_stronger (st.extern_ d) w h = tt
  local_stronger (st.function d s) w h = tt

  locals_stronger : (xs : List Local) → SaidIn vs ms (flat_map said.in_local xs) (flat_map ment.in_local xs) → SuitLocals R T xs → SuitLocals S V xs
  locals_stronger [] w h = tt
  locals_stronger (x ∷ xs) w h = (
    local_stronger x (said_first vs ms (said.in_local x) (flat_map said.in_local xs) (ment.in_local x) (flat_map ment.in_local xs) w) h.0,
    locals_stronger xs (said_second vs ms (said.in_local x) (flat_map said.in_local xs) (ment.in_local x) (flat_map ment.in_local xs) w) h.1,
  )

  mutual
    stmt_stronger : (r : CType) (s : TStmt) → SaidIn vs ms (said.in_stmt s) (ment.in_stmt s) → SuitsStmt R T r s → SuitsStmt S V r s
    stmt_stronger r (st.expr k l a) w h = here_stronger is_used a w h
    stmt_stronger r (st.empty k l) w h = tt
    stmt_stronger r (st.if_only k l a s) w h = (
      here_stronger is_scalar a (said_first vs ms (said.in_expr a) (said.in_stmt s) (ment.in_expr a) (ment.in_stmt s) w) h.0,
      stmt_stronger r s (said_second vs ms (said.in_expr a) (said.in_stmt s) (ment.in_expr a) (ment.in_stmt s) w) h.1,
    )
    stmt_stronger r (st.if_else k l a s q) w h =
        let rest = said_second vs ms (said.in_expr a) (said.in_stmt s ++ said.in_stmt q) (ment.in_expr a) (ment.in_stmt s ++ ment.in_stmt q) w in (
          here_stronger is_scalar a (said_first vs ms (said.in_expr a) (said.in_stmt s ++ said.in_stmt q) (ment.in_expr a) (ment.in_stmt s ++ ment.in_stmt q) w) h.0,
          stmt_stronger r s (said_first vs ms (said.in_stmt s) (said.in_stmt q) (ment.in_stmt s) (ment.in_stmt q) rest) h.1,
          stmt_stronger r q (said_second vs ms (said.in_stmt s) (said.in_stmt q) (ment.in_stmt s) (ment.in_stmt q) rest) h.2,
        )
    stmt_stronger r (st.while_ k l a s) w h = (
      here_stronger is_scalar a (said_first vs ms (said.in_expr a) (said.in_stmt s) (ment.in_expr a) (ment.in_stmt s) w) h.0,
      stmt_stronger r s (said_second vs ms (said.in_expr a) (said.in_stmt s) (ment.in_expr a) (ment.in_stmt s) w) h.1,
    )
    stmt_stronger r (st.do_ k l s a) w h = (
      here_stronger is_scalar a (said_second vs ms (said.in_stmt s) (said.in_expr a) (ment.in_stmt s) (ment.in_expr a) w) h.0,
      stmt_stronger r s (said_first vs ms (said.in_stmt s) (said.in_expr a) (ment.in_stmt s) (ment.in_expr a) w) h.1,
    )
    stmt_stronger r (st.for_ k l a b c s) w h =
        let rest1 = said_second vs ms (said.in_option a) (said.in_option b ++ (said.in_option c ++ said.in_stmt s)) (ment.in_option a) (ment.in_option b ++ (ment.in_option c ++ ment.in_stmt s)) w in
        let rest2 = said_second vs ms (said.in_option b) (said.in_option c ++ said.in_stmt s) (ment.in_option b) (ment.in_option c ++ ment.in_stmt s) rest1 in (
          option_stronger is_used a (said_first vs ms (said.in_option a) (said.in_option b ++ (said.in_option c ++ said.in_stmt s)) (ment.in_option a) (ment.in_option b ++ (ment.in_option c ++ ment.in_stmt s)) w) h.0,
          option_stronger is_scalar b (said_first vs ms (said.in_option b) (said.in_option c ++ said.in_stmt s) (ment.in_option b) (ment.in_option c ++ ment.in_stmt s) rest1) h.1,
          option_stronger is_used c (said_first vs ms (said.in_option c) (said.in_stmt s) (ment.in_option c) (ment.in_stmt s) rest2) h.2,
          stmt_stronger r s (said_second vs ms (said.in_option c) (said.in_stmt s) (ment.in_option c) (ment.in_stmt s) rest2) h.3,
        )
    stmt_stronger r (st.switch k l a is) w h = (
      here_stronger is_integer a (said_first vs ms (said.in_expr a) (said.in_items is) (ment.in_expr a) (ment.in_items is) w) h.0,
      items_stronger r is (said_second vs ms (said.in_expr a) (said.in_items is) (ment.in_expr a) (ment.in_items is) w) h.1,
    )
    stmt_stronger r (st.break_ k l) w h = tt
    stmt_stronger r (st.continue_ k l) w h = tt
    stmt_stronger r (st.return_ k l a) w h = option_stronger (is_taken_as r) a w h
    stmt_stronger r (st.block line ds ss close_line) w h = (
      locals_stronger (locals ds) (said_first vs ms (flat_map said.in_local (locals ds)) (said.in_stmts ss) (flat_map ment.in_local (locals ds)) (ment.in_stmts ss) w) h.0,
      stmts_stronger r ss (said_second vs ms (flat_map said.in_local (locals ds)) (said.in_stmts ss) (flat_map ment.in_local (locals ds)) (ment.in_stmts ss) w) h.1,
    )

    stmts_stronger : (r : CType) (ss : TStmts) → SaidIn vs ms (said.in_stmts ss) (ment.in_stmts ss) → SuitStmts R T r ss → SuitStmts S V r ss
    stmts_stronger r st.no_stmts w h = tt
    stmts_stronger r (st.more_stmts s ss) w h = (
      stmt_stronger r s (said_first vs ms (said.in_stmt s) (said.in_stmts ss) (ment.in_stmt s) (ment.in_stmts ss) w) h.0,
      stmts_stronger r ss (said_second vs ms (said.in_stmt s) (said.in_stmts ss) (ment.in_stmt s) (ment.in_stmts ss) w) h.1,
    )

    items_stronger : (r : CType) (is : TItems) → SaidIn vs ms (said.in_items is) (ment.in_items is) → SuitItems R T r is → SuitItems S V r is
    items_stronger r st.no_items w h = tt
    items_stronger r (st.case_ a n is) w h = items_stronger r is (said_second vs ms (said.in_expr a) (said.in_items is) (ment.in_expr a) (ment.in_items is) w) h
    items_stronger r (st.default_ is) w h = items_stronger r is w h
    items_stronger r (st.more_items s is) w h = (
      stmt_stronger r s (said_first vs ms (said.in_stmt s) (said.in_items is) (ment.in_stmt s) (ment.in_items is) w) h.0,
      items_stronger r is (said_second vs ms (said.in_stmt s) (said.in_items is) (ment.in_stmt s) (ment.in_items is) w) h.1,
    )

  pub func_stronger : (f : Func) →
      SaidIn vs ms (flat_map said.in_local (locals f.locals) ++ said.in_stmts f.stmts) (flat_map ment.in_local (locals f.locals) ++ ment.in_stmts f.stmts) →
      SuitsFunc R T f → SuitsFunc S V f
  func_stronger f w h = (
    h.0,
    locals_stronger (locals f.locals) (said_first vs ms (flat_map said.in_local (locals f.locals)) (said.in_stmts f.stmts) (flat_map ment.in_local (locals f.locals)) (ment.in_stmts f.stmts) w) h.1,
    stmts_stronger f.result f.stmts (said_second vs ms (flat_map said.in_local (locals f.locals)) (said.in_stmts f.stmts) (flat_map ment.in_local (locals f.locals)) (ment.in_stmts f.stmts) w) h.2,
  )

  mutual
    init_stronger : (ts : List Tag) (t : CType) (i : Init) → SaidIn vs ms (said.in_init i) (ment.in_init i) → SuitsInit R T ts t i → SuitsInit S V ts t i
    init_stronger ts t (st.single a) w h = (suits_stronger false a w h.0, h.1)
    init_stronger ts t (st.bytes bs) w h = tt
    init_stronger ts t (st.group is) w h = inits_stronger ts (part_types ts t) is w h

    inits_stronger : (ts : List Tag) (us : List CType) (is : Inits) → SaidIn vs ms (said.in_inits is) (ment.in_inits is) → SuitInits R T ts us is → SuitInits S V ts us is
    inits_stronger ts us st.no_inits w h = tt
    inits_stronger ts [] (st.more_inits i is) w h = h
    inits_stronger ts (u ∷ us) (st.more_inits i is) w h = (
      init_stronger ts u i (said_first vs ms (said.in_init i) (said.in_inits is) (ment.in_init i) (ment.in_inits is) w) h.0,
      inits_stronger ts us is (said_second vs ms (said.in_init i) (said.in_inits is) (ment.in_init i) (ment.in_inits is) w) h.1,
    )

  pub begin_stronger : (ts : List Tag) (t : CType) (i : Option Init) → SaidIn vs ms (said.in_begin i) (ment.in_begin i) → SuitsBegin R T ts t i → SuitsBegin S V ts t i
  begin_stronger ts t None w h = tt
  begin_stronger ts t (Some i) w h = init_stronger ts t i w h
