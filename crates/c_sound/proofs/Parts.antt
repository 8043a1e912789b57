-- The numbers that the parts of a typed block have count up: starts, automatic objects, texts and statics.
use Rattle.std.proofs.Common.{◌≡◌, ℕ, List, [], ◌∷◌, ◌++◌, length, map, Option, Some, None, Bool, true, false, refl, sym, ap, ◌∙◌, subst, arith}
use Rattle.std.specs.List.{flat_map}
use Rattle.c_type.specs.Types.{CType}
use Rattle.c_tree.specs.TreeDecl as ud
use Rattle.c_tree.specs.TreeExpr.{Expr}
use Rattle.c_tree.specs.TExpr.{TExpr}
use Rattle.c_tree.specs.TStmt as st
use Rattle.c_tree.specs.TStmt.{Declr, Local, LocalDecl, TStmt, TStmts, TItems, locals}
use Rattle.c_tree.specs.Bodies.{Auto}
use Rattle.c_tree.specs.Starts.{Start, at}
use Rattle.c_run.specs.Mentions.{Mention, in_expr, in_option, in_begin, in_init, in_inits, in_declr}
use Rattle.c_run.specs.Numbers.{text_numbers, own_numbers}
use Rattle.c_rule.specs.RuleScope.{Judged, Env, past, past_option, started}
use Rattle.c_rule.specs.RuleTree.{Gives}
use Rattle.c_rule.specs.RuleDecls.{past_declr, IsDeclr, fills_chars, IsSingle, IsInit, AreInits, Begins, part_types, first_value}
use Rattle.c_rule.specs.RuleStmts.{Maybe}
use Rattle.c_sound.proofs.Counts.{Counts, counts_both}
use Rattle.c_sound.proofs.RuleSays.{Says, first_says}
use Rattle.c_sound.proofs.TextOrder.{texts_both, own_both, own_none, gives_texts, derived_texts}
use Rattle.std.proofs.lemmas.List.{map-append}

-- Between c and f stand parts with these numbers of starts, automatic objects, texts and statics.
pub record Walked (c f : Env) (ss as_ ts ks : List ℕ) : Type 0 where
  pub starts : Counts c.starts ss f.starts
  pub autos : Counts c.autos as_ f.autos
  pub texts : Counts (length c.texts) ts (length f.texts)
  pub statics : Counts c.statics ks f.statics
  pub file : f.file ≡ c.file

pub walked_both : (c d f : Env) (ss ss' as_ as' ts ts' ks ks' : List ℕ) → Walked c d ss as_ ts ks → Walked d f ss' as' ts' ks' → Walked c f (ss ++ ss') (as_ ++ as') (ts ++ ts') (ks ++ ks')
walked_both c d f ss ss' as_ as' ts ts' ks ks' h k = record {
  starts = counts_both c.starts d.starts f.starts ss ss' h.starts k.starts;
  autos = counts_both c.autos d.autos f.autos as_ as' h.autos k.autos;
  texts = counts_both (length c.texts) (length d.texts) (length f.texts) ts ts' h.texts k.texts;
  statics = counts_both c.statics d.statics f.statics ks ks' h.statics k.statics;
  file = k.file ∙ h.file;
}

-- the same by starts, automatic objects and what is said
abbrev pub Part : Env → Env → List Start → List Auto → List Mention → Type 0
Part c f ss as_ ms = Walked c f (map (λ (s : Start). s.index) ss) (map (λ (x : Auto). x.number) as_) (text_numbers ms) (own_numbers ms)

pub part_both : (c d f : Env) (ss ss' : List Start) (as_ as' : List Auto) (ms ms' : List Mention) → Part c d ss as_ ms → Part d f ss' as' ms' → Part c f (ss ++ ss') (as_ ++ as') (ms ++ ms')
part_both c d f ss ss' as_ as' ms ms' h k =
    let w = walked_both c d f _ _ _ _ _ _ _ _ h k in
    record {
      starts = subst (λ z. Counts c.starts z f.starts) (sym (map-append (λ (s : Start). s.index) ss ss')) w.starts;
      autos = subst (λ z. Counts c.autos z f.autos) (sym (map-append (λ (x : Auto). x.number) as_ as')) w.autos;
      texts = subst (λ z. Counts (length c.texts) z (length f.texts)) (sym (texts_both ms ms')) w.texts;
      statics = subst (λ z. Counts c.statics z f.statics) (sym (own_both ms ms')) w.statics;
      file = w.file;
    }

-- where nothing that is counted differs
pub same_part : (c f : Env) → f.starts ≡ c.starts → f.autos ≡ c.autos → f.texts ≡ c.texts → f.statics ≡ c.statics → f.file ≡ c.file → Part c f [] [] []
same_part c f s a t k l = record { starts = sym s; autos = sym a; texts = sym (ap length t); statics = sym k; file = l }

pub here_part : (c f : Env) → f ≡ c → Part c f [] [] []
here_part c f q = subst (λ z. Part c z [] [] []) (sym q) (same_part c c refl refl refl refl refl)

-- texts alone
texts_part : (c f : Env) (ms : List Mention) → f.starts ≡ c.starts → f.autos ≡ c.autos → f.statics ≡ c.statics → f.file ≡ c.file → own_numbers ms ≡ [] → Counts (length c.texts) (text_numbers ms) (length f.texts) → Part c f [] [] ms
texts_part c f ms s a k l q t = record { starts = sym s; autos = sym a; texts = t; statics = subst (λ z. Counts c.statics z f.statics) (sym q) (sym k); file = l }

-- expressions

pub expr_part : (c : Env) (a : Expr) (v : TExpr) → Counts (length c.texts) (text_numbers (in_expr v)) (length (past a c).texts) → Part c (past a c) [] [] (in_expr v)
expr_part c a v t = texts_part c (past a c) (in_expr v) refl refl refl refl (own_none v) t

-- a start with its expression
pub begun : (c : Env) (l : ℕ) → Part c (started 1 c) (at c.starts l ∷ []) [] []
begun c l = record { starts = (refl, omega arith); autos = refl; texts = refl; statics = refl; file = refl }

pub started_expr : (c : Env) (l : ℕ) (a : Expr) (v : TExpr) → Counts (length c.texts) (text_numbers (in_expr v)) (length (past a c).texts) → Part c (past a (started 1 c)) (at c.starts l ∷ []) [] (in_expr v)
started_expr c l a v t = part_both c (started 1 c) (past a (started 1 c)) (at c.starts l ∷ []) [] [] [] [] (in_expr v) (begun c l) (expr_part (started 1 c) a v t)

pub option_part : (rule : TExpr → Judged TExpr) → ((x : TExpr) → Says (in_expr x) (rule x)) → (c : Env) (a : Option Expr) (v : Option TExpr) → Maybe (Gives rule c) a v → Part c (past_option a c) [] [] (in_option v)
option_part rule s c None v g = subst (λ z. Part c c [] [] (in_option z)) (sym g) (here_part c c refl)
option_part rule s c (Some a) v (w, g, q) = subst (λ z. Part c (past a c) [] [] (in_option z)) (sym q) (expr_part c a w (gives_texts rule s c a w g))

-- declarators

-- where texts may differ
pub record SameNumbers (c f : Env) : Type 0 where
  pub starts : f.starts ≡ c.starts
  pub autos : f.autos ≡ c.autos
  pub statics : f.statics ≡ c.statics
  pub file : f.file ≡ c.file

pub option_numbers : (a : Option Expr) (c : Env) → SameNumbers c (past_option a c)
option_numbers None c = record { starts = refl; autos = refl; statics = refl; file = refl }
option_numbers (Some a) c = record { starts = refl; autos = refl; statics = refl; file = refl }

pub declr_numbers : (d : ud.Declr) (c : Env) → SameNumbers c (past_declr d c)
declr_numbers (ud.pointer l d) c = declr_numbers d c
declr_numbers (ud.name l x) c = record { starts = refl; autos = refl; statics = refl; file = refl }
declr_numbers (ud.array l d a) c =
    let h = declr_numbers d c in
    let k = option_numbers a (past_declr d c) in
    record { starts = k.starts ∙ h.starts; autos = k.autos ∙ h.autos; statics = k.statics ∙ h.statics; file = k.file ∙ h.file }
declr_numbers (ud.function l d xs) c = declr_numbers d c

pub own_all : (es : List TExpr) → own_numbers (flat_map in_expr es) ≡ []
own_all [] = refl
own_all (a ∷ es) = own_both (in_expr a) (flat_map in_expr es) ∙ ap (λ z. z ++ own_numbers (flat_map in_expr es)) (own_none a) ∙ own_all es

pub declr_part : (c : Env) (missing : Option ℕ) (base : CType) (d : ud.Declr) (r : Declr) → IsDeclr c missing base d r → Part c (past_declr d c) [] [] (in_declr r)
declr_part c m base d r h =
    let k = declr_numbers d c in
    texts_part c (past_declr d c) (in_declr r) k.starts k.autos k.statics k.file (own_all r.dims) (derived_texts c m base d r.name r.ty r.dims h.0)

-- initialisers of static life

single_part : (b : Bool) (c : Env) (t : CType) (a : Expr) (v : st.Init) (f : Env) → IsSingle b c t a v f → Part c f [] [] (in_init v)
single_part true c t a v f h = subst (λ z. Part c f [] [] (in_init z)) (sym h.0) (here_part c f h.1)
single_part false c t a v f (w, g, q, e) =
    subst (λ z. Part c f [] [] (in_init z)) (sym q) (subst (λ z. Part c z [] [] (in_expr w)) (sym e) (expr_part c a w (gives_texts (first_value c t) (first_says c t) c a w g)))

mutual
  init_part : (c : Env) (t : CType) (i : ud.Init) (v : st.Init) (f : Env) → IsInit c t i v f → Part c f [] [] (in_init v)
  init_part c t (ud.single a) v f h = single_part (fills_chars t a) c t a v f h
  init_part c t (ud.group l is) v f (js, g, h, q) = subst (λ z. Part c f [] [] (in_init z)) (sym q) (inits_part c (part_types c.tags t) is js f h)

  inits_part : (c : Env) (ts : List CType) (is : ud.Inits) (js : st.Inits) (f : Env) → AreInits c ts is js f → Part c f [] [] (in_inits js)
  inits_part c ts ud.no_inits js f h = subst (λ z. Part c f [] [] (in_inits z)) (sym h.0) (here_part c f h.1)
  inits_part c [] (ud.more_inits i is) js f h = absurd h
  inits_part c (t ∷ ts) (ud.more_inits i is) js f (v, rest, c1, h, k, q) =
      subst (λ z. Part c f [] [] (in_inits z)) (sym q) (part_both c c1 f [] [] [] [] (in_init v) (in_inits rest) (init_part c t i v c1 h) (inits_part c1 ts is rest f k))

pub begins_part : (c : Env) (t : CType) (i : Option ud.Init) (v : Option st.Init) (f : Env) → Begins c t i v f → Part c f [] [] (in_begin v)
begins_part c t None v f h = subst (λ z. Part c f [] [] (in_begin z)) (sym h.0) (here_part c f h.1)
begins_part c t (Some i) v f (w, h, q) = subst (λ z. Part c f [] [] (in_begin z)) (sym q) (init_part c t i w f h)

mutual
  own_init : (i : st.Init) → own_numbers (in_init i) ≡ []
  own_init (st.single a) = own_none a
  own_init (st.bytes bs) = refl
  own_init (st.group is) = own_inits is

  own_inits : (is : st.Inits) → own_numbers (in_inits is) ≡ []
  own_inits st.no_inits = refl
  own_inits (st.more_inits i is) = own_both (in_init i) (in_inits is) ∙ ap (λ z. z ++ own_numbers (in_inits is)) (own_init i) ∙ own_inits is

pub own_begin : (i : Option st.Init) → own_numbers (in_begin i) ≡ []
own_begin None = refl
own_begin (Some i) = own_init i

-- what a declarator and its initialiser say declares no static
pub own_begun : (d : Declr) (i : Option st.Init) → own_numbers (in_declr d ++ in_begin i) ≡ []
own_begun d i = own_both (in_declr d) (in_begin i) ∙ ap (λ z. z ++ own_numbers (in_begin i)) (own_all d.dims) ∙ own_begin i
