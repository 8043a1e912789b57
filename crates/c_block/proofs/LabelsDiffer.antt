-- The labels of a switch differ where each differs from those before it.
use Rattle.std.proofs.Common.{◌≡◌, ℕ, List, [], ◌∷◌, ◌++◌, Bool, true, false, not, ◌&&◌, ◌||◌, nat_eq, refl, sym, ap, ◌∙◌}
use Rattle.std.proofs.lemmas.Cmp.{nat_eq_equiv}
use Rattle.std.specs.List.{list_any}
use Rattle.c_tree.specs.TExpr.{TExpr}
use Rattle.c_tree.specs.TStmt.{TStmt, TItems, no_items, case_, default_, more_items}
use Rattle.c_rule.specs.RuleStmts.{has_case, has_default, labels_differ}

-- none of these is a case
abbrev pub fresh : List ℕ → TItems → Bool
fresh [] is = true
fresh (n ∷ ns) is = not (has_case n is) && fresh ns is

-- the labels that are left differ from one another, from the cases before them, and from a default before them
abbrev pub left_differ : List ℕ → Bool → TItems → Bool
left_differ seen d is = labels_differ is && (fresh seen is && not (d && has_default is))

pub fresh_none : (ns : List ℕ) → fresh ns no_items ≡ true
fresh_none [] = refl
fresh_none (n ∷ ns) = fresh_none ns

pub at_first : (is : TItems) → labels_differ is ≡ left_differ [] false is
at_first is = by (labels_differ is)
  where
    by : (b : Bool) → b ≡ b && true
    by true = refl
    by false = refl

pub at_last : (ns : List ℕ) (d : Bool) → left_differ ns d no_items ≡ true
at_last ns d = ap (λ b. b && not (d && false)) (fresh_none ns) ∙ by d
  where
    by : (d : Bool) → not (d && false) ≡ true
    by true = refl
    by false = refl

fresh_stmt : (ns : List ℕ) (s : TStmt) (is : TItems) → fresh ns (more_items s is) ≡ fresh ns is
fresh_stmt [] s is = refl
fresh_stmt (n ∷ ns) s is = ap (λ b. not (has_case n is) && b) (fresh_stmt ns s is)

fresh_default : (ns : List ℕ) (is : TItems) → fresh ns (default_ is) ≡ fresh ns is
fresh_default [] is = refl
fresh_default (n ∷ ns) is = ap (λ b. not (has_case n is) && b) (fresh_default ns is)

pub past_stmt : (ns : List ℕ) (d : Bool) (s : TStmt) (is : TItems) → left_differ ns d (more_items s is) ≡ left_differ ns d is
past_stmt ns d s is = ap (λ b. labels_differ is && (b && not (d && has_default is))) (fresh_stmt ns s is)

pub past_default : (ns : List ℕ) (is : TItems) → left_differ ns false (default_ is) ≡ left_differ ns true is
past_default ns is = ap (λ b. (not (has_default is) && labels_differ is) && (b && true)) (fresh_default ns is) ∙ by (has_default is) (labels_differ is) (fresh ns is)
  where
    by : (h l f : Bool) → (not h && l) && (f && true) ≡ l && (f && not h)
    by true true true = refl
    by true true false = refl
    by true false f = refl
    by false true true = refl
    by false true false = refl
    by false false f = refl

pub second_default : (ns : List ℕ) (is : TItems) → left_differ ns true (default_ is) ≡ false
second_default ns is = by (not (has_default is) && labels_differ is) (fresh ns (default_ is))
  where
    by : (l f : Bool) → l && (f && false) ≡ false
    by true true = refl
    by true false = refl
    by false f = refl

nat_eq_sym : (m n : ℕ) → nat_eq m n ≡ nat_eq n m
nat_eq_sym m n = nat_eq_equiv.symm m n

fresh_case : (ns : List ℕ) (a : TExpr) (n : ℕ) (is : TItems) → fresh ns (case_ a n is) ≡ not (list_any (nat_eq n) ns) && fresh ns is
fresh_case [] a n is = refl
fresh_case (m ∷ ns) a n is =
    ap (λ b. not (nat_eq m n || has_case m is) && b) (fresh_case ns a n is) ∙ ap (λ b. not (b || has_case m is) && (not (list_any (nat_eq n) ns) && fresh ns is)) (nat_eq_sym m n) ∙
    by (nat_eq n m) (has_case m is) (list_any (nat_eq n) ns) (fresh ns is)
  where
    by : (e h l f : Bool) → not (e || h) && (not l && f) ≡ not (e || l) && (not h && f)
    by true h l f = refl
    by false true true f = refl
    by false true false f = refl
    by false false true f = refl
    by false false false f = refl

fresh_more : (ns : List ℕ) (n : ℕ) (is : TItems) → fresh (ns ++ n ∷ []) is ≡ fresh ns is && not (has_case n is)
fresh_more [] n is = by (has_case n is)
  where
    by : (h : Bool) → not h && true ≡ not h
    by true = refl
    by false = refl
fresh_more (m ∷ ns) n is = ap (λ b. not (has_case m is) && b) (fresh_more ns n is) ∙ by (has_case m is) (fresh ns is) (has_case n is)
  where
    by : (h f k : Bool) → not h && (f && not k) ≡ (not h && f) && not k
    by true f k = refl
    by false f k = refl

pub past_case : (ns : List ℕ) (d : Bool) (a : TExpr) (n : ℕ) (is : TItems) → list_any (nat_eq n) ns ≡ false → left_differ ns d (case_ a n is) ≡ left_differ (ns ++ n ∷ []) d is
past_case ns d a n is q =
    ap (λ b. (not (has_case n is) && labels_differ is) && (b && not (d && has_default is))) (fresh_case ns a n is ∙ ap (λ b. not b && fresh ns is) q) ∙
    by (has_case n is) (labels_differ is) (fresh ns is) (not (d && has_default is)) ∙ ap (λ b. labels_differ is && (b && not (d && has_default is))) (sym (fresh_more ns n is))
  where
    by : (h l f k : Bool) → (not h && l) && (f && k) ≡ l && ((f && not h) && k)
    by true true true k = refl
    by true true false k = refl
    by true false f k = refl
    by false true true k = refl
    by false true false k = refl
    by false false f k = refl

pub second_case : (ns : List ℕ) (d : Bool) (a : TExpr) (n : ℕ) (is : TItems) → list_any (nat_eq n) ns ≡ true → left_differ ns d (case_ a n is) ≡ false
second_case ns d a n is q =
    ap (λ b. (not (has_case n is) && labels_differ is) && (b && not (d && has_default is))) (fresh_case ns a n is ∙ ap (λ b. not b && fresh ns is) q) ∙
    by (not (has_case n is) && labels_differ is)
  where
    by : (l : Bool) → l && false ≡ false
    by true = refl
    by false = refl
