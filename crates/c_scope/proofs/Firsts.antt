-- The first tag and the first function body of a name, where one more is added behind the others.
use Rattle.std.proofs.Common.{◌≡◌, ℕ, suc, ◌+◌, List, [], ◌∷◌, ◌++◌, length, Bool, true, false, ◌&&◌, Option, Some, None, refl, ap, sym, ◌∙◌, arith, true≢false}
use Rattle.std.proofs.Math.Bool.{and-true}
use Rattle.c_type.specs.Names.{Name, same_name, pick, or_else}
use Rattle.c_type.specs.declared.TagKind.{TagKind}
use Rattle.c_rule.specs.RuleScope.{Judged, Is, Fails, provided, TagHead, Body, same_kind, type_of_tag, tag_from, same_bool, body_from}
use Rattle.c_type.specs.Types.{CType}
use Rattle.c_scope.specs.Places.{head_from}

pub head_added : (k : ℕ) (ts : List TagHead) (t : TagHead) (x : Name) → head_from k (ts ++ t ∷ []) x ≡ or_else (head_from k ts x) (pick (same_name x t.name) (Some (k + length ts, t.kind)) None)
head_added k [] t x = ap (λ n. pick (same_name x t.name) (Some (n, t.kind)) None) (let e : k ≡ k + 0 = omega arith in e)
head_added k (h ∷ ts) t x = by (same_name x h.name) (head_added (suc k) ts t x ∙ ap (λ n. or_else (head_from (suc k) ts x) (pick (same_name x t.name) (Some (n, t.kind)) None)) (let e : suc k + length ts ≡ k + suc (length ts) = omega arith in e))
  where
    by : (b : Bool) → head_from (suc k) (ts ++ t ∷ []) x ≡ or_else (head_from (suc k) ts x) (pick (same_name x t.name) (Some (k + suc (length ts), t.kind)) None) →
        pick b (Some (k, h.kind)) (head_from (suc k) (ts ++ t ∷ []) x) ≡ or_else (pick b (Some (k, h.kind)) (head_from (suc k) ts x)) (pick (same_name x t.name) (Some (k + suc (length ts), t.kind)) None)
    by true e = refl
    by false e = e

pub head_last : (ts : List TagHead) (t : TagHead) (x : Name) → head_from 0 (ts ++ t ∷ []) x ≡ or_else (head_from 0 ts x) (pick (same_name x t.name) (Some (length ts, t.kind)) None)
head_last ts t x = head_added 0 ts t x ∙ ap (λ n. or_else (head_from 0 ts x) (pick (same_name x t.name) (Some (n, t.kind)) None)) (let e : 0 + length ts ≡ length ts = omega arith in e)

-- what a tag's name means, by its first head
abbrev pub by_head : TagKind → Option (ℕ × TagKind) → Judged CType
by_head kind None = Fails 3
by_head kind (Some h) = provided 3 (same_kind kind h.1) (Is (type_of_tag kind h.0))

pub tag_by_head : (k : ℕ) (ts : List TagHead) (kind : TagKind) (x : Name) → tag_from k ts kind x ≡ by_head kind (head_from k ts x)
tag_by_head k [] kind x = refl
tag_by_head k (t ∷ ts) kind x = by (same_name x t.name) (tag_by_head (suc k) ts kind x)
  where
    by : (b : Bool) → tag_from (suc k) ts kind x ≡ by_head kind (head_from (suc k) ts x) →
        pick b (provided 3 (same_kind kind t.kind) (Is (type_of_tag kind k))) (tag_from (suc k) ts kind x) ≡ by_head kind (pick b (Some (k, t.kind)) (head_from (suc k) ts x))
    by true e = refl
    by false e = e

pub body_added : (k : ℕ) (fs : List Body) (f : Body) (s : Bool) (x : Name) → body_from k (fs ++ f ∷ []) s x ≡ or_else (body_from k fs s x) (pick (same_name x f.name && same_bool s f.is_static) (Some (k + length fs)) None)
body_added k [] f s x = ap (λ n. pick (same_name x f.name && same_bool s f.is_static) (Some n) None) (let e : k ≡ k + 0 = omega arith in e)
body_added k (h ∷ fs) f s x = by (same_name x h.name && same_bool s h.is_static) (body_added (suc k) fs f s x ∙ ap (λ n. or_else (body_from (suc k) fs s x) (pick (same_name x f.name && same_bool s f.is_static) (Some n) None)) (let e : suc k + length fs ≡ k + suc (length fs) = omega arith in e))
  where
    by : (b : Bool) → body_from (suc k) (fs ++ f ∷ []) s x ≡ or_else (body_from (suc k) fs s x) (pick (same_name x f.name && same_bool s f.is_static) (Some (k + suc (length fs))) None) →
        pick b (Some k) (body_from (suc k) (fs ++ f ∷ []) s x) ≡ or_else (pick b (Some k) (body_from (suc k) fs s x)) (pick (same_name x f.name && same_bool s f.is_static) (Some (k + suc (length fs))) None)
    by true e = refl
    by false e = e

picked : {A : Type 0} (b c : Bool) (a : A) (o : Option A) → c ≡ true → or_else o (pick (b && c) (Some a) None) ≡ or_else o (pick b (Some a) None)
picked b true a o e = ap (λ d. or_else o (pick d (Some a) None)) (and-true b)
picked b false a o e = absurd (true≢false (sym e))

or_none : {A : Type 0} (o : Option A) → or_else o None ≡ o
or_none None = refl
or_none (Some a) = refl

unpicked : {A : Type 0} (b c : Bool) (a : A) (o : Option A) → c ≡ false → or_else o (pick (b && c) (Some a) None) ≡ o
unpicked true c a o e = ap (λ d. or_else o (pick d (Some a) None)) e ∙ or_none o
unpicked false c a o e = or_none o

body_last : (fs : List Body) (f : Body) (s : Bool) (x : Name) → body_from 0 (fs ++ f ∷ []) s x ≡ or_else (body_from 0 fs s x) (pick (same_name x f.name && same_bool s f.is_static) (Some (length fs)) None)
body_last fs f s x = body_added 0 fs f s x ∙ ap (λ n. or_else (body_from 0 fs s x) (pick (same_name x f.name && same_bool s f.is_static) (Some n) None)) (let e : 0 + length fs ≡ length fs = omega arith in e)

-- one more body of the same choice of `static`
pub own_added : (fs : List Body) (f : Body) (s : Bool) (x : Name) → same_bool s f.is_static ≡ true → body_from 0 (fs ++ f ∷ []) s x ≡ or_else (body_from 0 fs s x) (pick (same_name x f.name) (Some (length fs)) None)
own_added fs f s x e = body_last fs f s x ∙ picked (same_name x f.name) (same_bool s f.is_static) (length fs) (body_from 0 fs s x) e

-- one more of the other
pub other_added : (fs : List Body) (f : Body) (s : Bool) (x : Name) → same_bool s f.is_static ≡ false → body_from 0 (fs ++ f ∷ []) s x ≡ body_from 0 fs s x
other_added fs f s x e = body_last fs f s x ∙ unpicked (same_name x f.name) (same_bool s f.is_static) (length fs) (body_from 0 fs s x) e
