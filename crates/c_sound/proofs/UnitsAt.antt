-- What the lists of a program hold, unit by unit: bodies, facts and what is said of objects.
use Rattle.std.proofs.Common.{◌≡◌, ℕ, zero, suc, ◌+◌, ◌<◌, List, [], ◌∷◌, ◌++◌, map, Bool, true, false, not, ◌&&◌, nat_eq, slice_get, Option, Some, ◌⊎◌, inl, inr, refl, sym, ap, ◌∙◌, subst, true≢false, arith}
use Rattle.std.proofs.lemmas.Bool.{eqb-true}
use Rattle.c_type.specs.Names.{Name, same_name, pick, at_or}
use Rattle.c_tree.specs.TUnit.{Func, TypedUnit, funcs_of, no_unit}
use Rattle.c_tree.specs.Bodies.{BodyAt, bodies_from, body_in, body_named}
use Rattle.c_join.specs.JoinSaid.{Event, Fact, fact, facts_in, facts_from, is_lacking, events}
use Rattle.c_run.specs.Lasting.{Said, said_from}
use Rattle.c_run.specs.Mentions.{in_exts}
use Rattle.c_sound.specs.Laws.{AllSuit}
use Rattle.c_sound.specs.Unit.{SuitsUnit}
use Rattle.c_sound.proofs.Listed.{IsIn, in_first, in_second, in_either, in_map, of_map}
use Rattle.c_sound.proofs.Objects.{number_itself}

-- t is unit u, where the first of the units has the number n
abbrev pub IsUnit : ℕ → List TypedUnit → ℕ → TypedUnit → Type 0
IsUnit n [] u t = ⊥
IsUnit n (x ∷ xs) u t = ((u ≡ n) × (t ≡ x)) ⊎ IsUnit (suc n) xs u t

-- its place
placed : (n : ℕ) (us : List TypedUnit) (u : ℕ) (t : TypedUnit) → IsUnit n us u t → (k : ℕ) × (u ≡ k + n) × (at_or no_unit us k ≡ t)
placed n [] u t h = absurd h
placed n (x ∷ xs) u t (inl h) = let e : u ≡ n = h.0 in (0, omega arith, sym h.1)
placed n (x ∷ xs) u t (inr h) = let q = placed (suc n) xs u t h in let e : u ≡ q.0 + suc n = q.1 in (suc q.0, omega arith, q.2)

pub unit_at : (us : List TypedUnit) (u : ℕ) (t : TypedUnit) → IsUnit 0 us u t → at_or no_unit us u ≡ t
unit_at us u t h = let q = placed 0 us u t h in let e : u ≡ q.0 + 0 = q.1 in let e' : u ≡ q.0 = omega arith in ap (at_or no_unit us) e' ∙ q.2

pub one_unit : (us : List TypedUnit) (u : ℕ) (t t' : TypedUnit) → IsUnit 0 us u t → IsUnit 0 us u t' → t ≡ t'
one_unit us u t t' h g = sym (unit_at us u t h) ∙ unit_at us u t' g

pub suits_of : (n : ℕ) (us : List TypedUnit) (u : ℕ) (t : TypedUnit) → AllSuit us → IsUnit n us u t → SuitsUnit t
suits_of n [] u t h g = absurd g
suits_of n (x ∷ xs) u t h (inl g) = subst SuitsUnit (sym g.1) h.0
suits_of n (x ∷ xs) u t h (inr g) = suits_of (suc n) xs u t h.1 g

-- a body with its unit
abbrev pub body_at : ℕ → Func → BodyAt
body_at u f = record { unit = u; func = f }

pub body_of_unit : (n : ℕ) (us : List TypedUnit) (u : ℕ) (t : TypedUnit) (f : Func) → IsUnit n us u t → IsIn f (funcs_of t.exts) → IsIn (body_at u f) (bodies_from n us)
body_of_unit n [] u t f h g = absurd h
body_of_unit n (x ∷ xs) u t f (inl h) g =
    in_first (body_at u f) (map (body_at n) (funcs_of x.exts)) (bodies_from (suc n) xs)
    (subst (λ v. IsIn (body_at v f) (map (body_at n) (funcs_of x.exts))) (sym h.0) (in_map (body_at n) f (funcs_of x.exts) (subst (λ y. IsIn f (funcs_of y.exts)) h.1 g)))
body_of_unit n (x ∷ xs) u t f (inr h) g = in_second (body_at u f) (map (body_at n) (funcs_of x.exts)) (bodies_from (suc n) xs) (body_of_unit (suc n) xs u t f h g)

pub unit_of_body : (n : ℕ) (us : List TypedUnit) (b : BodyAt) → IsIn b (bodies_from n us) → (t : TypedUnit) × IsUnit n us b.unit t × IsIn b.func (funcs_of t.exts)
unit_of_body n [] b h = absurd h
unit_of_body n (x ∷ xs) b h = case_of (in_either b (map (body_at n) (funcs_of x.exts)) (bodies_from (suc n) xs) h) (λ g. unit_of_body (suc n) xs b g)
  where
    case_of : IsIn b (map (body_at n) (funcs_of x.exts)) ⊎ IsIn b (bodies_from (suc n) xs) →
        (IsIn b (bodies_from (suc n) xs) → (t : TypedUnit) × IsUnit (suc n) xs b.unit t × IsIn b.func (funcs_of t.exts)) →
        (t : TypedUnit) × IsUnit n (x ∷ xs) b.unit t × IsIn b.func (funcs_of t.exts)
    case_of (inl g) more =
        let q = of_map (body_at n) b (funcs_of x.exts) g in
        (x, inl (ap (λ y. y.unit) q.2, refl), subst (λ f. IsIn f (funcs_of x.exts)) (sym (ap (λ y. y.func) q.2)) q.1)
    case_of (inr g) more = let q = more g in (q.0, inr q.1, q.2)

-- what an event of a unit says in the program
abbrev pub fact_of : ℕ → TypedUnit → Event → Fact
fact_of u t v = fact u (funcs_of t.exts) (is_lacking (events t)) v

pub fact_of_unit : (n : ℕ) (us : List TypedUnit) (u : ℕ) (t : TypedUnit) (v : Event) → IsUnit n us u t → IsIn v (events t) → IsIn (fact_of u t v) (facts_from n us)
fact_of_unit n [] u t v h g = absurd h
fact_of_unit n (x ∷ xs) u t v (inl h) g =
    in_first (fact_of u t v) (facts_in n x) (facts_from (suc n) xs)
    (subst (λ y. IsIn (fact_of u t v) (facts_in n y)) h.1 (subst (λ m. IsIn (fact_of u t v) (facts_in m t)) h.0 (in_map (fact_of u t) v (events t) g)))
fact_of_unit n (x ∷ xs) u t v (inr h) g = in_second (fact_of u t v) (facts_in n x) (facts_from (suc n) xs) (fact_of_unit (suc n) xs u t v h g)

pub unit_of_fact : (n : ℕ) (us : List TypedUnit) (f : Fact) → IsIn f (facts_from n us) →
    (u : ℕ) × (t : TypedUnit) × (v : Event) × IsUnit n us u t × IsIn v (events t) × (f ≡ fact_of u t v)
unit_of_fact n [] f h = absurd h
unit_of_fact n (x ∷ xs) f h = case_of (in_either f (facts_in n x) (facts_from (suc n) xs) h) (λ g. unit_of_fact (suc n) xs f g)
  where
    case_of : IsIn f (facts_in n x) ⊎ IsIn f (facts_from (suc n) xs) →
        (IsIn f (facts_from (suc n) xs) → (u : ℕ) × (t : TypedUnit) × (v : Event) × IsUnit (suc n) xs u t × IsIn v (events t) × (f ≡ fact_of u t v)) →
        (u : ℕ) × (t : TypedUnit) × (v : Event) × IsUnit n (x ∷ xs) u t × IsIn v (events t) × (f ≡ fact_of u t v)
    case_of (inl g) more = let q = of_map (fact_of n x) f (events x) g in (n, x, q.0, inl (refl, refl), q.1, q.2)
    case_of (inr g) more = let q = more g in (q.0, q.1, q.2, inr q.3, q.4, q.5)

abbrev pub said_of : ℕ → TypedUnit → Said
said_of u t = record { unit = u; texts = t.texts; mentions = in_exts t.exts }

pub said_of_unit : (n : ℕ) (us : List TypedUnit) (u : ℕ) (t : TypedUnit) → IsUnit n us u t → IsIn (said_of u t) (said_from n us)
said_of_unit n [] u t h = absurd h
said_of_unit n (x ∷ xs) u t (inl h) = inl (ap (λ m. said_of m t) h.0 ∙ ap (said_of n) h.1)
said_of_unit n (x ∷ xs) u t (inr h) = inr (said_of_unit (suc n) xs u t h)

pub unit_of_said : (n : ℕ) (us : List TypedUnit) (s : Said) → IsIn s (said_from n us) → (t : TypedUnit) × IsUnit n us s.unit t × (s.mentions ≡ in_exts t.exts)
unit_of_said n [] s h = absurd h
unit_of_said n (x ∷ xs) s (inl e) = (x, inl (ap (λ r. r.unit) e, refl), ap (λ r. r.mentions) e)
unit_of_said n (x ∷ xs) s (inr h) = let q = unit_of_said (suc n) xs s h in (q.0, inr q.1, q.2)

-- o is the number from m on of the body b
abbrev pub IsFound : ℕ → List BodyAt → Option ℕ → BodyAt → Type 0
IsFound m bs o b = (j : ℕ) × (o ≡ Some (m + j)) × (slice_get bs j ≡ Some b)

found_later : (m : ℕ) (c : BodyAt) (bs : List BodyAt) (o : Option ℕ) (b : BodyAt) → IsFound (suc m) bs o b → IsFound m (c ∷ bs) o b
found_later m c bs o b h = (suc h.0, h.1 ∙ ap Some (let e : suc m + h.0 ≡ m + suc h.0 = omega arith in e), h.2)

found_now : (m : ℕ) (c : BodyAt) (bs : List BodyAt) (b : BodyAt) → b ≡ c → IsFound m (c ∷ bs) (Some m) b
found_now m c bs b e = (0, ap Some (let q : m ≡ m + 0 = omega arith in q), ap Some (sym e))

own_here : (m u k : ℕ) (fs : List Func) (rest : List BodyAt) (f : Func) → slice_get fs k ≡ Some f → IsFound m (map (body_at u) fs ++ rest) (body_in m (map (body_at u) fs ++ rest) u k) (body_at u f)
own_here m u k [] rest f h = cc
own_here m u zero (g ∷ fs) rest f h =
    let all = map (body_at u) fs ++ rest in
    subst (λ b. IsFound m (body_at u g ∷ all) (pick b (Some m) (body_in (suc m) all u 0)) (body_at u f)) (sym (number_itself u)) (found_now m (body_at u g) all (body_at u f) (ap (body_at u) (sym (some_func h))))
  where
    some_func : Some g ≡ Some f → g ≡ f
    some_func e = cc
own_here m u (suc k) (g ∷ fs) rest f h =
    let all = map (body_at u) fs ++ rest in
    subst (λ b. IsFound m (body_at u g ∷ all) (body_in (suc m) all u (pick b k (suc k))) (body_at u f)) (sym (number_itself u))
    (found_later m (body_at u g) all (body_in (suc m) all u k) (body_at u f) (own_here (suc m) u k fs rest f h))

own_skips : (m n u k : ℕ) (fs : List Func) (rest : List BodyAt) (b : BodyAt) → nat_eq n u ≡ false → ((i : ℕ) → IsFound i rest (body_in i rest u k) b) →
    IsFound m (map (body_at n) fs ++ rest) (body_in m (map (body_at n) fs ++ rest) u k) b
own_skips m n u k [] rest b e h = h m
own_skips m n u zero (g ∷ fs) rest b e h =
    let all = map (body_at n) fs ++ rest in
    subst (λ a. IsFound m (body_at n g ∷ all) (pick a (Some m) (body_in (suc m) all u 0)) b) (sym e) (found_later m (body_at n g) all (body_in (suc m) all u 0) b (own_skips (suc m) n u 0 fs rest b e h))
own_skips m n u (suc k) (g ∷ fs) rest b e h =
    let all = map (body_at n) fs ++ rest in
    subst (λ a. IsFound m (body_at n g ∷ all) (body_in (suc m) all u (pick a k (suc k))) b) (sym e)
    (found_later m (body_at n g) all (body_in (suc m) all u (suc k)) b (own_skips (suc m) n u (suc k) fs rest b e h))

apart : (n u : ℕ) → n < u → nat_eq n u ≡ false
apart n u h = case_of (nat_eq n u) refl
  where
    case_of : (b : Bool) → nat_eq n u ≡ b → nat_eq n u ≡ false
    case_of true e = let q : n ≡ u = eqb-true n u e in absurd (omega arith)
    case_of false e = e

-- body k of a unit has a number
pub own_found : (m n : ℕ) (us : List TypedUnit) (u k : ℕ) (t : TypedUnit) (f : Func) → IsUnit n us u t → slice_get (funcs_of t.exts) k ≡ Some f →
    IsFound m (bodies_from n us) (body_in m (bodies_from n us) u k) (body_at u f)
own_found m n [] u k t f h g = absurd h
own_found m n (x ∷ xs) u k t f (inl h) g =
    subst (λ i. IsFound m (map (body_at i) (funcs_of x.exts) ++ bodies_from (suc n) xs) (body_in m (map (body_at i) (funcs_of x.exts) ++ bodies_from (suc n) xs) u k) (body_at u f)) h.0
    (own_here m u k (funcs_of x.exts) (bodies_from (suc n) xs) f (subst (λ y. slice_get (funcs_of y.exts) k ≡ Some f) h.1 g))
own_found m n (x ∷ xs) u k t f (inr h) g =
    let q = placed (suc n) xs u t h in
    let e : u ≡ q.0 + suc n = q.1 in
    own_skips m n u k (funcs_of x.exts) (bodies_from (suc n) xs) (body_at u f) (apart n u (omega arith)) (λ i. own_found i (suc n) xs u k t f h g)

-- whether this is the external function x
abbrev pub is_outer : Name → BodyAt → Bool
is_outer x b = not b.func.is_static && same_name b.func.name x

-- an external function that some unit defines has a number
pub named_found : (m : ℕ) (bs : List BodyAt) (x : Name) (b : BodyAt) → IsIn b bs → is_outer x b ≡ true →
    (c : BodyAt) × IsFound m bs (body_named m bs x) c × IsIn c bs × (is_outer x c ≡ true)
named_found m [] x b h g = absurd h
named_found m (y ∷ bs) x b h g = case_of (is_outer x y) refl h (λ i. named_found (suc m) bs x b i g)
  where
    case_of : (a : Bool) → is_outer x y ≡ a → (b ≡ y) ⊎ IsIn b bs →
        (IsIn b bs → (c : BodyAt) × IsFound (suc m) bs (body_named (suc m) bs x) c × IsIn c bs × (is_outer x c ≡ true)) →
        (c : BodyAt) × IsFound m (y ∷ bs) (pick a (Some m) (body_named (suc m) bs x)) c × IsIn c (y ∷ bs) × (is_outer x c ≡ true)
    case_of true e i more = (y, found_now m y bs y refl, inl refl, e)
    case_of false e (inl i) more = absurd (true≢false (sym g ∙ ap (is_outer x) i ∙ e))
    case_of false e (inr i) more = let q = more i in (q.0, found_later m y bs (body_named (suc m) bs x) q.0 q.1, inr q.2, q.3)
