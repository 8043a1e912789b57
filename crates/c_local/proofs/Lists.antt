-- Lists of parts, each judged where those before it stand.
use Rattle.std.proofs.Common.{◌≡◌, List, [], ◌∷◌, ◌++◌, map, Result, Err, IsErrAnd, refl, sym, ap, ◌∙◌, subst}
use Rattle.std.proofs.lemmas.Result.{err_from_is_err_and}
use Rattle.c_rule.specs.RuleScope.{Judged, Is, Fails, onward, Env}
use Rattle.c_scope.specs.declared.error.TypeErr.{TypeErr}
use Rattle.c_scope.specs.declared.error.TypeErr.TheVariants.{Rule, Memory}
use Rattle.c_rule.specs.Judging.{Behind, behind}
use Rattle.c_scope.specs.Says.{Refused, Says}

-- these parts before the rest
abbrev pub onto : {T A : Type 0} → (T → A → A) → List T → A → A
onto view [] z = z
onto view (x ∷ xs) z = view x (onto view xs z)

-- the outcome of the whole, by that of the rest
abbrev pub with_parts : {T A : Type 0} → (T → A → A) → List T → Judged (Behind A) → Judged (Behind A)
with_parts view xs j = onward j (λ r. behind (onto view xs r.tree) r.env)

-- the outcome of a list by its first part and those behind it
abbrev pub front : {A B : Type 0} → (B → A → A) → Judged (Behind B) → (Env → Judged (Behind A)) → Judged (Behind A)
front cons first go = onward first (λ y. onward (go y.env) (λ r. behind (cons y.tree r.tree) r.env))

none_yet : {T A : Type 0} (view : T → A → A) (j : Judged (Behind A)) → j ≡ with_parts view [] j
none_yet view (Is r) = refl
none_yet view (Fails n) = refl

-- before the first part
pub none_before : {T A : Type 0} (view : T → A → A) (xs : List T) (j : Judged (Behind A)) → xs ≡ [] → j ≡ with_parts view xs j
none_before view xs j e = none_yet view j ∙ ap (λ ys. with_parts view ys j) (sym e)

onto_more : {T A : Type 0} (view : T → A → A) (xs : List T) (x : T) (z : A) → onto view (xs ++ x ∷ []) z ≡ onto view xs (view x z)
onto_more view [] x z = refl
onto_more view (y ∷ ys) x z = ap (view y) (onto_more view ys x z)

with_more : {T A : Type 0} (view : T → A → A) (xs : List T) (x : T) (k : Judged (Behind A)) →
    with_parts view xs (onward k (λ r. behind (view x r.tree) r.env)) ≡ with_parts view (xs ++ x ∷ []) k
with_more view xs x (Is r) = ap (λ t. behind t r.env) (sym (onto_more view xs x r.tree))
with_more view xs x (Fails n) = refl

-- one part more
pub one_more : {T A : Type 0} (view : T → A → A) (xs ys : List T) (x : T) (whole j k : Judged (Behind A)) → whole ≡ with_parts view xs j →
    j ≡ onward k (λ r. behind (view x r.tree) r.env) → ys ≡ xs ++ x ∷ [] → whole ≡ with_parts view ys k
one_more view xs ys x whole j k p q e = p ∙ ap (with_parts view xs) q ∙ with_more view xs x k ∙ ap (λ zs. with_parts view zs k) (sym e)

pub next_part : {T A B : Type 0} (tree : T → B) (cons : B → A → A) (xs ys : List T) (x : T) (whole j : Judged (Behind A)) (first : Judged (Behind B)) (go : Env → Judged (Behind A))
    (d : Env) → whole ≡ with_parts (λ y r. cons (tree y) r) xs j → j ≡ front cons first go → first ≡ behind (tree x) d → ys ≡ xs ++ x ∷ [] →
    whole ≡ with_parts (λ y r. cons (tree y) r) ys (go d)
next_part tree cons xs ys x whole j first go d p q f e = one_more (λ y r. cons (tree y) r) xs ys x whole j (go d) p (q ∙ ap (λ k. front cons k go) f) e

-- a part that fails
pub refused_after : {T A : Type 0} (view : T → A → A) (xs : List T) (whole j : Judged (Behind A)) (e : TypeErr) → whole ≡ with_parts view xs j → Refused j e → Refused whole e
refused_after view xs whole j (Rule n l) p h = p ∙ ap (with_parts view xs) h
refused_after view xs whole j Memory p h = h

pub part_refused : {T A B : Type 0} (view : T → A → A) (cons : B → A → A) (xs : List T) (whole j : Judged (Behind A)) (first : Judged (Behind B)) (go : Env → Judged (Behind A))
    (e : TypeErr) → whole ≡ with_parts view xs j → j ≡ front cons first go → Refused first e → Refused whole e
part_refused view cons xs whole j first go (Rule n l) p q f = p ∙ ap (with_parts view xs) (q ∙ ap (λ k. front cons k go) f)
part_refused view cons xs whole j first go Memory p q f = f

-- behind the last part
pub all_parts : {T A : Type 0} (view : T → A → A) (xs : List T) (whole j : Judged (Behind A)) (z t : A) (c : Env) → whole ≡ with_parts view xs j → j ≡ behind z c → onto view xs z ≡ t →
    whole ≡ behind t c
all_parts view xs whole j z t c p q h = p ∙ ap (with_parts view xs) q ∙ ap (λ y. behind y c) h

pub onto_list : {T A : Type 0} (view : T → A) (xs : List T) → onto (λ x r. view x ∷ r) xs [] ≡ map view xs
onto_list view [] = refl
onto_list view (x ∷ xs) = ap (λ r. view x ∷ r) (onto_list view xs)

-- what is answered where a part fails with an error
pub err_judged : {T A : Type 0} (view : T → A) (j : Judged A) (r : Result T TypeErr) (w : TypeErr) → IsErrAnd r (λ y. y ≡ w) → Refused j w → Says view j r
err_judged view j r w h k = let p = err_from_is_err_and r h in subst (λ o. Says view j o) (sym (p.1 ∙ ap Err p.2)) k

abbrev pub in_front : {A : Type 0} → A → List A → List A
in_front x xs = x ∷ xs

-- outcomes one behind the other

pub twice : {A B C : Type 0} (j : Judged A) (f : A → Judged B) (g : B → Judged C) → onward (onward j f) g ≡ onward j (λ a. onward (f a) g)
twice (Is a) f g = refl
twice (Fails n) f g = refl

pub given : {B C D : Type 0} (j : Judged B) (g : B → C) (h : C → Judged D) → onward (onward j (λ b. Is (g b))) h ≡ onward j (λ b. h (g b))
given (Is b) g h = refl
given (Fails n) g h = refl

pub thrice : {A B C D : Type 0} (j : Judged A) (f : A → Judged B) (g : A → B → C) (h : C → Judged D) → onward (onward j (λ a. onward (f a) (λ b. Is (g a b)))) h ≡ onward j (λ a. onward (f a) (λ b. h (g a b)))
thrice (Is a) f g h = given (f a) (g a) h
thrice (Fails n) f g h = refl

-- what fails first fails whatever follows it
pub body_refused : {A B : Type 0} (whole : Judged A) (j : Judged B) (f : B → Judged A) (w : TypeErr) → whole ≡ onward j f → Refused j w → Refused whole w
body_refused whole j f (Rule n r) p q = p ∙ ap (λ k. onward k f) q
body_refused whole j f Memory p q = tt
