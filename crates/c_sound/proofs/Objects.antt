-- Objects of static life are there, and what they begin as is what the units say.
use Rattle.std.proofs.Common.{◌≡◌, ℕ, suc, List, [], ◌∷◌, ◌++◌, Bool, true, false, ◌||◌, ◌&&◌, nat_eq, Option, Some, None, ◌⊎◌, inl, inr, refl, sym, ap, subst, true≢false}
use Rattle.std.specs.List.{flat_map}
use Rattle.std.proofs.lemmas.Slice.Eq.{bytes_eq-Decides}
use Rattle.std.proofs.lemmas.Bool.{eq-eqb, and_from, or_right}
use Rattle.c_type.specs.Names.{Name, same_name, pick, at_or, or_else}
use Rattle.c_type.specs.Types.{CType}
use Rattle.c_run.specs.Mentions.{Mention, Text, Use, Extern, Own, Outside}
use Rattle.c_run.specs.Lasting.{Origin, OfUnit, OfName, OfText, same_origin, Lasting, lasting, of_text, Said, begun_in, all_begun, is_among, unless_among, plain_in, all_plain, is_mentioned, names, common_in, first_common, add_common, commons, lastings_of, number_in}
use Rattle.c_run.specs.Context.{as_static}
use Rattle.c_sound.specs.Program.{IsThere}
use Rattle.c_sound.proofs.Listed.{IsIn, in_flat}

pub same_itself : (x : Name) → same_name x x ≡ true
same_itself x = (bytes_eq-Decides x x).1 refl

pub number_itself : (n : ℕ) → nat_eq n n ≡ true
number_itself n = eq-eqb n n refl

one_origin : (o : Origin) → same_origin o o ≡ true
one_origin (OfUnit u k) = and_from (nat_eq u u) (nat_eq k k) (number_itself u) (number_itself k)
one_origin (OfName x) = same_itself x
one_origin (OfText u k) = and_from (nat_eq u u) (nat_eq k k) (number_itself u) (number_itself k)

-- what is among the objects has a number
pub numbered : (n : ℕ) (xs : List Lasting) (o : Origin) → is_among xs o ≡ true → IsThere (as_static (number_in n xs o))
numbered n [] o h = absurd (true≢false (sym h))
numbered n (x ∷ xs) o h = case_of (same_origin x.origin o) h (λ g. numbered (suc n) xs o g)
  where
    case_of : (b : Bool) → (b || is_among xs o) ≡ true → (is_among xs o ≡ true → IsThere (as_static (number_in (suc n) xs o))) → IsThere (as_static (pick b (Some n) (number_in (suc n) xs o)))
    case_of true g more = tt
    case_of false g more = more g

among_first : (xs ys : List Lasting) (o : Origin) → is_among xs o ≡ true → is_among (xs ++ ys) o ≡ true
among_first [] ys o h = absurd (true≢false (sym h))
among_first (x ∷ xs) ys o h = case_of (same_origin x.origin o) h (λ g. among_first xs ys o g)
  where
    case_of : (b : Bool) → (b || is_among xs o) ≡ true → (is_among xs o ≡ true → is_among (xs ++ ys) o ≡ true) → (b || is_among (xs ++ ys) o) ≡ true
    case_of true g more = refl
    case_of false g more = more g

among_second : (xs ys : List Lasting) (o : Origin) → is_among ys o ≡ true → is_among (xs ++ ys) o ≡ true
among_second [] ys o h = h
among_second (x ∷ xs) ys o h = or_right (same_origin x.origin o) (is_among (xs ++ ys) o) (among_second xs ys o h)

among_here : (x : Lasting) (xs : List Lasting) → is_among (x ∷ xs) x.origin ≡ true
among_here x xs = ap (λ b. b || is_among xs x.origin) (one_origin x.origin)

unless_keeps : (xs : List Lasting) (x : Lasting) (o : Origin) → is_among xs o ≡ true → is_among (unless_among xs x) o ≡ true
unless_keeps xs x o h = case_of (is_among xs x.origin)
  where
    case_of : (b : Bool) → is_among (pick b xs (xs ++ x ∷ [])) o ≡ true
    case_of true = h
    case_of false = among_first xs (x ∷ []) o h

unless_has : (xs : List Lasting) (x : Lasting) → is_among (unless_among xs x) x.origin ≡ true
unless_has xs x = case_of (is_among xs x.origin) refl
  where
    case_of : (b : Bool) → is_among xs x.origin ≡ b → is_among (pick b xs (xs ++ x ∷ [])) x.origin ≡ true
    case_of true h = h
    case_of false h = among_second xs (x ∷ []) x.origin (among_here x [])

plain_keeps : (u : ℕ) (done : List Lasting) (ms : List Mention) (o : Origin) → is_among done o ≡ true → is_among (plain_in u done ms) o ≡ true
plain_keeps u done [] o h = h
plain_keeps u done (Text k ∷ ms) o h = plain_keeps u done ms o h
plain_keeps u done (Use x ∷ ms) o h = plain_keeps u done ms o h
plain_keeps u done (Extern x ∷ ms) o h = plain_keeps u done ms o h
plain_keeps u done (Own k t i ∷ ms) o h = plain_keeps u (unless_among done (lasting (OfUnit u k) u t None)) ms o (unless_keeps done (lasting (OfUnit u k) u t None) o h)
plain_keeps u done (Outside x t i ∷ ms) o h = plain_keeps u done ms o h

-- a static stands
abbrev HasOwn : ℕ → List Lasting → Mention → Type 0
HasOwn u xs (Text k) = Unit {0}
HasOwn u xs (Use x) = Unit {0}
HasOwn u xs (Extern x) = Unit {0}
HasOwn u xs (Own k t i) = is_among xs (OfUnit u k) ≡ true
HasOwn u xs (Outside x t i) = Unit {0}

plain_has : (u : ℕ) (done : List Lasting) (ms : List Mention) (m : Mention) → IsIn m ms → HasOwn u (plain_in u done ms) m
plain_has u done [] m h = absurd h
plain_has u done (Text k ∷ ms) m (inl e) = subst (HasOwn u (plain_in u done ms)) (sym e) tt
plain_has u done (Text k ∷ ms) m (inr h) = plain_has u done ms m h
plain_has u done (Use x ∷ ms) m (inl e) = subst (HasOwn u (plain_in u done ms)) (sym e) tt
plain_has u done (Use x ∷ ms) m (inr h) = plain_has u done ms m h
plain_has u done (Extern x ∷ ms) m (inl e) = subst (HasOwn u (plain_in u done ms)) (sym e) tt
plain_has u done (Extern x ∷ ms) m (inr h) = plain_has u done ms m h
plain_has u done (Own k t i ∷ ms) m (inl e) =
    let x = lasting (OfUnit u k) u t None in
    subst (HasOwn u (plain_in u (unless_among done x) ms)) (sym e) (plain_keeps u (unless_among done x) ms (OfUnit u k) (unless_has done x))
plain_has u done (Own k t i ∷ ms) m (inr h) = plain_has u (unless_among done (lasting (OfUnit u k) u t None)) ms m h
plain_has u done (Outside x t i ∷ ms) m (inl e) = subst (HasOwn u (plain_in u done ms)) (sym e) tt
plain_has u done (Outside x t i ∷ ms) m (inr h) = plain_has u done ms m h

all_plain_keeps : (done : List Lasting) (ss : List Said) (o : Origin) → is_among done o ≡ true → is_among (all_plain done ss) o ≡ true
all_plain_keeps done [] o h = h
all_plain_keeps done (s ∷ ss) o h = all_plain_keeps (plain_in s.unit done s.mentions) ss o (plain_keeps s.unit done s.mentions o h)

own_more : (u : ℕ) (xs ys : List Lasting) → ((o : Origin) → is_among xs o ≡ true → is_among ys o ≡ true) → (m : Mention) → HasOwn u xs m → HasOwn u ys m
own_more u xs ys f (Text k) h = tt
own_more u xs ys f (Use x) h = tt
own_more u xs ys f (Extern x) h = tt
own_more u xs ys f (Own k t i) h = f (OfUnit u k) h
own_more u xs ys f (Outside x t i) h = tt

all_plain_has : (done : List Lasting) (ss : List Said) (s : Said) (m : Mention) → IsIn s ss → IsIn m s.mentions → HasOwn s.unit (all_plain done ss) m
all_plain_has done [] s m h g = absurd h
all_plain_has done (r ∷ ss) s m (inl e) g =
    subst (λ r. HasOwn s.unit (all_plain (plain_in r.unit done r.mentions) ss) m) e
    (own_more s.unit (plain_in s.unit done s.mentions) (all_plain (plain_in s.unit done s.mentions) ss) (λ o k. all_plain_keeps (plain_in s.unit done s.mentions) ss o k) m (plain_has s.unit done s.mentions m g))
all_plain_has done (r ∷ ss) s m (inr h) g = all_plain_has (plain_in r.unit done r.mentions) ss s m h g

-- a text stands
abbrev HasText : ℕ → List Lasting → Mention → Type 0
HasText u xs (Text k) = is_among xs (OfText u k) ≡ true
HasText u xs (Use x) = Unit {0}
HasText u xs (Extern x) = Unit {0}
HasText u xs (Own k t i) = Unit {0}
HasText u xs (Outside x t i) = Unit {0}

text_more : (u : ℕ) (xs ys : List Lasting) → ((o : Origin) → is_among xs o ≡ true → is_among ys o ≡ true) → (m : Mention) → HasText u xs m → HasText u ys m
text_more u xs ys f (Text k) h = f (OfText u k) h
text_more u xs ys f (Use x) h = tt
text_more u xs ys f (Extern x) h = tt
text_more u xs ys f (Own k t i) h = tt
text_more u xs ys f (Outside x t i) h = tt

text_later : (u : ℕ) (x : Lasting) (xs : List Lasting) (m : Mention) → HasText u xs m → HasText u (x ∷ xs) m
text_later u x xs m h = text_more u xs (x ∷ xs) (λ o g. or_right (same_origin x.origin o) (is_among xs o) g) m h

begun_has : (u : ℕ) (ts : List (List ℕ)) (ms : List Mention) (m : Mention) → IsIn m ms → HasText u (begun_in u ts ms) m
begun_has u ts [] m h = absurd h
begun_has u ts (Text k ∷ ms) m (inl e) = subst (HasText u (begun_in u ts (Text k ∷ ms))) (sym e) (among_here (of_text u k (at_or [] ts k)) (begun_in u ts ms))
begun_has u ts (Text k ∷ ms) m (inr h) = text_later u (of_text u k (at_or [] ts k)) (begun_in u ts ms) m (begun_has u ts ms m h)
begun_has u ts (Use x ∷ ms) m (inl e) = subst (HasText u (begun_in u ts ms)) (sym e) tt
begun_has u ts (Use x ∷ ms) m (inr h) = begun_has u ts ms m h
begun_has u ts (Extern x ∷ ms) m (inl e) = subst (HasText u (begun_in u ts ms)) (sym e) tt
begun_has u ts (Extern x ∷ ms) m (inr h) = begun_has u ts ms m h
begun_has u ts (Own k t None ∷ ms) m (inl e) = subst (HasText u (begun_in u ts ms)) (sym e) tt
begun_has u ts (Own k t None ∷ ms) m (inr h) = begun_has u ts ms m h
begun_has u ts (Own k t (Some i) ∷ ms) m (inl e) = subst (HasText u (begun_in u ts (Own k t (Some i) ∷ ms))) (sym e) tt
begun_has u ts (Own k t (Some i) ∷ ms) m (inr h) = text_later u (lasting (OfUnit u k) u t (Some i)) (begun_in u ts ms) m (begun_has u ts ms m h)
begun_has u ts (Outside x t None ∷ ms) m (inl e) = subst (HasText u (begun_in u ts ms)) (sym e) tt
begun_has u ts (Outside x t None ∷ ms) m (inr h) = begun_has u ts ms m h
begun_has u ts (Outside x t (Some i) ∷ ms) m (inl e) = subst (HasText u (begun_in u ts (Outside x t (Some i) ∷ ms))) (sym e) tt
begun_has u ts (Outside x t (Some i) ∷ ms) m (inr h) = text_later u (lasting (OfName x) u t (Some i)) (begun_in u ts ms) m (begun_has u ts ms m h)

-- what unit s has in .data
abbrev begun_of : Said → List Lasting
begun_of s = begun_in s.unit s.texts s.mentions

all_begun_has : (ss : List Said) (s : Said) (m : Mention) → IsIn s ss → IsIn m s.mentions → HasText s.unit (all_begun ss) m
all_begun_has [] s m h g = absurd h
all_begun_has (r ∷ ss) s m (inl e) g =
    subst (λ r. HasText s.unit (begun_of r ++ all_begun ss) m) e
    (text_more s.unit (begun_of s) (begun_of s ++ all_begun ss) (λ o k. among_first (begun_of s) (all_begun ss) o k) m (begun_has s.unit s.texts s.mentions m g))
all_begun_has (r ∷ ss) s m (inr h) g =
    text_more s.unit (all_begun ss) (begun_of r ++ all_begun ss) (λ o k. among_second (begun_of r) (all_begun ss) o k) m (all_begun_has ss s m h g)

add_keeps : (done : List Lasting) (y : Option Lasting) (o : Origin) → is_among done o ≡ true → is_among (add_common done y) o ≡ true
add_keeps done None o h = h
add_keeps done (Some y) o h = unless_keeps done y o h

commons_keep : (all : List Said) (done : List Lasting) (xs : List Name) (o : Origin) → is_among done o ≡ true → is_among (commons all done xs) o ≡ true
commons_keep all done [] o h = h
commons_keep all done (x ∷ xs) o h = commons_keep all (add_common done (first_common x all)) xs o (add_keeps done (first_common x all) o h)

-- a common of that name
abbrev IsCommon : Name → Option Lasting → Type 0
IsCommon x None = ⊥
IsCommon x (Some y) = y.origin ≡ OfName x

add_has : (done : List Lasting) (x : Name) (y : Option Lasting) → IsCommon x y → is_among (add_common done y) (OfName x) ≡ true
add_has done x None h = absurd h
add_has done x (Some y) h = subst (λ o. is_among (unless_among done y) o ≡ true) h (unless_has done y)

commons_have : (all : List Said) (done : List Lasting) (x : Name) (xs : List Name) → IsIn x xs → IsCommon x (first_common x all) → is_among (commons all done xs) (OfName x) ≡ true
commons_have all done x [] h g = absurd h
commons_have all done x (y ∷ xs) (inl e) g =
    subst (λ y. is_among (commons all (add_common done (first_common y all)) xs) (OfName x) ≡ true) e
    (commons_keep all (add_common done (first_common x all)) xs (OfName x) (add_has done x (first_common x all) g))
commons_have all done x (y ∷ xs) (inr h) g = commons_have all (add_common done (first_common y all)) x xs h g

-- a declaration without `extern` is a common
abbrev HasCommon : (Name → Option Lasting) → Mention → Type 0
HasCommon f (Text k) = Unit {0}
HasCommon f (Use x) = Unit {0}
HasCommon f (Extern x) = Unit {0}
HasCommon f (Own k t i) = Unit {0}
HasCommon f (Outside x t i) = IsCommon x (f x)

picks_common : (b : Bool) (x : Name) (y z : Option Lasting) → IsCommon x y → IsCommon x z → IsCommon x (pick b y z)
picks_common true x y z h g = h
picks_common false x y z h g = g

common_later : (u : ℕ) (n : Mention) (ms : List Mention) (m : Mention) → HasCommon (λ x. common_in u x ms) m → HasCommon (λ x. common_in u x (n ∷ ms)) m
common_later u n ms (Text k) h = tt
common_later u n ms (Use x) h = tt
common_later u n ms (Extern x) h = tt
common_later u n ms (Own k t i) h = tt
common_later u (Text k) ms (Outside x t i) h = h
common_later u (Use y) ms (Outside x t i) h = h
common_later u (Extern y) ms (Outside x t i) h = h
common_later u (Own k r j) ms (Outside x t i) h = h
common_later u (Outside y r j) ms (Outside x t i) h = picks_common (same_name x y) x (Some (lasting (OfName x) u r None)) (common_in u x ms) refl h

common_here : (u : ℕ) (ms : List Mention) (m : Mention) → HasCommon (λ x. common_in u x (m ∷ ms)) m
common_here u ms (Text k) = tt
common_here u ms (Use x) = tt
common_here u ms (Extern x) = tt
common_here u ms (Own k t i) = tt
common_here u ms (Outside x t i) = subst (λ b. IsCommon x (pick b (Some (lasting (OfName x) u t None)) (common_in u x ms))) (sym (same_itself x)) refl

common_stands : (u : ℕ) (ms : List Mention) (m : Mention) → IsIn m ms → HasCommon (λ x. common_in u x ms) m
common_stands u [] m h = absurd h
common_stands u (n ∷ ms) m (inl e) = subst (λ n. HasCommon (λ x. common_in u x (n ∷ ms)) m) e (common_here u ms m)
common_stands u (n ∷ ms) m (inr h) = common_later u n ms m (common_stands u ms m h)

first_is_common : (x : Name) (a b : Option Lasting) → IsCommon x a → IsCommon x (or_else a b)
first_is_common x None b h = absurd h
first_is_common x (Some a) b h = h

common_in_is : (u : ℕ) (x : Name) (ms : List Mention) → common_in u x ms ≡ None ⊎ IsCommon x (common_in u x ms)
common_in_is u x [] = inl refl
common_in_is u x (Text k ∷ ms) = common_in_is u x ms
common_in_is u x (Use y ∷ ms) = common_in_is u x ms
common_in_is u x (Extern y ∷ ms) = common_in_is u x ms
common_in_is u x (Own k t i ∷ ms) = common_in_is u x ms
common_in_is u x (Outside y t i ∷ ms) = case_of (same_name x y) (common_in_is u x ms)
  where
    case_of : (b : Bool) → common_in u x ms ≡ None ⊎ IsCommon x (common_in u x ms) →
        pick b (Some (lasting (OfName x) u t None)) (common_in u x ms) ≡ None ⊎ IsCommon x (pick b (Some (lasting (OfName x) u t None)) (common_in u x ms))
    case_of true h = inr refl
    case_of false h = h

second_is_common : (x : Name) (a b : Option Lasting) → a ≡ None ⊎ IsCommon x a → IsCommon x b → IsCommon x (or_else a b)
second_is_common x a b (inl e) h = subst (λ a. IsCommon x (or_else a b)) (sym e) h
second_is_common x a b (inr g) h = first_is_common x a b g

first_has : (ss : List Said) (s : Said) (m : Mention) → IsIn s ss → IsIn m s.mentions → HasCommon (λ x. first_common x ss) m
first_has [] s m h g = absurd h
first_has (r ∷ ss) s m (inl e) g = subst (λ r. HasCommon (λ x. first_common x (r ∷ ss)) m) e (now m (common_stands s.unit s.mentions m g))
  where
    now : (m : Mention) → HasCommon (λ x. common_in s.unit x s.mentions) m → HasCommon (λ x. or_else (common_in s.unit x s.mentions) (first_common x ss)) m
    now (Text k) h = tt
    now (Use x) h = tt
    now (Extern x) h = tt
    now (Own k t i) h = tt
    now (Outside x t i) h = first_is_common x (common_in s.unit x s.mentions) (first_common x ss) h
first_has (r ∷ ss) s m (inr h) g = later m (first_has ss s m h g)
  where
    later : (m : Mention) → HasCommon (λ x. first_common x ss) m → HasCommon (λ x. or_else (common_in r.unit x r.mentions) (first_common x ss)) m
    later (Text k) h = tt
    later (Use x) h = tt
    later (Extern x) h = tt
    later (Own k t i) h = tt
    later (Outside x t i) h = second_is_common x (common_in r.unit x r.mentions) (first_common x ss) (common_in_is r.unit x r.mentions) h

-- an external that is declared without `extern` is listed
abbrev IsListed : List Name → Mention → Type 0
IsListed xs (Text k) = Unit {0}
IsListed xs (Use x) = Unit {0}
IsListed xs (Extern x) = Unit {0}
IsListed xs (Own k t i) = Unit {0}
IsListed xs (Outside x t i) = IsIn x xs

listed_more : (xs ys : List Name) → ((x : Name) → IsIn x xs → IsIn x ys) → (m : Mention) → IsListed xs m → IsListed ys m
listed_more xs ys f (Text k) h = tt
listed_more xs ys f (Use x) h = tt
listed_more xs ys f (Extern x) h = tt
listed_more xs ys f (Own k t i) h = tt
listed_more xs ys f (Outside x t i) h = f x h

names_list : (all ms : List Mention) (m : Mention) → IsIn m ms → IsListed (names all ms) m
names_list all [] m h = absurd h
names_list all (Text k ∷ ms) m (inl e) = subst (IsListed (names all ms)) (sym e) tt
names_list all (Text k ∷ ms) m (inr h) = names_list all ms m h
names_list all (Use x ∷ ms) m (inl e) = subst (IsListed (x ∷ names all ms)) (sym e) tt
names_list all (Use x ∷ ms) m (inr h) = listed_more (names all ms) (x ∷ names all ms) (λ y g. inr g) m (names_list all ms m h)
names_list all (Extern x ∷ ms) m (inl e) = subst (IsListed (names all (Extern x ∷ ms))) (sym e) tt
names_list all (Extern x ∷ ms) m (inr h) = case_of (is_mentioned x all) (names_list all ms m h)
  where
    case_of : (b : Bool) → IsListed (names all ms) m → IsListed (pick b (x ∷ names all ms) (names all ms)) m
    case_of true g = listed_more (names all ms) (x ∷ names all ms) (λ y k. inr k) m g
    case_of false g = g
names_list all (Own k t i ∷ ms) m (inl e) = subst (IsListed (names all ms)) (sym e) tt
names_list all (Own k t i ∷ ms) m (inr h) = names_list all ms m h
names_list all (Outside x t i ∷ ms) m (inl e) = subst (IsListed (x ∷ names all ms)) (sym e) (inl refl)
names_list all (Outside x t i ∷ ms) m (inr h) = listed_more (names all ms) (x ∷ names all ms) (λ y g. inr g) m (names_list all ms m h)

-- the object that a mention of unit u stands for is there
abbrev pub HasObject : ℕ → List Lasting → Mention → Type 0
HasObject u xs (Text k) = IsThere (as_static (number_in 0 xs (OfText u k)))
HasObject u xs (Use x) = Unit {0}
HasObject u xs (Extern x) = Unit {0}
HasObject u xs (Own k t i) = IsThere (as_static (number_in 0 xs (OfUnit u k)))
HasObject u xs (Outside x t i) = IsThere (as_static (number_in 0 xs (OfName x)))

pub objects_stand : (ss : List Said) (s : Said) (m : Mention) → IsIn s ss → IsIn m s.mentions → HasObject s.unit (lastings_of ss) m
objects_stand ss s m h g = by_kind m (all_begun_has ss s m h g) (all_plain_has (all_begun ss) ss s m h g) (first_has ss s m h g) (names_list s.mentions s.mentions m g)
  where
    by_kind : (m : Mention) → HasText s.unit (all_begun ss) m → HasOwn s.unit (all_plain (all_begun ss) ss) m → HasCommon (λ x. first_common x ss) m → IsListed (names s.mentions s.mentions) m →
        HasObject s.unit (lastings_of ss) m
    by_kind (Text k) a b c d =
        numbered 0 (lastings_of ss) (OfText s.unit k)
        (commons_keep ss (all_plain (all_begun ss) ss) (flat_map (λ r. names r.mentions r.mentions) ss) (OfText s.unit k) (all_plain_keeps (all_begun ss) ss (OfText s.unit k) a))
    by_kind (Use x) a b c d = tt
    by_kind (Extern x) a b c d = tt
    by_kind (Own k t i) a b c d =
        numbered 0 (lastings_of ss) (OfUnit s.unit k) (commons_keep ss (all_plain (all_begun ss) ss) (flat_map (λ r. names r.mentions r.mentions) ss) (OfUnit s.unit k) b)
    by_kind (Outside x t i) a b c d =
        numbered 0 (lastings_of ss) (OfName x)
        (commons_have ss (all_plain (all_begun ss) ss) x (flat_map (λ r. names r.mentions r.mentions) ss) (in_flat (λ r. names r.mentions r.mentions) s x ss h d) c)

-- the other way: what holds of each object that the units say holds of all that there are

abbrev pub Each : (Lasting → Type 0) → List Lasting → Type 0
Each P [] = Unit {0}
Each P (x ∷ xs) = P x × Each P xs

-- what a mention of unit u begins has P
abbrev pub Begins : (Lasting → Type 0) → ℕ → Mention → Type 0
Begins P u (Text k) = Unit {0}
Begins P u (Use x) = Unit {0}
Begins P u (Extern x) = Unit {0}
Begins P u (Own k t None) = Unit {0}
Begins P u (Own k t (Some i)) = P (lasting (OfUnit u k) u t (Some i))
Begins P u (Outside x t None) = Unit {0}
Begins P u (Outside x t (Some i)) = P (lasting (OfName x) u t (Some i))

module _ (P : Lasting → Type 0) (plain : (o : Origin) (u : ℕ) (t : CType) → P (lasting o u t None)) (text : (u k : ℕ) (bs : List ℕ) → P (of_text u k bs)) where
  each_append : (xs ys : List Lasting) → Each P xs → Each P ys → Each P (xs ++ ys)
  each_append [] ys h g = g
  each_append (x ∷ xs) ys h g = (h.0, each_append xs ys h.1 g)

  each_begun : (u : ℕ) (ts : List (List ℕ)) (ms : List Mention) → ((m : Mention) → IsIn m ms → Begins P u m) → Each P (begun_in u ts ms)
  each_begun u ts [] h = tt
  each_begun u ts (Text k ∷ ms) h = (text u k (at_or [] ts k), each_begun u ts ms (λ m i. h m (inr i)))
  each_begun u ts (Use x ∷ ms) h = each_begun u ts ms (λ m i. h m (inr i))
  each_begun u ts (Extern x ∷ ms) h = each_begun u ts ms (λ m i. h m (inr i))
  each_begun u ts (Own k t None ∷ ms) h = each_begun u ts ms (λ m i. h m (inr i))
  each_begun u ts (Own k t (Some b) ∷ ms) h = (h (Own k t (Some b)) (inl refl), each_begun u ts ms (λ m i. h m (inr i)))
  each_begun u ts (Outside x t None ∷ ms) h = each_begun u ts ms (λ m i. h m (inr i))
  each_begun u ts (Outside x t (Some b) ∷ ms) h = (h (Outside x t (Some b)) (inl refl), each_begun u ts ms (λ m i. h m (inr i)))

  each_all_begun : (ss : List Said) → ((s : Said) (m : Mention) → IsIn s ss → IsIn m s.mentions → Begins P s.unit m) → Each P (all_begun ss)
  each_all_begun [] h = tt
  each_all_begun (s ∷ ss) h =
      each_append (begun_of s) (all_begun ss) (each_begun s.unit s.texts s.mentions (λ m i. h s m (inl refl) i)) (each_all_begun ss (λ r m j i. h r m (inr j) i))

  each_unless : (xs : List Lasting) (x : Lasting) → Each P xs → P x → Each P (unless_among xs x)
  each_unless xs x h g = case_of (is_among xs x.origin)
    where
      case_of : (b : Bool) → Each P (pick b xs (xs ++ x ∷ []))
      case_of true = h
      case_of false = each_append xs (x ∷ []) h (g, tt)

  each_plain : (u : ℕ) (done : List Lasting) (ms : List Mention) → Each P done → Each P (plain_in u done ms)
  each_plain u done [] h = h
  each_plain u done (Text k ∷ ms) h = each_plain u done ms h
  each_plain u done (Use x ∷ ms) h = each_plain u done ms h
  each_plain u done (Extern x ∷ ms) h = each_plain u done ms h
  each_plain u done (Own k t i ∷ ms) h = each_plain u (unless_among done (lasting (OfUnit u k) u t None)) ms (each_unless done (lasting (OfUnit u k) u t None) h (plain (OfUnit u k) u t))
  each_plain u done (Outside x t i ∷ ms) h = each_plain u done ms h

  each_all_plain : (done : List Lasting) (ss : List Said) → Each P done → Each P (all_plain done ss)
  each_all_plain done [] h = h
  each_all_plain done (s ∷ ss) h = each_all_plain (plain_in s.unit done s.mentions) ss (each_plain s.unit done s.mentions h)

  abbrev HasP : Option Lasting → Type 0
  HasP None = Unit {0}
  HasP (Some x) = P x

  common_has : (u : ℕ) (x : Name) (ms : List Mention) → HasP (common_in u x ms)
  common_has u x [] = tt
  common_has u x (Text k ∷ ms) = common_has u x ms
  common_has u x (Use y ∷ ms) = common_has u x ms
  common_has u x (Extern y ∷ ms) = common_has u x ms
  common_has u x (Own k t i ∷ ms) = common_has u x ms
  common_has u x (Outside y t i ∷ ms) = case_of (same_name x y) (common_has u x ms)
    where
      case_of : (b : Bool) → HasP (common_in u x ms) → HasP (pick b (Some (lasting (OfName x) u t None)) (common_in u x ms))
      case_of true h = plain (OfName x) u t
      case_of false h = h

  either_has : (a b : Option Lasting) → HasP a → HasP b → HasP (or_else a b)
  either_has None b h g = g
  either_has (Some x) b h g = h

  first_common_has : (x : Name) (ss : List Said) → HasP (first_common x ss)
  first_common_has x [] = tt
  first_common_has x (s ∷ ss) = either_has (common_in s.unit x s.mentions) (first_common x ss) (common_has s.unit x s.mentions) (first_common_has x ss)

  each_commons : (all : List Said) (done : List Lasting) (xs : List Name) → Each P done → Each P (commons all done xs)
  each_commons all done [] h = h
  each_commons all done (x ∷ xs) h = each_commons all (add_common done (first_common x all)) xs (each_added done (first_common x all) h (first_common_has x all))
    where
      each_added : (done : List Lasting) (y : Option Lasting) → Each P done → HasP y → Each P (add_common done y)
      each_added done None h g = h
      each_added done (Some y) h g = each_unless done y h g

  pub each_lasting : (ss : List Said) → ((s : Said) (m : Mention) → IsIn s ss → IsIn m s.mentions → Begins P s.unit m) → Each P (lastings_of ss)
  each_lasting ss h =
      each_commons ss (all_plain (all_begun ss) ss) (flat_map (λ r. names r.mentions r.mentions) ss) (each_all_plain (all_begun ss) ss (each_all_begun ss h))
