-- What is known before the run suits without a call.
use Rattle.std.proofs.Common.{◌≡◌, ℕ, List, Option, Some, None, Bool, true, false, refl}
use Rattle.std.specs.Prelude.{◌&&◌}
use Rattle.c_type.specs.Names.{pick}
use Rattle.c_type.specs.Sizes.{size}
use Rattle.c_type.specs.Types.{CType, Tag, fun, is_integer, is_pointer, signed_type, target}
use Rattle.c_tree.specs.TExpr as e
use Rattle.c_tree.specs.TExpr.{TExpr, Ref, type_of}
use Rattle.c_tree.specs.declared.TBinary.TheVariants.{Add, Sub}
use Rattle.c_tree.specs.Constant.{constant, given, is_zero, is_zero_option, is_nonzero}
use Rattle.c_rule.specs.RuleDecls.{is_some, is_known, place_spot, pointer_spot, is_function_address, moved_elements}
use Rattle.c_sound.specs.Suits.{Suits}
use Rattle.c_sound.proofs.RuleSuits.{or_cases}
use Rattle.std.proofs.lemmas.Bool.{and_parts}

given_first : {A B : Type 0} (o : Option A) (go : A → Option B) → is_some (given o go) ≡ true → is_some o ≡ true
given_first None go h = h
given_first (Some a) go h = refl

given_both : {A B C : Type 0} (o : Option A) (q : Option B) (go : A → B → Option C) → is_some (given o (λ x. given q (go x))) ≡ true → (is_some o ≡ true) × (is_some q ≡ true)
given_both None q go h = cc
given_both (Some a) q go h = (refl, given_first q (go a) h)

given_three : {A B C D : Type 0} (o : Option A) (q : Option B) (r : Option C) (go : A → B → C → Option D) → is_some (given o (λ x. given q (λ y. given r (go x y)))) ≡ true →
    (is_some o ≡ true) × (is_some q ≡ true) × (is_some r ≡ true)
given_three None q r go h = cc
given_three (Some a) q r go h = let p = given_both q r (go a) h in (refl, p.0, p.1)

pick_some : {A : Type 0} (P : Type 0) (b : Bool) (o q : Option A) → is_some (pick b o q) ≡ true → (is_some o ≡ true → P) → (is_some q ≡ true → P) → P
pick_some P true o q h f g = f h
pick_some P false o q h f g = g h

module _ (R : CType → Ref → Type 0) (T : ℕ → Type 0) (ts : List Tag) where
  constant_suits : (v : TExpr) → is_some (constant ts v) ≡ true → Suits true R T v → Suits false R T v
  constant_suits (e.name t r) k h = h
  constant_suits (e.int t n) k h = h
  constant_suits (e.unary t op a) k h = (constant_suits a (given_first (constant ts a) _ k) h.0, h.1)
  constant_suits (e.size_of a) k h = tt
  constant_suits (e.size_of_type t) k h = tt
  constant_suits (e.cast t a) k h = (constant_suits a (given_first (constant ts a) _ k) h.0, h.1, h.2)
  constant_suits (e.convert t a) k h = (constant_suits a (given_first (constant ts a) _ k) h.0, h.1, h.2)
  constant_suits (e.binary t op a b) k h = let p = given_both (constant ts a) (constant ts b) _ k in (constant_suits a p.0 h.0, constant_suits b p.1 h.1, h.2)
  constant_suits (e.both a b) k h = let p = given_both (constant ts a) (constant ts b) _ k in (constant_suits a p.0 h.0, constant_suits b p.1 h.1, h.2, h.3)
  constant_suits (e.either a b) k h = let p = given_both (constant ts a) (constant ts b) _ k in (constant_suits a p.0 h.0, constant_suits b p.1 h.1, h.2, h.3)
  constant_suits (e.choice t c a b) k h =
      let p = given_three (constant ts c) (constant ts a) (constant ts b) (λ x y z. Some (pick (is_nonzero x) y z)) k in
      (constant_suits c p.0 h.0, constant_suits a p.1 h.1, constant_suits b p.2 h.2, h.3, h.4, h.5, h.6)
  constant_suits _ k h = cc

  mutual
    place_suits : (v : TExpr) → is_some (place_spot ts v) ≡ true → Suits true R T v → Suits false R T v
    place_suits (e.name t r) k h = h
    place_suits (e.text t m) k h = h
    place_suits (e.deref t a) k h = (pointer_suits a k h.0, h.1, h.2)
    place_suits (e.index t a i) k h =
        let p = given_both (pointer_spot ts a) (constant ts i) (λ s n. moved_elements (size ts t) (signed_type (type_of i)) false n s) k in
        (pointer_suits a p.0 h.0, constant_suits i p.1 h.1, h.2, h.3, h.4, h.5)
    place_suits (e.member t a m) k h = (place_suits a (given_first (place_spot ts a) _ k) h.0, h.1, h.2, h.3)
    place_suits (e.arrow t a m) k h = (pointer_suits a (given_first (pointer_spot ts a) _ k) h.0, h.1, h.2, h.3)
    place_suits _ k h = cc

    pointer_suits : (v : TExpr) → is_some (pointer_spot ts v) ≡ true → Suits true R T v → Suits false R T v
    pointer_suits (e.address t a) k h = (place_suits a k h.0, h.1, h.2)
    pointer_suits (e.decay t a) k h = (place_suits a k h.0, h.1, h.2)
    pointer_suits (e.binary t Add a b) k h =
        pick_some _ (is_pointer (type_of a)) _ _ k
        (λ g. let p = given_both (pointer_spot ts a) (constant ts b) (λ s n. moved_elements (size ts (target t)) (signed_type (type_of b)) false n s) g in
        (pointer_suits a p.0 h.0, constant_suits b p.1 h.1, h.2))
        (λ g. let p = given_both (pointer_spot ts b) (constant ts a) (λ s n. moved_elements (size ts (target t)) (signed_type (type_of a)) false n s) g in
        (constant_suits a p.1 h.0, pointer_suits b p.0 h.1, h.2))
    pointer_suits (e.binary t Sub a b) k h =
        let p = given_both (pointer_spot ts a) (constant ts b) (λ s n. moved_elements (size ts (target t)) (signed_type (type_of b)) true n s) k in
        (pointer_suits a p.0 h.0, constant_suits b p.1 h.1, h.2)
    pointer_suits _ k h = cc

  function_suits : (v : TExpr) → is_function_address v ≡ true → Suits true R T v → Suits false R T v
  function_suits (e.designate t (e.name (fun u) r)) k h = h
  function_suits (e.address t (e.name (fun u) r)) k h = h
  function_suits _ k h = cc

  pub known_suits : (t : CType) (v : TExpr) → is_known ts t v ≡ true → Suits true R T v → Suits false R T v
  known_suits t v k h =
      or_cases _ (is_integer t && is_some (constant ts v)) _ k
      (λ g. constant_suits v (and_parts (is_integer t) _ g).1 h)
      (λ g. or_cases _ (is_integer (type_of v) && is_zero ts v) _ (and_parts (is_pointer t) _ g).1
      (λ z. constant_suits v (zero_some (constant ts v) (and_parts (is_integer (type_of v)) _ z).1) h)
      (λ z. or_cases _ (is_some (pointer_spot ts v)) (is_function_address v) z (λ s. pointer_suits v s h) (λ s. function_suits v s h)))
    where
      zero_some : (o : Option ℕ) → is_zero_option o ≡ true → is_some o ≡ true
      zero_some None h = h
      zero_some (Some m) h = refl
