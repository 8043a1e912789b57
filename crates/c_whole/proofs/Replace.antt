-- In the comparison of types and tags one can stand for another that agrees with it.
use Rattle.std.proofs.Common.{◌≡◌, ℕ, List, [], ◌∷◌, Bool, true, false, ◌&&◌, nat_eq, Option, Some, None, refl, sym, ap, ◌∙◌, true≢false}
use Rattle.std.proofs.lemmas.Bool.{eqb-true, eq-eqb}
use Rattle.std.proofs.lemmas.Slice.Eq.{bytes_eq-Decides}
use Rattle.c_type.specs.Names.{Name, same_name}
use Rattle.c_type.specs.Types.{CType, num, void, ptr, arr, struct, union, enum, fun, kind_code, Tag, Member}
use Rattle.c_type.specs.declared.TagKind.{TagKind}
use Rattle.c_type.specs.declared.TagKind.TheVariants.{Struct, Union, Enum}
use Rattle.c_join.specs.JoinTypes.{TagAt, at, Relation, agree_by, members_agree, is_named, same_kind, alike, alike_where, between}

pub both_true : (a b : Bool) → (a && b) ≡ true → (a ≡ true) × (b ≡ true)
both_true true b h = (refl, h)
both_true false b h = absurd (true≢false (sym h))

pub and_true : (a b : Bool) → a ≡ true → b ≡ true → (a && b) ≡ true
and_true a b p q = (λ i. p i && q i)

-- what the tests of tags are: each tag can stand for one that is one with it
pub record Equates (r : Relation) : Type 0 where
  pub replace : (p q s : TagAt) → r p q ≡ true → r q s ≡ r p s
  pub turn : (p q : TagAt) → r p q ≡ true → r q p ≡ true

names_replace : (x y z : Name) → same_name x y ≡ true → same_name y z ≡ same_name x z
names_replace x y z h = ap (λ n. same_name n z) (sym ((bytes_eq-Decides x y).0 h))

names_turn : (x y : Name) → same_name x y ≡ true → same_name y x ≡ true
names_turn x y h = (bytes_eq-Decides y x).1 (sym ((bytes_eq-Decides x y).0 h))

named_too : (x y : Name) → same_name x y ≡ true → is_named x ≡ true → is_named y ≡ true
named_too x y h n = ap is_named (sym ((bytes_eq-Decides x y).0 h)) ∙ n

kinds_replace : (a b c : TagKind) → same_kind a b ≡ true → same_kind b c ≡ same_kind a c
kinds_replace Struct Struct c h = refl
kinds_replace Union Union c h = refl
kinds_replace Enum Enum c h = refl
kinds_replace a b c h = absurd (true≢false (sym h))

kinds_turn : (a b : TagKind) → same_kind a b ≡ true → same_kind b a ≡ true
kinds_turn Struct Struct h = refl
kinds_turn Union Union h = refl
kinds_turn Enum Enum h = refl
kinds_turn a b h = absurd (true≢false (sym h))

module _ (r : Relation) (laws : Equates r) where
  pub agree_replace : (u v w : ℕ) (a b c : CType) → agree_by (between r u v) a b ≡ true → agree_by (between r v w) b c ≡ agree_by (between r u w) a c
  agree_replace u v w (num i) (num j) (num k) h = ap (λ n. nat_eq n (kind_code k)) (sym (eqb-true (kind_code i) (kind_code j) h))
  agree_replace u v w (num i) (num j) c h = refl
  agree_replace u v w void void void h = refl
  agree_replace u v w void void c h = refl
  agree_replace u v w (ptr a) (ptr b) (ptr c) h = agree_replace u v w a b c h
  agree_replace u v w (ptr a) (ptr b) c h = refl
  agree_replace u v w (arr n a) (arr m b) (arr p c) h =
      let both = both_true (nat_eq n m) (agree_by (between r u v) a b) h in
      λ i. nat_eq (sym (eqb-true n m both.0) i) p && agree_replace u v w a b c both.1 i
  agree_replace u v w (arr n a) (arr m b) c h = refl
  agree_replace u v w (struct i) (struct j) (struct k) h = laws.replace (at u i) (at v j) (at w k) h
  agree_replace u v w (struct i) (struct j) c h = refl
  agree_replace u v w (union i) (union j) (union k) h = laws.replace (at u i) (at v j) (at w k) h
  agree_replace u v w (union i) (union j) c h = refl
  agree_replace u v w (enum i) (enum j) (enum k) h = laws.replace (at u i) (at v j) (at w k) h
  agree_replace u v w (enum i) (enum j) c h = refl
  agree_replace u v w (fun a) (fun b) (fun c) h = agree_replace u v w a b c h
  agree_replace u v w (fun a) (fun b) c h = refl
  agree_replace u v w a b c h = absurd (true≢false (sym h))

  agree_turn : (u v : ℕ) (a b : CType) → agree_by (between r u v) a b ≡ true → agree_by (between r v u) b a ≡ true
  agree_turn u v (num a) (num b) h = eq-eqb (kind_code b) (kind_code a) (sym (eqb-true (kind_code a) (kind_code b) h))
  agree_turn u v void void h = refl
  agree_turn u v (ptr a) (ptr b) h = agree_turn u v a b h
  agree_turn u v (arr n a) (arr m b) h =
      let both = both_true (nat_eq n m) (agree_by (between r u v) a b) h in
      and_true _ _ (eq-eqb m n (sym (eqb-true n m both.0))) (agree_turn u v a b both.1)
  agree_turn u v (struct i) (struct j) h = laws.turn (at u i) (at v j) h
  agree_turn u v (union i) (union j) h = laws.turn (at u i) (at v j) h
  agree_turn u v (enum i) (enum j) h = laws.turn (at u i) (at v j) h
  agree_turn u v (fun a) (fun b) h = agree_turn u v a b h
  agree_turn u v a b h = absurd (true≢false (sym h))

  members_turn : (u v : ℕ) (ms ns : List Member) → members_agree (between r u v) ms ns ≡ true → members_agree (between r v u) ns ms ≡ true
  members_turn u v [] [] h = refl
  members_turn u v (m ∷ ms) (n ∷ ns) h =
      let one = both_true (same_name m.name n.name) (agree_by (between r u v) m.ty n.ty && members_agree (between r u v) ms ns) h in
      let two = both_true (agree_by (between r u v) m.ty n.ty) (members_agree (between r u v) ms ns) one.1 in
      and_true _ _ (names_turn m.name n.name one.0) (and_true _ _ (agree_turn u v m.ty n.ty two.0) (members_turn u v ms ns two.1))
  members_turn u v ms ns h = absurd (true≢false (sym h))

  members_join : (u v w : ℕ) (ms ns os : List Member) → members_agree (between r u v) ms ns ≡ true → members_agree (between r v w) ns os ≡ true → members_agree (between r u w) ms os ≡ true
  members_join u v w [] [] [] h g = refl
  members_join u v w (m ∷ ms) (n ∷ ns) (o ∷ os) h g =
      let one = both_true (same_name m.name n.name) (agree_by (between r u v) m.ty n.ty && members_agree (between r u v) ms ns) h in
      let two = both_true (agree_by (between r u v) m.ty n.ty) (members_agree (between r u v) ms ns) one.1 in
      let three = both_true (same_name n.name o.name) (agree_by (between r v w) n.ty o.ty && members_agree (between r v w) ns os) g in
      let four = both_true (agree_by (between r v w) n.ty o.ty) (members_agree (between r v w) ns os) three.1 in
      and_true _ _ (sym (names_replace m.name n.name o.name one.0) ∙ three.0)
      (and_true _ _ (sym (agree_replace u v w m.ty n.ty o.ty two.0) ∙ four.0) (members_join u v w ms ns os two.1 four.1))
  members_join u v w [] [] (o ∷ os) h g = absurd (true≢false (sym g))
  members_join u v w (m ∷ ms) (n ∷ ns) [] h g = absurd (true≢false (sym g))
  members_join u v w ms ns os h g = absurd (true≢false (sym h))

  alike_turn : (u v : ℕ) (s t : Tag) → alike (between r u v) s t ≡ true → alike (between r v u) t s ≡ true
  alike_turn u v s t h =
      let one = both_true (is_named s.name) _ h in
      let two = both_true (same_name s.name t.name) _ one.1 in
      let three = both_true (same_kind s.kind t.kind) (members_agree (between r u v) s.members t.members) two.1 in
      and_true _ _ (named_too s.name t.name two.0 one.0) (and_true _ _ (names_turn s.name t.name two.0)
      (and_true _ _ (kinds_turn s.kind t.kind three.0) (members_turn u v s.members t.members three.1)))

  alike_join : (u v w : ℕ) (s t x : Tag) → alike (between r u v) s t ≡ true → alike (between r v w) t x ≡ true → alike (between r u w) s x ≡ true
  alike_join u v w s t x h g =
      let one = both_true (is_named s.name) _ h in
      let two = both_true (same_name s.name t.name) _ one.1 in
      let three = both_true (same_kind s.kind t.kind) (members_agree (between r u v) s.members t.members) two.1 in
      let four = both_true (is_named t.name) _ g in
      let five = both_true (same_name t.name x.name) _ four.1 in
      let six = both_true (same_kind t.kind x.kind) (members_agree (between r v w) t.members x.members) five.1 in
      and_true _ _ one.0 (and_true _ _ (sym (names_replace s.name t.name x.name two.0) ∙ five.0)
      (and_true _ _ (sym (kinds_replace s.kind t.kind x.kind three.0) ∙ six.0) (members_join u v w s.members t.members x.members three.1 six.1)))

  pub where_turn : (u v : ℕ) (x y : Option Tag) → alike_where (between r u v) x y ≡ true → alike_where (between r v u) y x ≡ true
  where_turn u v None None h = refl
  where_turn u v (Some s) (Some t) h = alike_turn u v s t h
  where_turn u v x y h = absurd (true≢false (sym h))

  pub where_join : (u v w : ℕ) (x y z : Option Tag) → alike_where (between r u v) x y ≡ true → alike_where (between r v w) y z ≡ true → alike_where (between r u w) x z ≡ true
  where_join u v w None None None h g = refl
  where_join u v w (Some s) (Some t) (Some x) h g = alike_join u v w s t x h g
  where_join u v w None None (Some x) h g = absurd (true≢false (sym g))
  where_join u v w (Some s) (Some t) None h g = absurd (true≢false (sym g))
  where_join u v w x y z h g = absurd (true≢false (sym h))

-- what agrees by a relation agrees by a wider one
module _ (r s : Relation) (wider : (p q : TagAt) → r p q ≡ true → s p q ≡ true) (u v : ℕ) where
  agree_wider : (a b : CType) → agree_by (between r u v) a b ≡ true → agree_by (between s u v) a b ≡ true
  agree_wider (num a) (num b) h = h
  agree_wider void void h = h
  agree_wider (ptr a) (ptr b) h = agree_wider a b h
  agree_wider (arr n a) (arr m b) h = let both = both_true (nat_eq n m) _ h in and_true _ _ both.0 (agree_wider a b both.1)
  agree_wider (struct i) (struct j) h = wider (at u i) (at v j) h
  agree_wider (union i) (union j) h = wider (at u i) (at v j) h
  agree_wider (enum i) (enum j) h = wider (at u i) (at v j) h
  agree_wider (fun a) (fun b) h = agree_wider a b h
  agree_wider a b h = absurd (true≢false (sym h))

  members_wider : (ms ns : List Member) → members_agree (between r u v) ms ns ≡ true → members_agree (between s u v) ms ns ≡ true
  members_wider [] [] h = h
  members_wider (m ∷ ms) (n ∷ ns) h =
      let one = both_true (same_name m.name n.name) _ h in
      let two = both_true (agree_by (between r u v) m.ty n.ty) _ one.1 in
      and_true _ _ one.0 (and_true _ _ (agree_wider m.ty n.ty two.0) (members_wider ms ns two.1))
  members_wider ms ns h = absurd (true≢false (sym h))

  alike_wider : (x y : Tag) → alike (between r u v) x y ≡ true → alike (between s u v) x y ≡ true
  alike_wider x y h =
      let one = both_true (is_named x.name) _ h in
      let two = both_true (same_name x.name y.name) _ one.1 in
      let three = both_true (same_kind x.kind y.kind) _ two.1 in
      and_true _ _ one.0 (and_true _ _ two.0 (and_true _ _ three.0 (members_wider x.members y.members three.1)))

  pub where_wider : (x y : Option Tag) → alike_where (between r u v) x y ≡ true → alike_where (between s u v) x y ≡ true
  where_wider None None h = h
  where_wider (Some x) (Some y) h = alike_wider x y h
  where_wider x y h = absurd (true≢false (sym h))
