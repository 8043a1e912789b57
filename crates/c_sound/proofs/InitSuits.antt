-- An initialiser of static life suits, also where more tags are closed behind those that stood before it.
use Rattle.std.proofs.Common.{◌≡◌, ℕ, zero, suc, ◌+◌, ◌≤◌, List, [], ◌∷◌, ◌++◌, length, map, replicate, Option, Some, None, Bool, true, false, refl, sym, ap, subst, arith}
use Rattle.std.proofs.lemmas.Bool.{ltb-true, lt-ltb}
use Rattle.std.proofs.lemmas.List.{get_or_append_left}
use Rattle.c_type.specs.Names.{at_or}
use Rattle.c_type.specs.Sizes.{no_tag}
use Rattle.c_type.specs.Types.{CType, num, void, ptr, arr, struct, union, enum, fun, Tag, Member}
use Rattle.c_tree.specs.TreeDecl as ud
use Rattle.c_tree.specs.TreeExpr.{Expr}
use Rattle.c_tree.specs.TStmt as st
use Rattle.c_rule.specs.RuleScope.{Env, is_sized}
use Rattle.c_rule.specs.RuleDecls.{part_types, fills_chars, IsSingle, IsInit, AreInits, Begins}
use Rattle.c_sound.specs.Unit.{Declares, IsMeant, AnyText}
use Rattle.c_sound.specs.Suits.{SuitsInit, SuitInits, SuitsBegin}
use Rattle.c_sound.proofs.Stands.{IsSane, SaneMembers, SaneTags, Stands, members_at, past_stands}
use Rattle.c_sound.proofs.RuleSuits.{target_declared, element_sane}
use Rattle.c_sound.proofs.ExprSuits.{first_gives}

-- parts

pub sized_more : (n m : ℕ) (t : CType) → n ≤ m → is_sized n t ≡ true → is_sized m t ≡ true
sized_more n m (num k) le h = refl
sized_more n m void le h = refl
sized_more n m (ptr t) le h = refl
sized_more n m (arr i t) le h = sized_more n m t le h
sized_more n m (struct k) le h = let p = ltb-true k n h in lt-ltb k m (omega arith)
sized_more n m (union k) le h = let p = ltb-true k n h in lt-ltb k m (omega arith)
sized_more n m (enum k) le h = refl
sized_more n m (fun t) le h = refl

-- types of parts
abbrev AreParts : ℕ → List CType → Type 0
AreParts n [] = Unit {0}
AreParts n (t ∷ us) = (is_sized n t ≡ true) × IsSane t × AreParts n us

same_parts : (n m : ℕ) (t : CType) → is_sized n t ≡ true → IsSane t → AreParts n (replicate m t)
same_parts n zero t h s = tt
same_parts n (suc m) t h s = (h, s, same_parts n m t h s)

member_parts : (n m : ℕ) (ms : List Member) → n ≤ m → SaneMembers n ms → AreParts m (map (λ y. y.ty) ms)
member_parts n m [] le h = tt
member_parts n m (y ∷ ys) le h = (sized_more n m y.ty le h.2, h.1.0, member_parts n m ys le h.3)

parts_stand : (ts : List Tag) (t : CType) → SaneTags 0 ts → is_sized (length ts) t ≡ true → IsSane t → AreParts (length ts) (part_types ts t)
parts_stand ts (arr m t) g h s = same_parts (length ts) m t h (target_declared t (element_sane m t s)).0
parts_stand ts (struct k) g h s =
    let p = ltb-true k (length ts) h in
    member_parts (0 + k) (length ts) (at_or no_tag ts k).members (omega arith) (members_at 0 k ts g)
parts_stand ts (num k) g h s = tt
parts_stand ts void g h s = tt
parts_stand ts (ptr t) g h s = tt
parts_stand ts (union k) g h s = tt
parts_stand ts (enum k) g h s = tt
parts_stand ts (fun t) g h s = tt

-- tags that are closed later change no parts
parts_later : (ts more : List Tag) (t : CType) → is_sized (length ts) t ≡ true → part_types (ts ++ more) t ≡ part_types ts t
parts_later ts more (arr m t) h = refl
parts_later ts more (struct k) h = ap (λ r. map (λ y. y.ty) r.members) (get_or_append_left ts more no_tag k (ltb-true k (length ts) h))
parts_later ts more (num k) h = refl
parts_later ts more void h = refl
parts_later ts more (ptr t) h = refl
parts_later ts more (union k) h = refl
parts_later ts more (enum k) h = refl
parts_later ts more (fun t) h = refl

module _ (n : ℕ) (ks : Declares) (ts more : List Tag) where
  single_suits : (b : Bool) (c : Env) (t : CType) (a : Expr) (j : st.Init) (f : Env) → Stands n ks ts c → IsSane t → IsSingle b c t a j f →
      Stands n ks ts f × SuitsInit (IsMeant n ks) AnyText (ts ++ more) t j
  single_suits true c t a j f h s (q, e) = (subst (Stands n ks ts) (sym e) h, subst (SuitsInit (IsMeant n ks) AnyText (ts ++ more) t) (sym q) tt)
  single_suits false c t a j f h s (v, g, q, e) =
      (subst (Stands n ks ts) (sym e) (past_stands n ks ts a c h), subst (SuitsInit (IsMeant n ks) AnyText (ts ++ more) t) (sym q) (first_gives n ks ts c t a v s h g))

  mutual
    pub init_suits : (c : Env) (t : CType) (i : ud.Init) (j : st.Init) (f : Env) → Stands n ks ts c → is_sized (length ts) t ≡ true → IsSane t → IsInit c t i j f →
        Stands n ks ts f × SuitsInit (IsMeant n ks) AnyText (ts ++ more) t j
    init_suits c t (ud.single a) j f h z s k = single_suits (fills_chars t a) c t a j f h s k
    init_suits c t (ud.group l is) j f h z s (js, g, k, q) =
        let k1 = subst (λ y. AreInits c (part_types y t) is js f) h.tags k in
        let p = inits_suit c (part_types ts t) is js f h (parts_stand ts t h.sane z s) k1 in
        let p1 = subst (λ us. SuitInits (IsMeant n ks) AnyText (ts ++ more) us js) (sym (parts_later ts more t z)) p.1 in
        (p.0, subst (SuitsInit (IsMeant n ks) AnyText (ts ++ more) t) (sym q) p1)

    inits_suit : (c : Env) (us : List CType) (is : ud.Inits) (js : st.Inits) (f : Env) → Stands n ks ts c → AreParts (length ts) us → AreInits c us is js f →
        Stands n ks ts f × SuitInits (IsMeant n ks) AnyText (ts ++ more) us js
    inits_suit c us ud.no_inits js f h g (q, e) = (subst (Stands n ks ts) (sym e) h, subst (SuitInits (IsMeant n ks) AnyText (ts ++ more) us) (sym q) tt)
    inits_suit c [] (ud.more_inits i is) js f h g k = absurd k
    inits_suit c (t ∷ us) (ud.more_inits i is) js f h g (j, rest, c1, k, r, q) =
        let p = init_suits c t i j c1 h g.0 g.1 k in
        let p1 = inits_suit c1 us is rest f p.0 g.2 r in
        (p1.0, subst (SuitInits (IsMeant n ks) AnyText (ts ++ more) (t ∷ us)) (sym q) (p.1, p1.1))

  pub begins_suit : (c : Env) (t : CType) (i : Option ud.Init) (j : Option st.Init) (f : Env) → Stands n ks ts c → is_sized (length ts) t ≡ true → IsSane t → Begins c t i j f →
      Stands n ks ts f × SuitsBegin (IsMeant n ks) AnyText (ts ++ more) t j
  begins_suit c t None j f h z s (q, e) = (subst (Stands n ks ts) (sym e) h, subst (SuitsBegin (IsMeant n ks) AnyText (ts ++ more) t) (sym q) tt)
  begins_suit c t (Some i) j f h z s (k, g, q) =
      let p = init_suits c t i k f h z s g in (p.0, subst (SuitsBegin (IsMeant n ks) AnyText (ts ++ more) t) (sym q) p.1)
