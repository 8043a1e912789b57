-- What declarations at file level say is known behind them, and tags that they close are sane.
use Rattle.std.proofs.Common.{◌≡◌, ℕ, suc, ◌+◌, ◌<◌, ◌≤◌, List, [], ◌∷◌, ◌++◌, length, map, Option, Some, None, refl, sym, ap, subst, arith, append_assoc, append-nil, length-append}
use Rattle.c_type.specs.declared.TagKind.TheVariants.{Struct, Enum}
use Rattle.c_type.specs.Types.{CType, Tag, Member}
use Rattle.c_type.specs.Sizes.{capped, up_to, size, align, placed, laid_as}
use Rattle.c_tree.specs.TreeDecl as ud
use Rattle.c_tree.specs.TStmt.{Declr}
use Rattle.c_tree.specs.TUnit.{Spec, Mems, Enumerator}
use Rattle.c_rule.specs.RuleScope.{Env, Entry, Constant, close}
use Rattle.c_rule.specs.RuleDecls.{past_declr}
use Rattle.c_rule.specs.RuleTags.{AreEnumerators, AreMembers, AreTypes, IsDef, AreMems, IsMem, AreTypesOrInt, in_file, unplaced, as_member, member_of}
use Rattle.c_sound.specs.Unit.{Declares}
use Rattle.c_sound.proofs.Means.{Means}
use Rattle.c_sound.proofs.Stands.{SaneMembers, SaneTags, IsSaneName, Stands, option_stands, declr_stands}
use Rattle.c_sound.proofs.InitSuits.{sized_more}
use Rattle.c_sound.proofs.StmtSuits.{declr_sane, sized_there}

-- tags

below_cap : (m : ℕ) → capped m < 4294967296
below_cap m = omega arith

last_sane : (n : ℕ) (ts : List Tag) (t : Tag) → SaneTags n ts → t.size < 4294967296 → SaneMembers (n + length ts) t.members → SaneTags n (ts ++ t ∷ [])
last_sane n [] t h s m = (s, subst (λ k. SaneMembers k t.members) (omega arith) m, tt)
last_sane n (x ∷ xs) t h s m = (h.0, h.1, last_sane (suc n) xs t h.2 s (subst (λ k. SaneMembers k t.members) (omega arith) m))

placed_sane : (n : ℕ) (ts : List Tag) (o : ℕ) (ms : List Member) → SaneMembers n ms → SaneMembers n (placed ts o ms)
placed_sane n ts o [] h = tt
placed_sane n ts o (m ∷ ms) h = (h.0, h.1, h.2, placed_sane n ts (capped (capped (up_to (align ts m.ty) o) + size ts m.ty)) ms h.3)

later_sane : (n m : ℕ) (ms : List Member) → n ≤ m → SaneMembers n ms → SaneMembers m ms
later_sane n m [] le h = tt
later_sane n m (y ∷ ys) le h = (h.0, h.1, sized_more n m y.ty le h.2, later_sane n m ys le h.3)

both_sane : (n : ℕ) (xs ys : List Member) → SaneMembers n xs → SaneMembers n ys → SaneMembers n (xs ++ ys)
both_sane n [] ys h g = g
both_sane n (x ∷ xs) ys h g = (h.0, h.1, h.2, both_sane n xs ys h.3 g)

enumerators_sane : (n : ℕ) (ys : List Enumerator) → SaneMembers n (map as_member ys)
enumerators_sane n [] = tt
enumerators_sane n (y ∷ ys) = (refl, ((refl, refl, refl), refl), refl, enumerators_sane n ys)

module _ (n : ℕ) (ks : Declares) where
  pub in_file_stands : (ts : List Tag) (x : Entry) (c : Env) → Stands n ks ts c → Means (IsSaneName n ks) x.meaning → Stands n ks ts (in_file x c)
  in_file_stands ts x c h g = record { bodies = h.bodies; blocks = h.blocks; file = (g, h.file); tags = h.tags; sane = h.sane }

  enumerators_stand : (ts : List Tag) (c : Env) (b : Option ℕ) (xs : List ud.En) (ys : List Enumerator) (f : Env) → Stands n ks ts c → AreEnumerators c b xs ys f → Stands n ks ts f
  enumerators_stand ts c b [] ys f h (q, w) = subst (Stands n ks ts) (sym w) h
  enumerators_stand ts c b (x ∷ xs) ys f h (y, rest, i, g, k, q) =
      enumerators_stand ts _ _ xs rest f (in_file_stands ts (record { name = x.name; meaning = Constant y.value }) _ (option_stands n ks ts x.value c h) tt) k

  members_stand : (ts : List Tag) (c : Env) (base : CType) (ds : List ud.Declr) (ys : List Declr) (f : Env) → Stands n ks ts c → AreMembers c base ds ys f →
      Stands n ks ts f × SaneMembers (length ts) (map member_of ys)
  members_stand ts c base [] ys f h (q, w) = (subst (Stands n ks ts) (sym w) h, subst (λ z. SaneMembers (length ts) (map member_of z)) (sym q) tt)
  members_stand ts c base (d ∷ ds) ys f h (y, rest, i, g, s, k, q) =
      let p = members_stand ts (past_declr d c) base ds rest f (declr_stands n ks ts d c h) k in
      (p.0, subst (λ z. SaneMembers (length ts) (map member_of z)) (sym q) (g, declr_sane c None base d y i, sized_there n ks ts [] c y.ty h s, p.1))

  -- tags that were closed on the way
  pub record Grows (ts : List Tag) (f : Env) : Type 0 where
    pub more : List Tag
    pub stands : Stands n ks (ts ++ more) f

  pub same_grows : (ts : List Tag) (f : Env) → Stands n ks ts f → Grows ts f
  same_grows ts f h = record { more = []; stands = subst (λ z. Stands n ks z f) (sym (append-nil ts)) h }

  pub then_grows : (ts us : List Tag) (f : Env) → Grows (ts ++ us) f → Grows ts f
  then_grows ts us f h = record { more = us ++ h.more; stands = subst (λ z. Stands n ks z f) (append_assoc ts us h.more) h.stands }

  close_grows : (ts : List Tag) (c f : Env) (r : Tag) → Stands n ks ts c → (laid_as r.kind ts r).size < 4294967296 → SaneMembers (length ts) (laid_as r.kind ts r).members → f ≡ close r c → Grows ts f
  close_grows ts c f r h s m w = record {
    more = laid_as r.kind ts r ∷ [];
    stands = subst (Stands n ks (ts ++ laid_as r.kind ts r ∷ [])) (sym w) (record {
      bodies = h.bodies;
      blocks = h.blocks;
      file = h.file;
      tags = ap (λ z. z ++ laid_as r.kind z r ∷ []) h.tags;
      sane = last_sane 0 ts (laid_as r.kind ts r) h.sane s (subst (λ k. SaneMembers k (laid_as r.kind ts r).members) (omega arith) m);
    });
  }

  -- members of a tag that is not closed yet
  record Holds (ts : List Tag) (f : Env) (ms : List Member) : Type 0 where
    more : List Tag
    stands : Stands n ks (ts ++ more) f
    sane : SaneMembers (length (ts ++ more)) ms

  mutual
    pub types_grow : (ts : List Tag) (c : Env) (y : ud.Types) (s : Spec) (b : CType) (f : Env) → Stands n ks ts c → AreTypes c y s b f → Grows ts f
    types_grow ts c (ud.spec y) s b f h (g, q, w) = same_grows ts f (subst (Stands n ks ts) (sym w) h)
    types_grow ts c (ud.def d) s b f h g = def_grows ts c d s b f h g

    pub def_grows : (ts : List Tag) (c : Env) (d : ud.TagDef) (s : Spec) (b : CType) (f : Env) → Stands n ks ts c → IsDef c d s b f → Grows ts f
    def_grows ts c (ud.struct l x ms) s b f h (ys, ns, c1, g, d, q, r, w) =
        let p = mems_grow ts c ms ys ns c1 h g in
        let us = ts ++ p.more in
        then_grows ts p.more f (close_grows us c1 f (unplaced x Struct ns) p.stands (below_cap _) (placed_sane (length us) us 0 ns p.sane) w)
    def_grows ts c (ud.union l x ms) s b f h g = absurd g
    def_grows ts c (ud.enum l x es) s b f h (ys, c1, g, q, r, w) =
        close_grows ts c1 f (unplaced x Enum (map as_member ys)) (enumerators_stand ts c None es ys c1 h g) (omega arith) (enumerators_sane (length ts) ys) w

    mems_grow : (ts : List Tag) (c : Env) (ms : ud.Mems) (ys : Mems) (ns : List Member) (f : Env) → Stands n ks ts c → AreMems c ms ys ns f → Holds ts f ns
    mems_grow ts c ud.no_mems ys ns f h (q, r, w) =
        let p = same_grows ts f (subst (Stands n ks ts) (sym w) h) in record { more = p.more; stands = p.stands; sane = subst (SaneMembers (length (ts ++ p.more))) (sym r) tt }
    mems_grow ts c (ud.more_mems m ms) ys ns f h (s, ds, rest, others, c1, g, k, q, r) =
        let p = mem_grows ts c m s ds c1 h g in
        let p1 = mems_grow (ts ++ p.more) c1 ms rest others f p.stands k in
        let a : (ts ++ p.more) ++ p1.more ≡ ts ++ (p.more ++ p1.more) = append_assoc ts p.more p1.more in
        let le : length (ts ++ p.more) ≤ length ((ts ++ p.more) ++ p1.more) = omega (arith, length-append (ts ++ p.more) p1.more) in
        let m1 = both_sane (length ((ts ++ p.more) ++ p1.more)) (map member_of ds) others (later_sane (length (ts ++ p.more)) _ (map member_of ds) le p.sane) p1.sane in record {
          more = p.more ++ p1.more;
          stands = subst (λ z. Stands n ks z f) a p1.stands;
          sane = subst (SaneMembers (length (ts ++ (p.more ++ p1.more)))) (sym r) (subst (λ z. SaneMembers (length z) (map member_of ds ++ others)) a m1);
        }

    mem_grows : (ts : List Tag) (c : Env) (m : ud.Mem) (s : Spec) (xs : List Declr) (f : Env) → Stands n ks ts c → IsMem c m s xs f → Holds ts f (map member_of xs)
    mem_grows ts c (ud.mem l y ds) s xs f h (b, c1, g, k) =
        let p = types_grow ts c y s b c1 h g in
        let p1 = members_stand (ts ++ p.more) c1 b ds xs f p.stands k in record { more = p.more; stands = p1.0; sane = p1.1 }

  pub types_or_int_grow : (ts : List Tag) (c : Env) (y : Option ud.Types) (s : Spec) (b : CType) (f : Env) → Stands n ks ts c → AreTypesOrInt c y s b f → Grows ts f
  types_or_int_grow ts c None s b f h (q, r, w) = same_grows ts f (subst (Stands n ks ts) (sym w) h)
  types_or_int_grow ts c (Some y) s b f h g = types_grow ts c y s b f h g
