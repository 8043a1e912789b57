-- What names mean that file level declares, and what their objects begin as suits.
use Rattle.std.proofs.Common.{◌≡◌, ℕ, suc, List, [], ◌∷◌, ◌++◌, map, Option, Some, None, Bool, true, false, refl, sym, subst}
use Rattle.std.specs.Prelude.{◌&&◌}
use Rattle.std.specs.List.{flat_map}
use Rattle.c_type.specs.Names.{Name, same_name, pick}
use Rattle.c_type.specs.Types.{CType, num, void, ptr, arr, struct, union, enum, fun, Tag, same_type}
use Rattle.c_tree.specs.declared.decl.Storage.TheVariants as sg
use Rattle.c_tree.specs.declared.decl.Storage.{Storage}
use Rattle.c_tree.specs.declared.Bound.TheVariants.{OwnFunction, OutsideFunction}
use Rattle.c_tree.specs.TreeDecl as ud
use Rattle.c_tree.specs.TExpr as e
use Rattle.c_tree.specs.TExpr.{Ref}
use Rattle.c_tree.specs.TStmt as st
use Rattle.c_tree.specs.TStmt.{Declr}
use Rattle.c_tree.specs.TUnit.{Item, ParDecl}
use Rattle.c_run.specs.Mentions.{said, in_declr, in_begin, in_item}
use Rattle.c_rule.specs.RuleScope.{Env, Meaning, Alias, Thing, Function, in_scope, same_bool}
use Rattle.c_rule.specs.RuleTypes.{is_function, joined}
use Rattle.c_rule.specs.RuleDecls.{past_declr}
use Rattle.c_rule.specs.RuleStmts.{is_static, missing}
use Rattle.c_rule.specs.RuleUnit.{is_own, object_again, again, combined, DeclaresInFile, own_number, next_static, IsItemBy, AreItems, AreAliases, as_parameter, AreParameters, AreParDecls, parameter_type, as_var, parameter_scope, declared_in}
use Rattle.c_sound.specs.Unit.{Declares, IsMeant}
use Rattle.c_sound.proofs.Means.{Means, EntriesMean}
use Rattle.c_sound.proofs.Stands.{IsDeclared, IsSaneName, Stands, OptionMeans, pick_is, scope_means, function_meant, statics_stand, declr_stands}
use Rattle.c_sound.proofs.RuleSuits.{is_array, element_sane}
use Rattle.c_sound.proofs.InitSuits.{begins_suit}
use Rattle.c_sound.proofs.MentionSuits.{Among, among_parts, declr_mentions, begin_mentions}
use Rattle.c_sound.proofs.StmtSuits.{declr_sane, IsObject, OptionHas, joined_has, sized_there, After, Mentioned, both_mentioned}
use Rattle.c_sound.proofs.Declarations.{in_file_stands, Grows, then_grows, same_grows, types_grow}

module _ (n : ℕ) (ks : Declares) where
  -- names that are declared again

  array_meant : (a b : CType) (r : Ref) → is_array a ≡ true → is_array b ≡ true → IsMeant n ks a r → IsMeant n ks b r
  array_meant (arr i a) (arr j b) (e.Local k) p q h = refl
  array_meant (arr i a) (arr j b) (e.Param k) p q h = refl
  array_meant (arr i a) (arr j b) (e.Static k) p q h = h
  array_meant (arr i a) (arr j b) (e.Ext x) p q h = h
  array_meant (arr i a) (arr j b) (e.Func k) p q h = h
  array_meant (arr i a) (arr j b) (e.Outer x) p q h = h
  array_meant (arr i a) (arr j b) (e.Const k) p q h = h
  array_meant _ _ r p q h = cc

  object_means : (r : Ref) (o : Option CType) → OptionHas (λ t. Means (IsSaneName n ks) (Thing r t)) o → OptionMeans (IsSaneName n ks) (object_again r o)
  object_means r None h = tt
  object_means r (Some t) h = h

  again_means : (old m : Meaning) → Means (IsSaneName n ks) old → Means (IsSaneName n ks) m → OptionMeans (IsSaneName n ks) (again old m)
  again_means (Thing r a) (Thing q b) h g =
      let P : CType → Type 0 = λ t. Means (IsSaneName n ks) (Thing r t) in
      pick_is (OptionMeans (IsSaneName n ks)) (same_bool (is_own r) (is_own q)) (object_again r (joined a b)) None
      (object_means r (joined a b) (joined_has P a b h (λ x y. (g.0, (array_meant a b r x y h.1.0, g.1.1))))) tt
  again_means (Function s r a) (Function z q b) h g = pick_is (OptionMeans (IsSaneName n ks)) (same_bool s z && same_type a b) (Some (Function s r a)) None h tt
  again_means _ _ h g = tt

  combined_means : (o : Option Meaning) (m : Meaning) → OptionMeans (IsSaneName n ks) o → Means (IsSaneName n ks) m → OptionMeans (IsSaneName n ks) (combined o m)
  combined_means None m h g = g
  combined_means (Some old) m h g = again_means old m h g

  pub file_stands : (ts : List Tag) (c : Env) (x : Name) (m : Meaning) (f : Env) → Stands n ks ts c → Means (IsSaneName n ks) m → DeclaresInFile c x m f → Stands n ks ts f
  file_stands ts c x m f h g (r, q, w) =
      let p = combined_means (in_scope x c.file) m (scope_means (IsSaneName n ks) x c.file h.file) g in
      subst (Stands n ks ts) (sym w) (in_file_stands n ks ts (record { name = x; meaning = r }) c h (subst (OptionMeans (IsSaneName n ks)) q p))

  pub aliases_stand : (ts : List Tag) (c : Env) (base : CType) (ds : List ud.Declr) (xs : List Declr) (f : Env) → Stands n ks ts c → AreAliases c base ds xs f → Stands n ks ts f
  aliases_stand ts c base [] xs f h (q, w) = subst (Stands n ks ts) (sym w) h
  aliases_stand ts c base (d ∷ ds) xs f h (x, rest, hd, g, k, q) =
      aliases_stand ts _ base ds rest f (in_file_stands n ks ts (record { name = x.name; meaning = Alias x.ty }) (past_declr d c) (declr_stands n ks ts d c h) tt) k

  -- parameters

  abbrev pub AreDeclared : List Declr → Type 0
  AreDeclared [] = Unit {0}
  AreDeclared (d ∷ ds) = IsDeclared d.ty × AreDeclared ds

  both_are_declared : (xs ys : List Declr) → AreDeclared xs → AreDeclared ys → AreDeclared (xs ++ ys)
  both_are_declared [] ys h g = g
  both_are_declared (x ∷ xs) ys h g = (h.0, both_are_declared xs ys h.1 g)

  parameters_stand : (ts : List Tag) (c : Env) (xs : List Name) (base : CType) (ds : List ud.Declr) (ys : List Declr) (f : Env) → Stands n ks ts c → AreParameters c xs base ds ys f →
      Stands n ks ts f × AreDeclared ys
  parameters_stand ts c xs base [] ys f h (q, w) = (subst (Stands n ks ts) (sym w) h, subst AreDeclared (sym q) tt)
  parameters_stand ts c xs base (d ∷ ds) ys f h (y, rest, hd, g, s, k, q) =
      let p = parameters_stand ts (past_declr d c) xs base ds rest f (declr_stands n ks ts d c h) k in
      (p.0, subst AreDeclared (sym q) (declr_sane c (Some 0) base d y hd, p.1))

  pub par_decls_grow : (ts : List Tag) (c : Env) (xs : List Name) (ps : List ud.ParDecl) (ys : List ParDecl) (f : Env) → Stands n ks ts c → AreParDecls c xs ps ys f →
      Grows n ks ts f × AreDeclared (declared_in ys)
  par_decls_grow ts c xs [] ys f h (q, w) = (same_grows n ks ts f (subst (Stands n ks ts) (sym w) h), subst (λ z. AreDeclared (declared_in z)) (sym q) tt)
  par_decls_grow ts c xs (p ∷ ps) ys f h (s, b, ds, rest, c1, c2, ht, hp, hr, q) =
      let g = types_grow n ks ts c p.types s b c1 h ht in
      let g1 = parameters_stand (ts ++ g.more) c1 xs b p.declrs ds c2 g.stands hp in
      let g2 = par_decls_grow (ts ++ g.more) c2 xs ps rest f g1.0 hr in
      (then_grows n ks ts g.more f g2.0, subst (λ z. AreDeclared (declared_in z)) (sym q) (both_are_declared ds (declared_in rest) g1.1 g2.1))

  parameter_object : (t : CType) → IsDeclared t → IsObject (as_parameter t)
  parameter_object (arr m t) h = (refl, (element_sane m t h.0, refl))
  parameter_object (fun t) h = (refl, h)
  parameter_object (num k) h = (refl, h)
  parameter_object void h = (refl, h)
  parameter_object (ptr t) h = (refl, h)
  parameter_object (struct k) h = (refl, h)
  parameter_object (union k) h = (refl, h)
  parameter_object (enum k) h = (refl, h)

  type_object : (x : Name) (ds : List Declr) → AreDeclared ds → IsObject (parameter_type x ds)
  type_object x [] h = (refl, ((refl, refl, refl), refl))
  type_object x (d ∷ ds) h = pick_is IsObject (same_name x d.name) (as_parameter d.ty) (parameter_type x ds) (parameter_object d.ty h.0) (type_object x ds h.1)

  pub parameters_mean : (i : ℕ) (ds : List Declr) (xs : List Name) → AreDeclared ds → EntriesMean (IsSaneName n ks) (parameter_scope i (map (as_var ds) xs))
  parameters_mean i ds [] h = tt
  parameters_mean i ds (x ∷ xs) h = let p = type_object x ds h in ((p.0, (p.0, p.1)), parameters_mean (suc i) ds xs h)

module _ (n : ℕ) (ks : Declares) (ts more : List Tag) where
  abbrev ItemAfter : Env → Item → Type 0
  ItemAfter f x = After n ks ts more f (Unit {0}) (in_item x)

  -- what is said behind an item's own word
  rest_mentioned : (d : Declr) (i : Option st.Init) → Mentioned n ks ts more (in_declr d ++ in_begin i)
  rest_mentioned d i =
      both_mentioned n ks ts more (in_declr d) (in_begin i) (declr_mentions n ks (ts ++ more) d) (begin_mentions n ks (ts ++ more) i)

  function_said : (s : Bool) (x : Name) (t : CType) (i : Option st.Init) → Mentioned n ks ts more (said (pick s OwnFunction OutsideFunction) x t i)
  function_said true x t i = tt
  function_said false x t i = tt

  outside_suits : (c : Env) (d : Declr) (i : Option ud.Init) (x : Item) (f : Env) → is_function d.ty ≡ false → IsDeclared d.ty → Stands n ks ts c →
      Among ks (in_item x) → IsItemBy false None c d i x f → ItemAfter f x
  outside_suits c d i x f q z h m (j, c1, g, k, b, p) =
      let m1 = subst (λ y. Among ks (in_item y)) p m in
      let h1 = file_stands n ks ts c d.name (Thing (e.Ext d.name) d.ty) c1 h (q, ((q, m1.0), z)) k in
      let h2 = begins_suit n ks ts more c1 d.ty i j f h1 (sized_there n ks ts more c d.ty h g) z.0 b in
      subst (ItemAfter f) (sym p) (record { stands = h2.0; suits = tt; mentions = (q, h2.1, rest_mentioned d j) })

  item_suits : (b : Bool) (s : Option Storage) (c : Env) (d : Declr) (i : Option ud.Init) (x : Item) (f : Env) → is_function d.ty ≡ b → IsDeclared d.ty → Stands n ks ts c →
      Among ks (in_item x) → IsItemBy b s c d i x f → ItemAfter f x
  item_suits true s c d i x f q z h m (a, k, p) =
      let h1 = file_stands n ks ts c d.name _ f h (q, (function_meant n ks c (is_static s) d.name d.ty h.bodies q, z)) k in
      subst (ItemAfter f) (sym p) (record {
        stands = h1;
        suits = tt;
        mentions = both_mentioned n ks ts more (said (pick (is_static s) OwnFunction OutsideFunction) d.name d.ty None) (in_declr d ++ []) (function_said (is_static s) d.name d.ty None) (rest_mentioned d None);
      })
  item_suits false None c d i x f q z h m k = outside_suits c d i x f q z h m k
  item_suits false (Some sg.Auto) c d i x f q z h m k = outside_suits c d i x f q z h m k
  item_suits false (Some sg.Register) c d i x f q z h m k = outside_suits c d i x f q z h m k
  item_suits false (Some sg.Extern) c d i x f q z h m (a, k, p) =
      let m1 = subst (λ y. Among ks (in_item y)) p m in
      let h1 = file_stands n ks ts c d.name (Thing (e.Ext d.name) d.ty) f h (q, ((q, m1.0), z)) k in
      subst (ItemAfter f) (sym p) (record { stands = h1; suits = tt; mentions = rest_mentioned d None })
  item_suits false (Some sg.Static) c d i x f q z h m (j, c1, c2, g, k, b, p, w) =
      let m1 = subst (λ y. Among ks (in_item y)) p m in
      let h1 = file_stands n ks ts c d.name (Thing (e.Static (own_number c (in_scope d.name c.file))) d.ty) c1 h (q, ((q, m1.0), z)) k in
      let h2 = begins_suit n ks ts more c1 d.ty i j c2 h1 (sized_there n ks ts more c d.ty h g) z.0 b in
      subst (ItemAfter f) (sym p) (record {
        stands = subst (Stands n ks ts) (sym w) (statics_stand n ks ts (next_static c (in_scope d.name c.file)) c2 h2.0);
        suits = tt;
        mentions = (h2.1, rest_mentioned d j);
      })

  pub items_suit : (c : Env) (s : Option Storage) (base : CType) (is : List ud.Item) (xs : List Item) (f : Env) → Stands n ks ts c → Among ks (flat_map in_item xs) →
      AreItems c s base is xs f → After n ks ts more f (Unit {0}) (flat_map in_item xs)
  items_suit c s base [] xs f h m (q, w) =
      subst (λ z. After n ks ts more f (Unit {0}) (flat_map in_item z)) (sym q) (record { stands = subst (Stands n ks ts) (sym w) h; suits = tt; mentions = tt })
  items_suit c s base (i ∷ is) xs f h m (d, x, rest, c1, hd, hx, hr, q) =
      let a = among_parts ks (in_item x) (flat_map in_item rest) (subst (λ y. Among ks (flat_map in_item y)) q m) in
      let p = item_suits (is_function d.ty) s (past_declr i.declr c) d i.init x c1 refl (declr_sane c (missing s i.init) base i.declr d hd) (declr_stands n ks ts i.declr c h) a.0 hx in
      let r = items_suit c1 s base is rest f p.stands a.1 hr in
      subst (λ z. After n ks ts more f (Unit {0}) (flat_map in_item z)) (sym q)
      (record { stands = r.stands; suits = tt; mentions = both_mentioned n ks ts more (in_item x) (flat_map in_item rest) p.mentions r.mentions })
