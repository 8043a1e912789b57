-- What blocks declare is known behind them, and their declarations and statements suit.
use Rattle.std.proofs.Common.{◌≡◌, ℕ, suc, List, [], ◌∷◌, ◌++◌, length, Option, Some, None, Bool, true, false, refl, sym, subst}
use Rattle.std.specs.Prelude.{nat_eq, ◌||◌}
use Rattle.std.specs.List.{flat_map}
use Rattle.std.proofs.lemmas.Grind.{flat_map-append}
use Rattle.c_type.specs.Names.{Name, pick, or_default}
use Rattle.c_type.specs.Types.{CType, arr, Tag, same_type}
use Rattle.c_tree.specs.declared.decl.Storage.TheVariants as sg
use Rattle.c_tree.specs.TreeDecl as ud
use Rattle.c_tree.specs.declared.decl.Storage.{Storage}
use Rattle.c_tree.specs.TreeExpr.{Expr}
use Rattle.c_tree.specs.TreeStmt as us
use Rattle.c_tree.specs.TExpr as e
use Rattle.c_tree.specs.TExpr.{TExpr}
use Rattle.c_tree.specs.TStmt.{Declr, Local, LocalDecl, TStmt, TStmts, TItems, locals}
use Rattle.c_run.specs.Mentions.{Mention, in_expr, in_option, in_declr, in_begin, in_local, in_stmt, in_stmts, in_items}
use Rattle.c_rule.specs.RuleScope.{Env, Entry, Meaning, Alias, Constant, Thing, Function, in_scope, known, is_sized, past, past_option, started}
use Rattle.c_rule.specs.RuleTypes.{is_function, declared_type, joined}
use Rattle.c_rule.specs.RuleValues.{used, scalar, is_scalar}
use Rattle.c_rule.specs.RuleTree.{Gives}
use Rattle.c_rule.specs.RuleDecls.{past_declr, IsDeclr}
use Rattle.c_rule.specs.RuleStmts as rs
use Rattle.c_rule.specs.RuleStmts.{added, enter, leave, declr_line, with_earlier, is_static, IsLocalBy, AreLocals, AreDecls, Place, in_loop, in_switch, Maybe, returned, IsStmt, AreStmts, AreItems}
use Rattle.c_sound.specs.Unit.{Declares, IsMeant, AnyText, SuitMentions}
use Rattle.c_sound.specs.Suits.{SuitsHere, SuitsOption, SuitsLocal, SuitLocals, SuitsStmt, SuitStmts, SuitItems, is_used, is_taken_as}
use Rattle.c_sound.proofs.Means.{Means, ScopesMean}
use Rattle.c_sound.proofs.Stands.{IsSane, IsDeclared, IsSaneName, Stands, OptionMeans, pick_is, scope_means, function_meant, past_stands, option_stands, started_stands, statics_stand, declr_stands}
use Rattle.c_sound.proofs.Outcomes.{each_is}
use Rattle.c_sound.proofs.RuleSuits.{is_array}
use Rattle.c_sound.proofs.ExprSuits.{declared_sane, used_gives, scalar_gives, integer_gives, value_gives}
use Rattle.c_sound.proofs.InitSuits.{begins_suit}
use Rattle.c_sound.proofs.MentionSuits.{Among, among_parts, both_mention, expr_mentions, option_mentions, declr_mentions, begin_mentions}

-- types of declarations

pub declr_sane : (c : Env) (m : Option ℕ) (base : CType) (d : ud.Declr) (r : Declr) → IsDeclr c m base d r → IsDeclared r.ty
declr_sane c m base d r h = each_is IsDeclared (declared_type c r.ty) r.ty (declared_sane c r.ty) h.1

abbrev pub OptionHas : (CType → Type 0) → Option CType → Type 0
OptionHas P None = Unit {0}
OptionHas P (Some t) = P t

-- what two declarations say together is what one of them says
pub joined_has : (P : CType → Type 0) (a b : CType) → P a → (is_array a ≡ true → is_array b ≡ true → P b) → OptionHas P (joined a b)
joined_has P (arr n a) (arr m b) h f =
    pick_is (OptionHas P) (same_type a b) (pick (nat_eq n 0) (Some (arr m b)) (pick (nat_eq m 0 || nat_eq n m) (Some (arr n a)) None)) None
    (pick_is (OptionHas P) (nat_eq n 0) (Some (arr m b)) _ (f refl refl) (pick_is (OptionHas P) (nat_eq m 0 || nat_eq n m) (Some (arr n a)) None h tt)) tt
joined_has P a b h f = pick_is (OptionHas P) (same_type a b) (Some a) None h tt

-- an object's type
abbrev pub IsObject : CType → Type 0
IsObject t = (is_function t ≡ false) × IsDeclared t

default_object : (t : CType) (o : Option CType) → IsObject t → OptionHas IsObject o → IsObject (or_default t o)
default_object t None h g = h
default_object t (Some u) h g = g

module _ (n : ℕ) (ks : Declares) where
  earlier_object : (o : Option Meaning) (t : CType) → IsObject t → OptionMeans (IsSaneName n ks) o → IsObject (with_earlier o t)
  earlier_object None t h g = h
  earlier_object (Some (Alias a)) t h g = h
  earlier_object (Some (Constant m)) t h g = h
  earlier_object (Some (Function s r a)) t h g = h
  earlier_object (Some (Thing (e.Ext y) a)) t h g = default_object t (joined a t) h (joined_has IsObject a t (g.0, g.1.1) (λ p q. h))
  earlier_object (Some (Thing (e.Local i) a)) t h g = h
  earlier_object (Some (Thing (e.Param i) a)) t h g = h
  earlier_object (Some (Thing (e.Static k) a)) t h g = h
  earlier_object (Some (Thing (e.Func k) a)) t h g = h
  earlier_object (Some (Thing (e.Outer y) a)) t h g = h
  earlier_object (Some (Thing (e.Const m) a)) t h g = h

module _ (n : ℕ) (ks : Declares) (ts more : List Tag) where
  abbrev pub Mentioned : List Mention → Type 0
  Mentioned ms = SuitMentions (IsMeant n ks) AnyText (ts ++ more) ms

  -- behind a part that suits by S and mentions ms
  pub record After (f : Env) (S : Type 0) (ms : List Mention) : Type 0 where
    pub stands : Stands n ks ts f
    pub suits : S
    pub mentions : Mentioned ms

  pub both_mentioned : (ms ns : List Mention) → Mentioned ms → Mentioned ns → Mentioned (ms ++ ns)
  both_mentioned ms ns h g = both_mention n ks (ts ++ more) ms ns h g

  in_expr_mentioned : (a : TExpr) → Mentioned (in_expr a)
  in_expr_mentioned a = expr_mentions n ks (ts ++ more) a

  in_option_mentioned : (a : Option TExpr) → Mentioned (in_option a)
  in_option_mentioned a = option_mentions n ks (ts ++ more) a

  in_declr_mentioned : (d : Declr) → Mentioned (in_declr d)
  in_declr_mentioned d = declr_mentions n ks (ts ++ more) d

  added_mean : (x : Entry) (ess : List (List Entry)) → Means (IsSaneName n ks) x.meaning → ScopesMean (IsSaneName n ks) ess → ScopesMean (IsSaneName n ks) (added x ess)
  added_mean x [] h g = ((h, tt), tt)
  added_mean x (es ∷ rest) h g = ((h, g.0), g.1)

  declares_stands : (c : Env) (x : Name) (m : Meaning) (d : Env) → Stands n ks ts c → Means (IsSaneName n ks) m → rs.Declares c x m d → Stands n ks ts d
  declares_stands c x m d h g (q, p) =
      subst (Stands n ks ts) (sym p) (record { bodies = h.bodies; blocks = added_mean (record { name = x; meaning = m }) c.blocks g h.blocks; file = h.file; tags = h.tags; sane = h.sane })

  autos_stand : (k : ℕ) (c : Env) → Stands n ks ts c → Stands n ks ts (record c { autos = k })
  autos_stand k c h = record { bodies = h.bodies; blocks = h.blocks; file = h.file; tags = h.tags; sane = h.sane }

  pub sized_there : (c : Env) (t : CType) → Stands n ks ts c → is_sized (known c) t ≡ true → is_sized (length ts) t ≡ true
  sized_there c t h z = subst (λ y. is_sized (length y) t ≡ true) h.tags z

  -- locals

  abbrev LocalAfter : Env → Local → Type 0
  LocalAfter f x = After f (SuitsLocal (IsMeant n ks) AnyText x) (in_local x)

  auto_suits : (c : Env) (l : ℕ) (d : Declr) (i : Option ud.Init) (x : Local) (f : Env) → is_function d.ty ≡ false → IsDeclared d.ty → Stands n ks ts c → IsLocalBy false None c l d i x f → LocalAfter f x
  auto_suits c l d None x f q s h (c1, z, k, p, w) =
      let h1 = declares_stands c d.name (Thing (e.Local c.autos) d.ty) c1 h (q, (q, s)) k in
      subst (LocalAfter f) (sym p) (record { stands = subst (Stands n ks ts) (sym w) (autos_stand (suc c1.autos) c1 h1); suits = tt; mentions = in_declr_mentioned d })
  auto_suits c l d (Some (ud.single a)) x f q s h (v, c1, z, k, g, p, w) =
      let h1 = declares_stands c d.name (Thing (e.Local c.autos) d.ty) c1 h (q, (q, s)) k in
      let h2 = past_stands n ks ts a _ (started_stands n ks ts 1 _ (autos_stand (suc c1.autos) c1 h1)) in
      subst (LocalAfter f) (sym p) (record {
        stands = subst (Stands n ks ts) (sym w) h2;
        suits = value_gives n ks ts 11 c1 d.ty a v s.0 h1 g;
        mentions = both_mentioned (in_declr d) (in_expr v) (in_declr_mentioned d) (in_expr_mentioned v);
      })
  auto_suits c l d (Some (ud.group m is)) x f q s h (v, c1, z, k, g, p, w) = absurd g

  local_suits : (b : Bool) (s : Option Storage) (c : Env) (l : ℕ) (d : Declr) (i : Option ud.Init) (x : Local) (f : Env) → is_function d.ty ≡ b → IsDeclared d.ty → Stands n ks ts c →
      Among ks (in_local x) → IsLocalBy b s c l d i x f → LocalAfter f x
  local_suits true s c l d i x f q z h m (a, k, p) =
      let h1 = declares_stands c d.name _ f h (q, (function_meant n ks c (is_static s) d.name d.ty h.bodies q, z)) k in
      subst (LocalAfter f) (sym p) (record { stands = h1; suits = tt; mentions = in_declr_mentioned d })
  local_suits false None c l d i x f q z h m k = auto_suits c l d i x f q z h k
  local_suits false (Some sg.Auto) c l d i x f q z h m k = auto_suits c l d i x f q z h k
  local_suits false (Some sg.Register) c l d i x f q z h m k = auto_suits c l d i x f q z h k
  local_suits false (Some sg.Extern) c l d i x f q z h m (a, k, p) =
      let m1 = subst (λ y. Among ks (in_local y)) p m in
      let o = earlier_object n ks (in_scope d.name c.file) d.ty (q, z) (scope_means (IsSaneName n ks) d.name c.file h.file) in
      let h1 = declares_stands c d.name (Thing (e.Ext d.name) (with_earlier (in_scope d.name c.file) d.ty)) f h (o.0, ((o.0, m1.0), o.1)) k in
      subst (LocalAfter f) (sym p) (record { stands = h1; suits = tt; mentions = in_declr_mentioned d })
  local_suits false (Some sg.Static) c l d i x f q z h m (j, c1, c2, g, k, b, p, w) =
      let m1 = subst (λ y. Among ks (in_local y)) p m in
      let h1 = declares_stands c d.name (Thing (e.Static c.statics) d.ty) c1 h (q, ((q, m1.0), z)) k in
      let h2 = begins_suit n ks ts more c1 d.ty i j c2 h1 (sized_there c d.ty h g) z.0 b in
      subst (LocalAfter f) (sym p) (record {
        stands = subst (Stands n ks ts) (sym w) (statics_stand n ks ts (suc c.statics) c2 h2.0);
        suits = tt;
        mentions = (h2.1, both_mentioned (in_declr d) (in_begin j) (in_declr_mentioned d) (begin_mentions n ks (ts ++ more) j));
      })

  abbrev LocalsAfter : Env → List Local → Type 0
  LocalsAfter f xs = After f (SuitLocals (IsMeant n ks) AnyText xs) (flat_map in_local xs)

  locals_suit : (c : Env) (s : Option Storage) (base : CType) (is : List ud.Item) (xs : List Local) (f : Env) → Stands n ks ts c → Among ks (flat_map in_local xs) →
      AreLocals c s base is xs f → LocalsAfter f xs
  locals_suit c s base [] xs f h m (q, p) = subst (LocalsAfter f) (sym q) (record { stands = subst (Stands n ks ts) (sym p) h; suits = tt; mentions = tt })
  locals_suit c s base (i ∷ is) xs f h m (d, x, rest, c1, hd, hx, hr, q) =
      let a = among_parts ks (in_local x) (flat_map in_local rest) (subst (λ y. Among ks (flat_map in_local y)) q m) in
      let p = local_suits (is_function d.ty) s (past_declr i.declr c) (declr_line i.declr) d i.init x c1 refl (declr_sane c _ base i.declr d hd) (declr_stands n ks ts i.declr c h) a.0 hx in
      let r = locals_suit c1 s base is rest f p.stands a.1 hr in
      subst (LocalsAfter f) (sym q) (record { stands = r.stands; suits = (p.suits, r.suits); mentions = both_mentioned (in_local x) (flat_map in_local rest) p.mentions r.mentions })

  both_locals : (xs ys : List Local) → SuitLocals (IsMeant n ks) AnyText xs → SuitLocals (IsMeant n ks) AnyText ys → SuitLocals (IsMeant n ks) AnyText (xs ++ ys)
  both_locals [] ys h g = g
  both_locals (x ∷ xs) ys h g = (h.0, both_locals xs ys h.1 g)

  pub decls_suit : (c : Env) (ds : List ud.LocalDecl) (xs : List LocalDecl) (f : Env) → Stands n ks ts c → Among ks (flat_map in_local (locals xs)) →
      AreDecls c ds xs f → After f (SuitLocals (IsMeant n ks) AnyText (locals xs)) (flat_map in_local (locals xs))
  decls_suit c [] xs f h m (q, p) = subst (λ y. LocalsAfter f (locals y)) (sym q) (record { stands = subst (Stands n ks ts) (sym p) h; suits = tt; mentions = tt })
  decls_suit c (d ∷ ds) xs f h m (base, ls, rest, c1, hb, hl, hr, q) =
      let s = flat_map-append in_local ls (locals rest) in
      let a = among_parts ks (flat_map in_local ls) (flat_map in_local (locals rest)) (subst (Among ks) s (subst (λ y. Among ks (flat_map in_local (locals y))) q m)) in
      let p = locals_suit c d.specs.storage base d.items ls c1 h a.0 hl in
      let r = decls_suit c1 ds rest f p.stands a.1 hr in
      subst (λ y. LocalsAfter f (locals y)) (sym q) (record {
        stands = r.stands;
        suits = both_locals ls (locals rest) p.suits r.suits;
        mentions = subst Mentioned (sym s) (both_mentioned (flat_map in_local ls) (flat_map in_local (locals rest)) p.mentions r.mentions);
      })

  -- statements

  maybe_suits : (allowed : CType → Bool) (Typed : Expr → TExpr → Type 0) (a : Option Expr) (v : Option TExpr) → ((b : Expr) (w : TExpr) → Typed b w → SuitsHere (IsMeant n ks) AnyText allowed w) →
      Maybe Typed a v → SuitsOption (IsMeant n ks) AnyText allowed v
  maybe_suits allowed Typed None v f q = subst (SuitsOption (IsMeant n ks) AnyText allowed) (sym q) tt
  maybe_suits allowed Typed (Some a) v f (w, h, q) = subst (SuitsOption (IsMeant n ks) AnyText allowed) (sym q) (f a w h)

  leave_stands : (c d : Env) → Stands n ks ts c → Stands n ks ts d → Stands n ks ts (leave c d)
  leave_stands c d h g = record { bodies = g.bodies; blocks = h.blocks; file = g.file; tags = g.tags; sane = g.sane }

  enter_stands : (c : Env) → Stands n ks ts c → Stands n ks ts (enter c)
  enter_stands c h = record { bodies = h.bodies; blocks = (tt, h.blocks); file = h.file; tags = h.tags; sane = h.sane }

  behind : (a : Expr) (c : Env) → Stands n ks ts c → Stands n ks ts (past a (started 1 c))
  behind a c h = past_stands n ks ts a (started 1 c) (started_stands n ks ts 1 c h)

  abbrev StmtAfter : Env → CType → TStmt → Type 0
  StmtAfter f r t = After f (SuitsStmt (IsMeant n ks) AnyText r t) (in_stmt t)

  abbrev StmtsAfter : Env → CType → TStmts → Type 0
  StmtsAfter f r ys = After f (SuitStmts (IsMeant n ks) AnyText r ys) (in_stmts ys)

  abbrev ItemsAfter : Env → CType → TItems → Type 0
  ItemsAfter f r js = After f (SuitItems (IsMeant n ks) AnyText r js) (in_items js)

  mutual
    stmt_suits : (c : Env) (p : Place) (s : us.Stmt) (t : TStmt) (f : Env) → IsSane p.result → Stands n ks ts c → Among ks (in_stmt t) → IsStmt c p s t f → StmtAfter f p.result t
    stmt_suits c p (us.expr l a) t f z h m (v, g, q, w) =
        subst (StmtAfter f p.result) (sym q) (record { stands = subst (Stands n ks ts) (sym w) (behind a c h); suits = used_gives n ks ts c a v h g; mentions = in_expr_mentioned v })
    stmt_suits c p (us.empty l) t f z h m (q, w) =
        subst (StmtAfter f p.result) (sym q) (record { stands = subst (Stands n ks ts) (sym w) (started_stands n ks ts 1 c h); suits = tt; mentions = tt })
    stmt_suits c p (us.if_only l a s) t f z h m (v, x, g, k, q) =
        let m1 = among_parts ks (in_expr v) (in_stmt x) (subst (λ y. Among ks (in_stmt y)) q m) in
        let r = stmt_suits (past a (started 1 c)) p s x f z (behind a c h) m1.1 k in
        subst (StmtAfter f p.result) (sym q) (record {
          stands = r.stands;
          suits = (scalar_gives n ks ts 15 c a v h g, r.suits);
          mentions = both_mentioned (in_expr v) (in_stmt x) (in_expr_mentioned v) r.mentions;
        })
    stmt_suits c p (us.if_else l a s o) t f z h m (v, x, y, c1, g, k, i, q) =
        let m1 = among_parts ks (in_expr v) (in_stmt x ++ in_stmt y) (subst (λ y. Among ks (in_stmt y)) q m) in
        let m2 = among_parts ks (in_stmt x) (in_stmt y) m1.1 in
        let r = stmt_suits (past a (started 1 c)) p s x c1 z (behind a c h) m2.0 k in
        let r1 = stmt_suits c1 p o y f z r.stands m2.1 i in
        subst (StmtAfter f p.result) (sym q) (record {
          stands = r1.stands;
          suits = (scalar_gives n ks ts 15 c a v h g, r.suits, r1.suits);
          mentions = both_mentioned (in_expr v) (in_stmt x ++ in_stmt y) (in_expr_mentioned v) (both_mentioned (in_stmt x) (in_stmt y) r.mentions r1.mentions);
        })
    stmt_suits c p (us.while l a s) t f z h m (v, x, g, k, q) =
        let m1 = among_parts ks (in_expr v) (in_stmt x) (subst (λ y. Among ks (in_stmt y)) q m) in
        let r = stmt_suits (past a (started 1 c)) (in_loop p) s x f z (behind a c h) m1.1 k in
        subst (StmtAfter f p.result) (sym q) (record {
          stands = r.stands;
          suits = (scalar_gives n ks ts 15 c a v h g, r.suits);
          mentions = both_mentioned (in_expr v) (in_stmt x) (in_expr_mentioned v) r.mentions;
        })
    stmt_suits c p (us.do_while l s j a) t f z h m (x, v, c1, k, g, q, w) =
        let m1 = among_parts ks (in_stmt x) (in_expr v) (subst (λ y. Among ks (in_stmt y)) q m) in
        let r = stmt_suits c (in_loop p) s x c1 z h m1.0 k in
        subst (StmtAfter f p.result) (sym q) (record {
          stands = subst (Stands n ks ts) (sym w) (behind a c1 r.stands);
          suits = (scalar_gives n ks ts 15 c1 a v r.stands g, r.suits);
          mentions = both_mentioned (in_stmt x) (in_expr v) r.mentions (in_expr_mentioned v);
        })
    stmt_suits c p (us.for l a b d s) t f z h m (v1, v2, v3, x, g1, g2, g3, k, q) =
        let m1 = among_parts ks (in_option v1) (in_option v2 ++ (in_option v3 ++ in_stmt x)) (subst (λ y. Among ks (in_stmt y)) q m) in
        let m2 = among_parts ks (in_option v2) (in_option v3 ++ in_stmt x) m1.1 in
        let m3 = among_parts ks (in_option v3) (in_stmt x) m2.1 in
        let h1 = option_stands n ks ts a c h in
        let h2 = option_stands n ks ts b (past_option a c) h1 in
        let i1 = option_stands n ks ts a (started 3 c) (started_stands n ks ts 3 c h) in
        let i3 = option_stands n ks ts d _ (option_stands n ks ts b _ i1) in
        let r = stmt_suits (past_option d (past_option b (past_option a (started 3 c)))) (in_loop p) s x f z i3 m3.1 k in
        subst (StmtAfter f p.result) (sym q) (record {
          stands = r.stands;
          suits = (
            maybe_suits is_used (Gives used c) a v1 (λ y w i. used_gives n ks ts c y w h i) g1,
            maybe_suits is_scalar (Gives (scalar 15) (past_option a c)) b v2 (λ y w i. scalar_gives n ks ts 15 (past_option a c) y w h1 i) g2,
            maybe_suits is_used (Gives used (past_option b (past_option a c))) d v3 (λ y w i. used_gives n ks ts (past_option b (past_option a c)) y w h2 i) g3,
            r.suits,
          );
          mentions =
              both_mentioned (in_option v1) (in_option v2 ++ (in_option v3 ++ in_stmt x)) (in_option_mentioned v1)
              (both_mentioned (in_option v2) (in_option v3 ++ in_stmt x) (in_option_mentioned v2) (both_mentioned (in_option v3) (in_stmt x) (in_option_mentioned v3) r.mentions));
        })
    stmt_suits c p (us.switch l a is) t f z h m (v, js, g, k, o, q) =
        let m1 = among_parts ks (in_expr v) (in_items js) (subst (λ y. Among ks (in_stmt y)) q m) in
        let r = items_suit (past a (started 1 c)) (in_switch p) is js f z (behind a c h) m1.1 k in
        subst (StmtAfter f p.result) (sym q) (record {
          stands = r.stands;
          suits = (integer_gives n ks ts 24 c a v h g, r.suits);
          mentions = both_mentioned (in_expr v) (in_items js) (in_expr_mentioned v) r.mentions;
        })
    stmt_suits c p (us.break l) t f z h m (g, q, w) =
        subst (StmtAfter f p.result) (sym q) (record { stands = subst (Stands n ks ts) (sym w) (started_stands n ks ts 1 c h); suits = tt; mentions = tt })
    stmt_suits c p (us.continue l) t f z h m (g, q, w) =
        subst (StmtAfter f p.result) (sym q) (record { stands = subst (Stands n ks ts) (sym w) (started_stands n ks ts 1 c h); suits = tt; mentions = tt })
    stmt_suits c p (us.return l a) t f z h m (v, g, q, w) =
        subst (StmtAfter f p.result) (sym q) (record {
          stands = subst (Stands n ks ts) (sym w) (option_stands n ks ts a (started 1 c) (started_stands n ks ts 1 c h));
          suits = maybe_suits (is_taken_as p.result) (Gives (returned c p.result) c) a v (λ y u i. value_gives n ks ts 23 c p.result y u z h i) g;
          mentions = in_option_mentioned v;
        })
    stmt_suits c p (us.block l ds ss j) t f z h m (xs, ys, c1, c2, g, k, q, w) =
        let m1 = among_parts ks (flat_map in_local (locals xs)) (in_stmts ys) (subst (λ y. Among ks (in_stmt y)) q m) in
        let r = decls_suit (enter c) ds xs c1 (enter_stands c h) m1.0 g in
        let r1 = stmts_suit c1 p ss ys c2 z r.stands m1.1 k in
        subst (StmtAfter f p.result) (sym q) (record {
          stands = subst (Stands n ks ts) (sym w) (leave_stands c c2 h r1.stands);
          suits = (r.suits, r1.suits);
          mentions = both_mentioned (flat_map in_local (locals xs)) (in_stmts ys) r.mentions r1.mentions;
        })

    pub stmts_suit : (c : Env) (p : Place) (ss : us.Stmts) (ys : TStmts) (f : Env) → IsSane p.result → Stands n ks ts c → Among ks (in_stmts ys) → AreStmts c p ss ys f → StmtsAfter f p.result ys
    stmts_suit c p us.no_stmts ys f z h m (q, w) = subst (StmtsAfter f p.result) (sym q) (record { stands = subst (Stands n ks ts) (sym w) h; suits = tt; mentions = tt })
    stmts_suit c p (us.more_stmts s ss) ys f z h m (x, rest, c1, g, k, q) =
        let m1 = among_parts ks (in_stmt x) (in_stmts rest) (subst (λ y. Among ks (in_stmts y)) q m) in
        let r = stmt_suits c p s x c1 z h m1.0 g in
        let r1 = stmts_suit c1 p ss rest f z r.stands m1.1 k in
        subst (StmtsAfter f p.result) (sym q) (record {
          stands = r1.stands;
          suits = (r.suits, r1.suits);
          mentions = both_mentioned (in_stmt x) (in_stmts rest) r.mentions r1.mentions;
        })

    items_suit : (c : Env) (p : Place) (is : us.SwItems) (js : TItems) (f : Env) → IsSane p.result → Stands n ks ts c → Among ks (in_items js) → AreItems c p is js f → ItemsAfter f p.result js
    items_suit c p us.no_items js f z h m (q, w) = subst (ItemsAfter f p.result) (sym q) (record { stands = subst (Stands n ks ts) (sym w) h; suits = tt; mentions = tt })
    items_suit c p (us.more_items (us.case l a) is) js f z h m (i, rest, g, k, q) =
        let m1 = among_parts ks (in_expr i.expr) (in_items rest) (subst (λ y. Among ks (in_items y)) q m) in
        let r = items_suit (past a c) p is rest f z (past_stands n ks ts a c h) m1.1 k in
        subst (ItemsAfter f p.result) (sym q) (record { stands = r.stands; suits = r.suits; mentions = both_mentioned (in_expr i.expr) (in_items rest) (in_expr_mentioned i.expr) r.mentions })
    items_suit c p (us.more_items (us.default l) is) js f z h m (rest, k, q) =
        let r = items_suit c p is rest f z h (subst (λ y. Among ks (in_items y)) q m) k in
        subst (ItemsAfter f p.result) (sym q) (record { stands = r.stands; suits = r.suits; mentions = r.mentions })
    items_suit c p (us.more_items (us.stmt s) is) js f z h m (x, rest, c1, g, k, q) =
        let m1 = among_parts ks (in_stmt x) (in_items rest) (subst (λ y. Among ks (in_items y)) q m) in
        let r = stmt_suits c p s x c1 z h m1.0 g in
        let r1 = items_suit c1 p is rest f z r.stands m1.1 k in
        subst (ItemsAfter f p.result) (sym q) (record {
          stands = r1.stands;
          suits = (r.suits, r1.suits);
          mentions = both_mentioned (in_stmt x) (in_items rest) r.mentions r1.mentions;
        })
