-- What is read of an initialiser or an item is spelled so.
use Rattle.std.proofs.Common.{◌≡◌, ℕ, ◌≤◌, zero, suc, List, ◌∷◌, length, Option, Some, None, refl, arith, ap, sym, ◌∙◌}
use Rattle.c_type.specs.Names.{Name}
use Rattle.c_lex.specs.Tokens.{Token}
use Rattle.c_grammar.specs.Words.{mark, open_brace, close_brace, comma_mark, equals}
use Rattle.c_tree.specs.TreeExpr.{Expr, expr_depth}
use Rattle.c_tree.specs.TreeDecl.{Init, Inits, Item, init_depth, item_depth}
use Rattle.c_tree.specs.TreeDecl as t
use Rattle.c_grammar.specs.WrittenDeclr.{WrittenInit, WrittenInits, WrittenItem, Given, plain_declr, plain_init, plain_inits, plain_item, plain_given, plain_if, IsDeclr, IsInit, AreInits, IsItem, IsGiven, IfThere, spell_declr, spell_init, spell_inits, spell_comma, spell_item, spell_given, spell_if}
use Rattle.c_grammar.specs.WrittenDeclr as d
use Rattle.c_grammar.specs.Reads.{Spells}
use Rattle.c_expr.specs.Front.{Read, ◌>>=◌, eat, line_at, grown}
use Rattle.c_decl.specs.ReadDeclr as r
use Rattle.c_decl.specs.ReadInit as i
use Rattle.c_expr.proofs.Taken.{some_is, bind_some, eat_takes}
use Rattle.c_decl.proofs.SeparatedTakes.{grown_takes}
use Rattle.c_decl.proofs.DeclrTakes.{plain_declr_takes}

module _ (defs : List Name) (most : ℕ) (positive : 1 ≤ most) (expr : ℕ → List Token → Read Expr)
    (expr_takes : (l : ℕ) (ts : List Token) (x : Expr × List Token) → 1 ≤ l → l ≤ 3 → expr l ts ≡ Some x → Spells defs l x.0 ts x.1 × (expr_depth x.0 ≤ most)) where
  abbrev Taken : List Token → Init × List Token → Type 0
  Taken ts x = (v : WrittenInit) × IsInit defs v × (plain_init v ≡ x.0) × (ts ≡ spell_init v x.1)

  abbrev AllTaken : List Token → Inits × List Token → Type 0
  AllTaken ts x = (vs : WrittenInits) × AreInits defs vs × (plain_inits vs ≡ x.0) × (last : Option ℕ) × (m : ℕ) × (ts ≡ spell_inits vs (spell_if spell_comma last (mark m close_brace ∷ x.1)))

  module _ (inner : List Token → Read Init) (inner_takes : (ts : List Token) (x : Init × List Token) → inner ts ≡ Some x → Taken ts x) where
    next_takes : (more : List Token → Read Inits) → ((ts : List Token) (x : Inits × List Token) → more ts ≡ Some x → AllTaken ts x)
        → (l : ℕ) (ts : List Token) (o : Option (List Token)) (x : Inits × List Token) → eat close_brace ts ≡ o → i.next_by defs most expr inner more ts o ≡ Some x → AllTaken (mark l comma_mark ∷ ts) x
    next_takes more others l ts (Some after) x at is =
        let f = eat_takes close_brace ts after at in
        let found : AllTaken (mark l comma_mark ∷ ts) (t.no_inits, after) = (d.no_inits, tt, refl, Some l, f.0, ap (λ y. mark l comma_mark ∷ y) f.2) in
        rw (← some_is is) found
    next_takes more others l ts None x at is =
        let b = bind_some (inner ts) (λ y. more y.1 >>= λ z. Some (t.more_inits y.0 z.0, z.1)) x is in
        let one = inner_takes ts b.0 b.1 in
        let c = bind_some (more b.0.1) (λ z. Some (t.more_inits b.0.0 z.0, z.1)) x b.2 in
        let rest = others b.0.1 c.0 c.1 in
        let found : AllTaken (mark l comma_mark ∷ ts) (t.more_inits b.0.0 c.0.0, c.0.1) = (
          d.more_inits l one.0 rest.0,
          (one.1, rest.1),
          ap (λ y. t.more_inits y (plain_inits rest.0)) one.2 ∙ ap (t.more_inits b.0.0) rest.2,
          rest.3,
          rest.4,
          ap (λ y. mark l comma_mark ∷ y) (one.3 ∙ ap (spell_init one.0) rest.5),
        ) in
        rw (← some_is c.2) found

    inits_by_take : (more : List Token → Read Inits) → ((ts : List Token) (x : Inits × List Token) → more ts ≡ Some x → AllTaken ts x)
        → (ts : List Token) (o : Option (List Token)) (x : Inits × List Token) → eat comma_mark ts ≡ o → i.inits_by defs most expr inner more ts o ≡ Some x → AllTaken ts x
    inits_by_take more others ts (Some after) x at is =
        let f = eat_takes comma_mark ts after at in
        rw f.2 (next_takes more others f.0 after (eat close_brace after) x refl is)
    inits_by_take more others ts None x at is =
        let c = bind_some (eat close_brace ts) (λ after. Some (t.no_inits, after)) x is in
        let f = eat_takes close_brace ts c.0 c.1 in
        let found : AllTaken ts (t.no_inits, c.0) = (d.no_inits, tt, refl, None, f.0, f.2) in
        rw (← some_is c.2) found

    inits_take : (j : ℕ) (ts : List Token) (x : Inits × List Token) → i.inits defs most expr inner j ts ≡ Some x → AllTaken ts x
    unfolding i.inits
    inits_take zero ts x is = cc
    inits_take (suc j) ts x is = inits_by_take (i.inits defs most expr inner j) (inits_take j) ts (eat comma_mark ts) x refl is

    init_by_takes : (ts : List Token) (o : Option (List Token)) (x : Init × List Token) → eat open_brace ts ≡ o → i.init_by defs most expr inner ts o ≡ Some x → Taken ts x
    init_by_takes ts (Some after) x at is =
        let f = eat_takes open_brace ts after at in
        let m = bind_some (i.members defs most expr inner after) (λ z. grown init_depth most (t.group (line_at ts) z.0) z.1) x is in
        let b = bind_some (inner after) (λ y. i.inits defs most expr inner (suc (length y.1)) y.1 >>= λ z. Some (t.more_inits y.0 z.0, z.1)) m.0 m.1 in
        let one = inner_takes after b.0 b.1 in
        let c = bind_some (i.inits defs most expr inner (suc (length b.0.1)) b.0.1) (λ z. Some (t.more_inits b.0.0 z.0, z.1)) m.0 b.2 in
        let rest = inits_take (suc (length b.0.1)) b.0.1 c.0 c.1 in
        let group : Inits × List Token → Read Init = λ z. grown init_depth most (t.group (line_at ts) z.0) z.1 in
        let g = grown_takes init_depth most (t.group (line_at ts) (t.more_inits b.0.0 c.0.0)) c.0.1 x (ap group (some_is c.2) ∙ m.2) in
        let found : Taken ts (t.group (line_at ts) (t.more_inits b.0.0 c.0.0), c.0.1) = (
          d.group f.0 one.0 rest.0 rest.3 rest.4,
          (one.1, rest.1),
          ap (λ l. t.group l (t.more_inits (plain_init one.0) (plain_inits rest.0))) (sym f.1) ∙ ap (λ y. t.group (line_at ts) (t.more_inits y (plain_inits rest.0))) one.2 ∙ ap (λ y. t.group (line_at ts) (t.more_inits b.0.0 y)) rest.2,
          f.2 ∙ ap (λ y. mark f.0 open_brace ∷ y) (one.3 ∙ ap (spell_init one.0) rest.5),
        ) in
        rw (← g.0) found
    init_by_takes ts None x at is =
        let b = bind_some (expr 2 ts) (λ e. grown init_depth most (t.single e.0) e.1) x is in
        let s = (expr_takes 2 ts b.0 (omega arith) (omega arith) b.1).0 in
        let g = grown_takes init_depth most (t.single b.0.0) b.0.1 x b.2 in
        let found : Taken ts (t.single b.0.0, b.0.1) = (d.single s.written, s.levelled, ap t.single s.plain_is, s.tokens) in
        rw (← g.0) found

  init_takes : (n : ℕ) (ts : List Token) (x : Init × List Token) → i.init defs most expr n ts ≡ Some x → Taken ts x
  unfolding i.init
  init_takes zero ts x is = cc
  init_takes (suc n) ts x is = init_by_takes (i.init defs most expr n) (init_takes n) ts (eat open_brace ts) x refl is

  abbrev ItemTaken : List Token → Item × List Token → Type 0
  ItemTaken ts x = (v : WrittenItem) × IsItem defs v × (plain_item v ≡ x.0) × (ts ≡ spell_item v x.1)

  given_takes : (start ts : List Token) (v : d.WrittenDeclr) (e : t.Declr) (o : Option (List Token)) (x : Item × List Token) → IsDeclr defs v → plain_declr v ≡ e → start ≡ spell_declr v ts → eat equals ts ≡ o
      → i.given_by defs most expr e ts o ≡ Some x → ItemTaken start x
  given_takes start ts v e (Some after) x ok plain_is tokens at is =
      let f = eat_takes equals ts after at in
      let b = bind_some (i.init defs most expr most after) (λ y. grown item_depth most (record { declr = e; init = Some y.0 }) y.1) x is in
      let s = init_takes most after b.0 b.1 in
      let g = grown_takes item_depth most (record { declr = e; init = Some b.0.0 }) b.0.1 x b.2 in
      let found : ItemTaken start (record { declr = e; init = Some b.0.0 }, b.0.1) = (
        record { declr = v; given = Some (record { line = f.0; init = s.0 }) },
        (ok, s.1),
        ap (λ y. record { declr = y; init = Some (plain_init s.0) }) plain_is ∙ ap (λ y. record { declr = e; init = Some y }) s.2,
        tokens ∙ ap (spell_declr v) (f.2 ∙ ap (λ y. mark f.0 equals ∷ y) s.3),
      ) in
      rw (← g.0) found
  given_takes start ts v e None x ok plain_is tokens at is =
      let g = grown_takes item_depth most (record { declr = e; init = None }) ts x is in
      let found : ItemTaken start (record { declr = e; init = None }, ts) =
      (record { declr = v; given = None }, (ok, tt), ap (λ y. record { declr = y; init = None }) plain_is, tokens) in
      rw (← g.0) found

  -- What is read of an item is spelled so.
  pub item_takes : (ts : List Token) (x : Item × List Token) → i.item defs most expr ts ≡ Some x → (v : WrittenItem) × IsItem defs v × (plain_item v ≡ x.0) × (ts ≡ spell_item v x.1)
  item_takes ts x is =
      let b = bind_some (r.plain_declr defs most expr ts) (λ y. i.given_by defs most expr y.0 y.1 (eat equals y.1)) x is in
      let s = plain_declr_takes defs most positive expr expr_takes ts b.0 b.1 in
      given_takes ts b.0.1 s.0 b.0.0 (eat equals b.0.1) x s.1 s.2 s.3 refl b.2
