-- An initialiser, and a declarator with its initialiser, that are spelled are read.
use Rattle.std.proofs.Common.{◌≡◌, ℕ, ◌+◌, ◌<◌, ◌≤◌, max, zero, suc, List, ◌∷◌, length, Option, Some, None, true, refl, arith}
use Rattle.c_type.specs.Names.{Name}
use Rattle.c_lex.specs.Tokens.{Token}
use Rattle.c_grammar.specs.Words.{mark, open_brace, close_brace, equals}
use Rattle.c_tree.specs.TreeExpr.{Expr, expr_depth}
use Rattle.c_tree.specs.TreeDecl.{Init, Inits, Item, init_depth, inits_depth, item_depth, declr_depth}
use Rattle.c_tree.specs.TreeDecl as t
use Rattle.c_grammar.specs.WrittenExpr.{Written, IsAtLevel}
use Rattle.c_grammar.specs.WrittenExpr as w
use Rattle.c_grammar.specs.WrittenDeclr.{WrittenInit, WrittenInits, WrittenItem, Given, plain_declr, plain_init, plain_inits, plain_item, plain_given, plain_if, IsDeclr, IsInit, AreInits, IsItem, IsGiven, IfThere, spell_declr, spell_init, spell_inits, spell_comma, spell_item, spell_given, spell_if}
use Rattle.c_grammar.specs.WrittenDeclr as d
use Rattle.c_grammar.specs.Reads.{may_follow}
use Rattle.c_expr.specs.Front.{Read, eat}
use Rattle.c_decl.specs.ReadInit as i
use Rattle.c_expr.proofs.Fronts.{grown_again, no_mark, expr_starts, expr_longer}
use Rattle.c_decl.proofs.DeclrAgain.{NoSuffix, plain_declr_again, declr_longer}

-- how deep groups stand in one another
abbrev mutual
  nest : WrittenInit → ℕ
  nest (d.single e) = 1
  nest (d.group l x xs last m) = suc (max (nest x) (nests xs))

  nests : WrittenInits → ℕ
  nests d.no_inits = 0
  nests (d.more_inits l x xs) = max (nest x) (nests xs)

abbrev count : WrittenInits → ℕ
count d.no_inits = 0
count (d.more_inits l x xs) = suc (count xs)

mutual
  nest_low : (x : WrittenInit) → nest x ≤ init_depth (plain_init x)
  nest_low (d.single e) = omega arith
  nest_low (d.group l x xs last m) = omega (arith, nest_low x, nests_low xs)

  nests_low : (xs : WrittenInits) → nests xs ≤ inits_depth (plain_inits xs)
  nests_low d.no_inits = omega arith
  nests_low (d.more_inits l x xs) = omega (arith, nest_low x, nests_low xs)

nest_positive : (x : WrittenInit) → 1 ≤ nest x
nest_positive (d.single e) = omega arith
nest_positive (d.group l x xs last m) = omega arith

comma_longer : (last : Option ℕ) (ts : List Token) → length ts ≤ length (spell_if spell_comma last ts)
comma_longer None ts = omega arith
comma_longer (Some l) ts = omega arith

mutual
  pub init_longer : (x : WrittenInit) (ts : List Token) → length ts < length (spell_init x ts)
  init_longer (d.single e) ts = expr_longer e ts
  init_longer (d.group l x xs last m) ts =
      omega (arith, init_longer x (spell_inits xs (spell_if spell_comma last (mark m close_brace ∷ ts))), inits_longer xs (spell_if spell_comma last (mark m close_brace ∷ ts)), comma_longer last (mark m close_brace ∷ ts))

  inits_longer : (xs : WrittenInits) (ts : List Token) → count xs + length ts ≤ length (spell_inits xs ts)
  inits_longer d.no_inits ts = omega arith
  inits_longer (d.more_inits l x xs) ts = omega (arith, init_longer x (spell_inits xs ts), inits_longer xs ts)

given_longer : (g : Option Given) (ts : List Token) → length ts ≤ length (spell_if spell_given g ts)
given_longer None ts = omega arith
given_longer (Some g) ts = omega (arith, init_longer g.init ts)

pub item_longer : (x : WrittenItem) (ts : List Token) → length ts < length (spell_item x ts)
item_longer x ts = omega (arith, declr_longer x.declr (spell_if spell_given x.given ts), given_longer x.given ts)

not_closed : (defs : List Name) (x : WrittenInit) (after : List Token) → IsInit defs x → eat close_brace (spell_init x after) ≡ None
not_closed defs (d.single e) after ok = no_mark defs close_brace (w.spell e after) refl (expr_starts defs e after ok.1)
not_closed defs (d.group l x xs last m) after ok = refl

follows_last : (last : Option ℕ) (m : ℕ) (after : List Token) → may_follow 2 (spell_if spell_comma last (mark m close_brace ∷ after)) ≡ true
follows_last None m after = refl
follows_last (Some l) m after = refl

follows : (xs : WrittenInits) (last : Option ℕ) (m : ℕ) (after : List Token) → may_follow 2 (spell_inits xs (spell_if spell_comma last (mark m close_brace ∷ after))) ≡ true
follows d.no_inits last m after = follows_last last m after
follows (d.more_inits l x xs) last m after = refl

-- what may follow an item
pub record EndsItem (ts : List Token) : Type 0 where
  pub no_suffix : NoSuffix ts
  pub not_given : eat equals ts ≡ None
  pub ends : may_follow 2 ts ≡ true

module _ (defs : List Name) (most : ℕ) (expr : ℕ → List Token → Read Expr)
    (expr_again : (l : ℕ) (e : Written) (after : List Token) → 1 ≤ l → l ≤ 3 → IsAtLevel defs l e → expr_depth (w.plain e) ≤ most → may_follow l after ≡ true → expr l (w.spell e after) ≡ Some (w.plain e, after)) where
  module _ (n : ℕ) (inner : List Token → Read Init)
      (inner_again : (x : WrittenInit) (after : List Token) → IsInit defs x → nest x ≤ n → init_depth (plain_init x) ≤ most → may_follow 2 after ≡ true → inner (spell_init x after) ≡ Some (plain_init x, after)) where
    inits_again : (k : ℕ) (xs : WrittenInits) (last : Option ℕ) (m : ℕ) (after : List Token) → AreInits defs xs → nests xs ≤ n → inits_depth (plain_inits xs) ≤ most → count xs < k
        → i.inits defs most expr inner k (spell_inits xs (spell_if spell_comma last (mark m close_brace ∷ after))) ≡ Some (plain_inits xs, after)
    unfolding i.inits
    inits_again zero xs last m after ok small low room = absurd (omega arith)
    inits_again (suc k) d.no_inits None m after ok small low room = refl
    inits_again (suc k) d.no_inits (Some l) m after ok small low room = refl
    inits_again (suc k) (d.more_inits l x xs) last m after ok small low room =
        rw (
          not_closed defs x (spell_inits xs (spell_if spell_comma last (mark m close_brace ∷ after))) ok.0,
          inner_again x (spell_inits xs (spell_if spell_comma last (mark m close_brace ∷ after))) ok.0 (omega arith) (omega arith) (follows xs last m after),
          inits_again k xs last m after ok.1 (omega arith) (omega arith) (omega arith),
        ) refl

    init_by_again : (x : WrittenInit) (after : List Token) → IsInit defs x → nest x ≤ suc n → init_depth (plain_init x) ≤ most → may_follow 2 after ≡ true
        → i.init_by defs most expr inner (spell_init x after) (eat open_brace (spell_init x after)) ≡ Some (plain_init x, after)
    init_by_again (d.single e) after ok small low ends =
        rw (
          no_mark defs open_brace (w.spell e after) refl (expr_starts defs e after ok.1),
          expr_again 2 e after (omega arith) (omega arith) ok (omega arith) ends,
          grown_again init_depth most (plain_init (d.single e)) after low,
        ) refl
    init_by_again (d.group l x xs last m) after ok small low ends =
        let room = inits_longer xs (spell_if spell_comma last (mark m close_brace ∷ after)) in
        rw (
          inner_again x (spell_inits xs (spell_if spell_comma last (mark m close_brace ∷ after))) ok.0 (omega arith) (omega arith) (follows xs last m after),
          inits_again (suc (length (spell_inits xs (spell_if spell_comma last (mark m close_brace ∷ after))))) xs last m after ok.1 (omega arith) (omega arith) (omega (arith, room)),
          grown_again init_depth most (plain_init (d.group l x xs last m)) after low,
        ) refl

  init_again : (n : ℕ) (x : WrittenInit) (after : List Token) → IsInit defs x → nest x ≤ n → init_depth (plain_init x) ≤ most → may_follow 2 after ≡ true
      → i.init defs most expr n (spell_init x after) ≡ Some (plain_init x, after)
  unfolding i.init
  init_again zero x after ok small low ends = absurd (omega (arith, nest_positive x))
  init_again (suc n) x after ok small low ends = init_by_again n (i.init defs most expr n) (init_again n) x after ok small low ends

  given_suffix : (g : Option Given) (after : List Token) → EndsItem after → NoSuffix (spell_if spell_given g after)
  given_suffix None after ends = ends.no_suffix
  given_suffix (Some g) after ends = record { no_array = refl; no_function = refl }

  given_again : (x : t.Declr) (g : Option Given) (after : List Token) → IfThere (IsGiven defs) g → item_depth (record { declr = x; init = plain_if plain_given g }) ≤ most → EndsItem after
      → i.given_by defs most expr x (spell_if spell_given g after) (eat equals (spell_if spell_given g after)) ≡ Some (record { declr = x; init = plain_if plain_given g }, after)
  given_again x None after ok low ends = rw (ends.not_given, grown_again item_depth most (record { declr = x; init = None }) after low) refl
  given_again x (Some g) after ok low ends =
      rw (init_again most g.init after ok (omega (arith, nest_low g.init)) (omega arith) ends.ends, grown_again item_depth most (record { declr = x; init = Some (plain_init g.init) }) after low) refl

  -- An item that is spelled is read.
  pub item_again : (x : WrittenItem) (after : List Token) → IsItem defs x → item_depth (plain_item x) ≤ most → EndsItem after
      → i.item defs most expr (spell_item x after) ≡ Some (plain_item x, after)
  item_again x after ok low ends =
      rw (plain_declr_again defs most expr expr_again x.declr (spell_if spell_given x.given after) ok.0 (omega arith) (given_suffix x.given after ends))
      (given_again (plain_declr x.declr) x.given after ok.1 low ends)
