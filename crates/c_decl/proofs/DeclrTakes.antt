-- What is read of a declarator is spelled so.
use Rattle.std.proofs.Common.{◌≡◌, ℕ, ◌≤◌, zero, suc, List, [], ◌∷◌, length, Option, Some, None, Bool, true, false, refl, arith, ap, sym, ◌∙◌, inl, inr, true≢false}
use Rattle.c_type.specs.Names.{Name, pick}
use Rattle.c_lex.specs.Tokens.{Token}
use Rattle.c_grammar.specs.Words.{Separated, mark, open_round, close_round, open_square, close_square, star, spell_separated, AreAll}
use Rattle.c_tree.specs.TreeExpr.{Expr, expr_depth}
use Rattle.c_tree.specs.TreeDecl.{Declr, declr_depth}
use Rattle.c_tree.specs.TreeDecl as t
use Rattle.c_grammar.specs.WrittenExpr.{Written, IsAtLevel}
use Rattle.c_grammar.specs.WrittenExpr as w
use Rattle.c_grammar.specs.WrittenDeclr.{Named, named, spell_named, WrittenDeclr, declr_line, plain_declr, plain_if, plain_names, is_pointer, is_bare, IfThere, Chosen, IsDeclr, IsParameter, spell_declr, spell_if}
use Rattle.c_grammar.specs.WrittenDeclr as d
use Rattle.c_grammar.specs.Reads.{Spells}
use Rattle.c_expr.specs.Front.{Read, ◌>>=◌, eat, line_at, name_at, grown}
use Rattle.c_decl.specs.Separated.{separated}
use Rattle.c_decl.specs.ReadDeclr as r
use Rattle.c_decl.specs.Named.{is_name}
use Rattle.c_decl.proofs.DeclrAgain.{IsLoose, declr_line_at}
use Rattle.c_expr.proofs.Taken.{some_is, bind_some, chosen, eat_takes, name_takes}
use Rattle.c_decl.proofs.SeparatedTakes.{grown_takes, separated_takes}

-- The tokens from `start` up to `after` spell the declarator.
pub record Takes (defs : List Name) (e : Declr) (start after : List Token) : Type 0 where
  pub written : WrittenDeclr
  pub loose : IsLoose defs written
  pub plain_is : plain_declr written ≡ e
  pub tokens : start ≡ spell_declr written after

-- and it begins with no star
record Direct (defs : List Name) (e : Declr) (start after : List Token) : Type 0 where
  written : WrittenDeclr
  direct : is_pointer written ≡ false
  loose : IsLoose defs written
  plain_is : plain_declr written ≡ e
  tokens : start ≡ spell_declr written after

pub bare_is : (v : WrittenDeclr) → is_bare v ≡ is_name (plain_declr v)
bare_is (d.pointer l v) = refl
bare_is (d.name l x) = refl
bare_is (d.array v l n m) = refl
bare_is (d.function v l xs m) = refl
bare_is (d.bracket l v m) = bare_is v

pub loose_plain : (defs : List Name) (v : WrittenDeclr) → IsLoose defs v → r.has_names (plain_declr v) ≡ false → IsDeclr defs v
loose_plain defs (d.pointer l v) ok none = loose_plain defs v ok none
loose_plain defs (d.name l x) ok none = ok
loose_plain defs (d.array v l n m) ok none = (ok.0, loose_plain defs v ok.1 none, ok.2)
loose_plain defs (d.function v l None m) ok none = (ok.0, loose_plain defs v ok.1 none, refl)
loose_plain defs (d.function v l (Some xs) m) ok none = absurd (true≢false none)
loose_plain defs (d.bracket l v m) ok none = loose_plain defs v ok none

line_of : (defs : List Name) (e : Declr) (start after : List Token) (x : Direct defs e start after) → declr_line x.written ≡ line_at start
line_of defs e start after x = sym (declr_line_at x.written after) ∙ ap line_at (sym x.tokens)

module _ (defs : List Name) (most : ℕ) (positive : 1 ≤ most) (expr : ℕ → List Token → Read Expr)
    (expr_takes : (l : ℕ) (ts : List Token) (x : Expr × List Token) → 1 ≤ l → l ≤ 3 → expr l ts ≡ Some x → Spells defs l x.0 ts x.1 × (expr_depth x.0 ≤ most)) where
  abbrev Dimension : List Token → Option Expr × List Token → Type 0
  Dimension ts x = (n : Option Written) × IfThere (IsAtLevel defs 1) n × (plain_if w.plain n ≡ x.0) × (m : ℕ) × (ts ≡ spell_if w.spell n (mark m close_square ∷ x.1))

  dimension_takes : (ts : List Token) (o : Option (List Token)) (x : Option Expr × List Token) → eat close_square ts ≡ o → r.dimension_by defs most expr ts o ≡ Some x → Dimension ts x
  dimension_takes ts (Some after) x at is =
      let f = eat_takes close_square ts after at in
      let found : Dimension ts (None, after) = (None, tt, refl, f.0, f.2) in
      rw (← some_is is) found
  dimension_takes ts None x at is =
      let b = bind_some (expr 1 ts) (λ e. eat close_square e.1 >>= λ after. Some (Some e.0, after)) x is in
      let s = (expr_takes 1 ts b.0 (omega arith) (omega arith) b.1).0 in
      let c = bind_some (eat close_square b.0.1) (λ after. Some (Some b.0.0, after)) x b.2 in
      let f = eat_takes close_square b.0.1 c.0 c.1 in
      let found : Dimension ts (Some b.0.0, c.0) = (Some s.written, s.levelled, ap Some s.plain_is, f.0, s.tokens ∙ ap (w.spell s.written) f.2) in
      rw (← some_is c.2) found

  named_takes : (ts : List Token) (x : Name × List Token) → name_at defs ts ≡ Some x → (v : Named) × IsParameter defs v × (named v ≡ x.0) × (ts ≡ spell_named v x.1)
  named_takes ts x is = let f = name_takes defs ts x is in (record { line = f.0.0; name = x.0 }, f.1, refl, f.0.2)

  abbrev Params : Bool → List Token → List Name × List Token → Type 0
  Params bare ts x = (xs : Option (Separated Named)) × Chosen bare (IfThere (AreAll (IsParameter defs)) xs) (xs ≡ None) × (plain_names xs ≡ x.0) × (m : ℕ) × (ts ≡ spell_if (spell_separated spell_named) xs (mark m close_round ∷ x.1))

  names_take : (ts : List Token) (o : Option (List Token)) (x : List Name × List Token) → eat close_round ts ≡ o → r.names_by defs most expr ts o ≡ Some x → Params true ts x
  names_take ts (Some after) x at is =
      let f = eat_takes close_round ts after at in
      let found : Params true ts ([], after) = (None, tt, refl, f.0, f.2) in
      rw (← some_is is) found
  names_take ts None x at is =
      let b = bind_some (separated (name_at defs) (length ts) ts) (λ xs. eat close_round xs.1 >>= λ after. Some (xs.0, after)) x is in
      let s = separated_takes named spell_named (name_at defs) (IsParameter defs) named_takes (length ts) ts b.0 b.1 in
      let c = bind_some (eat close_round b.0.1) (λ after. Some (b.0.0, after)) x b.2 in
      let f = eat_takes close_round b.0.1 c.0 c.1 in
      let found : Params true ts (b.0.0, c.0) = (Some s.0, s.1, s.2, f.0, s.3 ∙ ap (spell_separated spell_named s.0) f.2) in
      rw (← some_is c.2) found

  no_names_take : (ts : List Token) (x : List Name × List Token) → r.no_names defs most expr ts ≡ Some x → Params false ts x
  no_names_take ts x is =
      let c = bind_some (eat close_round ts) (λ after. Some ([], after)) x is in
      let f = eat_takes close_round ts c.0 c.1 in
      let found : Params false ts ([], c.0) = (None, refl, refl, f.0, f.2) in
      rw (← some_is c.2) found

  params_take : (e : Declr) (ts : List Token) (x : List Name × List Token) → r.params defs most expr e ts ≡ Some x → Params (is_name e) ts x
  params_take (t.pointer l e) ts x is = no_names_take ts x is
  params_take (t.name l n) ts x is = names_take ts (eat close_round ts) x refl is
  params_take (t.array l e n) ts x is = no_names_take ts x is
  params_take (t.function l e ns) ts x is = no_names_take ts x is

  abbrev Longer : List Token → Declr × List Token → Type 0
  Longer start x = Direct defs x.0 start x.1 × (declr_depth x.0 ≤ most)

  abbrev Goes : List Token → (Declr → List Token → Read Declr) → Type 0
  Goes start more = (e : Declr) (ts : List Token) (x : Declr × List Token) → Longer start (e, ts) → more e ts ≡ Some x → Longer start x

  suffix_takes : (start : List Token) (more : Declr → List Token → Read Declr) → Goes start more → (e : Declr) (ts : List Token) (o u : Option (List Token)) (x : Declr × List Token) → Longer start (e, ts)
      → eat open_square ts ≡ o → eat open_round ts ≡ u → r.suffix_by defs most expr more (line_at start) e ts o u ≡ Some x → Longer start x
  suffix_takes start more goes e ts (Some after) u x s at at1 is =
      let f = eat_takes open_square ts after at in
      let c = bind_some (r.array_by defs most expr (line_at start) e after) (λ y. more y.0 y.1) x is in
      let b = bind_some (r.dimension_by defs most expr after (eat close_square after)) (λ n. grown declr_depth most (t.array (line_at start) e n.0) n.1) c.0 c.1 in
      let n = dimension_takes after (eat close_square after) b.0 refl b.1 in
      let g = grown_takes declr_depth most (t.array (line_at start) e b.0.0) b.0.1 c.0 b.2 in
      let longer : Direct defs (t.array (line_at start) e b.0.0) start b.0.1 = record {
        written = d.array s.0.written f.0 n.0 n.3;
        direct = refl;
        loose = (s.0.direct, s.0.loose, n.1);
        plain_is = ap (λ l. t.array l (plain_declr s.0.written) (plain_if w.plain n.0)) (line_of defs e start ts s.0) ∙ ap (λ y. t.array (line_at start) y (plain_if w.plain n.0)) s.0.plain_is ∙ ap (t.array (line_at start) e) n.2;
        tokens = s.0.tokens ∙ ap (spell_declr s.0.written) (f.2 ∙ ap (λ y. mark f.0 open_square ∷ y) n.4);
      } in
      goes (t.array (line_at start) e b.0.0) b.0.1 x (longer, g.1) (ap (λ y. more y.0 y.1) g.0 ∙ c.2)
  suffix_takes start more goes e ts None (Some after) x s at at1 is =
      let f = eat_takes open_round ts after at1 in
      let c = bind_some (r.function_by defs most expr (line_at start) e after) (λ y. more y.0 y.1) x is in
      let b = bind_some (r.params defs most expr e after) (λ n. grown declr_depth most (t.function (line_at start) e n.0) n.1) c.0 c.1 in
      let n = params_take e after b.0 b.1 in
      let g = grown_takes declr_depth most (t.function (line_at start) e b.0.0) b.0.1 c.0 b.2 in
      let bare : is_bare s.0.written ≡ is_name e = bare_is s.0.written ∙ ap is_name s.0.plain_is in
      let longer : Direct defs (t.function (line_at start) e b.0.0) start b.0.1 = record {
        written = d.function s.0.written f.0 n.0 n.3;
        direct = refl;
        loose = (s.0.direct, s.0.loose, rw bare n.1);
        plain_is = ap (λ l. t.function l (plain_declr s.0.written) (plain_names n.0)) (line_of defs e start ts s.0) ∙ ap (λ y. t.function (line_at start) y (plain_names n.0)) s.0.plain_is ∙ ap (t.function (line_at start) e) n.2;
        tokens = s.0.tokens ∙ ap (spell_declr s.0.written) (f.2 ∙ ap (λ y. mark f.0 open_round ∷ y) n.4);
      } in
      goes (t.function (line_at start) e b.0.0) b.0.1 x (longer, g.1) (ap (λ y. more y.0 y.1) g.0 ∙ c.2)
  suffix_takes start more goes e ts None None x s at at1 is = rw (← some_is is) s

  suffixes_take : (j : ℕ) (start : List Token) → Goes start (r.suffixes defs most expr j (line_at start))
  unfolding r.suffixes
  suffixes_take zero start e ts x s is = cc
  suffixes_take (suc j) start e ts x s is =
      suffix_takes start (r.suffixes defs most expr j (line_at start)) (suffixes_take j start) e ts (eat open_square ts) (eat open_round ts) x s refl refl is

  abbrev DeclrRead : (List Token → Read Declr) → Type 0
  DeclrRead read = (ts : List Token) (x : Declr × List Token) → read ts ≡ Some x → Takes defs x.0 ts x.1 × (declr_depth x.0 ≤ most)

  direct_takes : (inner : List Token → Read Declr) → DeclrRead inner → (ts : List Token) (o : Option (List Token)) (x : Declr × List Token) → eat open_round ts ≡ o → r.direct_by defs most expr inner ts o ≡ Some x → Longer ts x
  direct_takes inner takes ts (Some after) x at is =
      let f = eat_takes open_round ts after at in
      let b = bind_some (inner after) (λ y. eat close_round y.1 >>= λ rest. Some (y.0, rest)) x is in
      let s = takes after b.0 b.1 in
      let c = bind_some (eat close_round b.0.1) (λ rest. Some (b.0.0, rest)) x b.2 in
      let g = eat_takes close_round b.0.1 c.0 c.1 in
      let found : Longer ts (b.0.0, c.0) = (
        record {
          written = d.bracket f.0 s.0.written g.0;
          direct = refl;
          loose = s.0.loose;
          plain_is = s.0.plain_is;
          tokens = f.2 ∙ ap (λ y. mark f.0 open_round ∷ y) (s.0.tokens ∙ ap (spell_declr s.0.written) g.2);
        },
        s.1,
      ) in
      rw (← some_is c.2) found
  direct_takes inner takes ts None x at is =
      let b = bind_some (name_at defs ts) (λ y. Some (t.name (line_at ts) y.0, y.1)) x is in
      let f = name_takes defs ts b.0 b.1 in
      let found : Longer ts (t.name (line_at ts) b.0.0, b.0.1) = (
        record {
          written = d.name f.0.0 b.0.0;
          direct = refl;
          loose = f.1;
          plain_is = ap (λ l. t.name l b.0.0) (sym f.0.1);
          tokens = f.0.2;
        },
        positive,
      ) in
      rw (← some_is b.2) found

  star_takes : (more inner : List Token → Read Declr) → DeclrRead more → DeclrRead inner → (ts : List Token) (o : Option (List Token)) (x : Declr × List Token) → eat star ts ≡ o → r.star_by defs most expr more inner ts o ≡ Some x
      → Takes defs x.0 ts x.1 × (declr_depth x.0 ≤ most)
  star_takes more inner more_takes inner_takes ts (Some after) x at is =
      let f = eat_takes star ts after at in
      let b = bind_some (more after) (λ y. grown declr_depth most (t.pointer (line_at ts) y.0) y.1) x is in
      let s = more_takes after b.0 b.1 in
      let g = grown_takes declr_depth most (t.pointer (line_at ts) b.0.0) b.0.1 x b.2 in
      let found : Takes defs (t.pointer (line_at ts) b.0.0) ts b.0.1 = record {
        written = d.pointer f.0 s.0.written;
        loose = s.0.loose;
        plain_is = ap (λ l. t.pointer l (plain_declr s.0.written)) (sym f.1) ∙ ap (t.pointer (line_at ts)) s.0.plain_is;
        tokens = f.2 ∙ ap (λ y. mark f.0 star ∷ y) s.0.tokens;
      } in
      rw (← g.0) (found, g.1)
  star_takes more inner more_takes inner_takes ts None x at is =
      let b = bind_some (r.direct_by defs most expr inner ts (eat open_round ts)) (λ y. r.suffixes defs most expr (suc most) (line_at ts) y.0 y.1) x is in
      let s = direct_takes inner inner_takes ts (eat open_round ts) b.0 refl b.1 in
      let l = suffixes_take (suc most) ts b.0.0 b.0.1 x s b.2 in
      (record { written = l.0.written; loose = l.0.loose; plain_is = l.0.plain_is; tokens = l.0.tokens }, l.1)

  starred_takes : (inner : ℕ → List Token → Read Declr) → ((b : ℕ) → DeclrRead (inner b)) → (b : ℕ) → DeclrRead (r.starred defs most expr inner b)
  unfolding r.starred
  starred_takes inner takes zero ts x is = star_takes (r.no_more defs most expr) (inner zero) (λ ts1 x1 is1. cc) (takes zero) ts (eat star ts) x refl is
  starred_takes inner takes (suc b) ts x is = star_takes (r.starred defs most expr inner b) (inner (suc b)) (starred_takes inner takes b) (takes (suc b)) ts (eat star ts) x refl is

  declr_takes : (n b : ℕ) → DeclrRead (r.declr defs most expr n b)
  unfolding r.declr
  declr_takes zero b ts x is = cc
  declr_takes (suc n) b ts x is = starred_takes (r.declr defs most expr n) (declr_takes n) b ts x is

  -- What is read of a declarator is spelled so.
  pub loose_declr_takes : (ts : List Token) (x : Declr × List Token) → r.loose_declr defs most expr ts ≡ Some x → Takes defs x.0 ts x.1 × (declr_depth x.0 ≤ most)
  loose_declr_takes ts x is = declr_takes (suc (length ts)) most ts x is

  pub plain_declr_takes : (ts : List Token) (x : Declr × List Token) → r.plain_declr defs most expr ts ≡ Some x
      → (v : WrittenDeclr) × IsDeclr defs v × (plain_declr v ≡ x.0) × (ts ≡ spell_declr v x.1)
  plain_declr_takes ts x is =
      let b = bind_some (r.loose_declr defs most expr ts) (λ y. pick (r.has_names y.0) None (Some y)) x is in
      let s = (loose_declr_takes ts b.0 b.1).0 in
      elim (chosen (r.has_names b.0.0) None (Some b.0) (Some x) b.2) [
        | inl h ↦ cc (h.1)
        | inr h ↦
            let same : b.0 ≡ x = some_is h.1 in
            (s.written, loose_plain defs s.written s.loose (ap r.has_names s.plain_is ∙ h.0), s.plain_is ∙ ap (λ y. y.0) same, s.tokens ∙ ap (λ y. spell_declr s.written y.1) same)
      ]
