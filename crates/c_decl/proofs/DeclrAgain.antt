-- A declarator that is spelled is read.
use Rattle.std.proofs.Common.{◌≡◌, ℕ, ◌+◌, ◌-◌, ◌<◌, ◌≤◌, zero, suc, List, ◌∷◌, length, Option, Some, None, Bool, true, false, refl, arith, sym, ◌∙◌, true≢false}
use Rattle.c_type.specs.Names.{Name}
use Rattle.c_lex.specs.Tokens.{Token}
use Rattle.c_grammar.specs.Words.{Separated, mark, open_round, close_round, open_square, close_square, star, spell_separated, AreAll}
use Rattle.c_tree.specs.TreeExpr.{Expr, expr_depth, optional}
use Rattle.c_tree.specs.TreeDecl.{Declr, declr_depth}
use Rattle.c_tree.specs.TreeDecl as t
use Rattle.c_grammar.specs.WrittenType.{is_typedef}
use Rattle.c_grammar.specs.WrittenExpr.{Written, IsAtLevel}
use Rattle.c_grammar.specs.WrittenExpr as w
use Rattle.c_grammar.specs.WrittenDeclr.{Named, named, spell_named, WrittenDeclr, declr_line, plain_declr, plain_if, plain_names, is_pointer, is_bare, IfThere, Chosen, IsDeclr, IsHead, IsParameter, spell_declr, spell_if}
use Rattle.c_grammar.specs.WrittenDeclr as d
use Rattle.c_grammar.specs.Reads.{may_follow}
use Rattle.c_expr.specs.Front.{Read, ◌>>=◌, eat, line_at, name_at}
use Rattle.c_decl.specs.ReadDeclr as r
use Rattle.c_expr.proofs.Fronts.{grown_again, no_mark, expr_starts, expr_longer}
use Rattle.c_decl.proofs.SeparatedAgain.{members_longer, separated_again}

-- A declarator in which names of parameters may stand next to the declared name.
abbrev pub IsLoose : List Name → WrittenDeclr → Type 0
IsLoose defs (d.pointer l e) = IsLoose defs e
IsLoose defs (d.name l x) = is_typedef defs x ≡ false
IsLoose defs (d.array e l n m) = (is_pointer e ≡ false) × IsLoose defs e × IfThere (IsAtLevel defs 1) n
IsLoose defs (d.function e l xs m) = (is_pointer e ≡ false) × IsLoose defs e × Chosen (is_bare e) (IfThere (AreAll (IsParameter defs)) xs) (xs ≡ None)
IsLoose defs (d.bracket l e m) = IsLoose defs e

-- how deep brackets stand in one another
abbrev pub brackets : WrittenDeclr → ℕ
brackets (d.pointer l e) = brackets e
brackets (d.name l x) = 1
brackets (d.array e l n m) = brackets e
brackets (d.function e l xs m) = brackets e
brackets (d.bracket l e m) = suc (brackets e)

-- the stars round the name
abbrev pub stars : WrittenDeclr → ℕ
stars (d.pointer l e) = suc (stars e)
stars (d.name l x) = 0
stars (d.array e l n m) = stars e
stars (d.function e l xs m) = stars e
stars (d.bracket l e m) = stars e

-- no suffix comes next
pub record NoSuffix (ts : List Token) : Type 0 where
  pub no_array : eat open_square ts ≡ None
  pub no_function : eat open_round ts ≡ None

brackets_positive : (e : WrittenDeclr) → 1 ≤ brackets e
brackets_positive (d.pointer l e) = brackets_positive e
brackets_positive (d.name l x) = omega arith
brackets_positive (d.array e l n m) = brackets_positive e
brackets_positive (d.function e l xs m) = brackets_positive e
brackets_positive (d.bracket l e m) = omega arith

stars_few : (e : WrittenDeclr) → stars e < declr_depth (plain_declr e)
stars_few (d.pointer l e) = omega (arith, stars_few e)
stars_few (d.name l x) = omega arith
stars_few (d.array e l n m) = omega (arith, stars_few e)
stars_few (d.function e l xs m) = omega (arith, stars_few e)
stars_few (d.bracket l e m) = stars_few e

optional_longer : (n : Option Written) (ts : List Token) → length ts ≤ length (spell_if w.spell n ts)
optional_longer None ts = omega arith
optional_longer (Some e) ts = omega (arith, expr_longer e ts)

pub declr_deep : (e : Declr) → 1 ≤ declr_depth e
declr_deep (t.pointer l e) = omega arith
declr_deep (t.name l x) = omega arith
declr_deep (t.array l e n) = omega arith
declr_deep (t.function l e xs) = omega arith

pub declr_line_at : (e : WrittenDeclr) (after : List Token) → line_at (spell_declr e after) ≡ declr_line e
declr_line_at (d.pointer l e) after = refl
declr_line_at (d.name l x) after = refl
declr_line_at (d.array e l n m) after = declr_line_at e _
declr_line_at (d.function e l xs m) after = declr_line_at e _
declr_line_at (d.bracket l e m) after = refl

no_star : (e : WrittenDeclr) (after : List Token) → is_pointer e ≡ false → (defs : List Name) → IsLoose defs e → eat star (spell_declr e after) ≡ None
no_star (d.pointer l e) after direct defs ok = absurd (true≢false direct)
no_star (d.name l x) after direct defs ok = refl
no_star (d.array e l n m) after direct defs ok = no_star e _ ok.0 defs ok.1
no_star (d.function e l xs m) after direct defs ok = no_star e _ ok.0 defs ok.1
no_star (d.bracket l e m) after direct defs ok = refl

-- ---- loops: how many turns stand before those that are left

abbrev suffixed : WrittenDeclr → ℕ → ℕ
suffixed (d.pointer l e) n = n
suffixed (d.name l x) n = n
suffixed (d.array e l i m) n = suffixed e (suc n)
suffixed (d.function e l xs m) n = suffixed e (suc n)
suffixed (d.bracket l e m) n = n

suffixed-is : (e : WrittenDeclr) → (n : ℕ) × ((m : ℕ) → suffixed e m ≡ n + m) × (n < declr_depth (plain_declr e))
suffixed-is (d.pointer l e) = (0, λ m. omega arith, omega arith)
suffixed-is (d.name l x) = (0, λ m. omega arith, omega arith)
suffixed-is (d.array e l i m) = let h = suffixed-is e in (suc h.0, λ m. h.1 (suc m) ∙ omega arith, omega (arith, h.2))
suffixed-is (d.function e l xs m) = let h = suffixed-is e in (suc h.0, λ m. h.1 (suc m) ∙ omega arith, omega (arith, h.2))
suffixed-is (d.bracket l e m) = (0, λ m. omega arith, declr_deep (plain_declr e))

suffixed-all : (e : WrittenDeclr) (most : ℕ) → declr_depth (plain_declr e) ≤ most → (n : ℕ) × (suffixed e (suc n) ≡ suc most)
suffixed-all e most le = let h = suffixed-is e in (most - h.0, h.1 (suc (most - h.0)) ∙ omega (arith, h.2))

chosen_none : (b : Bool) (P : Option (Separated Named) → Type 0) → P None → Chosen b (P None) (◌≡◌ {A = Option (Separated Named)} None None)
chosen_none true P holds = holds
chosen_none false P holds = refl

pub declr_loose : (defs : List Name) (e : WrittenDeclr) → IsDeclr defs e → IsLoose defs e
declr_loose defs (d.pointer l e) ok = declr_loose defs e ok
declr_loose defs (d.name l x) ok = ok
declr_loose defs (d.array e l n m) ok = (ok.0, declr_loose defs e ok.1, ok.2)
declr_loose defs (d.function e l xs m) ok = (ok.0, declr_loose defs e ok.1, rw ok.2 (chosen_none (is_bare e) (IfThere (AreAll (IsParameter defs))) tt))
declr_loose defs (d.bracket l e m) ok = declr_loose defs e ok

pub declr_names : (defs : List Name) (e : WrittenDeclr) → IsDeclr defs e → r.has_names (plain_declr e) ≡ false
declr_names defs (d.pointer l e) ok = declr_names defs e ok
declr_names defs (d.name l x) ok = refl
declr_names defs (d.array e l n m) ok = declr_names defs e ok.1
declr_names defs (d.function e l xs m) ok = rw ok.2 (declr_names defs e ok.1)
declr_names defs (d.bracket l e m) ok = declr_names defs e ok

-- ---- names of parameters

named_longer : (x : Named) (ts : List Token) → length ts < length (spell_named x ts)
named_longer x ts = omega arith

named_again : (defs : List Name) (x : Named) (after : List Token) → IsParameter defs x → Unit {0} → name_at defs (spell_named x after) ≡ Some (named x, after)
named_again defs x after ok follows = rw ok refl

names_longer : (xs : Option (Separated Named)) (ts : List Token) → length ts ≤ length (spell_if (spell_separated spell_named) xs ts)
names_longer None ts = omega arith
names_longer (Some xs) ts = omega (arith, members_longer spell_named named_longer xs.others ts)

brackets_short : (e : WrittenDeclr) (ts : List Token) → brackets e + length ts ≤ length (spell_declr e ts)
brackets_short (d.pointer l e) ts = omega (arith, brackets_short e ts)
brackets_short (d.name l x) ts = omega arith
brackets_short (d.array e l n m) ts = omega (arith, brackets_short e (mark l open_square ∷ spell_if w.spell n (mark m close_square ∷ ts)), optional_longer n (mark m close_square ∷ ts))
brackets_short (d.function e l xs m) ts = omega (arith, brackets_short e (mark l open_round ∷ spell_if (spell_separated spell_named) xs (mark m close_round ∷ ts)), names_longer xs (mark m close_round ∷ ts))
brackets_short (d.bracket l e m) ts = omega (arith, brackets_short e (mark m close_round ∷ ts))

pub declr_longer : (e : WrittenDeclr) (ts : List Token) → length ts < length (spell_declr e ts)
declr_longer e ts = omega (arith, brackets_short e ts, brackets_positive e)

module _ (defs : List Name) (most : ℕ) (expr : ℕ → List Token → Read Expr)
    (expr_again : (l : ℕ) (e : Written) (after : List Token) → 1 ≤ l → l ≤ 3 → IsAtLevel defs l e → expr_depth (w.plain e) ≤ most → may_follow l after ≡ true → expr l (w.spell e after) ≡ Some (w.plain e, after)) where
  names_again : (xs : Option (Separated Named)) (m : ℕ) (after : List Token) → IfThere (AreAll (IsParameter defs)) xs
      → r.names_by defs most expr (spell_if (spell_separated spell_named) xs (mark m close_round ∷ after)) (eat close_round (spell_if (spell_separated spell_named) xs (mark m close_round ∷ after))) ≡ Some (plain_names xs, after)
  names_again None m after ok = refl
  names_again (Some xs) m after ok =
      let room = members_longer spell_named named_longer xs.others (mark m close_round ∷ after) in
      rw (separated_again named spell_named (name_at defs) (IsParameter defs) (λ ts. Unit {0}) (λ l ts. tt) (named_again defs)
      (length (spell_separated spell_named xs (mark m close_round ∷ after))) xs.first xs.others (mark m close_round ∷ after) ok.0 ok.1 tt refl (omega (arith, room))) refl

  params_bare : (e : WrittenDeclr) (ts : List Token) → is_bare e ≡ true → r.params defs most expr (plain_declr e) ts ≡ r.names_by defs most expr ts (eat close_round ts)
  params_bare (d.pointer l e) ts is = absurd (true≢false (sym is))
  params_bare (d.name l x) ts is = refl
  params_bare (d.array e l n m) ts is = absurd (true≢false (sym is))
  params_bare (d.function e l xs m) ts is = absurd (true≢false (sym is))
  params_bare (d.bracket l e m) ts is = params_bare e ts is

  params_other : (e : WrittenDeclr) (ts : List Token) → is_bare e ≡ false → r.params defs most expr (plain_declr e) ts ≡ r.no_names defs most expr ts
  params_other (d.pointer l e) ts is = refl
  params_other (d.name l x) ts is = absurd (true≢false is)
  params_other (d.array e l n m) ts is = refl
  params_other (d.function e l xs m) ts is = refl
  params_other (d.bracket l e m) ts is = params_other e ts is

  params_by : (b : Bool) (e : WrittenDeclr) (xs : Option (Separated Named)) (m : ℕ) (after : List Token) → is_bare e ≡ b → Chosen b (IfThere (AreAll (IsParameter defs)) xs) (xs ≡ None)
      → r.params defs most expr (plain_declr e) (spell_if (spell_separated spell_named) xs (mark m close_round ∷ after)) ≡ Some (plain_names xs, after)
  params_by true e xs m after is ok = params_bare e _ is ∙ names_again xs m after ok
  params_by false e xs m after is ok = rw ok (params_other e (mark m close_round ∷ after) is)

  dimension_again : (n : Option Written) (m : ℕ) (after : List Token) → IfThere (IsAtLevel defs 1) n → optional expr_depth (plain_if w.plain n) ≤ most
      → r.dimension_by defs most expr (spell_if w.spell n (mark m close_square ∷ after)) (eat close_square (spell_if w.spell n (mark m close_square ∷ after))) ≡ Some (plain_if w.plain n, after)
  dimension_again None m after ok low = refl
  dimension_again (Some e) m after ok low =
      rw (
        no_mark defs close_square (w.spell e (mark m close_square ∷ after)) refl (expr_starts defs e (mark m close_square ∷ after) ok.1),
        expr_again 1 e (mark m close_square ∷ after) (omega arith) (omega arith) ok low refl,
      ) refl

  array_turn : (e : WrittenDeclr) (l : ℕ) (n : Option Written) (m j : ℕ) (after : List Token) → IfThere (IsAtLevel defs 1) n → declr_depth (plain_declr (d.array e l n m)) ≤ most
      → r.suffixes defs most expr (suc j) (declr_line e) (plain_declr e) (mark l open_square ∷ spell_if w.spell n (mark m close_square ∷ after))
      ≡ r.suffixes defs most expr j (declr_line e) (plain_declr (d.array e l n m)) after
  unfolding r.suffixes
  array_turn e l n m j after ok low =
      rw (dimension_again n m after ok (omega arith), grown_again declr_depth most (plain_declr (d.array e l n m)) after low) refl

  function_turn : (e : WrittenDeclr) (l : ℕ) (xs : Option (Separated Named)) (m j : ℕ) (after : List Token) → Chosen (is_bare e) (IfThere (AreAll (IsParameter defs)) xs) (xs ≡ None)
      → declr_depth (plain_declr (d.function e l xs m)) ≤ most
      → r.suffixes defs most expr (suc j) (declr_line e) (plain_declr e) (mark l open_round ∷ spell_if (spell_separated spell_named) xs (mark m close_round ∷ after))
      ≡ r.suffixes defs most expr j (declr_line e) (plain_declr (d.function e l xs m)) after
  unfolding r.suffixes
  function_turn e l xs m j after ok low =
      rw (params_by (is_bare e) e xs m after refl ok, grown_again declr_depth most (plain_declr (d.function e l xs m)) after low) refl

  suffixes_stop : (j l : ℕ) (e : Declr) (after : List Token) → NoSuffix after → r.suffixes defs most expr (suc j) l e after ≡ Some (e, after)
  unfolding r.suffixes
  suffixes_stop j l e after ends = rw (ends.no_array, ends.no_function) refl

  no_star_read : (inner : ℕ → List Token → Read Declr) (b : ℕ) (ts : List Token) → eat star ts ≡ None
      → r.starred defs most expr inner b ts ≡ (r.direct_by defs most expr (inner b) ts (eat open_round ts) >>= λ x. r.suffixes defs most expr (suc most) (line_at ts) x.0 x.1)
  unfolding r.starred
  no_star_read inner zero ts none = rw none refl
  no_star_read inner (suc b) ts none = rw none refl

  module _ (n : ℕ) (inner : ℕ → List Token → Read Declr)
      (inner_again : (b : ℕ) (e : WrittenDeclr) (after : List Token) → IsLoose defs e → brackets e ≤ n → stars e ≤ b → declr_depth (plain_declr e) ≤ most → NoSuffix after → inner b (spell_declr e after) ≡ Some (plain_declr e, after)) where
    chain : (b : ℕ) (e : WrittenDeclr) (j : ℕ) (after : List Token) → is_pointer e ≡ false → IsLoose defs e → brackets e ≤ suc n → stars e ≤ b → declr_depth (plain_declr e) ≤ most
        → (r.direct_by defs most expr (inner b) (spell_declr e after) (eat open_round (spell_declr e after)) >>= λ x. r.suffixes defs most expr (suffixed e j) (declr_line e) x.0 x.1)
        ≡ r.suffixes defs most expr j (declr_line e) (plain_declr e) after
    chain b (d.pointer l e) j after direct ok small few low = absurd (true≢false direct)
    chain b (d.name l x) j after direct ok small few low = rw ok refl
    chain b (d.array e l i m) j after direct ok small few low =
        chain b e (suc j) (mark l open_square ∷ spell_if w.spell i (mark m close_square ∷ after)) ok.0 ok.1 small few (omega arith) ∙ array_turn e l i m j after ok.2 low
    chain b (d.function e l xs m) j after direct ok small few low =
        chain b e (suc j) (mark l open_round ∷ spell_if (spell_separated spell_named) xs (mark m close_round ∷ after)) ok.0 ok.1 small few (omega arith) ∙ function_turn e l xs m j after ok.2 low
    chain b (d.bracket l e m) j after direct ok small few low =
        rw (inner_again b e (mark m close_round ∷ after) ok (omega arith) few low (record { no_array = refl; no_function = refl })) refl

    direct_again : (b : ℕ) (e : WrittenDeclr) (after : List Token) → is_pointer e ≡ false → IsLoose defs e → brackets e ≤ suc n → stars e ≤ b → declr_depth (plain_declr e) ≤ most → NoSuffix after
        → r.starred defs most expr inner b (spell_declr e after) ≡ Some (plain_declr e, after)
    direct_again b e after direct ok small few low ends =
        let all = suffixed-all e most low in
        no_star_read inner b (spell_declr e after) (no_star e after direct defs ok)
        ∙ rw (declr_line_at e after, ← all.1) (chain b e (suc all.0) after direct ok small few low ∙ suffixes_stop all.0 (declr_line e) (plain_declr e) after ends)

    starred_again : (b : ℕ) (e : WrittenDeclr) (after : List Token) → IsLoose defs e → brackets e ≤ suc n → stars e ≤ b → declr_depth (plain_declr e) ≤ most → NoSuffix after
        → r.starred defs most expr inner b (spell_declr e after) ≡ Some (plain_declr e, after)
    unfolding r.starred
    starred_again zero (d.pointer l e) after ok small few low ends = absurd (omega (arith, few))
    starred_again (suc b) (d.pointer l e) after ok small few low ends =
        rw (starred_again b e after ok small (omega (arith, few)) (omega arith) ends, grown_again declr_depth most (plain_declr (d.pointer l e)) after low) refl
    starred_again b (d.name l x) after ok small few low ends = direct_again b (d.name l x) after refl ok small few low ends
    starred_again b (d.array e l i m) after ok small few low ends = direct_again b (d.array e l i m) after refl ok small few low ends
    starred_again b (d.function e l xs m) after ok small few low ends = direct_again b (d.function e l xs m) after refl ok small few low ends
    starred_again b (d.bracket l e m) after ok small few low ends = direct_again b (d.bracket l e m) after refl ok small few low ends

  declr_again : (n b : ℕ) (e : WrittenDeclr) (after : List Token) → IsLoose defs e → brackets e ≤ n → stars e ≤ b → declr_depth (plain_declr e) ≤ most → NoSuffix after
      → r.declr defs most expr n b (spell_declr e after) ≡ Some (plain_declr e, after)
  unfolding r.declr
  declr_again zero b e after ok small few low ends = absurd (omega (arith, brackets_positive e))
  declr_again (suc n) b e after ok small few low ends = starred_again n (r.declr defs most expr n) (declr_again n) b e after ok small few low ends

  -- A declarator that is spelled is read.
  pub loose_declr_again : (e : WrittenDeclr) (after : List Token) → IsLoose defs e → declr_depth (plain_declr e) ≤ most → NoSuffix after
      → r.loose_declr defs most expr (spell_declr e after) ≡ Some (plain_declr e, after)
  loose_declr_again e after ok low ends =
      declr_again (suc (length (spell_declr e after))) most e after ok (omega (arith, brackets_short e after)) (omega (arith, stars_few e)) low ends

  pub plain_declr_again : (e : WrittenDeclr) (after : List Token) → IsDeclr defs e → declr_depth (plain_declr e) ≤ most → NoSuffix after
      → r.plain_declr defs most expr (spell_declr e after) ≡ Some (plain_declr e, after)
  plain_declr_again e after ok low ends = rw (loose_declr_again e after (declr_loose defs e ok) low ends, declr_names defs e ok) refl
