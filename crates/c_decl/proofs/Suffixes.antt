-- Each suffix is a turn of what is read.
use Rattle.std.proofs.Common.{◌≡◌, ℕ, ◌+◌, ◌-◌, ◌<◌, ◌≤◌, suc, List, Option, Some, None, refl, ap, arith, sym, ◌∙◌}
use Rattle.c_type.specs.Names.{Name}
use Rattle.c_lex.specs.Tokens.{Token}
use Rattle.c_grammar.specs.Words.{open_square, open_round}
use Rattle.c_tree.specs.TreeExpr.{Expr}
use Rattle.c_tree.specs.TreeDecl.{Declr}
use Rattle.c_expr.specs.Front.{Read, eat}
use Rattle.c_decl.specs.ReadDeclr.{array_by, function_by, suffix_by, suffixes}

module _ (defs : List Name) (most : ℕ) (expr : ℕ → List Token → Read Expr) (l n : ℕ) where
  one_turn : (turn : ℕ) (d : Declr) (ts : List Token) (o u : Option (List Token)) (whole : Read Declr) → turn < n → suffixes defs most expr (n - turn) l d ts ≡ whole → eat open_square ts ≡ o → eat open_round ts ≡ u
      → suffix_by defs most expr (suffixes defs most expr (n - (turn + 1)) l) l d ts o u ≡ whole
  unfolding suffixes
  one_turn turn d ts o u whole less so at at1 =
      let count : n - turn ≡ suc (n - (turn + 1)) = omega arith in
      let turned : suffixes defs most expr (suc (n - (turn + 1))) l d ts ≡ whole = ap (λ k. suffixes defs most expr k l d ts) (sym count) ∙ so in
      rw (← at, ← at1) turned

  pub array_goes_on : (turn : ℕ) (d : Declr) (ts after : List Token) (whole : Read Declr) (y : Declr × List Token) → turn < n → suffixes defs most expr (n - turn) l d ts ≡ whole → eat open_square ts ≡ Some after
      → array_by defs most expr l d after ≡ Some y → suffixes defs most expr (n - (turn + 1)) l y.0 y.1 ≡ whole
  array_goes_on turn d ts after whole y less so at is = rw is at (one_turn turn d ts (Some after) (eat open_round ts) whole less so at refl)

  pub array_fails : (turn : ℕ) (d : Declr) (ts after : List Token) (whole : Read Declr) → turn < n → suffixes defs most expr (n - turn) l d ts ≡ whole → eat open_square ts ≡ Some after
      → array_by defs most expr l d after ≡ None → whole ≡ None
  array_fails turn d ts after whole less so at is = sym (rw is at (one_turn turn d ts (Some after) (eat open_round ts) whole less so at refl))

  pub function_goes_on : (turn : ℕ) (d : Declr) (ts after : List Token) (whole : Read Declr) (y : Declr × List Token) → turn < n → suffixes defs most expr (n - turn) l d ts ≡ whole → eat open_square ts ≡ None → eat open_round ts ≡ Some after
      → function_by defs most expr l d after ≡ Some y → suffixes defs most expr (n - (turn + 1)) l y.0 y.1 ≡ whole
  function_goes_on turn d ts after whole y less so no_array at is = rw is at (one_turn turn d ts None (Some after) whole less so no_array at)

  pub function_fails : (turn : ℕ) (d : Declr) (ts after : List Token) (whole : Read Declr) → turn < n → suffixes defs most expr (n - turn) l d ts ≡ whole → eat open_square ts ≡ None → eat open_round ts ≡ Some after
      → function_by defs most expr l d after ≡ None → whole ≡ None
  function_fails turn d ts after whole less so no_array at is = sym (rw is at (one_turn turn d ts None (Some after) whole less so no_array at))

  pub runs_out : (turn : ℕ) (d : Declr) (ts : List Token) (whole : Read Declr) → n ≤ turn → suffixes defs most expr (n - turn) l d ts ≡ whole → whole ≡ None
  unfolding suffixes
  runs_out turn d ts whole all so =
      let count : n - turn ≡ 0 = omega arith in
      sym so ∙ ap (λ k. suffixes defs most expr k l d ts) count
