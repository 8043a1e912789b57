-- One turn of the loop over the declarations of parameters.
use Rattle.std.proofs.Common.{◌≡◌, ℕ, ◌<◌, ◌≤◌, ◌-◌, ◌+◌, suc, List, [], ◌∷◌, ◌++◌, Some, None, Result, Err, refl, ap, ◌∙◌}
use Rattle.c_type.specs.Names.{Name}
use Rattle.c_lex.specs.Tokens.{Token}
use Rattle.c_grammar.specs.Words.{open_brace}
use Rattle.c_tree.specs.TreeExpr.{Expr}
use Rattle.c_tree.specs.TreeDecl.{ParDecl}
use Rattle.c_expr.specs.Front.{Read, ◌>>=◌, eat}
use Rattle.c_expr.specs.declared.error.ParseErr.{ParseErr}
use Rattle.c_decl.specs.Answers.{Refuses, Gives}
use Rattle.c_decl.specs.ReadDecl.{par, pars}
use Rattle.c_decl.proofs.Loops as l
use Rattle.c_decl.proofs.Loops.{in_front, with_front}
use Rattle.c_decl.proofs.Members.{onto}

listed : (xs : List ParDecl) → in_front onto xs [] ≡ xs
listed [] = refl
listed (x ∷ xs) = ap (λ ys. x ∷ ys) (listed xs)

module _ (defs : List Name) (most : ℕ) (expr : ℕ → List Token → Read Expr) where
  abbrev pub loop : ℕ → List Token → Read (List ParDecl)
  loop k ts = pars defs most expr k ts

  pub begins : (n : ℕ) (ts : List Token) → with_front onto [] (loop (n - 0) ts) ≡ loop n ts
  begins n ts = l.begins onto loop n ts

  goes : (ts after : List Token) (x : ParDecl) (k : ℕ) → eat open_brace ts ≡ None → par defs most expr ts ≡ Some (x, after) → loop (suc k) ts ≡ (loop k after >>= λ y. Some (x ∷ y.0, y.1))
  unfolding pars
  goes ts after x k at is = rw (at, is) refl

  stops : (ts after : List Token) (k : ℕ) → eat open_brace ts ≡ Some after → loop (suc k) ts ≡ Some ([], ts)
  unfolding pars
  stops ts after k at = rw at refl

  none_read : (ts : List Token) (k : ℕ) → eat open_brace ts ≡ None → par defs most expr ts ≡ None → loop (suc k) ts ≡ None
  unfolding pars
  none_read ts k at is = rw (at, is) refl

  none_left : (ts : List Token) → loop 0 ts ≡ None
  unfolding pars
  none_left ts = refl

  pub goes_on : (n turn : ℕ) (xs : List ParDecl) (x : ParDecl) (ts after : List Token) (whole : Read (List ParDecl)) → turn < n → with_front onto xs (loop (n - turn) ts) ≡ whole → eat open_brace ts ≡ None → par defs most expr ts ≡ Some (x, after)
      → with_front onto (xs ++ x ∷ []) (loop (n - (turn + 1)) after) ≡ whole
  goes_on n turn xs x ts after whole less so at is = l.goes_on onto loop n turn xs x ts after whole less so (λ k. goes ts after x k at is)

  pub ends : (n turn : ℕ) (xs : List ParDecl) (ts after : List Token) (whole : Read (List ParDecl)) → turn < n → with_front onto xs (loop (n - turn) ts) ≡ whole → eat open_brace ts ≡ Some after → whole ≡ Some (xs, ts)
  ends n turn xs ts after whole less so at = l.ends onto loop n turn xs [] ts ts whole less so (λ k. stops ts after k at) ∙ ap (λ ys. Some (ys, ts)) (listed xs)

  pub failed : {X : Type 0} (view : X → List ParDecl × List Token) (r : Result X ParseErr) (y e : ParseErr) (n turn : ℕ) (xs : List ParDecl) (ts : List Token) (whole : Read (List ParDecl)) → r ≡ Err y → y ≡ e
      → turn < n → with_front onto xs (loop (n - turn) ts) ≡ whole → eat open_brace ts ≡ None → Refuses e (par defs most expr ts) → Gives view r whole
  failed view r y e n turn xs ts whole is same less so at says = l.failed onto loop view (par defs most expr ts) r y e n turn xs ts whole is same less so says (λ none k. none_read ts k at none)

  pub runs_out : (n turn : ℕ) (xs : List ParDecl) (ts : List Token) (whole : Read (List ParDecl)) → n ≤ turn → with_front onto xs (loop (n - turn) ts) ≡ whole → whole ≡ None
  runs_out n turn xs ts whole all so = l.runs_out onto loop n turn xs ts whole all so (none_left ts)
