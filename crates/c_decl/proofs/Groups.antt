-- One turn of the loop over the members of a group.
use Rattle.std.proofs.Common.{◌≡◌, ℕ, ◌<◌, ◌≤◌, ◌-◌, ◌+◌, suc, List, [], ◌∷◌, ◌++◌, map, length, Option, Some, None, Result, Err, refl, ap, subst, ◌∙◌, Vec, Global}
use Rattle.c_type.specs.Names.{Name}
use Rattle.c_lex.specs.Tokens.{Token}
use Rattle.c_grammar.specs.Words.{comma_mark, close_brace}
use Rattle.c_tree.specs.TreeExpr.{Expr}
use Rattle.c_tree.specs.TreeDecl.{Init, Inits, no_inits, more_inits, group, init_depth}
use Rattle.c_grammar.specs.Reads.{most}
use Rattle.c_tree.proofs.Of.{init_of-Group}
use Rattle.c_decl.specs.declared.reader.Reader.{Reader}
use Rattle.c_tree.specs.declared.decl.Init.{Init as RustInit, Group}
use Rattle.c_tree.specs.TreeOf.{init_of, inits_from}
use Rattle.c_expr.specs.Front.{Read, ◌>>=◌, eat, grown}
use Rattle.c_expr.specs.declared.error.ParseErr.{ParseErr}
use Rattle.c_decl.specs.Answers.{Refuses, Gives, found, rest}
use Rattle.c_decl.specs.ReadInit as i
use Rattle.c_decl.proofs.Loops as l
use Rattle.c_decl.proofs.Loops.{in_front, with_front}

-- the members of the code in a list
pub listed : (xs : List RustInit) → in_front more_inits (map init_of xs) no_inits ≡ inits_from xs
listed [] = refl
listed (x ∷ xs) = ap (more_inits (init_of x)) (listed xs)

pub group_given : (r : Reader) (l after : ℕ) (v : Vec RustInit Global) (o : Result (RustInit × ℕ) ParseErr) → Gives (found init_of r) o (grown init_depth most (init_of (Group l v)) (rest r after))
    → Gives (found init_of r) o (grown init_depth most (group l (inits_from v.items)) (rest r after))
group_given r l after v o given = subst (λ y. Gives (found init_of r) o (grown init_depth most y (rest r after))) (init_of-Group l v) given

module _ (defs : List Name) (most : ℕ) (expr : ℕ → List Token → Read Expr) (inner : List Token → Read Init) where
  abbrev pub loop : ℕ → List Token → Read Inits
  loop k ts = i.inits defs most expr inner k ts

  turned : (more : List Token → Read Inits) → Read (Option Init) → Read Inits
  turned more None = None
  turned more (Some (None, after)) = Some (no_inits, after)
  turned more (Some (Some x, after)) = more after >>= λ y. Some (more_inits x y.0, y.1)

  behind : (k : ℕ) (ts : List Token) (o : Option (List Token)) (x : Read Init) → inner ts ≡ x → i.next_by defs most expr inner (loop k) ts o ≡ turned (loop k) (i.behind_comma defs most expr inner ts o)
  unfolding turned
  behind k ts (Some after) x is = refl
  behind k ts None None is = rw is refl
  behind k ts None (Some x) is = rw is refl

  turn : (k : ℕ) (ts : List Token) (o u : Option (List Token)) → eat comma_mark ts ≡ o → eat close_brace ts ≡ u → i.inits_by defs most expr inner (loop k) ts o ≡ turned (loop k) (i.next_init_by defs most expr inner ts o)
  unfolding turned
  turn k ts (Some after) u at close = behind k after (eat close_brace after) (inner after) refl
  turn k ts None None at close = rw close refl
  turn k ts None (Some after) at close = rw close refl

  each : (k : ℕ) (ts : List Token) → loop (suc k) ts ≡ turned (loop k) (i.next_init defs most expr inner ts)
  unfolding i.inits
  each k ts = turn k ts (eat comma_mark ts) (eat close_brace ts) refl refl

  -- what is read with the first member, which the loop begins with
  pub begins : (ts behind : List Token) (x : RustInit) (xs : List RustInit) (n : ℕ) → xs ≡ x ∷ [] → n ≡ suc (length behind) → inner ts ≡ Some (init_of x, behind)
      → with_front more_inits (map init_of xs) (loop n behind) ≡ i.members defs most expr inner ts
  unfolding with_front
  begins ts behind x xs n at count is = rw (at, count, is) refl

  pub goes_on : (n turn : ℕ) (xs : List Init) (x : Init) (ts next : List Token) (whole : Read Inits) → turn < n → with_front more_inits xs (loop (n - turn) ts) ≡ whole → i.next_init defs most expr inner ts ≡ Some (Some x, next)
      → with_front more_inits (xs ++ x ∷ []) (loop (n - (turn + 1)) next) ≡ whole
  unfolding turned
  goes_on n turn xs x ts next whole less so is = l.goes_on more_inits loop n turn xs x ts next whole less so (λ k. each k ts ∙ rw is refl)

  pub ends : (n turn : ℕ) (xs : List Init) (ts after : List Token) (whole : Read Inits) → turn < n → with_front more_inits xs (loop (n - turn) ts) ≡ whole → i.next_init defs most expr inner ts ≡ Some (None, after)
      → whole ≡ Some (in_front more_inits xs no_inits, after)
  unfolding turned
  ends n turn xs ts after whole less so is = l.ends more_inits loop n turn xs no_inits ts after whole less so (λ k. each k ts ∙ rw is refl)

  pub runs_out : (n turn : ℕ) (xs : List Init) (ts : List Token) (whole : Read Inits) → n ≤ turn → with_front more_inits xs (loop (n - turn) ts) ≡ whole → whole ≡ None
  unfolding i.inits
  runs_out n turn xs ts whole all so = l.runs_out more_inits loop n turn xs ts whole all so refl

  stops : (k : ℕ) (ts : List Token) → i.next_init defs most expr inner ts ≡ None → loop (suc k) ts ≡ None
  unfolding turned
  stops k ts is = each k ts ∙ rw is refl

  pub failed : {X : Type 0} (view : X → Inits × List Token) (r : Result X ParseErr) (y e : ParseErr) (n turn : ℕ) (xs : List Init) (ts : List Token) (whole : Read Inits) → r ≡ Err y → y ≡ e
      → turn < n → with_front more_inits xs (loop (n - turn) ts) ≡ whole → Refuses e (i.next_init defs most expr inner ts) → Gives view r whole
  failed view r y e n turn xs ts whole is same less so says =
      l.failed more_inits loop view (i.next_init defs most expr inner ts) r y e n turn xs ts whole is same less so says (λ none_read k. stops k ts none_read)
