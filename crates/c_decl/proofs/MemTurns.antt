-- One turn of the loop over the declarations of members.
use Rattle.std.proofs.Common.{◌≡◌, ℕ, ◌<◌, ◌≤◌, ◌-◌, ◌+◌, suc, List, [], ◌∷◌, ◌++◌, map, Option, Some, None, Result, Err, refl, ap, subst, ◌∙◌, Vec, Global}
use Rattle.c_type.specs.Names.{Name}
use Rattle.c_lex.specs.Tokens.{Token}
use Rattle.c_grammar.specs.Words.{close_brace}
use Rattle.c_tree.specs.TreeExpr.{Expr}
use Rattle.c_tree.specs.TreeDecl.{Mem, Mems, no_mems, more_mems, struct, def_depth}
use Rattle.c_grammar.specs.Reads.{most}
use Rattle.c_tree.specs.declared.decl.Mem.{Mem as RustMem}
use Rattle.c_tree.specs.declared.decl.TagDef.{TagDef as RustDef, Struct}
use Rattle.c_tree.specs.TreeOf.{mem_of, mems_from, def_of}
use Rattle.c_tree.proofs.Of.{def_of-Struct}
use Rattle.c_expr.specs.Front.{Read, ◌>>=◌, eat, grown}
use Rattle.c_expr.specs.declared.error.ParseErr.{ParseErr}
use Rattle.c_decl.specs.declared.reader.Reader.{Reader}
use Rattle.c_decl.specs.Answers.{Refuses, Gives, found, rest}
use Rattle.c_decl.specs.ReadSpecs.{Found, mem, mems}
use Rattle.c_decl.proofs.Loops as l
use Rattle.c_decl.proofs.Loops.{in_front, with_front}

pub struct_given : (r : Reader) (l1 after : ℕ) (x : Option Name) (v : Vec RustMem Global) (o : Result (RustDef × ℕ) ParseErr) → Gives (found def_of r) o (grown def_depth most (def_of (Struct l1 x v)) (rest r after))
    → Gives (found def_of r) o (grown def_depth most (struct l1 x (mems_from v.items)) (rest r after))
struct_given r l1 after x v o given = subst (λ y. Gives (found def_of r) o (grown def_depth most y (rest r after))) (def_of-Struct l1 x v) given

-- the declarations of the code in a list
listed : (xs : List RustMem) (x : RustMem) → in_front more_mems (map mem_of xs) (more_mems (mem_of x) no_mems) ≡ mems_from (xs ++ x ∷ [])
listed [] x = refl
listed (z ∷ zs) x = ap (more_mems (mem_of z)) (listed zs x)

module _ (defs : List Name) (high : ℕ) (expr : ℕ → List Token → Read Expr) (inner : List Token → Read Found) where
  abbrev pub loop : ℕ → List Token → Read Mems
  loop k ts = mems defs high expr inner k ts

  pub begins : (n : ℕ) (ts : List Token) → with_front more_mems [] (loop (n - 0) ts) ≡ loop n ts
  begins n ts = l.begins more_mems loop n ts

  goes : (ts after : List Token) (x : Mem) (k : ℕ) → mem defs high expr inner ts ≡ Some (x, after) → eat close_brace after ≡ None → loop (suc k) ts ≡ (loop k after >>= λ y. Some (more_mems x y.0, y.1))
  unfolding mems
  goes ts after x k is at = rw (is, at) refl

  last_one : (ts after behind : List Token) (x : Mem) (k : ℕ) → mem defs high expr inner ts ≡ Some (x, after) → eat close_brace after ≡ Some behind → loop (suc k) ts ≡ Some (more_mems x no_mems, behind)
  unfolding mems
  last_one ts after behind x k is at = rw (is, at) refl

  none_read : (ts : List Token) (k : ℕ) → mem defs high expr inner ts ≡ None → loop (suc k) ts ≡ None
  unfolding mems
  none_read ts k is = rw is refl

  none_left : (ts : List Token) → loop 0 ts ≡ None
  unfolding mems
  none_left ts = refl

  pub goes_on : (n turn : ℕ) (xs : List Mem) (x : Mem) (ts after : List Token) (whole : Read Mems) → turn < n → with_front more_mems xs (loop (n - turn) ts) ≡ whole → mem defs high expr inner ts ≡ Some (x, after) → eat close_brace after ≡ None
      → with_front more_mems (xs ++ x ∷ []) (loop (n - (turn + 1)) after) ≡ whole
  goes_on n turn xs x ts after whole less so is at = l.goes_on more_mems loop n turn xs x ts after whole less so (λ k. goes ts after x k is at)

  pub ends : (n turn : ℕ) (xs : List RustMem) (x : RustMem) (ts after behind : List Token) (whole : Read Mems) → turn < n → with_front more_mems (map mem_of xs) (loop (n - turn) ts) ≡ whole
      → mem defs high expr inner ts ≡ Some (mem_of x, after) → eat close_brace after ≡ Some behind → whole ≡ Some (mems_from (xs ++ x ∷ []), behind)
  ends n turn xs x ts after behind whole less so is at =
      l.ends more_mems loop n turn (map mem_of xs) (more_mems (mem_of x) no_mems) ts behind whole less so (λ k. last_one ts after behind (mem_of x) k is at) ∙ ap (λ y. Some (y, behind)) (listed xs x)

  pub failed : {X : Type 0} (view : X → Mems × List Token) (r : Result X ParseErr) (y e : ParseErr) (n turn : ℕ) (xs : List Mem) (ts : List Token) (whole : Read Mems) → r ≡ Err y → y ≡ e
      → turn < n → with_front more_mems xs (loop (n - turn) ts) ≡ whole → Refuses e (mem defs high expr inner ts) → Gives view r whole
  failed view r y e n turn xs ts whole is same less so says = l.failed more_mems loop view (mem defs high expr inner ts) r y e n turn xs ts whole is same less so says (λ none k. none_read ts k none)

  pub runs_out : (n turn : ℕ) (xs : List Mem) (ts : List Token) (whole : Read Mems) → n ≤ turn → with_front more_mems xs (loop (n - turn) ts) ≡ whole → whole ≡ None
  runs_out n turn xs ts whole all so = l.runs_out more_mems loop n turn xs ts whole all so (none_left ts)
