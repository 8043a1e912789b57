-- From tokens to a declarator.
use Rattle.std.specs.Prelude.{ℕ, zero, suc, List, [], ◌∷◌, length, Bool, true, false, Option, Some, None}
use Rattle.c_type.specs.Names.{Name, pick}
use Rattle.c_lex.specs.Tokens.{Token}
use Rattle.c_grammar.specs.Words.{open_round, close_round, open_square, close_square, star}
use Rattle.c_tree.specs.TreeExpr.{Expr}
use Rattle.c_tree.specs.TreeDecl.{Declr, declr_depth}
use Rattle.c_tree.specs.TreeDecl as t
use Rattle.c_expr.specs.Front.{Read, ◌>>=◌, eat, line_at, name_at, grown}
use Rattle.c_decl.specs.Separated.{separated}

-- whether the declarator has names of parameters
abbrev pub has_names : Declr → Bool
has_names (t.pointer l d) = has_names d
has_names (t.name l x) = false
has_names (t.array l d e) = has_names d
has_names (t.function l d []) = has_names d
has_names (t.function l d (x ∷ xs)) = true

-- `most` is the greatest depth, and `expr` reads an expression of a level.
module _ (defs : List Name) (most : ℕ) (expr : ℕ → List Token → Read Expr) where
  abbrev pub dimension_by : List Token → Option (List Token) → Read (Option Expr)
  dimension_by ts (Some after) = Some (None, after)
  dimension_by ts None = expr 1 ts >>= λ e. eat close_square e.1 >>= λ after. Some (Some e.0, after)

  abbrev pub names_by : List Token → Option (List Token) → Read (List Name)
  names_by ts (Some after) = Some ([], after)
  names_by ts None = separated (name_at defs) (length ts) ts >>= λ xs. eat close_round xs.1 >>= λ after. Some (xs.0, after)

  abbrev pub no_names : List Token → Read (List Name)
  no_names ts = eat close_round ts >>= λ after. Some ([], after)

  -- behind the opening bracket of a function's suffix: names stand only next to the declared name
  abbrev pub params : Declr → List Token → Read (List Name)
  params (t.pointer l d) ts = no_names ts
  params (t.name l x) ts = names_by ts (eat close_round ts)
  params (t.array l d e) ts = no_names ts
  params (t.function l d xs) ts = no_names ts

  -- behind the opening bracket of a suffix
  abbrev pub array_by : ℕ → Declr → List Token → Read Declr
  array_by l d ts = dimension_by ts (eat close_square ts) >>= λ x. grown declr_depth most (t.array l d x.0) x.1

  abbrev pub function_by : ℕ → Declr → List Token → Read Declr
  function_by l d ts = params d ts >>= λ x. grown declr_depth most (t.function l d x.0) x.1

  abbrev pub suffix_by : (Declr → List Token → Read Declr) → ℕ → Declr → List Token → Option (List Token) → Option (List Token) → Read Declr
  suffix_by more l d ts (Some after) _ = array_by l d after >>= λ y. more y.0 y.1
  suffix_by more l d ts None (Some after) = function_by l d after >>= λ y. more y.0 y.1
  suffix_by more l d ts None None = Some (d, ts)

  unfoldable pub suffixes : ℕ → ℕ → Declr → List Token → Read Declr
  suffixes zero l d ts = None
  suffixes (suc k) l d ts = suffix_by (suffixes k l) l d ts (eat open_square ts) (eat open_round ts)

  -- a name, or a declarator in brackets, which `inner` reads
  abbrev pub direct_by : (List Token → Read Declr) → List Token → Option (List Token) → Read Declr
  direct_by inner ts (Some after) = inner after >>= λ x. eat close_round x.1 >>= λ rest. Some (x.0, rest)
  direct_by inner ts None = name_at defs ts >>= λ x. Some (t.name (line_at ts) x.0, x.1)

  abbrev pub star_by : (List Token → Read Declr) → (List Token → Read Declr) → List Token → Option (List Token) → Read Declr
  star_by more inner ts (Some after) = more after >>= λ x. grown declr_depth most (t.pointer (line_at ts) x.0) x.1
  star_by more inner ts None = direct_by inner ts (eat open_round ts) >>= λ x. suffixes (suc most) (line_at ts) x.0 x.1

  abbrev pub no_more : List Token → Read Declr
  no_more ts = None

  -- The number bounds the stars round the name.
  unfoldable pub starred : (ℕ → List Token → Read Declr) → ℕ → List Token → Read Declr
  starred inner zero ts = star_by no_more (inner zero) ts (eat star ts)
  starred inner (suc b) ts = star_by (starred inner b) (inner (suc b)) ts (eat star ts)

  -- The first number bounds how deep brackets stand in one another, the second one the stars.
  unfoldable pub declr : ℕ → ℕ → List Token → Read Declr
  declr zero b ts = None
  declr (suc n) b ts = starred (declr n) b ts

  -- a declarator, in which names of parameters may stand next to the declared name
  abbrev pub loose_declr : List Token → Read Declr
  loose_declr ts = declr (suc (length ts)) most ts

  -- a declarator without names of parameters
  abbrev pub plain_declr : List Token → Read Declr
  plain_declr ts = loose_declr ts >>= λ x. pick (has_names x.0) None (Some x)
