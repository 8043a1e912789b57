-- From tokens to an initialiser and to a declarator with its initialiser.
use Rattle.std.specs.Prelude.{ℕ, zero, suc, List, length, Option, Some, None}
use Rattle.c_type.specs.Names.{Name}
use Rattle.c_lex.specs.Tokens.{Token}
use Rattle.c_grammar.specs.Words.{open_brace, close_brace, comma_mark, equals}
use Rattle.c_tree.specs.TreeExpr.{Expr}
use Rattle.c_tree.specs.TreeDecl.{Declr, Init, Inits, Item, init_depth, item_depth}
use Rattle.c_tree.specs.TreeDecl as t
use Rattle.c_expr.specs.Front.{Read, ◌>>=◌, eat, line_at, grown}
use Rattle.c_decl.specs.ReadDeclr as r

module _ (defs : List Name) (most : ℕ) (expr : ℕ → List Token → Read Expr) where
  -- behind a member of a group: those that follow, an optional last comma and the closing brace
  abbrev pub next_by : (List Token → Read Init) → (List Token → Read Inits) → List Token → Option (List Token) → Read Inits
  next_by inner more ts (Some after) = Some (t.no_inits, after)
  next_by inner more ts None = inner ts >>= λ x. more x.1 >>= λ y. Some (t.more_inits x.0 y.0, y.1)

  abbrev pub inits_by : (List Token → Read Init) → (List Token → Read Inits) → List Token → Option (List Token) → Read Inits
  inits_by inner more ts (Some after) = next_by inner more after (eat close_brace after)
  inits_by inner more ts None = eat close_brace ts >>= λ after. Some (t.no_inits, after)

  unfoldable pub inits : (List Token → Read Init) → ℕ → List Token → Read Inits
  inits inner zero ts = None
  inits inner (suc k) ts = inits_by inner (inits inner k) ts (eat comma_mark ts)

  -- what follows a member of a group: a further member, or none and the closing brace
  abbrev pub behind_comma : (List Token → Read Init) → List Token → Option (List Token) → Read (Option Init)
  behind_comma inner ts (Some after) = Some (None, after)
  behind_comma inner ts None = inner ts >>= λ x. Some (Some x.0, x.1)

  abbrev pub next_init_by : (List Token → Read Init) → List Token → Option (List Token) → Read (Option Init)
  next_init_by inner ts (Some after) = behind_comma inner after (eat close_brace after)
  next_init_by inner ts None = eat close_brace ts >>= λ after. Some (None, after)

  abbrev pub next_init : (List Token → Read Init) → List Token → Read (Option Init)
  next_init inner ts = next_init_by inner ts (eat comma_mark ts)

  -- the members of a group behind its opening brace
  abbrev pub members : (List Token → Read Init) → List Token → Read Inits
  members inner ts = inner ts >>= λ x. inits inner (suc (length x.1)) x.1 >>= λ y. Some (t.more_inits x.0 y.0, y.1)

  abbrev pub init_by : (List Token → Read Init) → List Token → Option (List Token) → Read Init
  init_by inner ts (Some after) = members inner after >>= λ x. grown init_depth most (t.group (line_at ts) x.0) x.1
  init_by inner ts None = expr 2 ts >>= λ e. grown init_depth most (t.single e.0) e.1

  unfoldable pub init : ℕ → List Token → Read Init
  init zero ts = None
  init (suc n) ts = init_by (init n) ts (eat open_brace ts)

  -- what follows a declarator; the depth bounds how deep groups stand in one another
  abbrev pub given_by : Declr → List Token → Option (List Token) → Read Item
  given_by d ts None = grown item_depth most (record { declr = d; init = None }) ts
  given_by d ts (Some after) = init most after >>= λ x. grown item_depth most (record { declr = d; init = Some x.0 }) x.1

  abbrev pub item : List Token → Read Item
  item ts = r.plain_declr defs most expr ts >>= λ x. given_by x.0 x.1 (eat equals x.1)
