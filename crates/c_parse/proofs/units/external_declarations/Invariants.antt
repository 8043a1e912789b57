use Rattle.std.proofs.Common.{◌≡◌, ◌+◌, ◌-◌, [], length, map, drop}
use Rattle.c_tree.specs.TreeOf.{ext_of}
use Rattle.c_lex.specs.Shown.{tokens_of}
use Rattle.c_expr.specs.Typedefs.{names_of}
use Rattle.c_parse.specs.Units as u
use Rattle.c_parse.proofs.Exts.{before}
use Rattle.c_parse.proofs.units.external_declarations.Given as goal

abbrev pub invariant-loop-turn : goal.invariant-loop-turn
invariant-loop-turn l =
    before (map ext_of l.exts.items) (u.exts (length (tokens_of l.t) + 1 - l._turn) (names_of l.defs) (drop l.at (tokens_of l.t))) ≡ u.exts (length (tokens_of l.t) + 1) [] (tokens_of l.t)
