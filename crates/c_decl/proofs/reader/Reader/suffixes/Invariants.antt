use Rattle.std.proofs.Common.{◌≡◌, ◌-◌, ◌+◌}
use Rattle.c_tree.specs.TreeOf.{declr_of}
use Rattle.c_grammar.specs.Reads.{most}
use Rattle.c_decl.specs.Answers.{names, rest}
use Rattle.c_decl.specs.Expression.{expression}
use Rattle.c_decl.specs.ReadDeclr.{suffixes}
use Rattle.c_decl.proofs.reader.Reader.suffixes.Given as goal

abbrev pub invariant-loop-turn : goal.invariant-loop-turn
invariant-loop-turn l =
    suffixes (names l.self) most (expression (names l.self)) (most + 1 - l._turn) l.line (declr_of l.found.0) (rest l.self l.found.1) ≡
    suffixes (names l.self) most (expression (names l.self)) (most + 1) l.line (declr_of l.fn.first) (rest l.self l.fn.at)
