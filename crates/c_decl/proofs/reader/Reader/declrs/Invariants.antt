use Rattle.std.proofs.Common.{◌≡◌, ◌-◌, map}
use Rattle.c_grammar.specs.Reads.{most}
use Rattle.c_tree.specs.TreeOf.{declr_of}
use Rattle.c_decl.specs.Answers.{names, rest}
use Rattle.c_decl.specs.Expression.{expression}
use Rattle.c_decl.specs.Separated.{separated}
use Rattle.c_decl.specs.ReadDeclr.{plain_declr}
use Rattle.c_decl.proofs.Loops.{with_front}
use Rattle.c_decl.proofs.Members.{onto}
use Rattle.c_decl.proofs.reader.Reader.declrs.Given as goal

abbrev pub invariant-loop-turn : goal.invariant-loop-turn
invariant-loop-turn l =
    with_front onto (map declr_of l.declrs.items) (separated (plain_declr (names l.self) most (expression (names l.self))) (l._turn-end - l._turn) (rest l.self l.next)) ≡ separated (plain_declr (names l.self) most (expression (names l.self))) l._turn-end (rest l.self l.fn.at)
