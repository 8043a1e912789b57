use Rattle.std.proofs.Common.{◌≡◌, ◌-◌, map}
use Rattle.c_grammar.specs.Reads.{most}
use Rattle.c_tree.specs.TreeOf.{par_of}
use Rattle.c_decl.specs.Answers.{names, rest}
use Rattle.c_decl.specs.Expression.{expression}
use Rattle.c_decl.specs.ReadDecl as e
use Rattle.c_decl.proofs.Loops.{with_front}
use Rattle.c_decl.proofs.Members.{onto}
use Rattle.c_decl.proofs.reader.Reader.pars.Given as goal

abbrev pub invariant-loop-turn : goal.invariant-loop-turn
invariant-loop-turn l =
    with_front onto (map par_of l.pars.items) (e.pars (names l.self) most (expression (names l.self)) (l._turn-end - l._turn) (rest l.self l.next)) ≡
    e.pars (names l.self) most (expression (names l.self)) l._turn-end (rest l.self l.fn.at)
