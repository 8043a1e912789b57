-- Each group holds fewer groups in one another.
use Rattle.std.proofs.Common.{◌≡◌, ◌+◌, ◌*◌, ◌-◌, map}
use Rattle.c_tree.specs.TreeDecl.{more_inits}
use Rattle.c_grammar.specs.Reads.{most}
use Rattle.c_tree.specs.TreeOf.{init_of}
use Rattle.c_decl.specs.Answers.{names, rest}
use Rattle.c_decl.specs.Expression.{expression}
use Rattle.c_decl.specs.ReadInit.{init, inits}
use Rattle.c_decl.proofs.Loops.{with_front}
use Rattle.c_decl.proofs.reader.Reader.+init.Given as goal

abbrev pub decreases-init : goal.decreases-init
decreases-init l = 3 * l.nested

abbrev pub decreases-next_init : goal.decreases-next_init
decreases-next_init l = 3 * l.nested + 1

abbrev pub decreases-members : goal.decreases-members
decreases-members l = 3 * l.nested + 2

abbrev pub invariant-members-loop-turn : goal.invariant-members-loop-turn
invariant-members-loop-turn l =
    with_front more_inits (map init_of l.members.items) (inits (names l.self) most (expression (names l.self)) (init (names l.self) most (expression (names l.self)) l.nested) (l._turn-end - l._turn) (rest l.self l.next)) ≡
    with_front more_inits (map init_of l.initial.members.items) (inits (names l.self) most (expression (names l.self)) (init (names l.self) most (expression (names l.self)) l.nested) l._turn-end (rest l.self l.behind))
