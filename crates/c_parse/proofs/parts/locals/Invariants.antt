use Rattle.std.proofs.Common.{◌≡◌, ◌+◌, ◌-◌, ◌∷◌, length}
use Rattle.c_tree.specs.TreeOf.{local_of}
use Rattle.c_decl.specs.Answers.{rest}
use Rattle.c_parse.specs.Words as w
use Rattle.c_parse.proofs.Pushed.{with_front}
use Rattle.c_parse.proofs.parts.locals.Given as goal

abbrev pub invariant-loop-turn : goal.invariant-loop-turn
invariant-loop-turn l =
    with_front local_of ◌∷◌ l.list.items (w.locals l.r (length (rest l.r l.at) + 1 - l._turn) (rest l.r l.next)) ≡ w.locals l.r (length (rest l.r l.at) + 1) (rest l.r l.at)
