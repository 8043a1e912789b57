use Rattle.std.proofs.Common.{◌≡◌, ◌-◌}
use Rattle.c_expr.specs.Front.{name_at}
use Rattle.c_decl.specs.Answers.{names, rest}
use Rattle.c_decl.specs.Separated.{separated}
use Rattle.c_decl.proofs.Loops.{with_front}
use Rattle.c_decl.proofs.Members.{onto}
use Rattle.c_decl.proofs.reader.Reader.listed_names.Given as goal

abbrev pub invariant-loop-turn : goal.invariant-loop-turn
invariant-loop-turn l =
    with_front onto l.listed.items (separated (name_at (names l.self)) (l._turn-end - l._turn) (rest l.self l.next)) ≡ separated (name_at (names l.self)) l._turn-end (rest l.self l.fn.at)
