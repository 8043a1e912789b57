use Rattle.std.proofs.Common.{◌≡◌, ◌+◌, ◌-◌, length, []}
use Rattle.c_lex.specs.Reading.{text}
use Rattle.c_lex.proofs.quoted.text.Given as goal

abbrev pub invariant-loop-turn : goal.invariant-loop-turn
invariant-loop-turn l = text (length l.bytes + 1) [] l.bytes ≡ text (length l.bytes + 1 - l._turn) l.values.items l.rest
