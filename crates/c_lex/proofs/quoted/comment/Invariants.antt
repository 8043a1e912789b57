use Rattle.std.proofs.Common.{◌≡◌, drop}
use Rattle.c_lex.specs.Reading.{comment}
use Rattle.c_lex.proofs.quoted.comment.Given as goal

abbrev pub invariant-loop-i : goal.invariant-loop-i
invariant-loop-i l = comment l.bytes ≡ comment (drop l.i l.bytes)
