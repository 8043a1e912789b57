use Rattle.std.proofs.Common.{◌≡◌, ◌+◌, drop}
use Rattle.c_lex.specs.Bytes.{is_run_byte}
use Rattle.c_lex.specs.Reading.{run_length}
use Rattle.c_lex.proofs.bytes.run_length.Given as goal

abbrev pub invariant-loop-i : goal.invariant-loop-i
invariant-loop-i l = run_length is_run_byte l.bytes ≡ run_length is_run_byte (drop l.i l.bytes) + l.i
