use Rattle.std.proofs.Common.{◌≡◌, ◌≤◌, drop}
use Rattle.c_lex.specs.Reading.{digits}
use Rattle.c_lex.proofs.numbers.digits.Given as goal

abbrev pub invariant-loop-i : goal.invariant-loop-i
invariant-loop-i l = record {
  same : digits l.base 0 l.run ≡ digits l.base l.value (drop l.i l.run);
  small : l.value ≤ 4294967296;
}
