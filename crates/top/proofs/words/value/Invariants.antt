use Rattle.std.proofs.Common.{◌≡◌, ◌≤◌, take}
use Rattle.top.specs.Command.{digits_value}
use Rattle.top.proofs.words.value.Given as goal

abbrev pub invariant-loop-d : goal.invariant-loop-d
invariant-loop-d l = record {
  small : l.n ≤ 9223372036854775807;
  so_far : l.n ≡ digits_value (take l.d-index l.digits);
}
