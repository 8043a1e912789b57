use Rattle.std.proofs.Common.{◌≡◌, ◌≤◌, map, drop}
use Rattle.c_lex.specs.Shown.{token_of}
use Rattle.small_build.specs.SmallText.{are_few}
use Rattle.small_build.proofs.program.are_few.Given as goal

abbrev pub invariant-loop-token : goal.invariant-loop-token
invariant-loop-token l = record {
  few : l.open ≤ 62;
  same : are_few 0 (map token_of l.tokens) ≡ are_few l.open (map token_of (drop l.token-index l.tokens));
}
