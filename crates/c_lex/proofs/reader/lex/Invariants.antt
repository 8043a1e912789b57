use Rattle.std.proofs.Common.{◌≤◌, ◌+◌, length, map}
use Rattle.c_lex.specs.Shown.{token_of}
use Rattle.c_lex.specs.Refusals.{HasRead}
use Rattle.c_lex.proofs.reader.lex.Given as goal

abbrev pub decreases-loop-rest : goal.decreases-loop-rest
decreases-loop-rest l = length l.rest

abbrev pub invariant-loop-rest : goal.invariant-loop-rest
invariant-loop-rest l = record {
  read : HasRead l.text (map token_of l.list.items) l.line l.rest;
  few : l.line + length l.rest ≤ length l.text + 1;
}
