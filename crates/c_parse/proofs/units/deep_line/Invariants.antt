use Rattle.std.proofs.Common.{◌≡◌, ◌≤◌, drop, map}
use Rattle.c_lex.specs.Shown.{token_of, tokens_of}
use Rattle.c_parse.specs.Units.{deep_line}
use Rattle.c_parse.proofs.units.deep_line.Given as goal

abbrev pub invariant-loop-token : goal.invariant-loop-token
invariant-loop-token l = record {
  low : l.open ≤ 200;
  same : deep_line 0 (tokens_of l.t) ≡ deep_line l.open (map token_of (drop l.token-index l.t.list.items));
}
