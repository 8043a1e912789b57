use Rattle.std.proofs.Common.{◌≡◌, ◌≤◌, drop, map, nat_lt}
use Rattle.c_lex.specs.Shown.{token_of}
use Rattle.c_expr.proofs.Walk.{walk}
use Rattle.c_expr.proofs.brackets.brackets.Given as goal

abbrev pub invariant-loop-token : goal.invariant-loop-token
invariant-loop-token l = record {
  opened : l.nesting.opened ≤ l.token-index;
  asked : l.nesting.asked ≤ l.token-index;
  most : l.nesting.most ≤ l.token-index;
  same : walk (nat_lt 1 l.level) (map token_of (drop l.token-index l.token-items)) l.nesting ≡ walk (nat_lt 1 l.level) (map token_of l.token-items) (record { opened = 0; asked = 0; most = 0 });
}
