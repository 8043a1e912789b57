use Rattle.std.proofs.Common.{◌≡◌, ◌≤◌, ◌+◌, drop}
use Rattle.c_lex.specs.Bytes.{newlines}
use Rattle.c_lex.proofs.bytes.newlines.Given as goal

abbrev pub invariant-loop-byte : goal.invariant-loop-byte
invariant-loop-byte l = record {
  counted : newlines l.bytes ≡ l.count + newlines (drop l.byte-index l.bytes);
  few : l.count ≤ l.byte-index;
}
