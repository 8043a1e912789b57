use Rattle.std.proofs.Common.{◌≡◌, ◌++◌, drop}
use Rattle.std.specs.Prelude.{map, Some}
use Rattle.asm_item.specs.Args.{shown}
use Rattle.asm_read.specs.Numerals.{◌>>=◌}
use Rattle.asm_read.specs.Stmts.{each_half}
use Rattle.asm_read.proofs.stmts.each_half.Given as goal

abbrev pub invariant-loop-a : goal.invariant-loop-a
invariant-loop-a l = (each_half (map shown (drop l.a-index l.args)) >>= λ more. Some (l.out.items ++ more)) ≡ each_half (map shown l.args)
