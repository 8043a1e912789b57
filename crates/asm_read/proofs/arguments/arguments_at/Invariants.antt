use Rattle.std.proofs.Common.{◌≡◌, ◌++◌, drop}
use Rattle.std.specs.Prelude.{map, Some}
use Rattle.asm_item.specs.Args.{shown}
use Rattle.asm_read.specs.Lex.{all_shown}
use Rattle.asm_read.specs.Numerals.{◌>>=◌}
use Rattle.asm_read.specs.Arguments.{each_argument}
use Rattle.asm_read.proofs.arguments.arguments_at.Given as goal

abbrev pub invariant-loop-part : goal.invariant-loop-part
invariant-loop-part l = (each_argument (map (λ x. all_shown x.now) (drop l.part-index l.part-items)) >>= λ more. Some (map shown l.out.items ++ more)) ≡ each_argument (map (λ x. all_shown x.now) l.part-items)
