use Rattle.std.proofs.Common.{eqb}
use Rattle.asm_read.proofs.Counting.{few_parts}
use Rattle.asm_read.proofs.laws.lines_are_few.Goals as goal

pub returns : goal.returns
returns c = record { law = λ bytes. few_parts (λ b. eqb b 10) bytes }
