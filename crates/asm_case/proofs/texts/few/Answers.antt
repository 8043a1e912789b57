use Rattle.std.proofs.Common.{eqb, arith}
use Rattle.asm_read.proofs.Counting.{few_parts}
use Rattle.asm_case.proofs.texts.few.Goals as goal

pub read-requires : goal.read-requires
read-requires c = let few = few_parts (λ b. eqb b 10) c.args.text.now in omega (arith, few)
