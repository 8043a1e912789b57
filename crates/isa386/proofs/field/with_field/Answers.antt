use Rattle.std.proofs.Common.{arith}
use Rattle.isa386.proofs.Fields.{encoding_of_put}
use Rattle.isa386.proofs.field.with_field.Goals as goal
use Rattle.isa386.specs.declared.field.Field.TheVariants.{Disp}

pub returns-in-Disp-clause-bytes : goal.returns-in-Disp-clause-bytes
returns-in-Disp-clause-bytes c = λ has. encoding_of_put Disp c.args.field c.args.x c.args.i.now c.with_displacement.result c.in-Disp.is c.with_displacement.ensures.value (omega arith) has
