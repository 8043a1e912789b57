use Rattle.std.proofs.Common.{arith}
use Rattle.c_type.specs.Of.{members_of, tags_of}
use Rattle.c_scope.proofs.Laying.{greatest_or_one}
use Rattle.c_scope.proofs.layout.greatest.Goals as goal

pub loop-member-init : goal.loop-member-init
loop-member-init c = record { least = omega arith; left = greatest_or_one (tags_of c.args.tags.now) (members_of c.args.members.now) }
