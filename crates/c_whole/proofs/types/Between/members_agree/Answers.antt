use Rattle.std.proofs.Common.{rules, sym}
use Rattle.c_whole.specs.Types.{by_classes}
use Rattle.c_whole.proofs.Inside.{members_differ}
use Rattle.c_whole.proofs.types.Between.members_agree.Goals as goal

pub returns-then-a-b : goal.returns-then-a-b
returns-then-a-b c = sym (members_differ (by_classes c.args.self.now) c.args.a.now c.args.b.now (search rules))
