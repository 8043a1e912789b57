use Rattle.std.proofs.Common.{sym, ap, map, ◌∙◌}
use Rattle.c_type.specs.Of.{tag_of}
use Rattle.c_join.specs.JoinTypes.{agree_by}
use Rattle.c_join.specs.JoinChecks as s
use Rattle.c_whole.specs.Events.{args_from}
use Rattle.c_whole.specs.Types.{by_classes}
use Rattle.c_whole.specs.Given.{types_of}
use Rattle.c_whole.proofs.FitRows.{too_many}
use Rattle.c_whole.proofs.types.Between.fit.Goals as goal

pub returns-in_default : goal.returns-in_default
returns-in_default c =
    sym (ap (λ p. s.fit (agree_by (by_classes c.args.self.now)) (map tag_of c.args.tags.now) (types_of p) (args_from c.args.args.now)) c.in-Library.is ∙
    too_many (agree_by (by_classes c.args.self.now)) (map tag_of c.args.tags.now) c.in-Library.takes c.args.args.now c.in_default.len_at_least)
