use Rattle.std.proofs.Common.{rules, sym, map}
use Rattle.c_type.specs.Of.{tag_of}
use Rattle.c_join.specs.JoinTypes.{agree_by}
use Rattle.c_whole.specs.Types.{by_classes}
use Rattle.c_whole.proofs.FitRows.{numbers_differ}
use Rattle.c_whole.proofs.types.Between.fit_told.Goals as goal

pub returns-then-params-args : goal.returns-then-params-args
returns-then-params-args c = sym (numbers_differ (agree_by (by_classes c.args.self.now)) (map tag_of c.args.tags.now) c.args.params.now c.args.args.now (search rules))
