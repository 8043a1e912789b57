-- An environment of which only the closed tags count.
use Rattle.std.specs.Prelude.{List, []}
use Rattle.c_type.specs.Types.{Tag}
use Rattle.c_rule.specs.RuleScope.{Env}

-- where these tags are closed
abbrev pub closed : List Tag → Env
closed ts = record { blocks = []; file = []; tags = ts; texts = []; starts = 0; autos = 0; statics = 0; heads = []; bodies = [] }
