use Rattle.c_parse.proofs.Declared.{local_answers}
use Rattle.c_parse.proofs.parts.local_at.Goals as goal

pub returns : goal.returns
returns c = local_answers c.args.r.now c.args.at c.local.result c.local.ensures.spelled c.local.ensures.none c.local.ensures.shallow
