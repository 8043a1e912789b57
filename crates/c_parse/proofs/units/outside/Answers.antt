use Rattle.c_lex.specs.Shown.{tokens_of}
use Rattle.c_expr.specs.Typedefs.{names_of}
use Rattle.c_parse.proofs.Outsides.{outside_answers}
use Rattle.c_parse.proofs.units.outside.Goals as goal

pub returns-clause-read : goal.returns-clause-read
returns-clause-read c =
    outside_answers (names_of c.args.defs.now) c.args.at (tokens_of c.args.t.now) c.external.result c.external.ensures.spelled c.external.ensures.no_declaration c.external.ensures.no_head c.external.ensures.shallow
