use Rattle.c_expr.specs.Typedefs.{names_of}
use Rattle.c_parse.proofs.Outsides.{function_answers}
use Rattle.c_parse.proofs.units.external_declaration.Goals as goal

pub returns-in-Func-clause-read : goal.returns-in-Func-clause-read
returns-in-Func-clause-read c =
    function_answers _ (names_of c.args.defs.now) c.args.at c.in_ok-head.behind c.in_ok-head.head c.in-Func.head c.function.result c.in_ok-head.ensures.names c.in-Func.is c.in_ok-head.ensures.read c.function.ensures
