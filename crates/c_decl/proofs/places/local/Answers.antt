use Rattle.c_lex.specs.Shown.{tokens_of}
use Rattle.c_expr.specs.Typedefs.{names_of}
use Rattle.c_decl.specs.Answers.{rest}
use Rattle.c_decl.proofs.Standings.{says_local}
use Rattle.c_decl.proofs.places.local.Goals as goal

pub returns : goal.returns
unfolding rest
returns c =
    let says = says_local (names_of c.args.defs.now) (tokens_of c.args.t.now) c.args.at c.local.result c.local.ensures.read c.local.ensures.within in
    record { spelled = says.spelled; none = says.none; shallow = says.shallow }
