use Rattle.c_lex.specs.Shown.{tokens_of}
use Rattle.c_expr.specs.Typedefs.{names_of}
use Rattle.c_decl.specs.Answers.{rest}
use Rattle.c_decl.proofs.Standings.{says_outside}
use Rattle.c_decl.proofs.places.outside.Goals as goal

pub returns : goal.returns
unfolding rest
returns c =
    let says = says_outside (names_of c.args.defs.now) (tokens_of c.args.t.now) c.args.at c.outside.result c.outside.ensures.read c.outside.ensures.within in
    record { spelled = says.spelled; no_declaration = says.no_declaration; no_head = says.no_head; shallow = says.shallow }
