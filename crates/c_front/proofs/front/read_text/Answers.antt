use Rattle.c_lex.specs.Shown.{tokens_of}
use Rattle.c_front.proofs.Fronting.{lex_refused, parse_refused}
use Rattle.c_front.proofs.front.read_text.Goals as goal

pub returns-in-Err-clause-none : goal.returns-in-Err-clause-none
returns-in-Err-clause-none c = rw (c.lex_refusal.ensures) (lex_refused c.args.text.now c.args.file c.in-Err.error c.in-Err.ensures.refused)

pub returns-in-Err-parse-clause-none : goal.returns-in-Err-parse-clause-none
returns-in-Err-parse-clause-none c =
    rw (c.parse_refusal.ensures)
    (parse_refused c.args.text.now (tokens_of c.in-Ok.tokens) c.args.file c.in-Err-parse.error c.in-Ok.ensures.tokens c.in-Err-parse.ensures.none c.in-Err-parse.ensures.too_deep)
