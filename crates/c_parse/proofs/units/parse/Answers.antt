use Rattle.std.proofs.Common.{sym}
use Rattle.c_grammar.specs.Reads.{AreShallow}
use Rattle.c_lex.specs.Shown.{tokens_of}
use Rattle.c_parse.proofs.Answered.{shallow, deep, unit_found, unit_missing, on_not_c}
use Rattle.c_parse.proofs.units.parse.Goals as goal

pub returns-in-Some-clause-too_deep : goal.returns-in-Some-clause-too_deep
returns-in-Some-clause-too_deep c = deep 0 (tokens_of c.args.t.now) c.in-Some.line (sym c.in-Some.ensures)

pub returns-clause-reads : goal.returns-clause-reads
returns-clause-reads c = unit_found (tokens_of c.args.t.now) c.unit.result (shallow 0 (tokens_of c.args.t.now) (sym c.in_default.ensures)) c.unit.ensures.read

pub returns-clause-none : goal.returns-clause-none
returns-clause-none c = unit_missing (tokens_of c.args.t.now) c.unit.result c.unit.ensures.read

pub returns-clause-shallow : goal.returns-clause-shallow
returns-clause-shallow c = on_not_c c.unit.result (AreShallow 0 (tokens_of c.args.t.now)) (shallow 0 (tokens_of c.args.t.now) (sym c.in_default.ensures))
