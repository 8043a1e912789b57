use Rattle.c_decl.proofs.Behind.{expression_answers}
use Rattle.c_decl.proofs.reader.Reader.expression.Goals as goal

pub returns : goal.returns
returns c = expression_answers c.args.self.now c.args.level c.args.at c.expr.result c.requires.low c.requires.high c.expr.ensures.spelled c.expr.ensures.none c.expr.ensures.shallow
