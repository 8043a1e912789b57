use Rattle.std.proofs.Common.{sym, ap, ◌∙◌}
use Rattle.gen_small.specs.Code.{below}
use Rattle.gen_small.proofs.IntSites.{temp_at}
use Rattle.gen_small.proofs.expr_code.temporary.Goals as goal

pub returns : goal.returns
returns c = record { operand = c.below.ensures.operand ∙ ap below (sym (temp_at c.args.frame c.args.number)) }
