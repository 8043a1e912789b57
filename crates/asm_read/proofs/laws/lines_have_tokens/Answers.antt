use Rattle.std.proofs.Common.{List, sym, subst}
use Rattle.asm_read.specs.Tokens.{IsLine}
use Rattle.asm_read.proofs.Lexed.{only, has_tokens}
use Rattle.asm_read.proofs.laws.lines_have_tokens.Goals as goal

pub returns : goal.returns
returns c = record { law = λ bytes ts. (only bytes ts, λ e. let P : List _ → Type 0 = λ x. IsLine bytes x in subst P (sym e) (has_tokens bytes)) }
