use Rattle.std.proofs.Common.{rules, tests}
use Rattle.std.specs.Prelude.{vec_items}
use Rattle.std.proofs.lemmas.Iterator.Consumers.{map_from_collect}
use Rattle.std.proofs.lemmas.Iterator.Splits.{YieldsList-from_slice_split}
use Rattle.asm_read.specs.Lex.{shown}
use Rattle.asm_read.specs.Arguments.{is_comma}
use Rattle.asm_read.proofs.Split.{ok_shown}
use Rattle.asm_read.proofs.arguments.between_commas.Goals as goal

pub returns : goal.returns
returns c =
    ok_shown is_comma c.args.tokens.now vec_items c.collect.result
    (map_from_collect _ c.collect.ensures.ran (YieldsList-from_slice_split _ (λ t. is_comma (shown t)) c.args.tokens.now c.split.ensures.rest c.split.ensures.done c.split.ensures.closure (λ x r q k. search (rules, tests))))
