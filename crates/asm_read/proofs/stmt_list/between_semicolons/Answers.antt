use Rattle.std.proofs.Common.{rules, tests}
use Rattle.std.specs.Prelude.{vec_items}
use Rattle.std.proofs.lemmas.Iterator.Consumers.{map_from_collect}
use Rattle.std.proofs.lemmas.Iterator.Splits.{YieldsList-from_slice_split}
use Rattle.asm_read.specs.Lex.{shown}
use Rattle.asm_read.specs.Stmts.{is_semicolon}
use Rattle.asm_read.proofs.Split.{ok_shown}
use Rattle.asm_read.proofs.stmt_list.between_semicolons.Goals as goal

pub returns : goal.returns
returns c =
    ok_shown is_semicolon c.args.tokens.now vec_items c.collect.result
    (map_from_collect _ c.collect.ensures.ran (YieldsList-from_slice_split _ (λ t. is_semicolon (shown t)) c.args.tokens.now c.split.ensures.rest c.split.ensures.done c.split.ensures.closure (λ x r q k. search (rules, tests))))
