use Rattle.std.proofs.Common.{arith}
use Rattle.c_lex.specs.Shown.{tokens_of}
use Rattle.small_build.proofs.FewTokens.{falls_short}
use Rattle.small_build.proofs.Compiling.{one_source, typed_text}
use Rattle.small_build.proofs.program.main_of.Goals as goal

pub main_in-requires-clause-counted : goal.main_in-requires-clause-counted
main_in-requires-clause-counted c =
    let text = c.index-texts-0.result in
    let source = c.index-sources-0.result in
    let one = one_source c.args.texts.now c.args.sources.now text source c.if-texts-ne1.false c.requires.read c.index-texts-0.is c.index-sources-0.is in
    let short = falls_short text.items (tokens_of source.tokens) one.1.falls in
    omega (arith, short, c.len.ensures, c.if-len-gt-MOST.false)

pub returns : goal.returns
returns c =
    let text = c.index-texts-0.result in
    let source = c.index-sources-0.result in
    let one = one_source c.args.texts.now c.args.sources.now text source c.if-texts-ne1.false c.requires.read c.index-texts-0.is c.index-sources-0.is in
    rw (one.0) (typed_text text.items (tokens_of source.tokens) c.main_in.result (omega (arith, c.len.ensures, c.if-len-gt-MOST.false)) one.1.falls c.main_in.ensures)
