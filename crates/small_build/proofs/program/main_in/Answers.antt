use Rattle.std.proofs.Common.{◌∙◌, sym, ap, map, arith}
use Rattle.c_lex.specs.Shown.{token_of, tokens_of}
use Rattle.c_tree.specs.TreeOf.{unit_of}
use Rattle.small_build.specs.SmallText.{are_few}
use Rattle.small_build.proofs.MainFits.{reads_short}
use Rattle.small_build.proofs.Compiling.{typed_tokens}
use Rattle.small_build.proofs.program.main_in.Goals as goal

pub small_main-requires : goal.small_main-requires
small_main-requires c = record {
  counted =
      let short = reads_short (tokens_of c.args.source.now.tokens) (unit_of c.args.source.now.unit) c.requires.reads in
      omega (arith, short, c.requires.counted);
}

pub returns : goal.returns
returns c =
    typed_tokens (tokens_of c.args.source.now.tokens) (unit_of c.args.source.now.unit) c.small_main.result
    (ap (λ xs. are_few 0 (map token_of xs)) (sym c.deref.ensures.value) ∙ sym c.are_few.ensures ∙ c.if-not-are_few.false) c.requires.reads c.small_main.ensures.typed
