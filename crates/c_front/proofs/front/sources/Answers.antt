use Rattle.std.proofs.Common.{arith, refl, length}
use Rattle.std.proofs.lemmas.Option.{slice_get_read}
use Rattle.std.proofs.lemmas.Result.{err_from_is_err_and}
use Rattle.c_front.specs.Sources.{texts_of}
use Rattle.c_front.proofs.Fronting.{source_more, source_fails, handed}
use Rattle.c_front.proofs.front.sources.Goals as goal

pub returns-in_err-read_text-clause-none : goal.returns-in_err-read_text-clause-none
returns-in_err-read_text-clause-none c =
    let texts = c.args.texts.now in
    let item = c.text-item.result in
    let there = slice_get_read texts (length texts) c.loop-text.text-index item refl c.loop-text-test.true c.text-item.is in
    handed (texts_of texts) c.from_residual.result c.in_err-read_text.field-0.0 (err_from_is_err_and c.from_residual.result c.from_residual.ensures.1)
    (source_fails texts c.loop-text.list.items c.loop-text.text-index item c.in_err-read_text.field-0.0 c.loop-text.invariant.read there (rw (c.deref.ensures.value, c.loop-text.invariant.number) at c.in_err-read_text.ensures.none))

pub loop-text-preserved : goal.loop-text-preserved
loop-text-preserved c =
    let texts = c.args.texts.now in
    let item = c.text-item.result in
    let there = slice_get_read texts (length texts) c.loop-text.text-index item refl c.loop-text-test.true c.text-item.is in
    record {
      read = rw (c.in_ok-push.ensures.items) (source_more texts c.loop-text.list.items c.loop-text.text-index item c.in_ok-read_text.field-0 c.loop-text.invariant.read there (rw (c.deref.ensures.value) at c.in_ok-read_text.ensures.read));
      number = (let n = c.loop-text.invariant.number in omega arith);
    }
