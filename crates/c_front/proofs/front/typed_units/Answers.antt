use Rattle.std.proofs.Common.{arith, refl, length, map}
use Rattle.std.proofs.lemmas.Option.{slice_get_read}
use Rattle.std.proofs.lemmas.Result.{err_from_is_err_and}
use Rattle.c_tree.specs.TypedOf as typed
use Rattle.c_front.specs.Sources.{units_of}
use Rattle.c_front.proofs.Fronting.{unit_more, unit_fails, units_handed}
use Rattle.c_front.proofs.front.typed_units.Goals as goal

pub returns-in_err-typed_unit-clause-fails : goal.returns-in_err-typed_unit-clause-fails
returns-in_err-typed_unit-clause-fails c =
    let sources = c.args.sources.now in
    let item = c.source-item.result in
    let there = slice_get_read sources (length sources) c.loop-source.source-index item refl c.loop-source-test.true c.source-item.is in
    units_handed (units_of sources) c.from_residual.result c.in_err-typed_unit.field-0.0 (err_from_is_err_and c.from_residual.result c.from_residual.ensures.1)
    (unit_fails sources (map typed.unit_of c.loop-source.list.items) c.loop-source.source-index item c.in_err-typed_unit.field-0.0 c.loop-source.invariant.typed there (rw (c.loop-source.invariant.number) at c.in_err-typed_unit.ensures.fails))

pub loop-source-preserved : goal.loop-source-preserved
loop-source-preserved c =
    let sources = c.args.sources.now in
    let item = c.source-item.result in
    let there = slice_get_read sources (length sources) c.loop-source.source-index item refl c.loop-source-test.true c.source-item.is in
    record {
      typed = rw (c.in_ok-push.ensures.items) (unit_more sources c.loop-source.list.items c.loop-source.source-index item c.in_ok-typed_unit.field-0 c.loop-source.invariant.typed there c.in_ok-typed_unit.ensures.typed);
      number = (let n = c.loop-source.invariant.number in omega arith);
    }
