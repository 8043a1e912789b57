use Rattle.std.proofs.Common.{arith, ap, length, map}
use Rattle.std.proofs.lemmas.List.{length-map}
use Rattle.std.proofs.lemmas.Result.{err_from_is_err_and}
use Rattle.c_tree.specs.TypedOf as typed
use Rattle.c_front.specs.Sources.{IsSource, texts_of}
use Rattle.c_front.proofs.Firsts.{zip_length}
use Rattle.c_front.proofs.Fronting.{units_fail, join_fails, accepted_by, handed}
use Rattle.c_front.proofs.front.accept.Goals as goal

pub typed_units-requires : goal.typed_units-requires
typed_units-requires c = record {
  few =
      let same = zip_length IsSource (texts_of c.args.texts.now) c.in_ok-sources.sources.items c.in_ok-sources.ensures.read in
      let long = length-map c.args.texts.now (λ t. t.items) in
      let bytes = ap length c.deref.ensures.value in
      let few = c.requires.few in
      omega arith;
}

pub returns-in_err-units-clause-refused : goal.returns-in_err-units-clause-refused
returns-in_err-units-clause-refused c =
    handed (texts_of c.args.texts.now) c.from_residual-in_err-units.result c.in_err-units.field-0.0 (err_from_is_err_and c.from_residual-in_err-units.result c.from_residual-in_err-units.ensures.1)
    (units_fail (texts_of c.args.texts.now) c.in_ok-sources.sources.items c.in_err-units.field-0.0 c.in_ok-sources.ensures.read (rw (c.deref.ensures.value) at c.in_err-units.ensures.fails))

pub returns-in-Ok-clause-accepted : goal.returns-in-Ok-clause-accepted
returns-in-Ok-clause-accepted c =
    accepted_by (texts_of c.args.texts.now) c.in_ok-sources.sources.items (map typed.unit_of c.in_ok-units.units.items) (typed.program_of c.in-Ok.program)
    c.in_ok-sources.ensures.read (rw (c.deref.ensures.value) at c.in_ok-units.ensures.typed) c.in-Ok.ensures.joined

pub returns-in-Err-clause-refused : goal.returns-in-Err-clause-refused
returns-in-Err-clause-refused c =
    rw (c.join_refusal.ensures)
    (join_fails (texts_of c.args.texts.now) c.in_ok-sources.sources.items (map typed.unit_of c.in_ok-units.units.items) c.in_ok-sources.ensures.read (rw (c.deref.ensures.value) at c.in_ok-units.ensures.typed) c.in-Err.error c.in-Err.ensures.refused)
