use Rattle.std.proofs.Common.{◌≤◌, ◌∙◌, ◌∷◌, [], arith, ap, refl, subst, length, length-append, Ok, Err}
use Rattle.std.proofs.lemmas.List.{length-map, map-append}
use Rattle.std.proofs.lemmas.List.Elements.{All-push}
use Rattle.std.proofs.lemmas.Option.{slice_get_read}
use Rattle.std.proofs.lemmas.Result.{err_from_is_err_and}
use Rattle.c_front.specs.Sources.{texts_of}
use Rattle.top.specs.Reading.{ReadsText}
use Rattle.top.proofs.Filing.{so_more, so_all, so_fails, reads_handed}
use Rattle.top.proofs.reading.texts.Goals as goal

pub returns-in_err-text-clause-read : goal.returns-in_err-text-clause-read
returns-in_err-text-clause-read g c =
    let names = c.args.names.now in
    let item = c.name-item.result in
    let there = slice_get_read names (length names) c.loop-name.name-index item refl c.loop-name-test.true c.name-item.is in
    reads_handed (g.F.Files.held c.args.files.now) names c.from_residual.result c.in_err-text.field-0.0 (err_from_is_err_and c.from_residual.result c.from_residual.ensures.1)
    (so_fails (g.F.Files.held c.args.files.now) names c.loop-name.name-index (texts_of c.loop-name.texts.items) item c.in_err-text.field-0.0 c.loop-name.invariant.so there (subst (λ h. ReadsText h item (Err c.in_err-text.field-0.0)) c.loop-name.invariant.unchanged c.in_err-text.ensures.read))

pub loop-name-preserved : goal.loop-name-preserved
loop-name-preserved g c =
    let names = c.args.names.now in
    let item = c.name-item.result in
    let text = c.in_ok-text.field-0 in
    let list = c.loop-name.texts.items in
    let there = slice_get_read names (length names) c.loop-name.name-index item refl c.loop-name-test.true c.name-item.is in
    let reads : ReadsText (g.F.Files.held c.args.files.now) item (Ok text) = subst (λ h. ReadsText h item (Ok text)) c.loop-name.invariant.unchanged c.in_ok-text.ensures.read in
    record {
      so = rw (c.in_ok-push.ensures.items, map-append (λ t. t.items) list (text ∷ [])) (so_more (g.F.Files.held c.args.files.now) names c.loop-name.name-index (texts_of list) item text c.loop-name.invariant.so there reads);
      short = rw (c.in_ok-push.ensures.items) (All-push (λ t. length t.items ≤ 262144) list text c.loop-name.invariant.short reads.1);
      count = omega (arith, ap length c.in_ok-push.ensures.items, length-append list (text ∷ []), c.loop-name.invariant.count);
      unchanged = c.text.ensures.unchanged ∙ c.loop-name.invariant.unchanged;
      later = omega (arith, c.text.ensures.later, c.loop-name.invariant.later);
    }

pub returns-clause-read : goal.returns-clause-read
returns-clause-read g c =
    let names = c.args.names.now in
    let list = c.loop-name.texts.items in
    so_all (g.F.Files.held c.args.files.now) names c.loop-name.name-index c.loop-name.texts c.loop-name.invariant.so
    (omega (arith, c.loop-name-test.false, c.loop-name.auto.name-index-end))
    (omega (arith, length-map list (λ t. t.items), c.loop-name.invariant.count, c.loop-name-test.false, c.loop-name.auto.name-index-end))
    c.loop-name.invariant.short
