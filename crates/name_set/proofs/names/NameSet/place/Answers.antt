use Rattle.std.proofs.Common.{ap, ◌∙◌}
use Rattle.name_set.specs.Different.{place_in}
use Rattle.name_set.proofs.Different.{place_among}
use Rattle.name_set.proofs.names.NameSet.place.Goals as goal

pub returns : goal.returns
returns c = record {
  place =
      c.get_index_of.ensures.index ∙ place_among (λ k. k.items) c.self.inside.names.keys c.as_slice.result.now
      ∙ ap (λ ns. place_in ns c.as_slice.result.now) c.self.view_is ∙ ap (place_in c.args.self.now) c.as_slice.ensures.bytes;
}
