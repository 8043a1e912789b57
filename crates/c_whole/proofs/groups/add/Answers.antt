use Rattle.std.proofs.Common.{sym, ap, ◌∙◌}
use Rattle.std.proofs.lemmas.Result.{on_ok_weaker}
use Rattle.std.specs.List.{position_or_len}
use Rattle.indexmap.specs.IndexSet.{insert_key}
use Rattle.c_whole.specs.contracts.facts.SubjectPartialEq.TheImpl.{eq-value}
use Rattle.c_whole.specs.Groups.{same_name}
use Rattle.c_whole.proofs.Placed.{eq_is, found_by, insert_by}
use Rattle.c_whole.proofs.groups.add.Goals as goal

pub place-requires : goal.place-requires
place-requires c = record {
  found = c.in_ok-index.ensures.index ∙ ap (position_or_len (eq-value.it c.args.fact.about)) c.requires.names ∙ found_by eq-value.it eq_is c.args.groups.now.items c.args.fact;
}

pub returns-clause-names : goal.returns-clause-names
returns-clause-names c =
    on_ok_weaker c.place.result
    (λ placed. c.in_ok-index.ensures.keys ∙ insert_by eq-value.it eq_is c.args.names.now.keys c.args.fact.about ∙ ap (λ ks. insert_key same_name ks c.args.fact.about) c.requires.names ∙ sym placed)
    c.place.ensures.names
