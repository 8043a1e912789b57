use Rattle.std.proofs.Common.{ap, ◌∙◌, ◌++◌, map}
use Rattle.std.proofs.lemmas.Result.{on_ok_weaker}
use Rattle.std.specs.List.{list_any}
use Rattle.c_join.specs.JoinSaid.{fact, declares_static, defines_static}
use Rattle.c_tree.specs.TypedOf.{unit_of}
use Rattle.c_whole.specs.Events.{events_of, has_name}
use Rattle.c_whole.specs.Facts.{facts_of, bodies_of, lacks}
use Rattle.c_whole.proofs.SameFacts.{same_facts}
use Rattle.c_whole.proofs.facts.add_facts.Goals as goal

pub returns : goal.returns
returns c = record {
  added =
      on_ok_weaker c.add_said.result
      (λ said. said ∙ ap (λ y. facts_of c.args.out.now.items ++ y) (ap (map (fact c.args.number (bodies_of c.in_ok-functions.functions.bodies.items) (lacks c.in_ok-functions.functions))) (ap events_of c.deref-2.ensures.value) ∙
      same_facts c.args.number (unit_of c.args.unit.now) (bodies_of c.in_ok-functions.functions.bodies.items) (events_of c.in_ok-events.events.items)
      (has_name c.in_ok-functions.functions.declared.keys) (has_name c.in_ok-functions.functions.defined.keys) c.in_ok-functions.ensures.bodies c.in_ok-events.ensures.events
      (λ x. c.in_ok-functions.ensures.declared x ∙ ap (λ vs. list_any (declares_static x) (events_of vs)) c.deref.ensures.value)
      (λ x. c.in_ok-functions.ensures.defined x ∙ ap (λ vs. list_any (defines_static x) (events_of vs)) c.deref.ensures.value)))
      c.add_said.ensures.added;
}
