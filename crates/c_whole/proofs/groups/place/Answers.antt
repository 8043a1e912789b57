use Rattle.std.proofs.Common.{refl, ap, ◌∙◌, arith}
use Rattle.c_whole.specs.Facts.{facts_of}
use Rattle.c_whole.specs.Groups.{groups_of}
use Rattle.c_whole.proofs.Placed.{with_others, as_last, names_stay, names_grow, names, found_at_end, facts_more}
use Rattle.c_whole.proofs.groups.place.Goals as goal

pub returns-in_ok-push-clause-placed : goal.returns-in_ok-push-clause-placed
returns-in_ok-push-clause-placed c = with_others c.args.groups.now.items c.args.fact _ _ c.args.index c.requires.found (omega arith) c.index_mut.ensures.value refl (ap facts_of c.in_ok-push.ensures.items ∙ facts_more c.index_mut.result.now.facts.items c.args.fact)

pub returns-in_ok-push-clause-names : goal.returns-in_ok-push-clause-names
returns-in_ok-push-clause-names c = names_stay c.args.groups.now.items c.args.fact _ _ c.args.index c.requires.found (omega arith) c.index_mut.ensures.value refl

pub returns-in_ok-push-2-clause-placed : goal.returns-in_ok-push-2-clause-placed
returns-in_ok-push-2-clause-placed c =
    ap groups_of c.in_ok-push-2.ensures.items ∙ as_last c.args.groups.now.items c.args.fact _ (found_at_end c.args.groups.now.items c.args.fact c.args.index c.requires.found (omega arith)) c.in_ok-first_of.ensures.subject c.in_ok-first_of.ensures.facts

pub returns-in_ok-push-2-clause-names : goal.returns-in_ok-push-2-clause-names
returns-in_ok-push-2-clause-names c =
    ap names c.in_ok-push-2.ensures.items ∙ names_grow c.args.groups.now.items c.args.fact _ (found_at_end c.args.groups.now.items c.args.fact c.args.index c.requires.found (omega arith)) c.in_ok-first_of.ensures.subject
