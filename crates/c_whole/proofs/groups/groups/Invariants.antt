-- The groups so far with what is left give the whole; the set has the groups' names.
use Rattle.std.proofs.Common.{◌≡◌, map, drop}
use Rattle.std.specs.List.{fold}
use Rattle.c_whole.specs.Facts.{facts_of}
use Rattle.c_whole.specs.Groups.{groups_of, placed, grouped}
use Rattle.c_whole.proofs.groups.groups.Given as goal

abbrev pub invariant-loop-fact : goal.invariant-loop-fact
invariant-loop-fact l = record {
  whole : fold placed (groups_of l.groups.items) (facts_of (drop l.fact-index l.facts)) ≡ grouped (facts_of l.facts);
  names : l.names.keys ≡ map (λ g. g.subject) l.groups.items;
}
