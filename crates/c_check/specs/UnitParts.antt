-- The names that a unit defines, and what is judged of its parts alone.
use Rattle.std.specs.Prelude.{List, map}
use Rattle.c_type.specs.Names.{Name}
use Rattle.c_tree.specs.TreeUnit.{Unit}
use Rattle.c_tree.specs.TUnit.{TypedUnit}
use Rattle.c_rule.specs.RuleNames.{tags_in, tag_names}
use Rattle.c_rule.specs.RuleScope.{Judged, Is, onward, provided}
use Rattle.c_rule.specs.RuleTags.{names_differ}
use Rattle.c_rule.specs.RuleUnit.{at_first}
use Rattle.c_rule.specs.JudgingUnit.{judged_exts}
use Rattle.c_check.specs.declared.units.Defined.{Defined}

abbrev pub names_in : Defined → List Name
names_in d = map (λ x. x.now) d.names.items

-- the outcome of the parts of a unit whose names have one initialiser or body each
abbrev pub judged_parts : Unit → Judged TypedUnit
judged_parts y = provided 3 (names_differ (tag_names (tags_in y))) (onward (judged_exts (at_first y) y.exts) (λ xs. Is (record { tags = xs.env.tags; texts = xs.env.texts; exts = xs.tree })))
