-- Where a statement of the code stands.
use Rattle.c_type.specs.Of.{type_of}
use Rattle.c_rule.specs.RuleStmts as s
use Rattle.c_block.specs.declared.blocks.Place.{Place}

abbrev pub place_of : Place → s.Place
place_of p = record { loop = p.in_loop; breaks = p.breaks; result = type_of p.returns.now }
