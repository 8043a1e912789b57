use Rattle.std.proofs.Common.{◌≡◌, drop}
use Rattle.outside.specs.Named.{named}
use Rattle.outside.proofs.list.find.Given as goal

abbrev pub invariant-loop-entry : goal.invariant-loop-entry
invariant-loop-entry l = named l.list l.name ≡ named (drop l.entry-index l.list) l.name
