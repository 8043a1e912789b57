-- What was copied and what is left is the whole.
use Rattle.std.proofs.Common.{◌≡◌, ◌++◌, drop, map}
use Rattle.c_type.specs.Of.{type_of}
use Rattle.c_local.proofs.Inits.{types_in}
use Rattle.c_local.proofs.initialisers.types_of.Given as goal

abbrev pub invariant-loop-member : goal.invariant-loop-member
invariant-loop-member l = map type_of l.types.items ++ types_in (drop l.member-index l.members) ≡ types_in l.members
