-- The scopes that are left decide.
use Rattle.std.proofs.Common.{◌≡◌, ◌≤◌, length, take}
use Rattle.c_rule.specs.RuleScope.{in_scopes}
use Rattle.c_scope.specs.EnvOf.{blocks_of}
use Rattle.c_scope.proofs.scopes.in_blocks.Given as goal

abbrev pub invariant-loop-depth : goal.invariant-loop-depth
invariant-loop-depth l = record { within : l.depth ≤ length l.blocks; left : in_scopes l.name (blocks_of (take l.depth l.blocks)) ≡ in_scopes l.name (blocks_of l.blocks) }

abbrev pub decreases-loop-depth : goal.decreases-loop-depth
decreases-loop-depth l = l.depth
