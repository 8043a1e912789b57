-- The members that were passed have another name.
use Rattle.std.proofs.Common.{◌≡◌, drop}
use Rattle.c_type.specs.Of.{members_of}
use Rattle.c_rule.specs.RuleExprs.{member_from}
use Rattle.c_operator.proofs.postfix.member_from.Given as goal

abbrev pub invariant-loop-number : goal.invariant-loop-number
invariant-loop-number l = member_from 0 (members_of l.members) l.name ≡ member_from l.number (members_of (drop l.number l.members)) l.name
