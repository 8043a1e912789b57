use Rattle.std.proofs.Common.{◌≡◌, drop}
use Rattle.c_type.specs.Of.{members_of}
use Rattle.c_type.specs.Members.{member_named}
use Rattle.c_type.proofs.members.named.Given as goal

abbrev pub invariant-loop-member : goal.invariant-loop-member
invariant-loop-member l = member_named l.name (members_of l.members) ≡ member_named l.name (members_of (drop l.member-index l.members))
