use Rattle.std.proofs.Common.{sym}
use Rattle.std.proofs.lemmas.Bool.{ltb-true, ltb-false}
use Rattle.c_constant.proofs.Offsets.{member_read, member_missing}
use Rattle.c_constant.proofs.address.offset_at.Goals as goal

pub returns-in-Some : goal.returns-in-Some
returns-in-Some c =
    member_read _ _ _ (ltb-true _ _ (sym c.in-Some.ensures.lookup.0)) c.in-Some.ensures.lookup.1

pub returns-in-None : goal.returns-in-None
returns-in-None c = sym (member_missing c.args.members.now c.args.number (ltb-false _ _ (sym c.in-None.ensures.lookup.0)))
