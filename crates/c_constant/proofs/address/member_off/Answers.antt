use Rattle.std.proofs.Common.{map, sym, ap, ◌∙◌}
use Rattle.std.proofs.lemmas.Bool.{ltb-true}
use Rattle.c_type.specs.Names.{at_or}
use Rattle.c_type.specs.Of.{type_of, members_of, tag_of}
use Rattle.c_type.specs.Sizes.{no_member}
use Rattle.c_rule.specs.RuleDecls.{member_off}
use Rattle.c_constant.proofs.Offsets.{off_read}
use Rattle.c_constant.proofs.address.member_off.Goals as goal

pub returns-in-Some : goal.returns-in-Some
returns-in-Some c =
    c.offset_at.ensures ∙ ap (λ x. (at_or no_member (members_of x) c.args.number).off) c.deref.ensures.value
    ∙ off_read c.args.tags.now c.in-Struct.tag.0 c.args.number c.in-Some.tag.now (ltb-true _ _ (sym c.in-Some.ensures.lookup.0)) c.in-Some.ensures.lookup.1
    ∙ ap (λ y. member_off (map tag_of c.args.tags.now) (type_of y) c.args.number) (sym c.in-Struct.is)
