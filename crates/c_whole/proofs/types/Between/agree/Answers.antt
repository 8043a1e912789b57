use Rattle.std.proofs.Common.{◌∙◌}
use Rattle.c_type.specs.Of.{type_of}
use Rattle.c_whole.specs.Types.{by_classes}
use Rattle.c_whole.proofs.Inside.{part_is_less, agree_of_parts, agree_of_leaves}
use Rattle.c_whole.proofs.types.Between.agree.Goals as goal

pub loop-x-smaller : goal.loop-x-smaller
loop-x-smaller c = part_is_less (type_of c.loop-x.a.now) (type_of c.loop-x.b.now) (type_of c.in-Some.x.now, type_of c.in-Some.y.now) c.in-Some.ensures

pub loop-x-preserved : goal.loop-x-preserved
loop-x-preserved c =
    agree_of_parts (by_classes c.args.self.now) (type_of c.loop-x.a.now) (type_of c.loop-x.b.now) (type_of c.in-Some.x.now) (type_of c.in-Some.y.now) c.in-Some.ensures ∙
    c.loop-x.invariant

pub returns : goal.returns
returns c = c.leaf_agrees.ensures ∙ agree_of_leaves (by_classes c.args.self.now) (type_of c.loop-x.a.now) (type_of c.loop-x.b.now) c.in_default.ensures ∙ c.loop-x.invariant
