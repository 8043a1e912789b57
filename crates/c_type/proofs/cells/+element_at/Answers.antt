use Rattle.std.proofs.Common.{ap, sym, ◌∙◌, inl, inr, arith}
use Rattle.c_type.specs.Of.{type_of, tags_of}
use Rattle.c_type.specs.Sizes.{size}
use Rattle.c_type.specs.Types.{arr}
use Rattle.c_type.proofs.Steps.{array_none, array_element}
use Rattle.c_type.proofs.Held.{tag_count}
use Rattle.c_type.proofs.cells.+element_at.Goals.{then-step-eq0-via-then-step-eq0, then-step-eq0-via-else-step-eq0+then-off-step}
use Rattle.c_type.proofs.cells.+element_at.Goals as goal

pub returns-then-step-eq0 : goal.returns-then-step-eq0
returns-then-step-eq0 t c = record {
  part = array_none (tags_of c.args.tags.now) _ c.in-Arr.n c.size-step.result c.args.off (type_of c.args.ty.now) (type_of c.in-Arr.element.value)
      c.requires.laid (tag_count c.args.tags.now) c.requires.within c.requires.small (ap type_of c.in-Arr.is) (c.size-step.ensures ∙ ap (λ x. size (tags_of c.args.tags.now) (type_of x)) c.deref.ensures)
      (elim c.then-step-eq0.branch [ then-step-eq0-via-then-step-eq0 w ↦ inl w.if-step-eq0.true | then-step-eq0-via-else-step-eq0+then-off-step w ↦ inr w.if-off-step.true ]);
}

pub returns : goal.returns
returns t c = record {
  part = array_element (tags_of c.args.tags.now) _ c.in-Arr.n c.size-step.result c.args.off (type_of c.args.ty.now) (type_of c.deref-2.result.now) _
      c.requires.laid (tag_count c.args.tags.now) c.requires.within c.requires.small (ap type_of c.in-Arr.is ∙ ap (λ x. arr c.in-Arr.n (type_of x)) (sym c.deref-2.ensures))
      (c.size-step.ensures ∙ ap (λ x. size (tags_of c.args.tags.now) (type_of x)) (c.deref.ensures ∙ sym c.deref-2.ensures))
      (omega arith) c.if-off-step.false c.element_at.ensures.part;
}
