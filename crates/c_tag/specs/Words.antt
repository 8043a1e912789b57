-- The words with their types that values of the code stand for.
use Rattle.c_type.specs.Of.{type_of}
use Rattle.c_tree.specs.TypedOf.{spec_of}
use Rattle.c_rule.specs.JudgingUnit as j
use Rattle.c_tag.specs.declared.tags.Typed.{Typed}

abbrev pub typed_of : Typed → j.Typed
typed_of t = record { spec = spec_of t.spec.value; base = type_of t.base.value }
