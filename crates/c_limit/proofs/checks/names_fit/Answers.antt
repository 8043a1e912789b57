-- The limits on names are checked one behind the other.
use Rattle.std.proofs.Common.{List, map, ◌++◌, ◌∙◌}
use Rattle.std.specs.List.{flat_map}
use Rattle.c_tree.specs.TypedOf.{unit_of}
use Rattle.c_tree.specs.declared.typed_unit.TypedUnit.{TypedUnit}
use Rattle.c_limit.specs.Errors.{excess_of}
use Rattle.c_limit.specs.Limits.{Limit, object_limits, derivation_limits, dimension_limits}
use Rattle.c_limit.proofs.FirstPassed.{told, told-none, first-before, first-behind, passed-behind}
use Rattle.c_limit.proofs.checks.names_fit.Goals as goal

abbrev objects : List TypedUnit → List Limit
objects us = flat_map object_limits (map unit_of us)

abbrev derived : List TypedUnit → List Limit
derived us = flat_map derivation_limits (map unit_of us)

abbrev dimensioned : List TypedUnit → List Limit
dimensioned us = flat_map dimension_limits (map unit_of us)

pub returns-in-Some-clause-refused : goal.returns-in-Some-clause-refused
returns-in-Some-clause-refused c =
    let us = c.args.p.now.units.items in
    first-before (objects us) (derived us ++ dimensioned us) (excess_of c.in-Some.size)
    (told object_limits c.deref.result.now us c.in_ok-size.field-0 c.in-Some.size c.deref.ensures.value c.in_ok-size.ensures c.in-Some.is)

pub returns-in-Some-2-clause-refused : goal.returns-in-Some-2-clause-refused
returns-in-Some-2-clause-refused c =
    let us = c.args.p.now.units.items in
    first-behind (objects us) (derived us ++ dimensioned us) (excess_of c.in-Some-2.derivation)
    (told-none object_limits c.deref.result.now us c.in_ok-size.field-0 c.deref.ensures.value c.in_ok-size.ensures c.in_default.is)
    (first-before (derived us) (dimensioned us) (excess_of c.in-Some-2.derivation)
    (told derivation_limits c.deref-2.result.now us c.in_ok-derivation.field-0 c.in-Some-2.derivation c.deref-2.ensures.value c.in_ok-derivation.ensures c.in-Some-2.is))

pub returns-in-Some-3-clause-refused : goal.returns-in-Some-3-clause-refused
returns-in-Some-3-clause-refused c =
    let us = c.args.p.now.units.items in
    first-behind (objects us) (derived us ++ dimensioned us) (excess_of c.in-Some-3.dimension)
    (told-none object_limits c.deref.result.now us c.in_ok-size.field-0 c.deref.ensures.value c.in_ok-size.ensures c.in_default.is)
    (first-behind (derived us) (dimensioned us) (excess_of c.in-Some-3.dimension)
    (told-none derivation_limits c.deref-2.result.now us c.in_ok-derivation.field-0 c.deref-2.ensures.value c.in_ok-derivation.ensures c.in_default-2.is)
    (told dimension_limits c.deref-3.result.now us c.in_ok-dimension.field-0 c.in-Some-3.dimension c.deref-3.ensures.value c.in_ok-dimension.ensures c.in-Some-3.is))

pub returns-in-None-clause-passed : goal.returns-in-None-clause-passed
returns-in-None-clause-passed c =
    let us = c.args.p.now.units.items in
    passed-behind (objects us) (derived us ++ dimensioned us)
    (told-none object_limits c.deref.result.now us c.in_ok-size.field-0 c.deref.ensures.value c.in_ok-size.ensures c.in_default.is)
    ∙ (passed-behind (derived us) (dimensioned us)
    (told-none derivation_limits c.deref-2.result.now us c.in_ok-derivation.field-0 c.deref-2.ensures.value c.in_ok-derivation.ensures c.in_default-2.is)
    ∙ told-none dimension_limits c.deref-3.result.now us c.in_ok-dimension.field-0 c.deref-3.ensures.value c.in_ok-dimension.ensures c.in-None.is)
