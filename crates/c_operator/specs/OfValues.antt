-- The rules on operators where the operands are values: what the rules give behind the use of the operands.
use Rattle.std.specs.Prelude.{List, ◌&&◌, ◌||◌}
use Rattle.c_type.specs.Names.{pick}
use Rattle.c_type.specs.declared.Kind.TheVariants.{Int}
use Rattle.c_type.specs.Types.{Tag, num, is_integer}
use Rattle.c_tree.specs.TExpr as e
use Rattle.c_tree.specs.TExpr.{TExpr, type_of}
use Rattle.c_tree.specs.declared.TBinary.{TBinary}
use Rattle.c_tree.specs.declared.TBinary.TheVariants.{Add, Sub}
use Rattle.c_rule.specs.RuleScope.{Judged, Is, Fails, onward, provided, Env}
use Rattle.c_rule.specs.RuleTypes.{is_void}
use Rattle.c_rule.specs.RuleValues.{used, taken, meeting, to_type, widen, is_object_pointer, target_is_sized, are_alike, are_integers, is_with_zero}
use Rattle.c_rule.specs.RuleExprs.{met, compared, pointer_and_integer}

-- an integer on the left moves a pointer
abbrev pub integer_and_pointer : Env → TExpr → TExpr → Judged TExpr
integer_and_pointer c v w = provided 3 (target_is_sized c (type_of w)) (Is (e.binary (type_of w) Add (widen v) w))

abbrev pub sum_of_values : Env → TExpr → TExpr → Judged TExpr
sum_of_values c v w =
    pick (are_integers v w) (Is (met Add (widen v) (widen w)))
    (pick (is_object_pointer (type_of v) && is_integer (type_of w)) (pointer_and_integer c Add v w)
    (pick (is_integer (type_of v) && is_object_pointer (type_of w)) (integer_and_pointer c v w)
    (Fails 13)))

abbrev pub distance_of : Env → TExpr → TExpr → Judged TExpr
distance_of c v w = provided 3 (target_is_sized c (type_of v)) (Is (e.binary (num Int) Sub v w))

abbrev pub difference_of_values : Env → TExpr → TExpr → Judged TExpr
difference_of_values c v w =
    pick (are_integers v w) (Is (met Sub (widen v) (widen w)))
    (pick (is_object_pointer (type_of v) && is_integer (type_of w)) (pointer_and_integer c Sub v w)
    (pick (is_object_pointer (type_of v) && are_alike v w) (distance_of c v w)
    (Fails 13)))

abbrev pub order_of_values : TBinary → TExpr → TExpr → Judged TExpr
order_of_values op v w =
    pick (are_integers v w) (Is (compared op (widen v) (widen w))) (provided 14 (is_object_pointer (type_of v) && are_alike v w) (Is (e.binary (num Int) op v w)))

abbrev pub equality_of_values : List Tag → TBinary → TExpr → TExpr → Judged TExpr
equality_of_values ts op v w =
    pick (are_integers v w) (Is (compared op (widen v) (widen w)))
    (pick (are_alike v w) (Is (e.binary (num Int) op v w))
    (pick (is_with_zero ts v w) (Is (e.binary (num Int) op v (to_type (type_of v) w)))
    (pick (is_with_zero ts w v) (Is (e.binary (num Int) op (to_type (type_of w) v) w))
    (Fails 14))))

-- two widened integers of a choice meet
abbrev pub chosen_numbers : TExpr → TExpr → TExpr → TExpr
chosen_numbers u v w = e.choice (meeting (type_of v) (type_of w)) u (to_type (meeting (type_of v) (type_of w)) v) (to_type (meeting (type_of v) (type_of w)) w)

abbrev pub choice_of_values : List Tag → TExpr → TExpr → TExpr → Judged TExpr
choice_of_values ts u v w =
    pick (are_integers v w) (Is (chosen_numbers u (widen v) (widen w)))
    (pick (are_alike v w || (is_void (type_of v) && is_void (type_of w))) (Is (e.choice (type_of v) u v w))
    (pick (is_with_zero ts v w) (Is (e.choice (type_of v) u v (to_type (type_of v) w)))
    (pick (is_with_zero ts w v) (Is (e.choice (type_of w) u (to_type (type_of w) v) w))
    (Fails 16))))

-- a scalar takes a value
abbrev pub assigned_value : Env → TExpr → TExpr → Judged TExpr
assigned_value c x y = onward (used y) (λ w. onward (taken 21 c (type_of x) w) (λ v. Is (e.assign (type_of x) x v)))
