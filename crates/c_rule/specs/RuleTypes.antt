-- The rules on types: void, array elements, results of functions, sizes.
use Rattle.std.specs.Prelude.{ℕ, zero, suc, Option, Some, None, Bool, true, false, not, nat_eq, ◌&&◌, ◌||◌}
use Rattle.c_type.specs.Names.{pick}
use Rattle.c_type.specs.Types.{CType, num, void, ptr, arr, enum, fun, same_type}
use Rattle.c_type.specs.declared.Kind.TheVariants.{Int}
use Rattle.c_tree.specs.TreeExpr as u
use Rattle.c_tree.specs.TreeExpr.{TypeSpec, TypeName}
use Rattle.c_rule.specs.RuleScope.{Judged, Is, Fails, onward, provided, Env, Meaning, Alias, meaning_of, known, tag_from, is_sized}

abbrev pub is_void : CType → Bool
is_void void = true
is_void _ = false

-- rule 4: void is the result of a function and nothing else in a type
abbrev pub void_is_a_result : CType → Bool
void_is_a_result void = false
void_is_a_result (ptr t) = void_is_a_result t
void_is_a_result (arr n t) = void_is_a_result t
void_is_a_result (fun void) = true
void_is_a_result (fun t) = void_is_a_result t
void_is_a_result _ = true

abbrev pub is_function : CType → Bool
is_function (fun t) = true
is_function _ = false

-- rule 5: no element of an array is a function
abbrev pub elements_are_objects : CType → Bool
elements_are_objects (ptr t) = elements_are_objects t
elements_are_objects (arr n t) = not (is_function t) && elements_are_objects t
elements_are_objects (fun t) = elements_are_objects t
elements_are_objects _ = true

abbrev pub holds_no_array : CType → Bool
holds_no_array (ptr t) = holds_no_array t
holds_no_array (arr n t) = false
holds_no_array (fun t) = holds_no_array t
holds_no_array _ = true

-- what a function returns: void, an integer, an enumeration, or a pointer whose type holds no array
abbrev pub may_return : CType → Bool
may_return void = true
may_return (num k) = true
may_return (enum k) = true
may_return (ptr t) = holds_no_array t
may_return _ = false

-- rule 6: each function in a type returns what it may
abbrev pub functions_return : CType → Bool
functions_return (ptr t) = functions_return t
functions_return (arr n t) = functions_return t
functions_return (fun t) = may_return t && functions_return t
functions_return _ = true

-- rule 3: the size of an array's element is needed
abbrev pub elements_are_sized : ℕ → CType → Bool
elements_are_sized n (ptr t) = elements_are_sized n t
elements_are_sized n (arr m t) = is_sized n t && elements_are_sized n t
elements_are_sized n (fun t) = elements_are_sized n t
elements_are_sized n _ = true

-- rule 5: a missing dimension agrees with every number; what both declarations say together
abbrev pub joined : CType → CType → Option CType
joined (arr n a) (arr m b) =
    pick (same_type a b) (pick (nat_eq n 0) (Some (arr m b)) (pick (nat_eq m 0 || nat_eq n m) (Some (arr n a)) None)) None
joined a b = pick (same_type a b) (Some a) None

-- the type of a declarator, by rules 4, 5, 6 and 3
abbrev pub declared_type : Env → CType → Judged CType
declared_type c t =
    provided 4 (void_is_a_result t) (provided 5 (elements_are_objects t) (provided 6 (functions_return t) (provided 3 (elements_are_sized (known c) t) (Is t))))

abbrev pub as_alias : Option Meaning → Judged CType
as_alias (Some (Alias t)) = Is t
as_alias _ = Fails 2

-- the type that words name
abbrev pub spec_type : Env → TypeSpec → Judged CType
spec_type c (u.num k) = Is (num k)
spec_type c u.void = Is void
spec_type c (u.tag t) = tag_from 0 c.heads t.kind t.name
spec_type c (u.named x) = as_alias (meaning_of c x)

-- words that may be left out mean int
abbrev pub spec_or_int : Env → Option TypeSpec → Judged CType
spec_or_int c None = Is (num Int)
spec_or_int c (Some y) = spec_type c y

abbrev pub pointer_to : ℕ → CType → CType
pointer_to zero t = t
pointer_to (suc n) t = pointer_to n (ptr t)

abbrev pub void_or : CType → Judged CType → Judged CType
void_or void j = Is void
void_or t j = j

-- the type of a cast may be void
abbrev pub cast_type : Env → TypeName → Judged CType
cast_type c y = onward (spec_type c y.types) (λ t. void_or (pointer_to y.stars t) (declared_type c (pointer_to y.stars t)))

-- the type behind `sizeof` has a size
abbrev pub sized_type : Env → TypeName → Judged CType
sized_type c y = onward (spec_type c y.types) (λ t. onward (declared_type c (pointer_to y.stars t)) (λ r. provided 3 (is_sized (known c) r) (Is r)))
