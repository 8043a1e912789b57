-- How the code compares types of two units.
use Rattle.std.specs.Prelude.{ℕ, suc, List, map, Bool, true, false, Option, Some, None, nat_eq, ◌&&◌}
use Rattle.c_type.specs.Names.{pick, same_name}
use Rattle.c_type.specs.Types.{CType, num, void, ptr, arr, struct, union, enum, fun, kind_code, Member}
use Rattle.c_join.specs.JoinTypes.{between, agree_by}
use Rattle.c_join.specs.JoinChecks.{same_class}
use Rattle.c_whole.specs.declared.types.Classes.{Classes}
use Rattle.c_whole.specs.declared.types.Between.{Between}

-- the numbers of the tags of each unit
abbrev pub classes_of : Classes → List (List ℕ)
classes_of c = map (λ r. r.items) c.list.now

-- whether tags of the two units have one number
abbrev pub by_classes : Between → ℕ → ℕ → Bool
by_classes b = between (same_class (classes_of b.classes)) b.left b.right

-- what two types are made of by the same derivation
abbrev pub inside : CType → CType → Option (CType × CType)
inside (ptr a) (ptr b) = Some (a, b)
inside (fun a) (fun b) = Some (a, b)
inside (arr n a) (arr m b) = pick (nat_eq n m) (Some (a, b)) None
inside _ _ = None

-- two types that are not derived, or not alike
abbrev pub leaf_agrees : (ℕ → ℕ → Bool) → CType → CType → Bool
leaf_agrees r (num a) (num b) = nat_eq (kind_code a) (kind_code b)
leaf_agrees r void void = true
leaf_agrees r (struct i) (struct j) = r i j
leaf_agrees r (union i) (union j) = r i j
leaf_agrees r (enum i) (enum j) = r i j
leaf_agrees r _ _ = false

-- how often a type is derived
abbrev pub depth : CType → ℕ
depth (ptr t) = suc (depth t)
depth (arr n t) = suc (depth t)
depth (fun t) = suc (depth t)
depth _ = 0

-- two members have one name and one type
abbrev pub member_agrees : (ℕ → ℕ → Bool) → Member → Member → Bool
member_agrees r m n = same_name m.name n.name && agree_by r m.ty n.ty

-- whether two numbers are one, or neither is there
abbrev pub same_number : Option ℕ → Option ℕ → Bool
same_number None None = true
same_number (Some n) (Some m) = nat_eq n m
same_number _ _ = false
