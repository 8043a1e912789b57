-- Constant expressions, and the constant 0.
-- It states docs/LANGUAGE.md, section Types.
use Rattle.std.specs.Prelude.{ℕ, ◌%◌, List, Option, Some, None, Bool, false, nat_eq, not, ◌&&◌, ◌||◌}
use Rattle.c_type.specs.Names.{pick}
use Rattle.c_type.specs.Kinds as k
use Rattle.c_type.specs.Types.{CType, num, enum, Tag, signed_type}
use Rattle.c_type.specs.Sizes.{size}
use Rattle.c_tree.specs.TExpr.{TExpr, Ref, Const, name, int, unary, size_of, size_of_type, cast, convert, binary, both, either, choice, type_of}
use Rattle.c_tree.specs.Arith.{bit, one_number, two_numbers, may_trap}

-- what follows where there is a value
abbrev pub given : {A B : Type 0} → Option A → (A → Option B) → Option B
given None go = None
given (Some a) go = go a

-- the value of an enumerator
abbrev pub named : Ref → Option ℕ
named (Const n) = Some n
named _ = None

-- a number converted to an integer type
abbrev pub as_integer : CType → ℕ → Option ℕ
as_integer (num kind) x = Some (k.convert kind x)
as_integer (enum tag) x = Some (x % 4294967296)
as_integer _ x = None

-- what a test of numbers takes as true
abbrev pub is_nonzero : ℕ → Bool
is_nonzero x = not (nat_eq x 0)

-- The 32 bits of a constant's value. A constant is built of numbers, characters, enumerators, `sizeof`, integer casts, the
-- operators of numbers, `&&`, `||` and `? :`. Each part is a constant, also one that decides nothing.
abbrev pub constant : List Tag → TExpr → Option ℕ
constant ts (name t r) = named r
constant ts (int t n) = Some n
constant ts (unary t op e) = given (constant ts e) (λ x. Some (one_number op x))
constant ts (size_of e) = Some (size ts (type_of e))
constant ts (size_of_type of) = Some (size ts of)
constant ts (cast t e) = given (constant ts e) (as_integer t)
constant ts (convert t e) = given (constant ts e) (as_integer t)
constant ts (binary t op a b) =
    given (constant ts a) (λ x. given (constant ts b) (λ y.
    pick (may_trap op (signed_type (type_of a)) x y) None (Some (two_numbers op (signed_type (type_of a)) x y))))
constant ts (both a b) = given (constant ts a) (λ x. given (constant ts b) (λ y. Some (bit (is_nonzero x && is_nonzero y))))
constant ts (either a b) = given (constant ts a) (λ x. given (constant ts b) (λ y. Some (bit (is_nonzero x || is_nonzero y))))
constant ts (choice t e a b) = given (constant ts e) (λ x. given (constant ts a) (λ y. given (constant ts b) (λ z. Some (pick (is_nonzero x) y z))))
constant ts _ = None

-- whether there is a value and it is 0
abbrev pub is_zero_option : Option ℕ → Bool
is_zero_option None = false
is_zero_option (Some n) = nat_eq n 0

-- the constant 0: any constant of that value
abbrev pub is_zero : List Tag → TExpr → Bool
is_zero ts e = is_zero_option (constant ts e)
