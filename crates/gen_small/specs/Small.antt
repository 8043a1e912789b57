-- The trees of the small form, and what their code takes.
use Rattle.std.specs.Prelude.{ℕ, ◌≡◌, ◌+◌}
use Rattle.c_type.specs.declared.Kind.TheVariants.{Int}
use Rattle.c_type.specs.Types.{CType, num}
use Rattle.c_tree.specs.declared.TBinary.{TBinary}
use Rattle.c_tree.specs.declared.TBinary.TheVariants.{Add, Sub}
use Rattle.c_tree.specs.TExpr.{Local, Outer, TExpr, name, int, convert, binary, assign, call, no_args, more_args, type_of}
use Rattle.c_tree.specs.Library.{putchar_name}

abbrev pub IsInt : CType → Type 0
IsInt t = t ≡ num Int

abbrev pub IsSum : TBinary → Type 0
IsSum Add = Unit {0}
IsSum Sub = Unit {0}
IsSum _ = ⊥

-- a variable of type int
abbrev pub IsVariable : TExpr → Type 0
IsVariable (name t (Local i)) = IsInt t
IsVariable _ = ⊥

-- the function putchar by its name
abbrev pub IsPutchar : TExpr → Type 0
IsPutchar (name t (Outer x)) = x ≡ putchar_name
IsPutchar _ = ⊥

-- an expression of the small form: numbers and variables of type int, sums, assignments and calls of putchar
abbrev pub IsSmall : TExpr → Type 0
IsSmall (name t (Local i)) = IsInt t
IsSmall (int t n) = IsInt t
IsSmall (convert t e) = IsInt t × IsSmall e
IsSmall (binary t op a b) = IsSum op × IsInt (type_of a) × IsInt (type_of b) × IsSmall a × IsSmall b
IsSmall (assign t a b) = IsVariable a × IsSmall b
IsSmall (call t f (more_args e no_args)) = IsPutchar f × IsInt (type_of e) × IsSmall e
IsSmall _ = ⊥

-- the most instructions that its code executes
abbrev pub cost : TExpr → ℕ
cost (name t r) = 1
cost (int t n) = 1
cost (convert t e) = cost e
cost (binary t op a b) = cost a + (1 + (cost b + 3))
cost (assign t a b) = cost b + 1
cost (call t f (more_args e no_args)) = cost e + 10
cost _ = 0
