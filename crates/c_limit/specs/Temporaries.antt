-- The temporaries of expressions and functions.
-- It states docs/LANGUAGE.md, section Limits.
use Rattle.std.specs.Prelude.{ℕ, suc, ◌+◌, max, min, List, [], ◌∷◌, Option, Some, None, Bool, true, false}
use Rattle.c_tree.specs.TExpr as e
use Rattle.c_tree.specs.TExpr.{TExpr, TArgs, Ref}
use Rattle.c_tree.specs.TStmt as st
use Rattle.c_tree.specs.TStmt.{Declr, Init, Inits}
use Rattle.c_tree.specs.TUnit.{Func}
use Rattle.c_limit.specs.Parts.{Part, Declares, Evaluates, parts}

-- a function's name
abbrev pub is_function_name : Ref → Bool
is_function_name (e.Local i) = false
is_function_name (e.Param i) = false
is_function_name (e.Static k) = false
is_function_name (e.Ext x) = false
is_function_name (e.Func k) = true
is_function_name (e.Outer x) = true
is_function_name (e.Const n) = false

-- whether a call of it is a call by name
abbrev pub is_by_name : TExpr → Bool
is_by_name (e.name t r) = is_function_name r
is_by_name _ = false

-- what a call takes whose arguments take n: through an expression its value is kept meanwhile
abbrev pub of_called : Bool → (called n : ℕ) → ℕ
of_called true called n = n
of_called false called n = max called (suc n)

-- What a tree needs of temporaries. The operand of `sizeof` is not evaluated. A left part is kept while the right one is
-- evaluated, and argument i while the later ones are.
abbrev mutual
  pub temporaries : TExpr → ℕ
  temporaries (e.name t r) = 0
  temporaries (e.int t n) = 0
  temporaries (e.text t k) = 0
  temporaries (e.unary t op a) = temporaries a
  temporaries (e.deref t a) = temporaries a
  temporaries (e.address t a) = temporaries a
  temporaries (e.step t op a) = temporaries a
  temporaries (e.size_of a) = 0
  temporaries (e.size_of_type of) = 0
  temporaries (e.cast t a) = temporaries a
  temporaries (e.convert t a) = temporaries a
  temporaries (e.decay t a) = temporaries a
  temporaries (e.designate t a) = temporaries a
  temporaries (e.binary t op a b) = max (temporaries a) (suc (temporaries b))
  temporaries (e.both a b) = max (temporaries a) (temporaries b)
  temporaries (e.either a b) = max (temporaries a) (temporaries b)
  temporaries (e.comma t a b) = max (temporaries a) (temporaries b)
  temporaries (e.choice t c a b) = max (temporaries c) (max (temporaries a) (temporaries b))
  temporaries (e.assign t a b) = max (temporaries a) (suc (temporaries b))
  temporaries (e.update t op at a b) = max (temporaries a) (suc (temporaries b))
  temporaries (e.index t a i) = max (temporaries a) (suc (temporaries i))
  temporaries (e.call t f es) = of_called (is_by_name f) (temporaries f) (of_args 0 es)
  temporaries (e.member t a m) = temporaries a
  temporaries (e.arrow t a m) = temporaries a

  -- arguments of which so many stand already: the greatest of their number and of i - 1 + t(ai)
  pub of_args : ℕ → TArgs → ℕ
  of_args n e.no_args = n
  of_args n (e.more_args a es) = max (n + temporaries a) (of_args (suc n) es)

-- the greatest over expressions
abbrev pub of_list : List TExpr → ℕ
of_list [] = 0
of_list (a ∷ es) = max (temporaries a) (of_list es)

-- the dimensions of a declarator
abbrev pub of_dims : Declr → ℕ
of_dims d = of_list d.dims

abbrev mutual
  pub of_init : Init → ℕ
  of_init (st.single a) = temporaries a
  of_init (st.bytes bs) = 0
  of_init (st.group is) = of_inits is

  pub of_inits : Inits → ℕ
  of_inits st.no_inits = 0
  of_inits (st.more_inits i is) = max (of_init i) (of_inits is)

-- an initialiser that may be left out
abbrev pub of_begin : Option Init → ℕ
of_begin None = 0
of_begin (Some i) = of_init i

-- a declarator of a block
abbrev pub of_local : st.Local → ℕ
of_local (st.auto d i) = of_dims d
of_local (st.auto_init d i k l a) = max (of_dims d) (temporaries a)
of_local (st.static_ d k i) = max (of_dims d) (of_begin i)
of_local (st.extern_ d) = of_dims d
of_local (st.function d s) = of_dims d

-- a part of a body
abbrev pub of_part : Part → ℕ
of_part (Declares d) = of_local d
of_part (Evaluates e) = temporaries e

-- the greatest over parts
abbrev pub of_parts : List Part → ℕ
of_parts [] = 0
of_parts (x ∷ xs) = max (of_part x) (of_parts xs)

-- the temporaries of a function: the greatest over the expressions between its braces
abbrev pub of_func : Func → ℕ
of_func f = of_parts (parts f)

-- a count that is kept in 64 bits
abbrev pub counted : ℕ → ℕ
counted n = min n 18446744073709551615
