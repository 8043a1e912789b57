-- NameInScope: the object that a name stands for at a start.
-- It states docs/LANGUAGE.md, section Starts and turns.
pub use Rattle.c_tree.specs.declared.typed_unit.StartId.{StartId}
use Rattle.std.specs.Prelude.{ℕ, suc, List, [], ◌∷◌, ◌++◌, Option, Some, None, Bool, true, false, nat_eq, ◌||◌, slice_get}
use Rattle.c_type.specs.Names.{Name, same_name, pick, at_or, or_else}
use Rattle.c_type.specs.Types.{CType}
use Rattle.c_tree.specs.TExpr as e
use Rattle.c_tree.specs.TStmt as st
use Rattle.c_tree.specs.TStmt.{TStmt, TStmts, TItems, Local, locals}
use Rattle.c_tree.specs.TUnit.{TExt, typedef, tag_only, object, func, Func, Var, Item, TypedUnit, funcs_of, no_unit}
use Rattle.c_tree.specs.declared.typed_unit.Bound.{Bound}
use Rattle.c_tree.specs.declared.typed_unit.Bound.TheVariants.{Own}
use Rattle.c_run.specs.Lasting.{Lasting, Origin, OfUnit, OfName, OfText}
use Rattle.c_tree.specs.Starts.{starts, line_in}
use Rattle.c_run.specs.Values.{Object}
use Rattle.c_run.specs.State.{Act}
use Rattle.c_run.specs.Context.{Linked, context_of, object_of}
use Rattle.c_tree.specs.Bodies.{BodyAt}

-- What a name stands for: what it is bound to, its type, and the unit whose tags the type names.
pub record Named : Type 0 where
  pub ref : e.Ref
  pub unit : ℕ
  pub ty : CType

-- one block further out
abbrev pub outwards : Option (List (List Local)) → List Local → Option (List (List Local))
outwards None ds = None
outwards (Some inner) ds = Some (inner ++ ds ∷ [])

-- no block yet, where the start is this one
abbrev pub when : Bool → Option (List (List Local))
when true = Some []
when false = None

-- whether an initialised declarator of the block is that start
abbrev pub is_start_of : ℕ → List Local → Bool
is_start_of n [] = false
is_start_of n (st.auto_init d i k l a ∷ ds) = nat_eq n k || is_start_of n ds
is_start_of n (_ ∷ ds) = is_start_of n ds

-- the declarators of the blocks round the start n from the inside, where it stands there
abbrev mutual
  pub round_stmt : ℕ → TStmt → Option (List (List Local))
  round_stmt n (st.expr k l a) = when (nat_eq n k)
  round_stmt n (st.empty k l) = when (nat_eq n k)
  round_stmt n (st.if_only k l a s) = or_else (when (nat_eq n k)) (round_stmt n s)
  round_stmt n (st.if_else k l a s t) = or_else (when (nat_eq n k)) (or_else (round_stmt n s) (round_stmt n t))
  round_stmt n (st.while_ k l a s) = or_else (when (nat_eq n k)) (round_stmt n s)
  round_stmt n (st.do_ k l s a) = or_else (when (nat_eq n k)) (round_stmt n s)
  round_stmt n (st.for_ k l a b c s) = or_else (when (nat_eq n k || (nat_eq n (suc k) || nat_eq n (suc (suc k))))) (round_stmt n s)
  round_stmt n (st.switch k l a is) = or_else (when (nat_eq n k)) (round_items n is)
  round_stmt n (st.break_ k l) = when (nat_eq n k)
  round_stmt n (st.continue_ k l) = when (nat_eq n k)
  round_stmt n (st.return_ k l a) = when (nat_eq n k)
  round_stmt n (st.block line ds ss close_line) = outwards (or_else (when (is_start_of n (locals ds))) (round_stmts n ss)) (locals ds)

  pub round_stmts : ℕ → TStmts → Option (List (List Local))
  round_stmts n st.no_stmts = None
  round_stmts n (st.more_stmts s ss) = or_else (round_stmt n s) (round_stmts n ss)

  pub round_items : ℕ → TItems → Option (List (List Local))
  round_items n st.no_items = None
  round_items n (st.case_ a m is) = round_items n is
  round_items n (st.default_ is) = round_items n is
  round_items n (st.more_items s is) = or_else (round_stmt n s) (round_items n is)

-- the braces of a function stand in its outermost block
abbrev pub round_func : ℕ → Func → Option (List (List Local))
round_func n f =
    outwards (or_else (when (nat_eq n f.open_ || (nat_eq n f.close || is_start_of n (locals f.locals)))) (round_stmts n f.stmts)) (locals f.locals)

-- an object of that name declared in a block; one with `extern` is passed over
abbrev pub in_block : ℕ → Name → List Local → Option Named
in_block u x [] = None
in_block u x (st.auto d i ∷ ds) = pick (same_name x d.name) (Some (record { ref = e.Local i; unit = u; ty = d.ty })) (in_block u x ds)
in_block u x (st.auto_init d i k l a ∷ ds) = pick (same_name x d.name) (Some (record { ref = e.Local i; unit = u; ty = d.ty })) (in_block u x ds)
in_block u x (st.static_ d k i ∷ ds) = pick (same_name x d.name) (Some (record { ref = e.Static k; unit = u; ty = d.ty })) (in_block u x ds)
in_block u x (st.extern_ d ∷ ds) = in_block u x ds
in_block u x (st.function d s ∷ ds) = in_block u x ds

-- the object that the innermost of the blocks gives the name
abbrev pub in_blocks : ℕ → Name → List (List Local) → Option Named
in_blocks u x [] = None
in_blocks u x (ds ∷ rest) = or_else (in_block u x ds) (in_blocks u x rest)

-- the parameter of that name
abbrev pub in_params : ℕ → Name → ℕ → List Var → Option Named
in_params u x i [] = None
in_params u x i (v ∷ vs) = pick (same_name x v.name) (Some (record { ref = e.Param i; unit = u; ty = v.ty })) (in_params u x (suc i) vs)

-- the declarators at file level
abbrev pub items_of : List TExt → List Item
items_of [] = []
items_of (typedef s ds ∷ xs) = items_of xs
items_of (tag_only s ∷ xs) = items_of xs
items_of (object s is ∷ xs) = is ++ items_of xs
items_of (func s f ∷ xs) = items_of xs

-- the object that a static declarator at file level makes
abbrev pub as_static : ℕ → CType → Bound → Option Named
as_static u t (Own k) = Some (record { ref = e.Static k; unit = u; ty = t })
as_static u t _ = None

-- the static object of that name at file level
abbrev pub in_statics : ℕ → Name → List Item → Option Named
in_statics u x [] = None
in_statics u x (i ∷ is) = or_else (pick (same_name x i.declr.name) (as_static u i.declr.ty i.bound) None) (in_statics u x is)

-- whether an object of static life is the external of that name
abbrev pub is_of : Name → Origin → Bool
is_of x (OfName y) = same_name x y
is_of x (OfUnit u k) = false
is_of x (OfText u k) = false

-- an external object has the type of the file that gives it its place
abbrev pub in_externals : Name → List Lasting → Option Named
in_externals x [] = None
in_externals x (o ∷ os) = pick (is_of x o.origin) (Some (record { ref = e.Ext x; unit = o.unit; ty = o.ty })) (in_externals x os)

-- the object of that name in a function in which the start stands
abbrev pub in_function : ℕ → Name → Option (List (List Local)) → Func → Option Named → Option Named
in_function u x None f rest = rest
in_function u x (Some ds) f rest = or_else (in_blocks u x ds) (in_params u x 0 f.params)

-- the same in the functions of a file
abbrev pub in_functions : ℕ → Name → ℕ → List Func → Option Named
in_functions u x n [] = None
in_functions u x n (f ∷ fs) = in_function u x (round_func n f) f (in_functions u x n fs)

-- the same at a start of a unit: blocks and parameters, statics of the file, externals
abbrev pub name_in : Linked → (unit : ℕ) → TypedUnit → (index : ℕ) → Name → Option Named
name_in w u t n x = or_else (in_functions u x n (funcs_of t.exts)) (or_else (in_statics u x (items_of t.exts)) (in_externals x w.lasting))

-- Name(P, start, x): blocks from the inside, parameters, statics of the file, externals
abbrev pub name_at : Linked → StartId → Name → Option Named
name_at w k x = name_in w k.file (at_or no_unit w.units k.file) k.index x

-- the object of a name in the activation with that serial, of a function with that many parameters
abbrev pub object_named : Linked → (params serial : ℕ) → Named → Option Object
object_named w params serial x = object_of (context_of w x.unit params) serial x.ref

-- the current start of an activation
abbrev pub start_of : Linked → Act → StartId
start_of w a = of_body (slice_get w.bodies a.fun)
  where
    of_body : Option BodyAt → StartId
    of_body None = record { file = 0; index = a.start }
    of_body (Some b) = record { file = b.unit; index = a.start }

-- the line of a start
abbrev pub line_of : Linked → StartId → Option ℕ
line_of w k = line_in (starts (at_or no_unit w.units k.file)) k.index
