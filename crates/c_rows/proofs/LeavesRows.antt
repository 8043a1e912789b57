-- Small programs for each rule that ends defined C, for the signals and the stack.
use Rattle.std.specs.Prelude.{◌≡◌, List, [], ◌∷◌, Some, None, refl}
use Rattle.c_type.specs.Names.{Name}
use Rattle.c_type.specs.Types.{ptr, arr, struct, fun}
use Rattle.c_type.specs.declared.TagKind.TheVariants.{Struct}
use Rattle.c_type.specs.Sizes.{lay, up_to}
use Rattle.c_type.specs.Cells.{Cell}
use Rattle.c_type.specs.Kinds.{extend}
use Rattle.c_tree.specs.Arith.{add32, sub32, mul32, flip32, is_negative, magnitude, signed_as, quotient, remainder, traps, shift_left, shift_right, less}
use Rattle.c_tree.specs.TExpr.{Local, Ext, Func, Outer, name, int, unary, deref, address, step, convert, decay, designate, binary, assign, index, call, member, arrow, no_args, more_args}
use Rattle.c_tree.specs.declared.typed_expr.TUnary.TheVariants.{Neg, Not}
use Rattle.c_tree.specs.declared.typed_expr.TBinary.TheVariants.{Div, Rem, Add, Sub, Lt, Le, Eq}
use Rattle.c_tree.specs.declared.typed_expr.TStep.TheVariants.{PostInc}
use Rattle.c_tree.specs.TStmt.{return_, no_stmts, more_stmts, auto, auto_init}
use Rattle.c_tree.specs.TUnit.{Program, plain, object}
use Rattle.c_tree.specs.declared.typed_unit.Bound.TheVariants.{Outside}
use Rattle.c_run.specs.Values.{Num, Null, To, Stopped, NoFuel, Stack, Ended, Fault, Leaves, Ill}
use Rattle.c_run.specs.Values as v
use Rattle.c_run.specs.State.{State, no_changes, Gave, Halt}
use Rattle.c_run.specs.Pointers.{copy_cells}
use Rattle.c_run.specs.Run.{run}
use Rattle.c_rows.proofs.Seen.{int_t, char_t, uint_t, declr, decl, body, slot_at, report}

abbrev n-s : Name
n-s = 115 ∷ []

abbrev n-v : Name
n-v = 118 ∷ []

abbrev n-w : Name
n-w = 119 ∷ []

abbrev n-x : Name
n-x = 120 ∷ []

abbrev n-f : Name
n-f = 102 ∷ []

abbrev n-main : Name
n-main = 109 ∷ (97 ∷ (105 ∷ (110 ∷ [])))

abbrev n-c : Name
n-c = 99 ∷ []

abbrev n-a : Name
n-a = 97 ∷ []

abbrev n-p : Name
n-p = 112 ∷ []

abbrev n-y : Name
n-y = 121 ∷ []

abbrev n-b : Name
n-b = 98 ∷ []

abbrev n-putchar : Name
n-putchar = 112 ∷ (117 ∷ (116 ∷ (99 ∷ (104 ∷ (97 ∷ (114 ∷ []))))))

abbrev n-getchar : Name
n-getchar = 103 ∷ (101 ∷ (116 ∷ (99 ∷ (104 ∷ (97 ∷ (114 ∷ []))))))

-- Rule 1: a dead object, a cell of another type, the end of an array.
abbrev pub dead_read : Program
dead_read = record { units = (record { tags = []; texts = []; exts = (body n-f (ptr int_t) 0 1 (decl (auto (declr n-x int_t) 0) ∷ []) (more_stmts (return_ 1 3 (Some (address (ptr int_t) (name int_t (Local 0))))) no_stmts) 2 5 ∷ (body n-main int_t 3 10 [] (more_stmts (return_ 4 15 (Some (deref int_t (call (ptr int_t) (name (fun int_t) (Func 0)) no_args)))) no_stmts) 5 20 ∷ [])) } ∷ []); classes = ([] ∷ []) }

dead_read_is : report dead_read (run dead_read [] no_changes 60) ≡ record { why = Leaves 1; turns = 5; output = []; lines = (15 ∷ []) }
unfolding up_to extend add32 sub32 mul32 flip32 is_negative magnitude signed_as quotient remainder traps shift_left shift_right less
dead_read_is = refl

abbrev pub wrong_cell : Program
wrong_cell = record { units = (record { tags = lay [] (record { name = n-s; kind = Struct; members = (record { name = n-v; off = 0; ty = int_t } ∷ (record { name = n-c; off = 0; ty = char_t } ∷ [])); size = 0; align = 1 } ∷ []); texts = []; exts = (body n-main int_t 0 10 (decl (auto (declr n-s (struct 0)) 0) ∷ []) (more_stmts (return_ 1 15 (Some (deref int_t (binary (ptr int_t) Add (address (ptr int_t) (member int_t (name (struct 0) (Local 0)) 0)) (int int_t 1))))) no_stmts) 2 20 ∷ []) } ∷ []); classes = ((0 ∷ []) ∷ []) }

wrong_cell_is : report wrong_cell (run wrong_cell [] no_changes 60) ≡ record { why = Leaves 1; turns = 2; output = []; lines = (15 ∷ []) }
unfolding up_to extend add32 sub32 mul32 flip32 is_negative magnitude signed_as quotient remainder traps shift_left shift_right less
wrong_cell_is = refl

abbrev pub end_write : Program
end_write = record { units = (record { tags = []; texts = []; exts = (body n-main int_t 0 10 (decl (auto (declr n-a (arr 2 int_t)) 0) ∷ []) (more_stmts (return_ 1 15 (Some (assign int_t (index int_t (decay (ptr int_t) (name (arr 2 int_t) (Local 0))) (int int_t 2)) (int int_t 1)))) no_stmts) 2 20 ∷ []) } ∷ []); classes = ([] ∷ []) }

end_write_is : report end_write (run end_write [] no_changes 60) ≡ record { why = Leaves 1; turns = 2; output = []; lines = (15 ∷ []) }
unfolding up_to extend add32 sub32 mul32 flip32 is_negative magnitude signed_as quotient remainder traps shift_left shift_right less
end_write_is = refl

-- Rule 2: outside the object, through null, in a dead object, by 0 too, to a member.
abbrev pub past_end : Program
past_end = record { units = (record { tags = []; texts = []; exts = (body n-main int_t 0 10 (decl (auto (declr n-a (arr 2 int_t)) 0) ∷ []) (more_stmts (return_ 1 15 (Some (unary int_t Not (binary (ptr int_t) Add (decay (ptr int_t) (name (arr 2 int_t) (Local 0))) (int int_t 3))))) no_stmts) 2 20 ∷ []) } ∷ []); classes = ([] ∷ []) }

past_end_is : report past_end (run past_end [] no_changes 60) ≡ record { why = Leaves 2; turns = 2; output = []; lines = (15 ∷ []) }
unfolding up_to extend add32 sub32 mul32 flip32 is_negative magnitude signed_as quotient remainder traps shift_left shift_right less
past_end_is = refl

abbrev pub at_end : Program
at_end = record { units = (record { tags = []; texts = []; exts = (body n-main int_t 0 10 (decl (auto (declr n-a (arr 2 int_t)) 0) ∷ []) (more_stmts (return_ 1 15 (Some (unary int_t Not (binary (ptr int_t) Add (decay (ptr int_t) (name (arr 2 int_t) (Local 0))) (int int_t 2))))) no_stmts) 2 20 ∷ []) } ∷ []); classes = ([] ∷ []) }

at_end_is : report at_end (run at_end [] no_changes 60) ≡ record { why = Ended 0; turns = 3; output = []; lines = [] }
unfolding up_to extend add32 sub32 mul32 flip32 is_negative magnitude signed_as quotient remainder traps shift_left shift_right less
at_end_is = refl

abbrev pub before_begin : Program
before_begin = record { units = (record { tags = []; texts = []; exts = (body n-main int_t 0 10 (decl (auto (declr n-a (arr 2 int_t)) 0) ∷ []) (more_stmts (return_ 1 15 (Some (unary int_t Not (binary (ptr int_t) Sub (decay (ptr int_t) (name (arr 2 int_t) (Local 0))) (int int_t 1))))) no_stmts) 2 20 ∷ []) } ∷ []); classes = ([] ∷ []) }

before_begin_is : report before_begin (run before_begin [] no_changes 60) ≡ record { why = Leaves 2; turns = 2; output = []; lines = (15 ∷ []) }
unfolding up_to extend add32 sub32 mul32 flip32 is_negative magnitude signed_as quotient remainder traps shift_left shift_right less
before_begin_is = refl

abbrev pub no_wrapping : Program
no_wrapping = record { units = (record { tags = []; texts = []; exts = (body n-main int_t 0 10 (decl (auto (declr n-a (arr 2 int_t)) 0) ∷ []) (more_stmts (return_ 1 15 (Some (unary int_t Not (binary (ptr int_t) Add (decay (ptr int_t) (name (arr 2 int_t) (Local 0))) (int int_t 1073741825))))) no_stmts) 2 20 ∷ []) } ∷ []); classes = ([] ∷ []) }

no_wrapping_is : report no_wrapping (run no_wrapping [] no_changes 60) ≡ record { why = Leaves 2; turns = 2; output = []; lines = (15 ∷ []) }
unfolding up_to extend add32 sub32 mul32 flip32 is_negative magnitude signed_as quotient remainder traps shift_left shift_right less
no_wrapping_is = refl

abbrev pub null_plus : Program
null_plus = record { units = (record { tags = []; texts = []; exts = (body n-main int_t 0 10 (decl (auto (declr n-p (ptr int_t)) 0) ∷ []) (more_stmts (return_ 1 15 (Some (unary int_t Not (binary (ptr int_t) Add (name (ptr int_t) (Local 0)) (int int_t 0))))) no_stmts) 2 20 ∷ []) } ∷ []); classes = ([] ∷ []) }

null_plus_is : report null_plus (run null_plus [] no_changes 60) ≡ record { why = Leaves 2; turns = 2; output = []; lines = (15 ∷ []) }
unfolding up_to extend add32 sub32 mul32 flip32 is_negative magnitude signed_as quotient remainder traps shift_left shift_right less
null_plus_is = refl

abbrev pub null_step : Program
null_step = record { units = (record { tags = []; texts = []; exts = (body n-main int_t 0 10 (decl (auto (declr n-p (ptr int_t)) 0) ∷ []) (more_stmts (return_ 1 15 (Some (unary int_t Not (step (ptr int_t) PostInc (name (ptr int_t) (Local 0)))))) no_stmts) 2 20 ∷ []) } ∷ []); classes = ([] ∷ []) }

null_step_is : report null_step (run null_step [] no_changes 60) ≡ record { why = Leaves 2; turns = 2; output = []; lines = (15 ∷ []) }
unfolding up_to extend add32 sub32 mul32 flip32 is_negative magnitude signed_as quotient remainder traps shift_left shift_right less
null_step_is = refl

abbrev pub dead_plus : Program
dead_plus = record { units = (record { tags = []; texts = []; exts = (body n-f (ptr int_t) 0 1 (decl (auto (declr n-x int_t) 0) ∷ []) (more_stmts (return_ 1 3 (Some (address (ptr int_t) (name int_t (Local 0))))) no_stmts) 2 5 ∷ (body n-main int_t 3 10 [] (more_stmts (return_ 4 15 (Some (unary int_t Not (binary (ptr int_t) Add (call (ptr int_t) (name (fun int_t) (Func 0)) no_args) (int int_t 0))))) no_stmts) 5 20 ∷ [])) } ∷ []); classes = ([] ∷ []) }

dead_plus_is : report dead_plus (run dead_plus [] no_changes 60) ≡ record { why = Leaves 2; turns = 5; output = []; lines = (15 ∷ []) }
unfolding up_to extend add32 sub32 mul32 flip32 is_negative magnitude signed_as quotient remainder traps shift_left shift_right less
dead_plus_is = refl

abbrev pub member_of_null : Program
member_of_null = record { units = (record { tags = lay [] (record { name = n-s; kind = Struct; members = (record { name = n-v; off = 0; ty = int_t } ∷ (record { name = n-w; off = 0; ty = int_t } ∷ [])); size = 0; align = 1 } ∷ []); texts = []; exts = (body n-main int_t 0 10 (decl (auto (declr n-p (ptr (struct 0))) 0) ∷ []) (more_stmts (return_ 1 15 (Some (binary int_t Eq (address (ptr int_t) (arrow int_t (name (ptr (struct 0)) (Local 0)) 1)) (convert (ptr int_t) (int int_t 0))))) no_stmts) 2 20 ∷ []) } ∷ []); classes = ((0 ∷ []) ∷ []) }

member_of_null_is : report member_of_null (run member_of_null [] no_changes 60) ≡ record { why = Leaves 2; turns = 2; output = []; lines = (15 ∷ []) }
unfolding up_to extend add32 sub32 mul32 flip32 is_negative magnitude signed_as quotient remainder traps shift_left shift_right less
member_of_null_is = refl

abbrev pub array_of_null : Program
array_of_null = record { units = (record { tags = lay [] (record { name = n-s; kind = Struct; members = (record { name = n-v; off = 0; ty = (arr 2 int_t) } ∷ []); size = 0; align = 1 } ∷ []); texts = []; exts = (body n-main int_t 0 10 (decl (auto (declr n-p (ptr (struct 0))) 0) ∷ []) (more_stmts (return_ 1 15 (Some (unary int_t Not (decay (ptr int_t) (arrow (arr 2 int_t) (name (ptr (struct 0)) (Local 0)) 0))))) no_stmts) 2 20 ∷ []) } ∷ []); classes = ((0 ∷ []) ∷ []) }

array_of_null_is : report array_of_null (run array_of_null [] no_changes 60) ≡ record { why = Leaves 2; turns = 2; output = []; lines = (15 ∷ []) }
unfolding up_to extend add32 sub32 mul32 flip32 is_negative magnitude signed_as quotient remainder traps shift_left shift_right less
array_of_null_is = refl

abbrev pub member_at_end : Program
member_at_end = record { units = (record { tags = lay [] (record { name = n-s; kind = Struct; members = (record { name = n-v; off = 0; ty = int_t } ∷ (record { name = n-w; off = 0; ty = int_t } ∷ [])); size = 0; align = 1 } ∷ []); texts = []; exts = (body n-main int_t 0 10 (decl (auto (declr n-a (arr 2 (struct 0))) 0) ∷ []) (more_stmts (return_ 1 15 (Some (binary int_t Eq (address (ptr int_t) (arrow int_t (binary (ptr (struct 0)) Add (decay (ptr (struct 0)) (name (arr 2 (struct 0)) (Local 0))) (int int_t 2)) 1)) (convert (ptr int_t) (int int_t 0))))) no_stmts) 2 20 ∷ []) } ∷ []); classes = ((0 ∷ []) ∷ []) }

member_at_end_is : report member_at_end (run member_at_end [] no_changes 60) ≡ record { why = Leaves 2; turns = 2; output = []; lines = (15 ∷ []) }
unfolding up_to extend add32 sub32 mul32 flip32 is_negative magnitude signed_as quotient remainder traps shift_left shift_right less
member_at_end_is = refl

abbrev pub star_of_null : Program
star_of_null = record { units = (record { tags = []; texts = []; exts = (body n-main int_t 0 10 (decl (auto (declr n-p (ptr int_t)) 0) ∷ []) (more_stmts (return_ 1 15 (Some (binary int_t Eq (address (ptr int_t) (deref int_t (name (ptr int_t) (Local 0)))) (convert (ptr int_t) (int int_t 0))))) no_stmts) 2 20 ∷ []) } ∷ []); classes = ([] ∷ []) }

star_of_null_is : report star_of_null (run star_of_null [] no_changes 60) ≡ record { why = Ended 1; turns = 3; output = []; lines = [] }
unfolding up_to extend add32 sub32 mul32 flip32 is_negative magnitude signed_as quotient remainder traps shift_left shift_right less
star_of_null_is = refl

-- Rule 3: order and difference in two objects, a dead pointer, the end of an object.
abbrev pub order : Program
order = record { units = (record { tags = []; texts = []; exts = (object (plain int_t) (record { declr = (declr n-x int_t); bound = Outside; init = None } ∷ []) ∷ (object (plain int_t) (record { declr = (declr n-y int_t); bound = Outside; init = None } ∷ []) ∷ (body n-main int_t 0 10 [] (more_stmts (return_ 1 15 (Some (binary int_t Lt (address (ptr int_t) (name int_t (Ext n-x))) (address (ptr int_t) (name int_t (Ext n-y)))))) no_stmts) 2 20 ∷ []))) } ∷ []); classes = ([] ∷ []) }

order_is : report order (run order [] no_changes 60) ≡ record { why = Leaves 3; turns = 2; output = []; lines = (15 ∷ []) }
unfolding up_to extend add32 sub32 mul32 flip32 is_negative magnitude signed_as quotient remainder traps shift_left shift_right less
order_is = refl

abbrev pub apart : Program
apart = record { units = (record { tags = []; texts = []; exts = (object (plain int_t) (record { declr = (declr n-x int_t); bound = Outside; init = None } ∷ []) ∷ (object (plain int_t) (record { declr = (declr n-y int_t); bound = Outside; init = None } ∷ []) ∷ (body n-main int_t 0 10 [] (more_stmts (return_ 1 15 (Some (binary int_t Sub (address (ptr int_t) (name int_t (Ext n-x))) (address (ptr int_t) (name int_t (Ext n-y)))))) no_stmts) 2 20 ∷ []))) } ∷ []); classes = ([] ∷ []) }

apart_is : report apart (run apart [] no_changes 60) ≡ record { why = Leaves 3; turns = 2; output = []; lines = (15 ∷ []) }
unfolding up_to extend add32 sub32 mul32 flip32 is_negative magnitude signed_as quotient remainder traps shift_left shift_right less
apart_is = refl

abbrev pub null_order : Program
null_order = record { units = (record { tags = []; texts = []; exts = (body n-main int_t 0 10 (decl (auto (declr n-p (ptr int_t)) 0) ∷ (decl (auto (declr n-x int_t) 1) ∷ [])) (more_stmts (return_ 1 15 (Some (binary int_t Lt (name (ptr int_t) (Local 0)) (address (ptr int_t) (name int_t (Local 1)))))) no_stmts) 2 20 ∷ []) } ∷ []); classes = ([] ∷ []) }

null_order_is : report null_order (run null_order [] no_changes 60) ≡ record { why = Leaves 3; turns = 2; output = []; lines = (15 ∷ []) }
unfolding up_to extend add32 sub32 mul32 flip32 is_negative magnitude signed_as quotient remainder traps shift_left shift_right less
null_order_is = refl

abbrev pub nulls_order : Program
nulls_order = record { units = (record { tags = []; texts = []; exts = (body n-main int_t 0 10 (decl (auto (declr n-p (ptr int_t)) 0) ∷ []) (more_stmts (return_ 1 15 (Some (binary int_t Le (name (ptr int_t) (Local 0)) (name (ptr int_t) (Local 0))))) no_stmts) 2 20 ∷ []) } ∷ []); classes = ([] ∷ []) }

nulls_order_is : report nulls_order (run nulls_order [] no_changes 60) ≡ record { why = Ended 1; turns = 3; output = []; lines = [] }
unfolding up_to extend add32 sub32 mul32 flip32 is_negative magnitude signed_as quotient remainder traps shift_left shift_right less
nulls_order_is = refl

abbrev pub nulls_apart : Program
nulls_apart = record { units = (record { tags = []; texts = []; exts = (body n-main int_t 0 10 (decl (auto (declr n-p (ptr int_t)) 0) ∷ []) (more_stmts (return_ 1 15 (Some (binary int_t Sub (name (ptr int_t) (Local 0)) (name (ptr int_t) (Local 0))))) no_stmts) 2 20 ∷ []) } ∷ []); classes = ([] ∷ []) }

nulls_apart_is : report nulls_apart (run nulls_apart [] no_changes 60) ≡ record { why = Ended 0; turns = 3; output = []; lines = [] }
unfolding up_to extend add32 sub32 mul32 flip32 is_negative magnitude signed_as quotient remainder traps shift_left shift_right less
nulls_apart_is = refl

abbrev pub dead_equal : Program
dead_equal = record { units = (record { tags = []; texts = []; exts = (body n-f (ptr int_t) 0 1 (decl (auto (declr n-x int_t) 0) ∷ []) (more_stmts (return_ 1 3 (Some (address (ptr int_t) (name int_t (Local 0))))) no_stmts) 2 5 ∷ (body n-main int_t 3 10 [] (more_stmts (return_ 4 15 (Some (binary int_t Eq (call (ptr int_t) (name (fun int_t) (Func 0)) no_args) (convert (ptr int_t) (int int_t 0))))) no_stmts) 5 20 ∷ [])) } ∷ []); classes = ([] ∷ []) }

dead_equal_is : report dead_equal (run dead_equal [] no_changes 60) ≡ record { why = Leaves 3; turns = 5; output = []; lines = (15 ∷ []) }
unfolding up_to extend add32 sub32 mul32 flip32 is_negative magnitude signed_as quotient remainder traps shift_left shift_right less
dead_equal_is = refl

abbrev pub dead_not : Program
dead_not = record { units = (record { tags = []; texts = []; exts = (body n-f (ptr int_t) 0 1 (decl (auto (declr n-x int_t) 0) ∷ []) (more_stmts (return_ 1 3 (Some (address (ptr int_t) (name int_t (Local 0))))) no_stmts) 2 5 ∷ (body n-main int_t 3 10 [] (more_stmts (return_ 4 15 (Some (unary int_t Not (call (ptr int_t) (name (fun int_t) (Func 0)) no_args)))) no_stmts) 5 20 ∷ [])) } ∷ []); classes = ([] ∷ []) }

dead_not_is : report dead_not (run dead_not [] no_changes 60) ≡ record { why = Ended 0; turns = 6; output = []; lines = [] }
unfolding up_to extend add32 sub32 mul32 flip32 is_negative magnitude signed_as quotient remainder traps shift_left shift_right less
dead_not_is = refl

abbrev pub end_equal : Program
end_equal = record { units = (record { tags = []; texts = []; exts = (body n-main int_t 0 10 (decl (auto (declr n-a (arr 2 int_t)) 0) ∷ (decl (auto (declr n-b int_t) 1) ∷ [])) (more_stmts (return_ 1 15 (Some (binary int_t Eq (address (ptr int_t) (index int_t (decay (ptr int_t) (name (arr 2 int_t) (Local 0))) (int int_t 2))) (address (ptr int_t) (name int_t (Local 1)))))) no_stmts) 2 20 ∷ []) } ∷ []); classes = ([] ∷ []) }

end_equal_is : report end_equal (run end_equal [] no_changes 60) ≡ record { why = Leaves 3; turns = 2; output = []; lines = (15 ∷ []) }
unfolding up_to extend add32 sub32 mul32 flip32 is_negative magnitude signed_as quotient remainder traps shift_left shift_right less
end_equal_is = refl

abbrev pub inside_equal : Program
inside_equal = record { units = (record { tags = []; texts = []; exts = (body n-main int_t 0 10 (decl (auto (declr n-a (arr 2 int_t)) 0) ∷ (decl (auto (declr n-b int_t) 1) ∷ [])) (more_stmts (return_ 1 15 (Some (binary int_t Eq (address (ptr int_t) (index int_t (decay (ptr int_t) (name (arr 2 int_t) (Local 0))) (int int_t 1))) (address (ptr int_t) (name int_t (Local 1)))))) no_stmts) 2 20 ∷ []) } ∷ []); classes = ([] ∷ []) }

inside_equal_is : report inside_equal (run inside_equal [] no_changes 60) ≡ record { why = Ended 0; turns = 3; output = []; lines = [] }
unfolding up_to extend add32 sub32 mul32 flip32 is_negative magnitude signed_as quotient remainder traps shift_left shift_right less
inside_equal_is = refl

abbrev pub end_of_one : Program
end_of_one = record { units = (record { tags = []; texts = []; exts = (body n-main int_t 0 10 (decl (auto (declr n-a (arr 2 int_t)) 0) ∷ []) (more_stmts (return_ 1 15 (Some (binary int_t Eq (address (ptr int_t) (index int_t (decay (ptr int_t) (name (arr 2 int_t) (Local 0))) (int int_t 2))) (address (ptr int_t) (index int_t (decay (ptr int_t) (name (arr 2 int_t) (Local 0))) (int int_t 1)))))) no_stmts) 2 20 ∷ []) } ∷ []); classes = ([] ∷ []) }

end_of_one_is : report end_of_one (run end_of_one [] no_changes 60) ≡ record { why = Ended 0; turns = 3; output = []; lines = [] }
unfolding up_to extend add32 sub32 mul32 flip32 is_negative magnitude signed_as quotient remainder traps shift_left shift_right less
end_of_one_is = refl

abbrev pub null_equal : Program
null_equal = record { units = (record { tags = []; texts = []; exts = (body n-main int_t 0 10 (decl (auto (declr n-p (ptr int_t)) 0) ∷ (decl (auto (declr n-x int_t) 1) ∷ [])) (more_stmts (return_ 1 15 (Some (binary int_t Eq (name (ptr int_t) (Local 0)) (address (ptr int_t) (name int_t (Local 1)))))) no_stmts) 2 20 ∷ []) } ∷ []); classes = ([] ∷ []) }

null_equal_is : report null_equal (run null_equal [] no_changes 60) ≡ record { why = Ended 0; turns = 3; output = []; lines = [] }
unfolding up_to extend add32 sub32 mul32 flip32 is_negative magnitude signed_as quotient remainder traps shift_left shift_right less
null_equal_is = refl

-- Rule 4: a null pointer, another kind, another number; it goes before Stack.
abbrev pub call_null : Program
call_null = record { units = (record { tags = []; texts = []; exts = (body n-main int_t 0 10 (decl (auto (declr n-f (ptr (fun int_t))) 0) ∷ []) (more_stmts (return_ 1 15 (Some (call int_t (deref (fun int_t) (name (ptr (fun int_t)) (Local 0))) no_args))) no_stmts) 2 20 ∷ []) } ∷ []); classes = ([] ∷ []) }

call_null_is : report call_null (run call_null [] no_changes 60) ≡ record { why = Leaves 4; turns = 2; output = []; lines = (15 ∷ []) }
unfolding up_to extend add32 sub32 mul32 flip32 is_negative magnitude signed_as quotient remainder traps shift_left shift_right less
call_null_is = refl

abbrev pub call_kind : Program
call_kind = record { units = (record { tags = []; texts = []; exts = (body n-main int_t 0 10 (decl (auto_init (declr n-f (ptr (fun int_t))) 0 1 11 (designate (ptr (fun int_t)) (name (fun int_t) (Outer n-putchar)))) ∷ (decl (auto (declr n-x int_t) 1) ∷ [])) (more_stmts (return_ 2 15 (Some (call int_t (deref (fun int_t) (name (ptr (fun int_t)) (Local 0))) (more_args (address (ptr int_t) (name int_t (Local 1))) no_args)))) no_stmts) 3 20 ∷ []) } ∷ []); classes = ([] ∷ []) }

call_kind_is : report call_kind (run call_kind [] no_changes 60) ≡ record { why = Leaves 4; turns = 3; output = []; lines = (15 ∷ []) }
unfolding up_to extend add32 sub32 mul32 flip32 is_negative magnitude signed_as quotient remainder traps shift_left shift_right less
call_kind_is = refl

abbrev pub call_number : Program
call_number = record { units = (record { tags = []; texts = []; exts = (body n-main int_t 0 10 (decl (auto_init (declr n-f (ptr (fun int_t))) 0 1 11 (designate (ptr (fun int_t)) (name (fun int_t) (Outer n-getchar)))) ∷ []) (more_stmts (return_ 2 15 (Some (call int_t (deref (fun int_t) (name (ptr (fun int_t)) (Local 0))) (more_args (int int_t 1) no_args)))) no_stmts) 3 20 ∷ []) } ∷ []); classes = ([] ∷ []) }

call_number_is : report call_number (run call_number [] no_changes 60) ≡ record { why = Leaves 4; turns = 3; output = []; lines = (15 ∷ []) }
unfolding up_to extend add32 sub32 mul32 flip32 is_negative magnitude signed_as quotient remainder traps shift_left shift_right less
call_number_is = refl

-- Rule 5: copies of two cells where three stand.
abbrev three : State
three = record { chain = []; made = []; statics = record { size = 12; slots = slot_at 0 7 ∷ (slot_at 4 8 ∷ (slot_at 8 9 ∷ [])) } ∷ []; input = []; output = []; turns = 0 }

abbrev pair : List Cell
pair = record { off = 0; ty = int_t } ∷ (record { off = 4; ty = int_t } ∷ [])

copy_overlaps : copy_cells 8 pair (To (v.Static 0) 0) (To (v.Static 0) 4) three ≡ Halt (Leaves 5) three
copy_overlaps = refl

copy_to_itself : copy_cells 8 pair (To (v.Static 0) 4) (To (v.Static 0) 4) three ≡ Gave (Num 0) three
copy_to_itself = refl

copy_from_null : copy_cells 8 pair (To (v.Static 0) 9) Null three ≡ Halt (Fault 11) three
copy_from_null = refl

-- Signals and Stack.
abbrev pub star_null : Program
star_null = record { units = (record { tags = []; texts = []; exts = (body n-main int_t 0 10 (decl (auto (declr n-p (ptr int_t)) 0) ∷ []) (more_stmts (return_ 1 15 (Some (deref int_t (name (ptr int_t) (Local 0))))) no_stmts) 2 20 ∷ []) } ∷ []); classes = ([] ∷ []) }

star_null_is : report star_null (run star_null [] no_changes 60) ≡ record { why = Fault 11; turns = 2; output = []; lines = (15 ∷ []) }
unfolding up_to extend add32 sub32 mul32 flip32 is_negative magnitude signed_as quotient remainder traps shift_left shift_right less
star_null_is = refl

abbrev pub write_null : Program
write_null = record { units = (record { tags = []; texts = []; exts = (body n-main int_t 0 10 (decl (auto (declr n-p (ptr int_t)) 0) ∷ []) (more_stmts (return_ 1 15 (Some (assign int_t (deref int_t (name (ptr int_t) (Local 0))) (int int_t 1)))) no_stmts) 2 20 ∷ []) } ∷ []); classes = ([] ∷ []) }

write_null_is : report write_null (run write_null [] no_changes 60) ≡ record { why = Fault 11; turns = 2; output = []; lines = (15 ∷ []) }
unfolding up_to extend add32 sub32 mul32 flip32 is_negative magnitude signed_as quotient remainder traps shift_left shift_right less
write_null_is = refl

abbrev pub overflow : Program
overflow = record { units = (record { tags = []; texts = []; exts = (body n-main int_t 0 10 [] (more_stmts (return_ 1 15 (Some (binary int_t Div (unary int_t Neg (int uint_t 2147483648)) (unary int_t Neg (int int_t 1))))) no_stmts) 2 20 ∷ []) } ∷ []); classes = ([] ∷ []) }

overflow_is : report overflow (run overflow [] no_changes 60) ≡ record { why = Fault 8; turns = 2; output = []; lines = (15 ∷ []) }
unfolding up_to extend add32 sub32 mul32 flip32 is_negative magnitude signed_as quotient remainder traps shift_left shift_right less
overflow_is = refl

abbrev pub rest_overflow : Program
rest_overflow = record { units = (record { tags = []; texts = []; exts = (body n-main int_t 0 10 [] (more_stmts (return_ 1 15 (Some (binary int_t Rem (unary int_t Neg (int uint_t 2147483648)) (unary int_t Neg (int int_t 1))))) no_stmts) 2 20 ∷ []) } ∷ []); classes = ([] ∷ []) }

rest_overflow_is : report rest_overflow (run rest_overflow [] no_changes 60) ≡ record { why = Fault 8; turns = 2; output = []; lines = (15 ∷ []) }
unfolding up_to extend add32 sub32 mul32 flip32 is_negative magnitude signed_as quotient remainder traps shift_left shift_right less
rest_overflow_is = refl

abbrev pub rest_zero : Program
rest_zero = record { units = (record { tags = []; texts = []; exts = (body n-main int_t 0 10 [] (more_stmts (return_ 1 15 (Some (binary uint_t Rem (int uint_t 7) (int uint_t 0)))) no_stmts) 2 20 ∷ []) } ∷ []); classes = ([] ∷ []) }

rest_zero_is : report rest_zero (run rest_zero [] no_changes 60) ≡ record { why = Fault 8; turns = 2; output = []; lines = (15 ∷ []) }
unfolding up_to extend add32 sub32 mul32 flip32 is_negative magnitude signed_as quotient remainder traps shift_left shift_right less
rest_zero_is = refl

abbrev pub stack : Program
stack = record { units = (record { tags = []; texts = []; exts = (body n-main int_t 0 10 (decl (auto (declr n-a (arr 65535 char_t)) 0) ∷ (decl (auto (declr n-a (arr 65535 char_t)) 1) ∷ (decl (auto (declr n-a (arr 65535 char_t)) 2) ∷ (decl (auto (declr n-a (arr 65535 char_t)) 3) ∷ (decl (auto (declr n-a (arr 65535 char_t)) 4) ∷ (decl (auto (declr n-a (arr 65535 char_t)) 5) ∷ (decl (auto (declr n-a (arr 65535 char_t)) 6) ∷ (decl (auto (declr n-a (arr 65535 char_t)) 7) ∷ (decl (auto (declr n-a (arr 65535 char_t)) 8) ∷ (decl (auto (declr n-a (arr 65535 char_t)) 9) ∷ (decl (auto (declr n-a (arr 65535 char_t)) 10) ∷ (decl (auto (declr n-a (arr 65535 char_t)) 11) ∷ (decl (auto (declr n-a (arr 65535 char_t)) 12) ∷ (decl (auto (declr n-a (arr 65535 char_t)) 13) ∷ (decl (auto (declr n-a (arr 65535 char_t)) 14) ∷ (decl (auto (declr n-a (arr 65535 char_t)) 15) ∷ (decl (auto (declr n-a (arr 65535 char_t)) 16) ∷ (decl (auto (declr n-a (arr 65535 char_t)) 17) ∷ (decl (auto (declr n-a (arr 65535 char_t)) 18) ∷ (decl (auto (declr n-a (arr 65535 char_t)) 19) ∷ (decl (auto (declr n-a (arr 65535 char_t)) 20) ∷ (decl (auto (declr n-a (arr 65535 char_t)) 21) ∷ (decl (auto (declr n-a (arr 65535 char_t)) 22) ∷ (decl (auto (declr n-a (arr 65535 char_t)) 23) ∷ (decl (auto (declr n-a (arr 65535 char_t)) 24) ∷ (decl (auto (declr n-a (arr 65535 char_t)) 25) ∷ (decl (auto (declr n-a (arr 65535 char_t)) 26) ∷ (decl (auto (declr n-a (arr 65535 char_t)) 27) ∷ (decl (auto (declr n-a (arr 65535 char_t)) 28) ∷ (decl (auto (declr n-a (arr 65535 char_t)) 29) ∷ (decl (auto (declr n-a (arr 65535 char_t)) 30) ∷ (decl (auto (declr n-a (arr 65535 char_t)) 31) ∷ (decl (auto (declr n-a (arr 65535 char_t)) 32) ∷ (decl (auto (declr n-a (arr 65535 char_t)) 33) ∷ (decl (auto (declr n-a (arr 65535 char_t)) 34) ∷ (decl (auto (declr n-a (arr 65535 char_t)) 35) ∷ (decl (auto (declr n-a (arr 65535 char_t)) 36) ∷ (decl (auto (declr n-a (arr 65535 char_t)) 37) ∷ (decl (auto (declr n-a (arr 65535 char_t)) 38) ∷ (decl (auto (declr n-a (arr 65535 char_t)) 39) ∷ (decl (auto (declr n-a (arr 65535 char_t)) 40) ∷ (decl (auto (declr n-a (arr 65535 char_t)) 41) ∷ (decl (auto (declr n-a (arr 65535 char_t)) 42) ∷ (decl (auto (declr n-a (arr 65535 char_t)) 43) ∷ (decl (auto (declr n-a (arr 65535 char_t)) 44) ∷ (decl (auto (declr n-a (arr 65535 char_t)) 45) ∷ (decl (auto (declr n-a (arr 65535 char_t)) 46) ∷ (decl (auto (declr n-a (arr 65535 char_t)) 47) ∷ (decl (auto (declr n-a (arr 65535 char_t)) 48) ∷ (decl (auto (declr n-a (arr 65535 char_t)) 49) ∷ (decl (auto (declr n-a (arr 65535 char_t)) 50) ∷ (decl (auto (declr n-a (arr 65535 char_t)) 51) ∷ (decl (auto (declr n-a (arr 65535 char_t)) 52) ∷ (decl (auto (declr n-a (arr 65535 char_t)) 53) ∷ (decl (auto (declr n-a (arr 65535 char_t)) 54) ∷ (decl (auto (declr n-a (arr 65535 char_t)) 55) ∷ (decl (auto (declr n-a (arr 65535 char_t)) 56) ∷ (decl (auto (declr n-a (arr 65535 char_t)) 57) ∷ (decl (auto (declr n-a (arr 65535 char_t)) 58) ∷ (decl (auto (declr n-a (arr 65535 char_t)) 59) ∷ (decl (auto (declr n-a (arr 65535 char_t)) 60) ∷ (decl (auto (declr n-a (arr 65535 char_t)) 61) ∷ (decl (auto (declr n-a (arr 65535 char_t)) 62) ∷ (decl (auto (declr n-a (arr 65535 char_t)) 63) ∷ (decl (auto (declr n-a (arr 65535 char_t)) 64) ∷ []))))))))))))))))))))))))))))))))))))))))))))))))))))))))))))))))) (more_stmts (return_ 1 15 (Some (int int_t 0))) no_stmts) 2 20 ∷ []) } ∷ []); classes = ([] ∷ []) }

stack_is : report stack (run stack [] no_changes 60) ≡ record { why = Stack; turns = 0; output = []; lines = [] }
unfolding up_to extend add32 sub32 mul32 flip32 is_negative magnitude signed_as quotient remainder traps shift_left shift_right less
stack_is = refl

abbrev pub deep : Program
deep = record { units = (record { tags = []; texts = []; exts = (body n-f int_t 0 1 (decl (auto (declr n-a (arr 65535 char_t)) 0) ∷ (decl (auto (declr n-a (arr 65535 char_t)) 1) ∷ (decl (auto (declr n-a (arr 65535 char_t)) 2) ∷ (decl (auto (declr n-a (arr 65535 char_t)) 3) ∷ (decl (auto (declr n-a (arr 65535 char_t)) 4) ∷ (decl (auto (declr n-a (arr 65535 char_t)) 5) ∷ (decl (auto (declr n-a (arr 65535 char_t)) 6) ∷ (decl (auto (declr n-a (arr 65535 char_t)) 7) ∷ (decl (auto (declr n-a (arr 65535 char_t)) 8) ∷ (decl (auto (declr n-a (arr 65535 char_t)) 9) ∷ (decl (auto (declr n-a (arr 65535 char_t)) 10) ∷ (decl (auto (declr n-a (arr 65535 char_t)) 11) ∷ (decl (auto (declr n-a (arr 65535 char_t)) 12) ∷ (decl (auto (declr n-a (arr 65535 char_t)) 13) ∷ (decl (auto (declr n-a (arr 65535 char_t)) 14) ∷ (decl (auto (declr n-a (arr 65535 char_t)) 15) ∷ (decl (auto (declr n-a (arr 65535 char_t)) 16) ∷ (decl (auto (declr n-a (arr 65535 char_t)) 17) ∷ (decl (auto (declr n-a (arr 65535 char_t)) 18) ∷ (decl (auto (declr n-a (arr 65535 char_t)) 19) ∷ [])))))))))))))))))))) (more_stmts (return_ 1 3 (Some (call int_t (name (fun int_t) (Func 0)) no_args))) no_stmts) 2 5 ∷ (body n-main int_t 3 10 [] (more_stmts (return_ 4 15 (Some (call int_t (name (fun int_t) (Func 0)) no_args))) no_stmts) 5 20 ∷ [])) } ∷ []); classes = ([] ∷ []) }

deep_is : report deep (run deep [] no_changes 60) ≡ record { why = Stack; turns = 8; output = []; lines = (3 ∷ (3 ∷ (3 ∷ (15 ∷ [])))) }
unfolding up_to extend add32 sub32 mul32 flip32 is_negative magnitude signed_as quotient remainder traps shift_left shift_right less
deep_is = refl
