-- Worked programs as typed trees, and what they compute to.
use Rattle.std.specs.Prelude.{◌≡◌, [], ◌∷◌, Some, None, false, refl, nat_eq}
use Rattle.c_type.specs.declared.Kind.TheVariants as kinds
use Rattle.c_type.specs.Names.{Name, pick}
use Rattle.c_type.specs.Types.{ptr, arr, struct, fun}
use Rattle.c_type.specs.declared.TagKind.TheVariants.{Struct}
use Rattle.c_type.specs.Sizes.{lay, up_to}
use Rattle.c_type.specs.Kinds.{extend, convert as convert_to}
use Rattle.c_tree.specs.Arith.{add32, sub32, mul32, flip32, is_negative, magnitude, signed_as, quotient, remainder, traps, shift_left, shift_right, less}
use Rattle.c_tree.specs.TExpr.{Local, Param, Static, Ext, Func, Outer, name, int, address, step, convert, decay, binary, assign, index, call, member, arrow, no_args, more_args}
use Rattle.c_tree.specs.declared.typed_expr.TBinary.TheVariants.{Div, Add, Sub, Lt, Eq}
use Rattle.c_tree.specs.declared.typed_expr.TStep.TheVariants.{PostInc, PostDec}
use Rattle.c_tree.specs.TStmt.{single, group, no_inits, more_inits, expr, if_only, while_, for_, return_, block, no_stmts, more_stmts, auto}
use Rattle.c_tree.specs.TUnit.{Program, plain, object, func}
use Rattle.c_tree.specs.declared.typed_unit.Bound.TheVariants.{Own, Outside}
use Rattle.c_run.specs.Values.{Num, Null, To, Stopped, NoFuel, Stack, Ended, Fault, Leaves, Ill}
use Rattle.c_run.specs.Values as v
use Rattle.c_run.specs.State.{Changes, no_changes}
use Rattle.c_tree.specs.Starts.{starts, first_in}
use Rattle.c_run.specs.Run.{run}
use Rattle.c_rows.proofs.Seen.{int_t, char_t, declr, decl, body, unit_at, report, held, shown, placed}

abbrev n-main : Name
n-main = 109 ∷ (97 ∷ (105 ∷ (110 ∷ [])))

abbrev n-g : Name
n-g = 103 ∷ []

abbrev n-x : Name
n-x = 120 ∷ []

abbrev n-putchar : Name
n-putchar = 112 ∷ (117 ∷ (116 ∷ (99 ∷ (104 ∷ (97 ∷ (114 ∷ []))))))

abbrev n-i : Name
n-i = 105 ∷ []

abbrev n-n : Name
n-n = 110 ∷ []

abbrev n-f : Name
n-f = 102 ∷ []

abbrev n-z : Name
n-z = 122 ∷ []

abbrev n-cnt : Name
n-cnt = 99 ∷ (110 ∷ (116 ∷ []))

abbrev n-list : Name
n-list = 108 ∷ (105 ∷ (115 ∷ (116 ∷ [])))

abbrev n-head : Name
n-head = 104 ∷ (101 ∷ (97 ∷ (100 ∷ [])))

abbrev n-node : Name
n-node = 110 ∷ (111 ∷ (100 ∷ (101 ∷ [])))

abbrev n-v : Name
n-v = 118 ∷ []

abbrev n-next : Name
n-next = 110 ∷ (101 ∷ (120 ∷ (116 ∷ [])))

abbrev n-b : Name
n-b = 98 ∷ []

abbrev n-a : Name
n-a = 97 ∷ []

abbrev n-l : Name
n-l = 108 ∷ []

abbrev n-p : Name
n-p = 112 ∷ []

abbrev n-c : Name
n-c = 99 ∷ []

abbrev n-s : Name
n-s = 115 ∷ []

-- main() { return 259; }
abbrev pub two : Program
two = record { units = (record { tags = []; texts = []; exts = (body n-main int_t 0 1 [] (more_stmts (return_ 1 1 (Some (int int_t 259))) no_stmts) 2 1 ∷ []) } ∷ []); classes = ([] ∷ []) }

two_ends : report two (run two [] no_changes 50) ≡ record { why = Ended 3; turns = 3; output = []; lines = [] }
unfolding up_to extend add32 sub32 mul32 flip32 is_negative magnitude signed_as quotient remainder traps shift_left shift_right less
two_ends = refl

-- int g; main() { int x; x = 5; g = x + 1; return g; }
abbrev pub four : Program
four = record { units = (record { tags = []; texts = []; exts = (object (plain int_t) (record { declr = (declr n-g int_t); bound = Outside; init = None } ∷ []) ∷ (body n-main int_t 0 3 (decl (auto (declr n-x int_t) 0) ∷ []) (more_stmts (expr 1 5 (assign int_t (name int_t (Local 0)) (int int_t 5))) (more_stmts (expr 2 6 (assign int_t (name int_t (Ext n-g)) (binary int_t Add (name int_t (Local 0)) (int int_t 1)))) (more_stmts (return_ 3 7 (Some (name int_t (Ext n-g)))) no_stmts))) 4 8 ∷ [])) } ∷ []); classes = ([] ∷ []) }

four_ends : report four (run four [] no_changes 50) ≡ record { why = Ended 6; turns = 5; output = []; lines = [] }
unfolding up_to extend add32 sub32 mul32 flip32 is_negative magnitude signed_as quotient remainder traps shift_left shift_right less
four_ends = refl

four_stops : report four (run four [] no_changes 3) ≡ record { why = Stopped; turns = 3; output = []; lines = (6 ∷ []) }
unfolding up_to extend add32 sub32 mul32 flip32 is_negative magnitude signed_as quotient remainder traps shift_left shift_right less
four_stops = refl

-- `x!40` where line 6 begins
abbrev x_is_40 : Changes
x_is_40 t = pick (nat_eq t 3) (record { object = v.Local 0 0; off = 0; value = Num 40 } ∷ []) []

four_changed : report four (run four [] x_is_40 50) ≡ record { why = Ended 41; turns = 5; output = []; lines = [] }
unfolding up_to extend add32 sub32 mul32 flip32 is_negative magnitude signed_as quotient remainder traps shift_left shift_right less
four_changed = refl

five_turns : report four (run four [] no_changes 5) ≡ record { why = Stopped; turns = 5; output = []; lines = (8 ∷ []) }
unfolding up_to extend add32 sub32 mul32 flip32 is_negative magnitude signed_as quotient remainder traps shift_left shift_right less
five_turns = refl

four_x : shown four (run four [] no_changes 3) n-x ≡ Some (Num 5)
unfolding up_to extend add32 sub32 mul32 flip32 is_negative magnitude signed_as quotient remainder traps shift_left shift_right less
four_x = refl

four_g : shown four (run four [] no_changes 3) n-g ≡ Some (Num 0)
unfolding up_to extend add32 sub32 mul32 flip32 is_negative magnitude signed_as quotient remainder traps shift_left shift_right less
four_g = refl

four_x_place : placed four (run four [] no_changes 3) n-x ≡ Some 2147483636
unfolding up_to extend add32 sub32 mul32 flip32 is_negative magnitude signed_as quotient remainder traps shift_left shift_right less
four_x_place = refl

four_g_place : placed four (run four [] no_changes 3) n-g ≡ Some 4194304
unfolding up_to extend add32 sub32 mul32 flip32 is_negative magnitude signed_as quotient remainder traps shift_left shift_right less
four_g_place = refl

-- main() { int i; for (i = 0; i < 3; i++) putchar('a'); }
abbrev pub six : Program
six = record { units = (record { tags = []; texts = []; exts = (body n-main int_t 0 2 (decl (auto (declr n-i int_t) 0) ∷ []) (more_stmts (for_ 1 4 (Some (assign int_t (name int_t (Local 0)) (int int_t 0))) (Some (binary int_t Lt (name int_t (Local 0)) (int int_t 3))) (Some (step int_t PostInc (name int_t (Local 0)))) (expr 4 4 (call int_t (name (fun int_t) (Outer n-putchar)) (more_args (int int_t 97) no_args)))) no_stmts) 5 5 ∷ []) } ∷ []); classes = ([] ∷ []) }

six_ends : report six (run six [] no_changes 50) ≡ record { why = Ended 0; turns = 13; output = (97 ∷ (97 ∷ (97 ∷ []))); lines = [] }
unfolding up_to extend add32 sub32 mul32 flip32 is_negative magnitude signed_as quotient remainder traps shift_left shift_right less
six_ends = refl

-- the line of a `for` is broken at its first part
six_first : first_in (starts (unit_at six 0)) 4 ≡ Some 1
unfolding up_to extend add32 sub32 mul32 flip32 is_negative magnitude signed_as quotient remainder traps shift_left shift_right less
six_first = refl

-- main() { int n; n = 2; while (n) n--; return n; }
abbrev pub seven : Program
seven = record { units = (record { tags = []; texts = []; exts = (body n-main int_t 0 2 (decl (auto (declr n-n int_t) 0) ∷ []) (more_stmts (expr 1 4 (assign int_t (name int_t (Local 0)) (int int_t 2))) (more_stmts (while_ 2 5 (name int_t (Local 0)) (expr 3 5 (step int_t PostDec (name int_t (Local 0))))) (more_stmts (return_ 4 6 (Some (name int_t (Local 0)))) no_stmts))) 5 7 ∷ []) } ∷ []); classes = ([] ∷ []) }

seven_ends : report seven (run seven [] no_changes 50) ≡ record { why = Ended 0; turns = 9; output = []; lines = [] }
unfolding up_to extend add32 sub32 mul32 flip32 is_negative magnitude signed_as quotient remainder traps shift_left shift_right less
seven_ends = refl

-- f(n) int n; { if (n == 0) return 0; return n + f(n - 1); } main() { return f(3); }
abbrev pub eight : Program
eight = record { units = (record { tags = []; texts = []; exts = (func (plain int_t) (record { name = n-f; is_static = false; result = int_t; params = (record { name = n-n; ty = int_t } ∷ []); declared = []; open_ = 0; line = 3; locals = []; stmts = (more_stmts (if_only 1 4 (binary int_t Eq (name int_t (Param 0)) (int int_t 0)) (return_ 2 5 (Some (int int_t 0)))) (more_stmts (return_ 3 6 (Some (binary int_t Add (name int_t (Param 0)) (call int_t (name (fun int_t) (Func 0)) (more_args (binary int_t Sub (name int_t (Param 0)) (int int_t 1)) no_args))))) no_stmts)); close = 4; close_line = 7 }) ∷ (body n-main int_t 5 9 [] (more_stmts (return_ 6 10 (Some (call int_t (name (fun int_t) (Func 0)) (more_args (int int_t 3) no_args)))) no_stmts) 7 11 ∷ [])) } ∷ []); classes = ([] ∷ []) }

eight_stops : report eight (run eight [] no_changes 15) ≡ record { why = Stopped; turns = 15; output = []; lines = (7 ∷ (6 ∷ (6 ∷ (6 ∷ (10 ∷ []))))) }
unfolding up_to extend add32 sub32 mul32 flip32 is_negative magnitude signed_as quotient remainder traps shift_left shift_right less
eight_stops = refl

eight_ends : report eight (run eight [] no_changes 50) ≡ record { why = Ended 6; turns = 19; output = []; lines = [] }
unfolding up_to extend add32 sub32 mul32 flip32 is_negative magnitude signed_as quotient remainder traps shift_left shift_right less
eight_ends = refl

eight_n : shown eight (run eight [] no_changes 15) n-n ≡ Some (Num 0)
unfolding up_to extend add32 sub32 mul32 flip32 is_negative magnitude signed_as quotient remainder traps shift_left shift_right less
eight_n = refl

-- int z; g() { z = 1; } main() { g(); z = 2; return z; }
abbrev pub nine : Program
nine = record { units = (record { tags = []; texts = []; exts = (object (plain int_t) (record { declr = (declr n-z int_t); bound = Outside; init = None } ∷ []) ∷ (body n-g int_t 0 3 [] (more_stmts (expr 1 4 (assign int_t (name int_t (Ext n-z)) (int int_t 1))) no_stmts) 2 5 ∷ (body n-main int_t 3 7 [] (more_stmts (expr 4 8 (call int_t (name (fun int_t) (Func 0)) no_args)) (more_stmts (expr 5 9 (assign int_t (name int_t (Ext n-z)) (int int_t 2))) (more_stmts (return_ 6 10 (Some (name int_t (Ext n-z)))) no_stmts))) 7 11 ∷ []))) } ∷ []); classes = ([] ∷ []) }

nine_steps_1 : report nine (run nine [] no_changes 3) ≡ record { why = Stopped; turns = 3; output = []; lines = (3 ∷ (8 ∷ [])) }
unfolding up_to extend add32 sub32 mul32 flip32 is_negative magnitude signed_as quotient remainder traps shift_left shift_right less
nine_steps_1 = refl

nine_steps_2 : report nine (run nine [] no_changes 4) ≡ record { why = Stopped; turns = 4; output = []; lines = (4 ∷ (8 ∷ [])) }
unfolding up_to extend add32 sub32 mul32 flip32 is_negative magnitude signed_as quotient remainder traps shift_left shift_right less
nine_steps_2 = refl

nine_steps_3 : report nine (run nine [] no_changes 5) ≡ record { why = Stopped; turns = 5; output = []; lines = (5 ∷ (8 ∷ [])) }
unfolding up_to extend add32 sub32 mul32 flip32 is_negative magnitude signed_as quotient remainder traps shift_left shift_right less
nine_steps_3 = refl

nine_steps_4 : report nine (run nine [] no_changes 6) ≡ record { why = Stopped; turns = 6; output = []; lines = (9 ∷ []) }
unfolding up_to extend add32 sub32 mul32 flip32 is_negative magnitude signed_as quotient remainder traps shift_left shift_right less
nine_steps_4 = refl

nine_ends : report nine (run nine [] no_changes 50) ≡ record { why = Ended 2; turns = 8; output = []; lines = [] }
unfolding up_to extend add32 sub32 mul32 flip32 is_negative magnitude signed_as quotient remainder traps shift_left shift_right less
nine_ends = refl

-- main() { int x; x = 1; { int x; x = 2; x = x + 1; } return x; }
abbrev pub ten : Program
ten = record { units = (record { tags = []; texts = []; exts = (body n-main int_t 0 2 (decl (auto (declr n-x int_t) 0) ∷ []) (more_stmts (expr 1 4 (assign int_t (name int_t (Local 0)) (int int_t 1))) (more_stmts (block 5 (decl (auto (declr n-x int_t) 1) ∷ []) (more_stmts (expr 2 7 (assign int_t (name int_t (Local 1)) (int int_t 2))) (more_stmts (expr 3 8 (assign int_t (name int_t (Local 1)) (binary int_t Add (name int_t (Local 1)) (int int_t 1)))) no_stmts)) 9) (more_stmts (return_ 4 10 (Some (name int_t (Local 0)))) no_stmts))) 5 11 ∷ []) } ∷ []); classes = ([] ∷ []) }

ten_inner : shown ten (run ten [] no_changes 4) n-x ≡ Some (Num 2)
unfolding up_to extend add32 sub32 mul32 flip32 is_negative magnitude signed_as quotient remainder traps shift_left shift_right less
ten_inner = refl

ten_outer : shown ten (run ten [] no_changes 5) n-x ≡ Some (Num 1)
unfolding up_to extend add32 sub32 mul32 flip32 is_negative magnitude signed_as quotient remainder traps shift_left shift_right less
ten_outer = refl

ten_ends : report ten (run ten [] no_changes 50) ≡ record { why = Ended 1; turns = 6; output = []; lines = [] }
unfolding up_to extend add32 sub32 mul32 flip32 is_negative magnitude signed_as quotient remainder traps shift_left shift_right less
ten_ends = refl

-- a.c: static int cnt; main() { cnt = 1; g(); return cnt; }   b.c: static int cnt = 5; g() { cnt = cnt + 1; }
abbrev pub eleven : Program
eleven = record { units = (record { tags = []; texts = []; exts = (object (plain int_t) (record { declr = (declr n-cnt int_t); bound = (Own 0); init = None } ∷ []) ∷ (body n-main int_t 0 3 [] (more_stmts (expr 1 4 (assign int_t (name int_t (Static 0)) (int int_t 1))) (more_stmts (expr 2 5 (call int_t (name (fun int_t) (Outer n-g)) no_args)) (more_stmts (return_ 3 6 (Some (name int_t (Static 0)))) no_stmts))) 4 7 ∷ [])) } ∷ (record { tags = []; texts = []; exts = (object (plain int_t) (record { declr = (declr n-cnt int_t); bound = (Own 0); init = (Some (single (int int_t 5))) } ∷ []) ∷ (body n-g int_t 0 3 [] (more_stmts (expr 1 4 (assign int_t (name int_t (Static 0)) (binary int_t Add (name int_t (Static 0)) (int int_t 1)))) no_stmts) 2 5 ∷ [])) } ∷ [])); classes = ([] ∷ ([] ∷ [])) }

eleven_ends : report eleven (run eleven [] no_changes 50) ≡ record { why = Ended 1; turns = 8; output = []; lines = [] }
unfolding up_to extend add32 sub32 mul32 flip32 is_negative magnitude signed_as quotient remainder traps shift_left shift_right less
eleven_ends = refl

eleven_cnt : shown eleven (run eleven [] no_changes 7) n-cnt ≡ Some (Num 1)
unfolding up_to extend add32 sub32 mul32 flip32 is_negative magnitude signed_as quotient remainder traps shift_left shift_right less
eleven_cnt = refl

eleven_place : placed eleven (run eleven [] no_changes 7) n-cnt ≡ Some 4194308
unfolding up_to extend add32 sub32 mul32 flip32 is_negative magnitude signed_as quotient remainder traps shift_left shift_right less
eleven_place = refl

eleven_g_place : placed eleven (run eleven [] no_changes 5) n-cnt ≡ Some 4194304
unfolding up_to extend add32 sub32 mul32 flip32 is_negative magnitude signed_as quotient remainder traps shift_left shift_right less
eleven_g_place = refl

-- the ring of two structures, each initialised with the address of the other
abbrev pub twelve : Program
twelve = record { units = (record { tags = lay [] (record { name = n-list; kind = Struct; members = (record { name = n-head; off = 0; ty = (ptr (struct 1)) } ∷ []); size = 0; align = 1 } ∷ (record { name = n-node; kind = Struct; members = (record { name = n-v; off = 0; ty = int_t } ∷ (record { name = n-next; off = 0; ty = (ptr (struct 1)) } ∷ [])); size = 0; align = 1 } ∷ [])); texts = []; exts = (object (plain int_t) (record { declr = (declr n-b (struct 1)); bound = Outside; init = None } ∷ []) ∷ (object (plain int_t) (record { declr = (declr n-a (struct 1)); bound = Outside; init = (Some (group (more_inits (single (int int_t 1)) (more_inits (single (address (ptr (struct 1)) (name (struct 1) (Ext n-b)))) no_inits)))) } ∷ []) ∷ (object (plain int_t) (record { declr = (declr n-b (struct 1)); bound = Outside; init = (Some (group (more_inits (single (int int_t 2)) (more_inits (single (address (ptr (struct 1)) (name (struct 1) (Ext n-a)))) no_inits)))) } ∷ []) ∷ (object (plain int_t) (record { declr = (declr n-l (struct 0)); bound = Outside; init = (Some (group (more_inits (single (address (ptr (struct 1)) (name (struct 1) (Ext n-a)))) no_inits))) } ∷ []) ∷ (body n-main int_t 0 8 (decl (auto (declr n-p (ptr (struct 1))) 0) ∷ []) (more_stmts (expr 1 10 (assign (ptr (struct 1)) (name (ptr (struct 1)) (Local 0)) (member (ptr (struct 1)) (name (struct 0) (Ext n-l)) 0))) (more_stmts (return_ 2 11 (Some (arrow int_t (arrow (ptr (struct 1)) (name (ptr (struct 1)) (Local 0)) 1) 0))) no_stmts)) 3 12 ∷ []))))) } ∷ []); classes = ((0 ∷ (1 ∷ [])) ∷ []) }

twelve_ends : report twelve (run twelve [] no_changes 50) ≡ record { why = Ended 2; turns = 4; output = []; lines = [] }
unfolding up_to extend add32 sub32 mul32 flip32 is_negative magnitude signed_as quotient remainder traps shift_left shift_right less
twelve_ends = refl

twelve_b : placed twelve (run twelve [] no_changes 3) n-b ≡ Some 4194312
unfolding up_to extend add32 sub32 mul32 flip32 is_negative magnitude signed_as quotient remainder traps shift_left shift_right less
twelve_b = refl

-- char c[2]; main() { c[0] = 'x'; c[1] = 'y'; return 0; }, and c[0]!300
abbrev pub thirteen : Program
thirteen = record { units = (record { tags = []; texts = []; exts = (object (plain int_t) (record { declr = (declr n-c (arr 2 char_t)); bound = Outside; init = None } ∷ []) ∷ (body n-main int_t 0 3 [] (more_stmts (expr 1 4 (assign char_t (index char_t (decay (ptr char_t) (name (arr 2 char_t) (Ext n-c))) (int int_t 0)) (convert char_t (int int_t 120)))) (more_stmts (expr 2 5 (assign char_t (index char_t (decay (ptr char_t) (name (arr 2 char_t) (Ext n-c))) (int int_t 1)) (convert char_t (int int_t 121)))) (more_stmts (return_ 3 6 (Some (int int_t 0))) no_stmts))) 4 7 ∷ [])) } ∷ []); classes = ([] ∷ []) }

abbrev c_is_44 : Changes
c_is_44 t = pick (nat_eq t 4) (record { object = v.Static 0; off = 0; value = Num (convert_to kinds.Char 300) } ∷ []) []

thirteen_cells : held thirteen (run thirteen [] c_is_44 4) n-c ≡ Some (Num 44 ∷ (Num 121 ∷ []))
unfolding up_to extend add32 sub32 mul32 flip32 is_negative magnitude signed_as quotient remainder traps shift_left shift_right less
thirteen_cells = refl

thirteen_ends : report thirteen (run thirteen [] c_is_44 50) ≡ record { why = Ended 0; turns = 5; output = []; lines = [] }
unfolding up_to extend add32 sub32 mul32 flip32 is_negative magnitude signed_as quotient remainder traps shift_left shift_right less
thirteen_ends = refl

-- main() { int x, z; z = 0; x = 1 / z; return x; }
abbrev pub fourteen : Program
fourteen = record { units = (record { tags = []; texts = []; exts = (body n-main int_t 0 2 (decl (auto (declr n-x int_t) 0) ∷ (decl (auto (declr n-z int_t) 1) ∷ [])) (more_stmts (expr 1 4 (assign int_t (name int_t (Local 1)) (int int_t 0))) (more_stmts (expr 2 5 (assign int_t (name int_t (Local 0)) (binary int_t Div (int int_t 1) (name int_t (Local 1))))) (more_stmts (return_ 3 6 (Some (name int_t (Local 0)))) no_stmts))) 4 7 ∷ []) } ∷ []); classes = ([] ∷ []) }

fourteen_ends : report fourteen (run fourteen [] no_changes 50) ≡ record { why = Fault 8; turns = 3; output = []; lines = (5 ∷ []) }
unfolding up_to extend add32 sub32 mul32 flip32 is_negative magnitude signed_as quotient remainder traps shift_left shift_right less
fourteen_ends = refl

-- struct s { int v; }; main() { struct s *p; p = 0; return p->v; }
abbrev pub null : Program
null = record { units = (record { tags = lay [] (record { name = n-s; kind = Struct; members = (record { name = n-v; off = 0; ty = int_t } ∷ []); size = 0; align = 1 } ∷ []); texts = []; exts = (body n-main int_t 0 3 (decl (auto (declr n-p (ptr (struct 0))) 0) ∷ []) (more_stmts (expr 1 5 (assign (ptr (struct 0)) (name (ptr (struct 0)) (Local 0)) (convert (ptr (struct 0)) (int int_t 0)))) (more_stmts (return_ 2 6 (Some (arrow int_t (name (ptr (struct 0)) (Local 0)) 0))) no_stmts)) 3 7 ∷ []) } ∷ []); classes = ((0 ∷ []) ∷ []) }

null_ends : report null (run null [] no_changes 50) ≡ record { why = Fault 11; turns = 3; output = []; lines = (6 ∷ []) }
unfolding up_to extend add32 sub32 mul32 flip32 is_negative magnitude signed_as quotient remainder traps shift_left shift_right less
null_ends = refl

null_p : shown null (run null [] no_changes 50) n-p ≡ Some Null
unfolding up_to extend add32 sub32 mul32 flip32 is_negative magnitude signed_as quotient remainder traps shift_left shift_right less
null_p = refl

-- main() { int i; for (i = 0; i < 3; i++) putchar('a' + i); return i; }
abbrev pub abc : Program
abc = record { units = (record { tags = []; texts = []; exts = (body n-main int_t 0 2 (decl (auto (declr n-i int_t) 0) ∷ []) (more_stmts (for_ 1 4 (Some (assign int_t (name int_t (Local 0)) (int int_t 0))) (Some (binary int_t Lt (name int_t (Local 0)) (int int_t 3))) (Some (step int_t PostInc (name int_t (Local 0)))) (expr 4 5 (call int_t (name (fun int_t) (Outer n-putchar)) (more_args (binary int_t Add (int int_t 97) (name int_t (Local 0))) no_args)))) (more_stmts (return_ 5 6 (Some (name int_t (Local 0)))) no_stmts)) 6 7 ∷ []) } ∷ []); classes = ([] ∷ []) }

abc_stops : report abc (run abc [] no_changes 4) ≡ record { why = Stopped; turns = 4; output = []; lines = (5 ∷ []) }
unfolding up_to extend add32 sub32 mul32 flip32 is_negative magnitude signed_as quotient remainder traps shift_left shift_right less
abc_stops = refl

abc_stops_again : report abc (run abc [] no_changes 7) ≡ record { why = Stopped; turns = 7; output = (97 ∷ []); lines = (5 ∷ []) }
unfolding up_to extend add32 sub32 mul32 flip32 is_negative magnitude signed_as quotient remainder traps shift_left shift_right less
abc_stops_again = refl

abc_ends : report abc (run abc [] no_changes 50) ≡ record { why = Ended 3; turns = 14; output = (97 ∷ (98 ∷ (99 ∷ []))); lines = [] }
unfolding up_to extend add32 sub32 mul32 flip32 is_negative magnitude signed_as quotient remainder traps shift_left shift_right less
abc_ends = refl

-- main() { int a[2]; return a[2]; }
abbrev pub past : Program
past = record { units = (record { tags = []; texts = []; exts = (body n-main int_t 0 1 (decl (auto (declr n-a (arr 2 int_t)) 0) ∷ []) (more_stmts (return_ 1 1 (Some (index int_t (decay (ptr int_t) (name (arr 2 int_t) (Local 0))) (int int_t 2)))) no_stmts) 2 1 ∷ []) } ∷ []); classes = ([] ∷ []) }

past_leaves : report past (run past [] no_changes 50) ≡ record { why = Leaves 1; turns = 2; output = []; lines = (1 ∷ []) }
unfolding up_to extend add32 sub32 mul32 flip32 is_negative magnitude signed_as quotient remainder traps shift_left shift_right less
past_leaves = refl
