-- Small programs for the rest of evaluation, for names and places.
use Rattle.std.specs.Prelude.{◌≡◌, [], ◌∷◌, Some, None, true, false, refl, nat_eq}
use Rattle.c_type.specs.Names.{Name, pick}
use Rattle.c_type.specs.Types.{void, ptr, arr, struct, fun}
use Rattle.c_type.specs.declared.TagKind.TheVariants.{Struct, Enum}
use Rattle.c_type.specs.Sizes.{lay, up_to}
use Rattle.c_type.specs.Kinds.{extend}
use Rattle.c_tree.specs.Arith.{add32, sub32, mul32, flip32, is_negative, magnitude, signed_as, quotient, remainder, traps, shift_left, shift_right, less}
use Rattle.c_tree.specs.TExpr.{Local, Param, Static, Ext, Func, Outer, Const, name, int, text, unary, deref, address, step, size_of, cast, convert, decay, designate, binary, both, either, comma, choice, assign, update, index, call, member, arrow, no_args, more_args}
use Rattle.c_tree.specs.declared.typed_expr.TUnary.TheVariants.{Neg, Not}
use Rattle.c_tree.specs.declared.typed_expr.TBinary.TheVariants.{Div, Rem, Add, Sub, Shl, Shr, Lt, Le, Eq, Ne}
use Rattle.c_tree.specs.declared.typed_expr.TStep.TheVariants.{PreInc, PostInc}
use Rattle.c_tree.specs.TStmt.{single, bytes, group, no_inits, more_inits, expr, if_only, while_, do_, for_, switch, break_, continue_, return_, block, no_stmts, more_stmts, no_items, case_, default_, more_items, auto, auto_init, static_, extern_}
use Rattle.c_tree.specs.TUnit.{Program, plain, enum_body, tag_only, object, func}
use Rattle.c_tree.specs.declared.typed_unit.Bound.TheVariants.{Own, Outside, Elsewhere}
use Rattle.c_run.specs.Mentions as m
use Rattle.c_run.specs.Mentions.{in_exts, Use, Extern}
use Rattle.c_run.specs.Values.{Num, Null, To, Stopped, NoFuel, Stack, Ended, Fault, Leaves, Ill}
use Rattle.c_run.specs.Values as v
use Rattle.c_run.specs.State.{Changes, no_changes}
use Rattle.c_run.specs.Context.{linked}
use Rattle.c_run.specs.Place.{place}
use Rattle.c_run.specs.Run.{run}
use Rattle.c_rows.proofs.Seen.{int_t, char_t, short_t, uint_t, declr, sized, decl, body, unit_at, report, held, shown, placed}

abbrev n-putchar : Name
n-putchar = 112 ∷ (117 ∷ (116 ∷ (99 ∷ (104 ∷ (97 ∷ (114 ∷ []))))))

abbrev n-n : Name
n-n = 110 ∷ []

abbrev n-f : Name
n-f = 102 ∷ []

abbrev n-i : Name
n-i = 105 ∷ []

abbrev n-main : Name
n-main = 109 ∷ (97 ∷ (105 ∷ (110 ∷ [])))

abbrev n-b : Name
n-b = 98 ∷ []

abbrev n-a : Name
n-a = 97 ∷ []

abbrev n-s : Name
n-s = 115 ∷ []

abbrev n-v : Name
n-v = 118 ∷ []

abbrev n-c : Name
n-c = 99 ∷ []

abbrev n-x : Name
n-x = 120 ∷ []

abbrev n-getchar : Name
n-getchar = 103 ∷ (101 ∷ (116 ∷ (99 ∷ (104 ∷ (97 ∷ (114 ∷ []))))))

abbrev n-exit : Name
n-exit = 101 ∷ (120 ∷ (105 ∷ (116 ∷ [])))

abbrev n-k : Name
n-k = 107 ∷ []

abbrev n-node : Name
n-node = 110 ∷ (111 ∷ (100 ∷ (101 ∷ [])))

abbrev n-next : Name
n-next = 110 ∷ (101 ∷ (120 ∷ (116 ∷ [])))

abbrev n-other : Name
n-other = 111 ∷ (116 ∷ (104 ∷ (101 ∷ (114 ∷ []))))

abbrev n-q : Name
n-q = 113 ∷ []

abbrev n-h : Name
n-h = 104 ∷ []

abbrev n-p : Name
n-p = 112 ∷ []

abbrev n-g : Name
n-g = 103 ∷ []

abbrev n-Z : Name
n-Z = 90 ∷ []

abbrev n-e : Name
n-e = 101 ∷ []

abbrev n-t : Name
n-t = 116 ∷ []

abbrev n-u : Name
n-u = 117 ∷ []

abbrev n-w : Name
n-w = 119 ∷ []

abbrev n-y : Name
n-y = 121 ∷ []

-- switch with fallthrough, break and default
abbrev pub switches : Program
switches = record { units = (record { tags = []; texts = []; exts = (func (plain int_t) (record { name = n-f; is_static = false; result = int_t; params = (record { name = n-n; ty = int_t } ∷ []); declared = []; open_ = 0; line = 3; locals = []; stmts = (more_stmts (switch 1 4 (name int_t (Param 0)) (case_ (int int_t 1) 1 (more_items (expr 2 5 (call int_t (name (fun int_t) (Outer n-putchar)) (more_args (int int_t 49) no_args))) (case_ (int int_t 2) 2 (more_items (expr 3 6 (call int_t (name (fun int_t) (Outer n-putchar)) (more_args (int int_t 50) no_args))) (more_items (break_ 4 7) (default_ (more_items (expr 5 8 (call int_t (name (fun int_t) (Outer n-putchar)) (more_args (int int_t 100) no_args))) (case_ (int int_t 3) 3 (more_items (expr 6 9 (call int_t (name (fun int_t) (Outer n-putchar)) (more_args (int int_t 51) no_args))) no_items)))))))))) (more_stmts (expr 7 10 (call int_t (name (fun int_t) (Outer n-putchar)) (more_args (int int_t 46) no_args))) (more_stmts (return_ 8 11 (Some (int int_t 0))) no_stmts))); close = 9; close_line = 14 }) ∷ (body n-main int_t 10 15 (decl (auto (declr n-i int_t) 0) ∷ []) (more_stmts (for_ 11 17 (Some (assign int_t (name int_t (Local 0)) (int int_t 1))) (Some (binary int_t Le (name int_t (Local 0)) (int int_t 4))) (Some (step int_t PreInc (name int_t (Local 0)))) (block 17 [] (more_stmts (expr 14 18 (call int_t (name (fun int_t) (Func 0)) (more_args (name int_t (Local 0)) no_args))) no_stmts) 18)) (more_stmts (return_ 15 19 (Some (name int_t (Local 0)))) no_stmts)) 16 20 ∷ [])) } ∷ []); classes = ([] ∷ []) }

switches_is : report switches (run switches [] no_changes 200) ≡ record { why = Ended 5; turns = 45; output = (49 ∷ (50 ∷ (46 ∷ (50 ∷ (46 ∷ (51 ∷ (46 ∷ (100 ∷ (51 ∷ (46 ∷ [])))))))))); lines = [] }
unfolding up_to extend add32 sub32 mul32 flip32 is_negative magnitude signed_as quotient remainder traps shift_left shift_right less
switches_is = refl

-- structure assignment copies all cells
abbrev pub copies : Program
copies = record { units = (record { tags = lay [] (record { name = n-s; kind = Struct; members = (record { name = n-v; off = 0; ty = int_t } ∷ (record { name = n-c; off = 0; ty = char_t } ∷ [])); size = 0; align = 1 } ∷ []); texts = []; exts = (object (plain int_t) (record { declr = (declr n-a (struct 0)); bound = Outside; init = (Some (group (more_inits (single (int int_t 3)) (more_inits (single (int char_t 120)) no_inits)))) } ∷ []) ∷ (object (plain int_t) (record { declr = (declr n-b (struct 0)); bound = Outside; init = None } ∷ []) ∷ (body n-main int_t 0 5 [] (more_stmts (expr 1 6 (assign void (name (struct 0) (Ext n-b)) (name (struct 0) (Ext n-a)))) (more_stmts (expr 2 7 (assign int_t (member int_t (name (struct 0) (Ext n-a)) 0) (int int_t 9))) (more_stmts (return_ 3 8 (Some (binary int_t Add (member int_t (name (struct 0) (Ext n-b)) 0) (convert int_t (member char_t (name (struct 0) (Ext n-b)) 1))))) no_stmts))) 4 9 ∷ []))) } ∷ []); classes = ((0 ∷ []) ∷ []) }

copies_is : report copies (run copies [] no_changes 50) ≡ record { why = Ended 123; turns = 5; output = []; lines = [] }
unfolding up_to extend add32 sub32 mul32 flip32 is_negative magnitude signed_as quotient remainder traps shift_left shift_right less
copies_is = refl

-- char and short wrap, and the value of an assignment is what was stored
abbrev pub wraps : Program
wraps = record { units = (record { tags = []; texts = []; exts = (body n-main int_t 0 2 (decl (auto (declr n-c char_t) 0) ∷ []) (more_stmts (expr 1 4 (assign char_t (name char_t (Local 0)) (convert char_t (int int_t 127)))) (more_stmts (expr 2 5 (assign char_t (name char_t (Local 0)) (convert char_t (binary int_t Add (convert int_t (name char_t (Local 0))) (int int_t 1))))) (more_stmts (return_ 3 6 (Some (binary int_t Eq (convert int_t (name char_t (Local 0))) (unary int_t Neg (int int_t 128))))) no_stmts))) 4 7 ∷ []) } ∷ []); classes = ([] ∷ []) }

wraps_is : report wraps (run wraps [] no_changes 50) ≡ record { why = Ended 1; turns = 5; output = []; lines = [] }
unfolding up_to extend add32 sub32 mul32 flip32 is_negative magnitude signed_as quotient remainder traps shift_left shift_right less
wraps_is = refl

abbrev pub short_wraps : Program
short_wraps = record { units = (record { tags = []; texts = []; exts = (body n-main int_t 0 10 (decl (auto (declr n-s short_t) 0) ∷ []) (more_stmts (return_ 1 15 (Some (binary int_t Eq (convert int_t (assign short_t (name short_t (Local 0)) (convert short_t (int int_t 98304)))) (unary int_t Neg (int int_t 32768))))) no_stmts) 2 20 ∷ []) } ∷ []); classes = ([] ∷ []) }

short_wraps_is : report short_wraps (run short_wraps [] no_changes 60) ≡ record { why = Ended 1; turns = 3; output = []; lines = [] }
unfolding up_to extend add32 sub32 mul32 flip32 is_negative magnitude signed_as quotient remainder traps shift_left shift_right less
short_wraps_is = refl

abbrev pub char_steps : Program
char_steps = record { units = (record { tags = []; texts = []; exts = (body n-main int_t 0 10 (decl (auto_init (declr n-c char_t) 0 1 11 (convert char_t (int int_t 127))) ∷ []) (more_stmts (return_ 2 15 (Some (comma int_t (step char_t PreInc (name char_t (Local 0))) (convert int_t (name char_t (Local 0)))))) no_stmts) 3 20 ∷ []) } ∷ []); classes = ([] ∷ []) }

char_steps_is : report char_steps (run char_steps [] no_changes 60) ≡ record { why = Ended 128; turns = 4; output = []; lines = [] }
unfolding up_to extend add32 sub32 mul32 flip32 is_negative magnitude signed_as quotient remainder traps shift_left shift_right less
char_steps_is = refl

abbrev pub updates : Program
updates = record { units = (record { tags = []; texts = []; exts = (body n-main int_t 0 10 (decl (auto_init (declr n-c char_t) 0 1 11 (convert char_t (int int_t 100))) ∷ []) (more_stmts (return_ 2 15 (Some (convert int_t (update char_t Add int_t (name char_t (Local 0)) (int int_t 100))))) no_stmts) 3 20 ∷ []) } ∷ []); classes = ([] ∷ []) }

updates_is : report updates (run updates [] no_changes 60) ≡ record { why = Ended 200; turns = 4; output = []; lines = [] }
unfolding up_to extend add32 sub32 mul32 flip32 is_negative magnitude signed_as quotient remainder traps shift_left shift_right less
updates_is = refl

-- unsigned comparison, shifts, division toward zero
abbrev pub unsigned_less : Program
unsigned_less = record { units = (record { tags = []; texts = []; exts = (body n-main int_t 0 10 [] (more_stmts (return_ 1 15 (Some (binary int_t Lt (convert uint_t (unary int_t Neg (int int_t 1))) (convert uint_t (int int_t 1))))) no_stmts) 2 20 ∷ []) } ∷ []); classes = ([] ∷ []) }

unsigned_less_is : report unsigned_less (run unsigned_less [] no_changes 60) ≡ record { why = Ended 0; turns = 3; output = []; lines = [] }
unfolding up_to extend add32 sub32 mul32 flip32 is_negative magnitude signed_as quotient remainder traps shift_left shift_right less
unsigned_less_is = refl

abbrev pub signed_less : Program
signed_less = record { units = (record { tags = []; texts = []; exts = (body n-main int_t 0 10 [] (more_stmts (return_ 1 15 (Some (binary int_t Lt (unary int_t Neg (int int_t 1)) (int int_t 1)))) no_stmts) 2 20 ∷ []) } ∷ []); classes = ([] ∷ []) }

signed_less_is : report signed_less (run signed_less [] no_changes 60) ≡ record { why = Ended 1; turns = 3; output = []; lines = [] }
unfolding up_to extend add32 sub32 mul32 flip32 is_negative magnitude signed_as quotient remainder traps shift_left shift_right less
signed_less_is = refl

abbrev pub shift_signed : Program
shift_signed = record { units = (record { tags = []; texts = []; exts = (body n-main int_t 0 10 [] (more_stmts (return_ 1 15 (Some (binary int_t Shr (unary int_t Neg (int int_t 8)) (int int_t 1)))) no_stmts) 2 20 ∷ []) } ∷ []); classes = ([] ∷ []) }

shift_signed_is : report shift_signed (run shift_signed [] no_changes 60) ≡ record { why = Ended 252; turns = 3; output = []; lines = [] }
unfolding up_to extend add32 sub32 mul32 flip32 is_negative magnitude signed_as quotient remainder traps shift_left shift_right less
shift_signed_is = refl

abbrev pub shift_unsigned : Program
shift_unsigned = record { units = (record { tags = []; texts = []; exts = (body n-main int_t 0 10 [] (more_stmts (return_ 1 15 (Some (binary uint_t Shr (unary uint_t Neg (int uint_t 8)) (int int_t 28)))) no_stmts) 2 20 ∷ []) } ∷ []); classes = ([] ∷ []) }

shift_unsigned_is : report shift_unsigned (run shift_unsigned [] no_changes 60) ≡ record { why = Ended 15; turns = 3; output = []; lines = [] }
unfolding up_to extend add32 sub32 mul32 flip32 is_negative magnitude signed_as quotient remainder traps shift_left shift_right less
shift_unsigned_is = refl

abbrev pub shift_by_33 : Program
shift_by_33 = record { units = (record { tags = []; texts = []; exts = (body n-main int_t 0 10 [] (more_stmts (return_ 1 15 (Some (binary int_t Shl (int int_t 3) (int int_t 33)))) no_stmts) 2 20 ∷ []) } ∷ []); classes = ([] ∷ []) }

shift_by_33_is : report shift_by_33 (run shift_by_33 [] no_changes 60) ≡ record { why = Ended 6; turns = 3; output = []; lines = [] }
unfolding up_to extend add32 sub32 mul32 flip32 is_negative magnitude signed_as quotient remainder traps shift_left shift_right less
shift_by_33_is = refl

abbrev pub divided : Program
divided = record { units = (record { tags = []; texts = []; exts = (body n-main int_t 0 10 [] (more_stmts (return_ 1 15 (Some (binary int_t Div (unary int_t Neg (int int_t 7)) (int int_t 2)))) no_stmts) 2 20 ∷ []) } ∷ []); classes = ([] ∷ []) }

divided_is : report divided (run divided [] no_changes 60) ≡ record { why = Ended 253; turns = 3; output = []; lines = [] }
unfolding up_to extend add32 sub32 mul32 flip32 is_negative magnitude signed_as quotient remainder traps shift_left shift_right less
divided_is = refl

abbrev pub rest : Program
rest = record { units = (record { tags = []; texts = []; exts = (body n-main int_t 0 10 [] (more_stmts (return_ 1 15 (Some (binary int_t Rem (unary int_t Neg (int int_t 7)) (int int_t 2)))) no_stmts) 2 20 ∷ []) } ∷ []); classes = ([] ∷ []) }

rest_is : report rest (run rest [] no_changes 60) ≡ record { why = Ended 255; turns = 3; output = []; lines = [] }
unfolding up_to extend add32 sub32 mul32 flip32 is_negative magnitude signed_as quotient remainder traps shift_left shift_right less
rest_is = refl

abbrev pub divided_unsigned : Program
divided_unsigned = record { units = (record { tags = []; texts = []; exts = (body n-main int_t 0 10 [] (more_stmts (return_ 1 15 (Some (binary uint_t Div (unary uint_t Neg (int uint_t 2)) (int uint_t 2147483647)))) no_stmts) 2 20 ∷ []) } ∷ []); classes = ([] ∷ []) }

divided_unsigned_is : report divided_unsigned (run divided_unsigned [] no_changes 60) ≡ record { why = Ended 2; turns = 3; output = []; lines = [] }
unfolding up_to extend add32 sub32 mul32 flip32 is_negative magnitude signed_as quotient remainder traps shift_left shift_right less
divided_unsigned_is = refl

abbrev pub truths : Program
truths = record { units = (record { tags = []; texts = []; exts = (body n-main int_t 0 10 (decl (auto (declr n-x int_t) 0) ∷ []) (more_stmts (return_ 1 15 (Some (both (either (name int_t (Local 0)) (step int_t PreInc (name int_t (Local 0)))) (choice int_t (binary int_t Eq (name int_t (Local 0)) (int int_t 1)) (int int_t 5) (int int_t 0))))) no_stmts) 2 20 ∷ []) } ∷ []); classes = ([] ∷ []) }

truths_is : report truths (run truths [] no_changes 60) ≡ record { why = Ended 1; turns = 3; output = []; lines = [] }
unfolding up_to extend add32 sub32 mul32 flip32 is_negative magnitude signed_as quotient remainder traps shift_left shift_right less
truths_is = refl

abbrev pub difference : Program
difference = record { units = (record { tags = []; texts = []; exts = (body n-main int_t 0 10 (decl (auto (declr n-a (arr 4 int_t)) 0) ∷ []) (more_stmts (return_ 1 15 (Some (binary int_t Sub (address (ptr int_t) (index int_t (decay (ptr int_t) (name (arr 4 int_t) (Local 0))) (int int_t 1))) (address (ptr int_t) (index int_t (decay (ptr int_t) (name (arr 4 int_t) (Local 0))) (int int_t 3)))))) no_stmts) 2 20 ∷ []) } ∷ []); classes = ([] ∷ []) }

difference_is : report difference (run difference [] no_changes 60) ≡ record { why = Ended 254; turns = 3; output = []; lines = [] }
unfolding up_to extend add32 sub32 mul32 flip32 is_negative magnitude signed_as quotient remainder traps shift_left shift_right less
difference_is = refl

abbrev pub size_not_evaluated : Program
size_not_evaluated = record { units = (record { tags = []; texts = []; exts = (body n-main int_t 0 10 (decl (auto (declr n-x int_t) 0) ∷ []) (more_stmts (return_ 1 15 (Some (comma int_t (size_of (step int_t PreInc (name int_t (Local 0)))) (name int_t (Local 0))))) no_stmts) 2 20 ∷ []) } ∷ []); classes = ([] ∷ []) }

size_not_evaluated_is : report size_not_evaluated (run size_not_evaluated [] no_changes 60) ≡ record { why = Ended 0; turns = 3; output = []; lines = [] }
unfolding up_to extend add32 sub32 mul32 flip32 is_negative magnitude signed_as quotient remainder traps shift_left shift_right less
size_not_evaluated_is = refl

-- a pointer to a function, two texts that are two objects
abbrev pub through : Program
through = record { units = (record { tags = []; texts = ((104 ∷ (105 ∷ (0 ∷ []))) ∷ ((104 ∷ (105 ∷ (0 ∷ []))) ∷ [])); exts = (body n-main int_t 0 2 (decl (auto (declr n-s (ptr char_t)) 0) ∷ (decl (auto_init (declr n-f (ptr (fun int_t))) 1 1 4 (designate (ptr (fun int_t)) (name (fun int_t) (Outer n-putchar)))) ∷ [])) (more_stmts (expr 2 5 (assign (ptr char_t) (name (ptr char_t) (Local 0)) (decay (ptr char_t) (text (arr 3 char_t) 0)))) (more_stmts (while_ 3 6 (deref char_t (name (ptr char_t) (Local 0))) (expr 4 7 (call int_t (deref (fun int_t) (name (ptr (fun int_t)) (Local 1))) (more_args (convert int_t (deref char_t (step (ptr char_t) PostInc (name (ptr char_t) (Local 0))))) no_args)))) (more_stmts (return_ 5 8 (Some (binary int_t Sub (name (ptr char_t) (Local 0)) (decay (ptr char_t) (text (arr 3 char_t) 1))))) no_stmts))) 6 9 ∷ []) } ∷ []); classes = ([] ∷ []) }

through_is : report through (run through [] no_changes 50) ≡ record { why = Leaves 3; turns = 9; output = (104 ∷ (105 ∷ [])); lines = (8 ∷ []) }
unfolding up_to extend add32 sub32 mul32 flip32 is_negative magnitude signed_as quotient remainder traps shift_left shift_right less
through_is = refl

-- getchar, exit, do, continue
abbrev pub reads : Program
reads = record { units = (record { tags = []; texts = []; exts = (body n-main int_t 0 2 (decl (auto (declr n-c int_t) 0) ∷ []) (more_stmts (do_ 5 6 (block 4 [] (more_stmts (expr 1 5 (assign int_t (name int_t (Local 0)) (call int_t (name (fun int_t) (Outer n-getchar)) no_args))) (more_stmts (if_only 2 5 (binary int_t Eq (name int_t (Local 0)) (int int_t 120)) (continue_ 3 5)) (more_stmts (expr 4 5 (call int_t (name (fun int_t) (Outer n-putchar)) (more_args (name int_t (Local 0)) no_args))) no_stmts))) 6) (binary int_t Ne (name int_t (Local 0)) (unary int_t Neg (int int_t 1)))) (more_stmts (expr 6 7 (call int_t (name (fun int_t) (Outer n-exit)) (more_args (binary int_t Div (unary int_t Neg (int int_t 7)) (int int_t 2)) no_args))) no_stmts)) 7 9 ∷ []) } ∷ []); classes = ([] ∷ []) }

reads_is : report reads (run reads (97 ∷ (120 ∷ (98 ∷ []))) no_changes 80) ≡ record { why = Ended 253; turns = 18; output = (97 ∷ (98 ∷ (255 ∷ []))); lines = (7 ∷ []) }
unfolding up_to extend add32 sub32 mul32 flip32 is_negative magnitude signed_as quotient remainder traps shift_left shift_right less
reads_is = refl

-- the value of putchar is the byte
abbrev pub byte_put : Program
byte_put = record { units = (record { tags = []; texts = []; exts = (body n-main int_t 0 10 (decl (auto (declr n-x int_t) 0) ∷ []) (more_stmts (return_ 1 15 (Some (binary int_t Eq (assign int_t (name int_t (Local 0)) (int int_t 1)) (int int_t 1)))) no_stmts) 2 20 ∷ []) } ∷ []); classes = ([] ∷ []) }

byte_put_is : report byte_put (run byte_put [] no_changes 60) ≡ record { why = Ended 1; turns = 3; output = []; lines = [] }
unfolding up_to extend add32 sub32 mul32 flip32 is_negative magnitude signed_as quotient remainder traps shift_left shift_right less
byte_put_is = refl

-- a static of a block keeps its value, and `extern` in a block is passed over
abbrev pub keeps : Program
keeps = record { units = (record { tags = []; texts = []; exts = (object (plain int_t) (record { declr = (declr n-n int_t); bound = Outside; init = None } ∷ []) ∷ (body n-f int_t 0 2 (decl (static_ (declr n-k int_t) 0 (Some (single (int int_t 4)))) ∷ (decl (extern_ (declr n-n int_t)) ∷ [])) (more_stmts (expr 1 5 (update int_t Add int_t (name int_t (Static 0)) (int int_t 1))) (more_stmts (expr 2 6 (assign int_t (name int_t (Ext n-n)) (name int_t (Static 0)))) no_stmts)) 3 8 ∷ (body n-main int_t 4 10 [] (more_stmts (expr 5 11 (call int_t (name (fun int_t) (Func 0)) no_args)) (more_stmts (expr 6 12 (call int_t (name (fun int_t) (Func 0)) no_args)) (more_stmts (return_ 7 13 (Some (name int_t (Ext n-n)))) no_stmts))) 8 14 ∷ []))) } ∷ []); classes = ([] ∷ []) }

keeps_is : report keeps (run keeps [] no_changes 60) ≡ record { why = Ended 6; turns = 13; output = []; lines = [] }
unfolding up_to extend add32 sub32 mul32 flip32 is_negative magnitude signed_as quotient remainder traps shift_left shift_right less
keeps_is = refl

keeps_k : shown keeps (run keeps [] no_changes 5) n-k ≡ Some (Num 5)
unfolding up_to extend add32 sub32 mul32 flip32 is_negative magnitude signed_as quotient remainder traps shift_left shift_right less
keeps_k = refl

keeps_n : placed keeps (run keeps [] no_changes 5) n-n ≡ Some 4194308
unfolding up_to extend add32 sub32 mul32 flip32 is_negative magnitude signed_as quotient remainder traps shift_left shift_right less
keeps_n = refl

-- each time its block is entered, x is zero, and its initialiser follows
abbrev pub zeroed : Program
zeroed = record { units = (record { tags = []; texts = []; exts = (body n-main int_t 0 2 (decl (auto (declr n-i int_t) 0) ∷ []) (more_stmts (while_ 1 4 (binary int_t Lt (name int_t (Local 0)) (int int_t 3)) (block 5 (decl (auto (declr n-x int_t) 1) ∷ []) (more_stmts (expr 2 6 (update int_t Add int_t (name int_t (Local 1)) (int int_t 1))) (more_stmts (expr 3 7 (update int_t Add int_t (name int_t (Local 0)) (name int_t (Local 1)))) no_stmts)) 7)) (more_stmts (return_ 4 8 (Some (name int_t (Local 0)))) no_stmts)) 5 9 ∷ []) } ∷ []); classes = ([] ∷ []) }

zeroed_is : report zeroed (run zeroed [] no_changes 60) ≡ record { why = Ended 3; turns = 13; output = []; lines = [] }
unfolding up_to extend add32 sub32 mul32 flip32 is_negative magnitude signed_as quotient remainder traps shift_left shift_right less
zeroed_is = refl

-- a call that ends with no value gives 0; a change at the closing brace leaves the kept value
abbrev pub no_value : Program
no_value = record { units = (record { tags = []; texts = []; exts = (body n-f int_t 0 1 [] no_stmts 1 2 ∷ (body n-main int_t 2 10 [] (more_stmts (return_ 3 15 (Some (call int_t (name (fun int_t) (Func 0)) no_args))) no_stmts) 4 20 ∷ [])) } ∷ []); classes = ([] ∷ []) }

no_value_is : report no_value (run no_value [] no_changes 60) ≡ record { why = Ended 0; turns = 5; output = []; lines = [] }
unfolding up_to extend add32 sub32 mul32 flip32 is_negative magnitude signed_as quotient remainder traps shift_left shift_right less
no_value_is = refl

abbrev x_is_9 : Changes
x_is_9 t = pick (nat_eq t 3) (record { object = v.Local 0 0; off = 0; value = Num 9 } ∷ []) []

abbrev pub kept_value : Program
kept_value = record { units = (record { tags = []; texts = []; exts = (body n-main int_t 0 1 (decl (auto (declr n-x int_t) 0) ∷ []) (more_stmts (return_ 1 2 (Some (name int_t (Local 0)))) no_stmts) 2 3 ∷ []) } ∷ []); classes = ([] ∷ []) }

kept_value_is : report kept_value (run kept_value [] x_is_9 60) ≡ record { why = Ended 0; turns = 3; output = []; lines = [] }
unfolding up_to extend add32 sub32 mul32 flip32 is_negative magnitude signed_as quotient remainder traps shift_left shift_right less
kept_value_is = refl

-- a change of no live object, and a value that no assignment gives
abbrev no_object : Changes
no_object t = record { object = v.Local 1 0; off = 0; value = Num 9 } ∷ []

abbrev too_large : Changes
too_large t = record { object = v.Local 0 0; off = 0; value = Num 4294967296 } ∷ []

no_object_is : report kept_value (run kept_value [] no_object 60) ≡ record { why = Ill; turns = 1; output = []; lines = (1 ∷ []) }
unfolding up_to extend add32 sub32 mul32 flip32 is_negative magnitude signed_as quotient remainder traps shift_left shift_right less
no_object_is = refl

too_large_is : report kept_value (run kept_value [] too_large 60) ≡ record { why = Ill; turns = 1; output = []; lines = (1 ∷ []) }
unfolding up_to extend add32 sub32 mul32 flip32 is_negative magnitude signed_as quotient remainder traps shift_left shift_right less
too_large_is = refl

-- two files with one structure that they number differently
abbrev pub shared : Program
shared = record { units = (record { tags = lay [] (record { name = n-node; kind = Struct; members = (record { name = n-v; off = 0; ty = int_t } ∷ (record { name = n-next; off = 0; ty = (ptr (struct 0)) } ∷ [])); size = 0; align = 1 } ∷ []); texts = []; exts = (object (plain int_t) (record { declr = (declr n-n (struct 0)); bound = Elsewhere; init = None } ∷ []) ∷ (body n-main int_t 0 3 [] (more_stmts (return_ 1 4 (Some (arrow int_t (member (ptr (struct 0)) (name (struct 0) (Ext n-n)) 1) 0))) no_stmts) 2 5 ∷ [])) } ∷ (record { tags = lay [] (record { name = n-other; kind = Struct; members = (record { name = n-q; off = 0; ty = int_t } ∷ []); size = 0; align = 1 } ∷ (record { name = n-node; kind = Struct; members = (record { name = n-v; off = 0; ty = int_t } ∷ (record { name = n-next; off = 0; ty = (ptr (struct 1)) } ∷ [])); size = 0; align = 1 } ∷ [])); texts = []; exts = (object (plain int_t) (record { declr = (declr n-n (struct 1)); bound = Outside; init = (Some (group (more_inits (single (int int_t 7)) (more_inits (single (address (ptr (struct 1)) (name (struct 1) (Ext n-n)))) no_inits)))) } ∷ []) ∷ []) } ∷ [])); classes = ((0 ∷ []) ∷ ((1 ∷ (0 ∷ [])) ∷ [])) }

shared_is : report shared (run shared [] no_changes 60) ≡ record { why = Ended 7; turns = 3; output = []; lines = [] }
unfolding up_to extend add32 sub32 mul32 flip32 is_negative magnitude signed_as quotient remainder traps shift_left shift_right less
shared_is = refl

abbrev pub unshared : Program
unshared = record { units = (record { tags = lay [] (record { name = n-node; kind = Struct; members = (record { name = n-v; off = 0; ty = int_t } ∷ (record { name = n-next; off = 0; ty = (ptr (struct 0)) } ∷ [])); size = 0; align = 1 } ∷ []); texts = []; exts = (object (plain int_t) (record { declr = (declr n-n (struct 0)); bound = Elsewhere; init = None } ∷ []) ∷ (body n-main int_t 0 3 [] (more_stmts (return_ 1 4 (Some (arrow int_t (member (ptr (struct 0)) (name (struct 0) (Ext n-n)) 1) 0))) no_stmts) 2 5 ∷ [])) } ∷ (record { tags = lay [] (record { name = n-other; kind = Struct; members = (record { name = n-q; off = 0; ty = int_t } ∷ []); size = 0; align = 1 } ∷ (record { name = n-node; kind = Struct; members = (record { name = n-v; off = 0; ty = int_t } ∷ (record { name = n-next; off = 0; ty = (ptr (struct 1)) } ∷ [])); size = 0; align = 1 } ∷ [])); texts = []; exts = (object (plain int_t) (record { declr = (declr n-n (struct 1)); bound = Outside; init = (Some (group (more_inits (single (int int_t 7)) (more_inits (single (address (ptr (struct 1)) (name (struct 1) (Ext n-n)))) no_inits)))) } ∷ []) ∷ []) } ∷ [])); classes = ((0 ∷ []) ∷ ((1 ∷ (2 ∷ [])) ∷ [])) }

unshared_is : report unshared (run unshared [] no_changes 60) ≡ record { why = Leaves 1; turns = 2; output = []; lines = (4 ∷ []) }
unfolding up_to extend add32 sub32 mul32 flip32 is_negative magnitude signed_as quotient remainder traps shift_left shift_right less
unshared_is = refl

-- a.c: main() { return h(); }   b.c: g() { return 5; } int (*p)() = g; h() { return (*p)(); }
abbrev pub second : Program
second = record { units = (record { tags = []; texts = []; exts = (body n-main int_t 0 1 [] (more_stmts (return_ 1 1 (Some (call int_t (name (fun int_t) (Outer n-h)) no_args))) no_stmts) 2 1 ∷ []) } ∷ (record { tags = []; texts = []; exts = (body n-g int_t 0 1 [] (more_stmts (return_ 1 1 (Some (int int_t 5))) no_stmts) 2 1 ∷ (object (plain int_t) (record { declr = (declr n-p (ptr (fun int_t))); bound = Outside; init = (Some (single (designate (ptr (fun int_t)) (name (fun int_t) (Func 0))))) } ∷ []) ∷ (body n-h int_t 3 3 [] (more_stmts (return_ 4 3 (Some (call int_t (deref (fun int_t) (name (ptr (fun int_t)) (Ext n-p))) no_args))) no_stmts) 5 3 ∷ []))) } ∷ [])); classes = ([] ∷ ([] ∷ [])) }

second_is : report second (run second [] no_changes 60) ≡ record { why = Ended 5; turns = 9; output = []; lines = [] }
unfolding up_to extend add32 sub32 mul32 flip32 is_negative magnitude signed_as quotient remainder traps shift_left shift_right less
second_is = refl

-- a static function of another file is passed over
abbrev pub hidden : Program
hidden = record { units = (record { tags = []; texts = []; exts = (body n-main int_t 0 1 [] (more_stmts (return_ 1 1 (Some (call int_t (name (fun int_t) (Outer n-f)) no_args))) no_stmts) 2 1 ∷ []) } ∷ (record { tags = []; texts = []; exts = (func (plain int_t) (record { name = n-f; is_static = true; result = int_t; params = []; declared = []; open_ = 0; line = 1; locals = []; stmts = (more_stmts (return_ 1 1 (Some (int int_t 1))) no_stmts); close = 2; close_line = 1 }) ∷ []) } ∷ (record { tags = []; texts = []; exts = (body n-f int_t 0 1 [] (more_stmts (return_ 1 1 (Some (int int_t 2))) no_stmts) 2 1 ∷ []) } ∷ []))); classes = ([] ∷ ([] ∷ ([] ∷ []))) }

hidden_is : report hidden (run hidden [] no_changes 60) ≡ record { why = Ended 2; turns = 6; output = []; lines = [] }
unfolding up_to extend add32 sub32 mul32 flip32 is_negative magnitude signed_as quotient remainder traps shift_left shift_right less
hidden_is = refl

-- enum e { Z }; f(p) char *p; { return 3; } main() { int (*q)(); q = f; return (*q)(Z); }, and other constants of value 0
abbrev pub zero_named : Program
zero_named = record { units = (record { tags = (record { name = n-e; kind = Enum; members = []; size = 4; align = 4 } ∷ []); texts = []; exts = (tag_only (enum_body 0 (record { name = n-Z; value = 0; expr = None } ∷ [])) ∷ (func (plain int_t) (record { name = n-f; is_static = false; result = int_t; params = (record { name = n-p; ty = (ptr char_t) } ∷ []); declared = []; open_ = 0; line = 1; locals = []; stmts = (more_stmts (return_ 1 2 (Some (int int_t 3))) no_stmts); close = 2; close_line = 2 }) ∷ (body n-main int_t 3 3 (decl (auto (declr n-q (ptr (fun int_t))) 0) ∷ []) (more_stmts (expr 4 4 (assign (ptr (fun int_t)) (name (ptr (fun int_t)) (Local 0)) (designate (ptr (fun int_t)) (name (fun int_t) (Func 0))))) (more_stmts (return_ 5 5 (Some (call int_t (deref (fun int_t) (name (ptr (fun int_t)) (Local 0))) (more_args (name int_t (Const 0)) no_args)))) no_stmts)) 6 6 ∷ []))) } ∷ []); classes = ((0 ∷ []) ∷ []) }

zero_named_is : report zero_named (run zero_named [] no_changes 60) ≡ record { why = Ended 3; turns = 7; output = []; lines = [] }
unfolding up_to extend add32 sub32 mul32 flip32 is_negative magnitude signed_as quotient remainder traps shift_left shift_right less
zero_named_is = refl

abbrev pub zero_difference : Program
zero_difference = record { units = (record { tags = (record { name = n-e; kind = Enum; members = []; size = 4; align = 4 } ∷ []); texts = []; exts = (tag_only (enum_body 0 (record { name = n-Z; value = 0; expr = None } ∷ [])) ∷ (func (plain int_t) (record { name = n-f; is_static = false; result = int_t; params = (record { name = n-p; ty = (ptr char_t) } ∷ []); declared = []; open_ = 0; line = 1; locals = []; stmts = (more_stmts (return_ 1 2 (Some (int int_t 3))) no_stmts); close = 2; close_line = 2 }) ∷ (body n-main int_t 3 3 (decl (auto (declr n-q (ptr (fun int_t))) 0) ∷ []) (more_stmts (expr 4 4 (assign (ptr (fun int_t)) (name (ptr (fun int_t)) (Local 0)) (designate (ptr (fun int_t)) (name (fun int_t) (Func 0))))) (more_stmts (return_ 5 5 (Some (call int_t (deref (fun int_t) (name (ptr (fun int_t)) (Local 0))) (more_args (binary int_t Sub (int int_t 1) (int int_t 1)) no_args)))) no_stmts)) 6 6 ∷ []))) } ∷ []); classes = ((0 ∷ []) ∷ []) }

zero_difference_is : report zero_difference (run zero_difference [] no_changes 60) ≡ record { why = Ended 3; turns = 7; output = []; lines = [] }
unfolding up_to extend add32 sub32 mul32 flip32 is_negative magnitude signed_as quotient remainder traps shift_left shift_right less
zero_difference_is = refl

abbrev pub zero_not : Program
zero_not = record { units = (record { tags = (record { name = n-e; kind = Enum; members = []; size = 4; align = 4 } ∷ []); texts = []; exts = (tag_only (enum_body 0 (record { name = n-Z; value = 0; expr = None } ∷ [])) ∷ (func (plain int_t) (record { name = n-f; is_static = false; result = int_t; params = (record { name = n-p; ty = (ptr char_t) } ∷ []); declared = []; open_ = 0; line = 1; locals = []; stmts = (more_stmts (return_ 1 2 (Some (int int_t 3))) no_stmts); close = 2; close_line = 2 }) ∷ (body n-main int_t 3 3 (decl (auto (declr n-q (ptr (fun int_t))) 0) ∷ []) (more_stmts (expr 4 4 (assign (ptr (fun int_t)) (name (ptr (fun int_t)) (Local 0)) (designate (ptr (fun int_t)) (name (fun int_t) (Func 0))))) (more_stmts (return_ 5 5 (Some (call int_t (deref (fun int_t) (name (ptr (fun int_t)) (Local 0))) (more_args (unary int_t Not (int int_t 1)) no_args)))) no_stmts)) 6 6 ∷ []))) } ∷ []); classes = ((0 ∷ []) ∷ []) }

zero_not_is : report zero_not (run zero_not [] no_changes 60) ≡ record { why = Ended 3; turns = 7; output = []; lines = [] }
unfolding up_to extend add32 sub32 mul32 flip32 is_negative magnitude signed_as quotient remainder traps shift_left shift_right less
zero_not_is = refl

abbrev pub zero_cast : Program
zero_cast = record { units = (record { tags = (record { name = n-e; kind = Enum; members = []; size = 4; align = 4 } ∷ []); texts = []; exts = (tag_only (enum_body 0 (record { name = n-Z; value = 0; expr = None } ∷ [])) ∷ (func (plain int_t) (record { name = n-f; is_static = false; result = int_t; params = (record { name = n-p; ty = (ptr char_t) } ∷ []); declared = []; open_ = 0; line = 1; locals = []; stmts = (more_stmts (return_ 1 2 (Some (int int_t 3))) no_stmts); close = 2; close_line = 2 }) ∷ (body n-main int_t 3 3 (decl (auto (declr n-q (ptr (fun int_t))) 0) ∷ []) (more_stmts (expr 4 4 (assign (ptr (fun int_t)) (name (ptr (fun int_t)) (Local 0)) (designate (ptr (fun int_t)) (name (fun int_t) (Func 0))))) (more_stmts (return_ 5 5 (Some (call int_t (deref (fun int_t) (name (ptr (fun int_t)) (Local 0))) (more_args (cast int_t (int int_t 0)) no_args)))) no_stmts)) 6 6 ∷ []))) } ∷ []); classes = ((0 ∷ []) ∷ []) }

zero_cast_is : report zero_cast (run zero_cast [] no_changes 60) ≡ record { why = Ended 3; turns = 7; output = []; lines = [] }
unfolding up_to extend add32 sub32 mul32 flip32 is_negative magnitude signed_as quotient remainder traps shift_left shift_right less
zero_cast_is = refl

abbrev pub zero_choice : Program
zero_choice = record { units = (record { tags = (record { name = n-e; kind = Enum; members = []; size = 4; align = 4 } ∷ []); texts = []; exts = (tag_only (enum_body 0 (record { name = n-Z; value = 0; expr = None } ∷ [])) ∷ (func (plain int_t) (record { name = n-f; is_static = false; result = int_t; params = (record { name = n-p; ty = (ptr char_t) } ∷ []); declared = []; open_ = 0; line = 1; locals = []; stmts = (more_stmts (return_ 1 2 (Some (int int_t 3))) no_stmts); close = 2; close_line = 2 }) ∷ (body n-main int_t 3 3 (decl (auto (declr n-q (ptr (fun int_t))) 0) ∷ []) (more_stmts (expr 4 4 (assign (ptr (fun int_t)) (name (ptr (fun int_t)) (Local 0)) (designate (ptr (fun int_t)) (name (fun int_t) (Func 0))))) (more_stmts (return_ 5 5 (Some (call int_t (deref (fun int_t) (name (ptr (fun int_t)) (Local 0))) (more_args (choice int_t (int int_t 1) (int int_t 0) (int int_t 1)) no_args)))) no_stmts)) 6 6 ∷ []))) } ∷ []); classes = ((0 ∷ []) ∷ []) }

zero_choice_is : report zero_choice (run zero_choice [] no_changes 60) ≡ record { why = Ended 3; turns = 7; output = []; lines = [] }
unfolding up_to extend add32 sub32 mul32 flip32 is_negative magnitude signed_as quotient remainder traps shift_left shift_right less
zero_choice_is = refl

abbrev pub zero_divided : Program
zero_divided = record { units = (record { tags = (record { name = n-e; kind = Enum; members = []; size = 4; align = 4 } ∷ []); texts = []; exts = (tag_only (enum_body 0 (record { name = n-Z; value = 0; expr = None } ∷ [])) ∷ (func (plain int_t) (record { name = n-f; is_static = false; result = int_t; params = (record { name = n-p; ty = (ptr char_t) } ∷ []); declared = []; open_ = 0; line = 1; locals = []; stmts = (more_stmts (return_ 1 2 (Some (int int_t 3))) no_stmts); close = 2; close_line = 2 }) ∷ (body n-main int_t 3 3 (decl (auto (declr n-q (ptr (fun int_t))) 0) ∷ []) (more_stmts (expr 4 4 (assign (ptr (fun int_t)) (name (ptr (fun int_t)) (Local 0)) (designate (ptr (fun int_t)) (name (fun int_t) (Func 0))))) (more_stmts (return_ 5 5 (Some (call int_t (deref (fun int_t) (name (ptr (fun int_t)) (Local 0))) (more_args (both (int int_t 0) (binary int_t Div (int int_t 1) (int int_t 0))) no_args)))) no_stmts)) 6 6 ∷ []))) } ∷ []); classes = ((0 ∷ []) ∷ []) }

zero_divided_is : report zero_divided (run zero_divided [] no_changes 60) ≡ record { why = Leaves 4; turns = 3; output = []; lines = (5 ∷ []) }
unfolding up_to extend add32 sub32 mul32 flip32 is_negative magnitude signed_as quotient remainder traps shift_left shift_right less
zero_divided_is = refl

abbrev pub zero_value : Program
zero_value = record { units = (record { tags = (record { name = n-e; kind = Enum; members = []; size = 4; align = 4 } ∷ []); texts = []; exts = (tag_only (enum_body 0 (record { name = n-Z; value = 0; expr = None } ∷ [])) ∷ (func (plain int_t) (record { name = n-f; is_static = false; result = int_t; params = (record { name = n-p; ty = (ptr char_t) } ∷ []); declared = []; open_ = 0; line = 1; locals = []; stmts = (more_stmts (return_ 1 2 (Some (int int_t 3))) no_stmts); close = 2; close_line = 2 }) ∷ (body n-main int_t 3 3 (decl (auto (declr n-q (ptr (fun int_t))) 0) ∷ []) (more_stmts (expr 4 4 (assign (ptr (fun int_t)) (name (ptr (fun int_t)) (Local 0)) (designate (ptr (fun int_t)) (name (fun int_t) (Func 0))))) (more_stmts (return_ 5 5 (Some (call int_t (deref (fun int_t) (name (ptr (fun int_t)) (Local 0))) (more_args (convert int_t (unary int_t Not (name (ptr (fun int_t)) (Local 0)))) no_args)))) no_stmts)) 6 6 ∷ []))) } ∷ []); classes = ((0 ∷ []) ∷ []) }

zero_value_is : report zero_value (run zero_value [] no_changes 60) ≡ record { why = Leaves 4; turns = 3; output = []; lines = (5 ∷ []) }
unfolding up_to extend add32 sub32 mul32 flip32 is_negative magnitude signed_as quotient remainder traps shift_left shift_right less
zero_value_is = refl

-- int a[sizeof "abcd"]; int b = 1; main() { return b; }
abbrev pub text_in_dimension : Program
text_in_dimension = record { units = (record { tags = []; texts = ((97 ∷ (98 ∷ (99 ∷ (100 ∷ (0 ∷ []))))) ∷ []); exts = (object (plain int_t) (record { declr = (sized n-a (arr 5 int_t) ((size_of (text (arr 5 char_t) 0)) ∷ [])); bound = Outside; init = None } ∷ []) ∷ (object (plain int_t) (record { declr = (declr n-b int_t); bound = Outside; init = (Some (single (int int_t 1))) } ∷ []) ∷ (body n-main int_t 0 3 [] (more_stmts (return_ 1 3 (Some (name int_t (Ext n-b)))) no_stmts) 2 3 ∷ []))) } ∷ []); classes = ([] ∷ []) }

text_in_dimension_is : report text_in_dimension (run text_in_dimension [] no_changes 60) ≡ record { why = Ended 1; turns = 3; output = []; lines = [] }
unfolding up_to extend add32 sub32 mul32 flip32 is_negative magnitude signed_as quotient remainder traps shift_left shift_right less
text_in_dimension_is = refl

text_in_dimension_b : placed text_in_dimension (run text_in_dimension [] no_changes 2) n-b ≡ Some 4194312
unfolding up_to extend add32 sub32 mul32 flip32 is_negative magnitude signed_as quotient remainder traps shift_left shift_right less
text_in_dimension_b = refl

-- extern int x; int a[sizeof x];: x is used
use_in_dimension : in_exts (unit_at (record { units = record { tags = []; texts = []; exts = (object (plain int_t) (record { declr = (declr n-x int_t); bound = Elsewhere; init = None } ∷ []) ∷ (object (plain int_t) (record { declr = (sized n-a (arr 4 int_t) ((size_of (name int_t (Ext n-x))) ∷ [])); bound = Outside; init = None } ∷ []) ∷ [])) } ∷ []; classes = [] }) 0).exts ≡ (Extern n-x ∷ (m.Outside n-a (arr 4 int_t) None ∷ (Use n-x ∷ [])))
unfolding up_to extend add32 sub32 mul32 flip32 is_negative magnitude signed_as quotient remainder traps shift_left shift_right less
use_in_dimension = refl

-- An initialiser that points outside its object has no turn to leave at; no file is accepted with one.
abbrev pub beyond : Program
beyond = record { units = (record { tags = []; texts = []; exts = (object (plain int_t) (record { declr = (declr n-a (arr 0 int_t)); bound = Elsewhere; init = None } ∷ []) ∷ (object (plain int_t) (record { declr = (declr n-p (ptr int_t)); bound = Outside; init = (Some (single (binary (ptr int_t) Add (decay (ptr int_t) (name (arr 0 int_t) (Ext n-a))) (int int_t 9)))) } ∷ []) ∷ (body n-main int_t 0 1 [] no_stmts 1 1 ∷ []))) } ∷ (record { tags = []; texts = []; exts = (object (plain int_t) (record { declr = (declr n-a (arr 3 int_t)); bound = Outside; init = None } ∷ []) ∷ []) } ∷ [])); classes = ([] ∷ ([] ∷ [])) }

beyond_is : report beyond (run beyond [] no_changes 60) ≡ record { why = Leaves 2; turns = 0; output = []; lines = [] }
unfolding up_to extend add32 sub32 mul32 flip32 is_negative magnitude signed_as quotient remainder traps shift_left shift_right less
beyond_is = refl

-- char t[3] = "abc"; drops the zero byte, and a list that ends early leaves zero
abbrev pub begun_array : Program
begun_array = record { units = (record { tags = []; texts = []; exts = (object (plain int_t) (record { declr = (declr n-t (arr 3 char_t)); bound = Outside; init = (Some (bytes (97 ∷ (98 ∷ (99 ∷ (0 ∷ [])))))) } ∷ []) ∷ (object (plain int_t) (record { declr = (declr n-u (arr 4 char_t)); bound = Outside; init = (Some (bytes (97 ∷ (0 ∷ [])))) } ∷ []) ∷ (object (plain int_t) (record { declr = (declr n-w (arr 3 int_t)); bound = Outside; init = (Some (group (more_inits (single (int int_t 4)) (more_inits (single (int int_t 5)) no_inits)))) } ∷ []) ∷ (body n-main int_t 0 1 [] no_stmts 1 1 ∷ [])))) } ∷ []); classes = ([] ∷ []) }

begun_t : held begun_array (run begun_array [] no_changes 1) n-t ≡ Some (Num 97 ∷ (Num 98 ∷ (Num 99 ∷ [])))
unfolding up_to extend add32 sub32 mul32 flip32 is_negative magnitude signed_as quotient remainder traps shift_left shift_right less
begun_t = refl

begun_u : held begun_array (run begun_array [] no_changes 1) n-u ≡ Some (Num 97 ∷ (Num 0 ∷ (Num 0 ∷ (Num 0 ∷ []))))
unfolding up_to extend add32 sub32 mul32 flip32 is_negative magnitude signed_as quotient remainder traps shift_left shift_right less
begun_u = refl

begun_w : held begun_array (run begun_array [] no_changes 1) n-w ≡ Some (Num 4 ∷ (Num 5 ∷ (Num 0 ∷ [])))
unfolding up_to extend add32 sub32 mul32 flip32 is_negative magnitude signed_as quotient remainder traps shift_left shift_right less
begun_w = refl

-- names: a declaration that stands later in the block counts; parameters go before statics; functions are not found
abbrev pub names : Program
names = record { units = (record { tags = []; texts = []; exts = (object (plain int_t) (record { declr = (declr n-p int_t); bound = (Own 0); init = (Some (single (int int_t 8))) } ∷ []) ∷ (object (plain int_t) (record { declr = (declr n-y int_t); bound = Outside; init = None } ∷ []) ∷ (func (plain int_t) (record { name = n-f; is_static = false; result = int_t; params = (record { name = n-p; ty = int_t } ∷ []); declared = []; open_ = 0; line = 3; locals = (decl (auto_init (declr n-x int_t) 0 1 4 (int int_t 1)) ∷ (decl (auto_init (declr n-y int_t) 1 2 5 (int int_t 2)) ∷ (decl (extern_ (declr n-p int_t)) ∷ []))); stmts = (more_stmts (return_ 3 6 (Some (int int_t 0))) no_stmts); close = 4; close_line = 9 }) ∷ (body n-main int_t 5 10 [] (more_stmts (return_ 6 11 (Some (call int_t (name (fun int_t) (Func 0)) (more_args (int int_t 6) no_args)))) no_stmts) 7 12 ∷ [])))) } ∷ []); classes = ([] ∷ []) }

names_y : shown names (run names [] no_changes 4) n-y ≡ Some (Num 0)
unfolding up_to extend add32 sub32 mul32 flip32 is_negative magnitude signed_as quotient remainder traps shift_left shift_right less
names_y = refl

names_p : shown names (run names [] no_changes 4) n-p ≡ Some (Num 6)
unfolding up_to extend add32 sub32 mul32 flip32 is_negative magnitude signed_as quotient remainder traps shift_left shift_right less
names_p = refl

names_p_in_main : shown names (run names [] no_changes 1) n-p ≡ Some (Num 8)
unfolding up_to extend add32 sub32 mul32 flip32 is_negative magnitude signed_as quotient remainder traps shift_left shift_right less
names_p_in_main = refl

names_f : shown names (run names [] no_changes 1) n-f ≡ None
unfolding up_to extend add32 sub32 mul32 flip32 is_negative magnitude signed_as quotient remainder traps shift_left shift_right less
names_f = refl

names_place : placed names (run names [] no_changes 4) n-p ≡ Some 2147483380
unfolding up_to extend add32 sub32 mul32 flip32 is_negative magnitude signed_as quotient remainder traps shift_left shift_right less
names_place = refl

-- a dead activation keeps its base
abbrev pub dead_place : Program
dead_place = record { units = (record { tags = []; texts = []; exts = (body n-f (ptr int_t) 0 1 (decl (auto (declr n-x int_t) 0) ∷ []) (more_stmts (return_ 1 3 (Some (address (ptr int_t) (name int_t (Local 0))))) no_stmts) 2 5 ∷ (body n-main int_t 3 6 (decl (auto (declr n-p (ptr int_t)) 0) ∷ []) (more_stmts (expr 4 7 (assign (ptr int_t) (name (ptr int_t) (Local 0)) (call (ptr int_t) (name (fun int_t) (Func 0)) no_args))) (more_stmts (return_ 5 8 (Some (int int_t 0))) no_stmts)) 6 9 ∷ [])) } ∷ []); classes = ([] ∷ []) }

dead_p : shown dead_place (run dead_place [] no_changes 6) n-p ≡ Some (To (v.Local 1 0) 0)
unfolding up_to extend add32 sub32 mul32 flip32 is_negative magnitude signed_as quotient remainder traps shift_left shift_right less
dead_p = refl

dead_p_is : place (linked dead_place) (record { fun = 1; base = 2147483640 } ∷ (record { fun = 0; base = 2147483372 } ∷ [])) (v.Local 1 0) ≡ 2147483368
unfolding up_to extend add32 sub32 mul32 flip32 is_negative magnitude signed_as quotient remainder traps shift_left shift_right less
dead_p_is = refl
