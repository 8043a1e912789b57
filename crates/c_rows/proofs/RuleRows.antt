-- The rules on expressions at their borders: what each gives, and where it fails.
use Rattle.std.specs.Prelude.{◌≡◌, List, [], ◌∷◌, Some, None, refl}
use Rattle.c_type.specs.declared.Kind.TheVariants as k
use Rattle.c_type.specs.declared.TagKind.TheVariants.{Struct, Enum}
use Rattle.c_type.specs.Types.{CType, num, void, ptr, arr, struct, enum, fun, Tag}
use Rattle.c_type.specs.Sizes.{lay, up_to}
use Rattle.c_tree.specs.declared.expr.BinaryOp.TheVariants as bo
use Rattle.c_tree.specs.declared.expr.AssignOp.TheVariants as ao
use Rattle.c_tree.specs.declared.expr.UnaryOp.TheVariants as uo
use Rattle.c_tree.specs.Arith.{add32, sub32, traps}
use Rattle.c_tree.specs.TExpr as e
use Rattle.c_tree.specs.declared.typed_expr.TStep.TheVariants as tst
use Rattle.c_tree.specs.declared.typed_expr.TBinary.TheVariants as tb
use Rattle.c_tree.specs.declared.typed_expr.TUnary.TheVariants as tu
use Rattle.c_tree.specs.TExpr.{TExpr, name, int, convert, decay, designate, type_of}
use Rattle.c_tree.specs.Constant.{constant}
use Rattle.c_rule.specs.RuleScope.{Is, Fails, Env, Constant, TagHead, tag_from}
use Rattle.c_rule.specs.RuleTypes.{declared_type, cast_type, sized_type}
use Rattle.c_rule.specs.RuleValues.{taken}
use Rattle.c_rule.specs.RuleExprs as r
use Rattle.c_tree.specs.TreeExpr as u
use Rattle.c_rows.proofs.Seen.{int_t, char_t, short_t, uint_t}

abbrev long_t : CType
long_t = num k.Long

-- struct s { int v; char c; }; is tag 0 and closed, enum e is tag 1 and closed, struct t is tag 2 and open
abbrev tags : List Tag
tags =
    lay [] (record { name = 115 ∷ []; kind = Struct; members = record { name = 118 ∷ []; off = 0; ty = int_t } ∷ (record { name = 99 ∷ []; off = 0; ty = char_t } ∷ []); size = 0; align = 1 } ∷
    (record { name = 101 ∷ []; kind = Enum; members = []; size = 0; align = 1 } ∷ []))

abbrev heads : List TagHead
heads = record { name = 115 ∷ []; kind = Struct } ∷ (record { name = 101 ∷ []; kind = Enum } ∷ (record { name = 116 ∷ []; kind = Struct } ∷ []))

abbrev here : Env
here = record { blocks = []; file = []; tags = tags; texts = []; starts = 0; autos = 0; statics = 0; heads = heads; bodies = [] }

-- a variable of a type
abbrev var : CType → TExpr
var t = name t (e.Local 0)

abbrev zero : TExpr
zero = int int_t 0

abbrev s_t : CType
s_t = struct 0

abbrev open_t : CType
open_t = struct 2

abbrev f_t : CType
f_t = fun int_t

-- rule 2
undeclared : r.as_expr None ≡ Fails 2
undeclared = refl

enumerator : r.as_expr (Some (Constant 7)) ≡ Is (name int_t (e.Const 7))
enumerator = refl

called_undeclared : r.called_name here (102 ∷ []) None ≡ Is (name f_t (e.Outer (102 ∷ [])))
called_undeclared = refl

-- rule 3: a tag with its kind, and a size only behind the definition
tag_known : tag_from 0 heads Struct (115 ∷ []) ≡ Is s_t
unfolding up_to
tag_known = refl

tag_of_another_kind : tag_from 0 heads Enum (115 ∷ []) ≡ Fails 3
unfolding up_to
tag_of_another_kind = refl

tag_missing : tag_from 0 heads Struct (120 ∷ []) ≡ Fails 3
unfolding up_to
tag_missing = refl

open_pointer : r.sum here (var (ptr open_t)) zero ≡ Fails 3
open_pointer = refl

open_member : r.arrow here (var (ptr open_t)) (118 ∷ []) ≡ Fails 3
open_member = refl

open_element : declared_type here (arr 2 open_t) ≡ Fails 3
open_element = refl

pointer_to_open : declared_type here (ptr open_t) ≡ Is (ptr open_t)
pointer_to_open = refl

-- rule 4
void_pointer : declared_type here (ptr void) ≡ Fails 4
void_pointer = refl

void_function : declared_type here (ptr (fun void)) ≡ Is (ptr (fun void))
void_function = refl

cast_to_void : cast_type here (record { line = 1; types = u.void; stars = 0 }) ≡ Is void
cast_to_void = refl

size_of_void : sized_type here (record { line = 1; types = u.void; stars = 0 }) ≡ Fails 4
size_of_void = refl

-- rules 5 and 6
function_element : declared_type here (arr 2 f_t) ≡ Fails 5
function_element = refl

size_of_open_array : r.size_of here (name (arr 0 int_t) (e.Ext (97 ∷ []))) ≡ Fails 5
size_of_open_array = refl

returns_structure : declared_type here (fun s_t) ≡ Fails 6
returns_structure = refl

returns_pointer_to_array : declared_type here (fun (ptr (arr 2 int_t))) ≡ Fails 6
returns_pointer_to_array = refl

returns_pointer : declared_type here (fun (ptr s_t)) ≡ Is (fun (ptr s_t))
returns_pointer = refl

-- rule 9: each part is a constant
constant_sum : constant tags (e.binary int_t tb.Add (int int_t 3) (e.unary int_t tu.Neg (int int_t 1))) ≡ Some 2
unfolding add32 sub32
constant_sum = refl

constant_size : constant tags (e.size_of (var s_t)) ≡ Some 8
unfolding up_to
constant_size = refl

divided_by_zero : constant tags (e.either (int int_t 1) (e.binary int_t tb.Div (int int_t 1) zero)) ≡ None
unfolding traps
divided_by_zero = refl

no_constant : constant tags (var int_t) ≡ None
no_constant = refl

-- rule 12
char_times_long : r.binary here bo.Mul (var char_t) (var long_t) ≡ Is (e.binary long_t tb.Mul (convert long_t (convert int_t (var char_t))) (var long_t))
char_times_long = refl

shift_by_long : r.binary here bo.Shl (var short_t) (var long_t) ≡ Is (e.binary int_t tb.Shl (convert int_t (var short_t)) (var long_t))
shift_by_long = refl

pointer_times : r.binary here bo.Mul (var (ptr int_t)) (var int_t) ≡ Fails 12
pointer_times = refl

minus_unsigned_char : r.unary here uo.Neg (var (num k.UChar)) ≡ Is (e.unary uint_t tu.Neg (convert uint_t (var (num k.UChar))))
minus_unsigned_char = refl

flip_pointer : r.unary here uo.Flip (var (ptr int_t)) ≡ Fails 12
flip_pointer = refl

-- rule 13
enum_plus_unsigned : r.sum here (var (enum 1)) (var uint_t) ≡ Is (e.binary uint_t tb.Add (convert uint_t (convert int_t (var (enum 1)))) (var uint_t))
enum_plus_unsigned = refl

array_plus : r.sum here (var (arr 3 int_t)) (var int_t) ≡ Is (e.binary (ptr int_t) tb.Add (decay (ptr int_t) (var (arr 3 int_t))) (var int_t))
array_plus = refl

int_plus_pointer : r.sum here (var int_t) (var (ptr s_t)) ≡ Is (e.binary (ptr s_t) tb.Add (var int_t) (var (ptr s_t)))
int_plus_pointer = refl

pointer_plus_pointer : r.sum here (var (ptr int_t)) (var (ptr int_t)) ≡ Fails 13
pointer_plus_pointer = refl

function_plus : r.sum here (var (ptr f_t)) zero ≡ Fails 13
function_plus = refl

pointers_apart : r.difference here (var (ptr s_t)) (var (ptr s_t)) ≡ Is (e.binary int_t tb.Sub (var (ptr s_t)) (var (ptr s_t)))
pointers_apart = refl

unlike_apart : r.difference here (var (ptr s_t)) (var (ptr int_t)) ≡ Fails 13
unlike_apart = refl

int_less_pointer : r.difference here (var int_t) (var (ptr int_t)) ≡ Fails 13
int_less_pointer = refl

-- rule 14
long_less_unsigned : r.binary here bo.Lt (var long_t) (var uint_t) ≡ Is (e.binary int_t tb.Lt (convert (num k.ULong) (var long_t)) (convert (num k.ULong) (var uint_t)))
long_less_unsigned = refl

pointer_is_zero : r.equality here tb.Eq (var (ptr int_t)) (e.binary int_t tb.Sub (int int_t 1) (int int_t 1)) ≡
    Is (e.binary int_t tb.Eq (var (ptr int_t)) (convert (ptr int_t) (e.binary int_t tb.Sub (int int_t 1) (int int_t 1))))
unfolding sub32
pointer_is_zero = refl

pointer_is_one : r.equality here tb.Eq (var (ptr int_t)) (int int_t 1) ≡ Fails 14
pointer_is_one = refl

functions_equal : r.equality here tb.Ne (var f_t) (var (ptr f_t)) ≡ Is (e.binary int_t tb.Ne (designate (ptr f_t) (var f_t)) (var (ptr f_t)))
functions_equal = refl

functions_in_order : r.order tb.Lt (var (ptr f_t)) (var (ptr f_t)) ≡ Fails 14
functions_in_order = refl

zero_in_order : r.order tb.Lt (var (ptr int_t)) zero ≡ Fails 14
zero_in_order = refl

-- rule 15
denied_pointer : r.unary here uo.Not (var (ptr int_t)) ≡ Is (e.unary int_t tu.Not (var (ptr int_t)))
denied_pointer = refl

denied_void : r.unary here uo.Not (e.call void (name (fun void) (e.Func 0)) e.no_args) ≡ Fails 15
denied_void = refl

denied_structure : r.unary here uo.Not (var s_t) ≡ Fails 21
denied_structure = refl

-- rule 16
pointer_or_zero : r.choice here (var int_t) (var (ptr int_t)) zero ≡ Is (e.choice (ptr int_t) (var int_t) (var (ptr int_t)) (convert (ptr int_t) zero))
pointer_or_zero = refl

pointer_or_one : r.choice here (var int_t) (var (ptr int_t)) (int int_t 1) ≡ Fails 16
pointer_or_one = refl

char_or_unsigned : r.choice here (var int_t) (var char_t) (var uint_t) ≡ Is (e.choice uint_t (var int_t) (convert uint_t (convert int_t (var char_t))) (var uint_t))
char_or_unsigned = refl

-- rule 17
star_of_int : r.unary here uo.Deref (var int_t) ≡ Fails 17
star_of_int = refl

star_of_function : r.unary here uo.Deref (var f_t) ≡ Is (e.deref f_t (designate (ptr f_t) (var f_t)))
star_of_function = refl

address_of_value : r.unary here uo.Address (int int_t 1) ≡ Fails 17
address_of_value = refl

address_of_array : r.unary here uo.Address (var (arr 3 int_t)) ≡ Is (e.address (ptr (arr 3 int_t)) (var (arr 3 int_t)))
address_of_array = refl

-- rules 18, 19 and 20
index_by_char : r.subscript here (var (arr 3 int_t)) (var char_t) ≡ Is (e.index int_t (decay (ptr int_t) (var (arr 3 int_t))) (convert int_t (var char_t)))
index_by_char = refl

index_on_the_right : r.subscript here (var int_t) (var (arr 3 int_t)) ≡ Fails 18
index_on_the_right = refl

second_member : r.dot here (var s_t) (99 ∷ []) ≡ Is (e.member char_t (var s_t) 1)
unfolding up_to
second_member = refl

no_member : r.dot here (var s_t) (120 ∷ []) ≡ Fails 19
unfolding up_to
no_member = refl

dot_of_pointer : r.dot here (var (ptr s_t)) (118 ∷ []) ≡ Fails 19
dot_of_pointer = refl

call_of_pointer : r.called (var (ptr f_t)) ≡ Is (var (ptr f_t))
call_of_pointer = refl

call_of_int : r.called (var int_t) ≡ Fails 20
call_of_int = refl

-- rule 21
set_char : r.assign here (var char_t) (var int_t) ≡ Is (e.assign char_t (var char_t) (convert char_t (var int_t)))
set_char = refl

set_pointer : r.assign here (var (ptr char_t)) (int int_t 1) ≡ Fails 21
set_pointer = refl

set_null : r.assign here (var (ptr char_t)) zero ≡ Is (e.assign (ptr char_t) (var (ptr char_t)) (convert (ptr char_t) zero))
set_null = refl

set_structure : r.assign here (var s_t) (var s_t) ≡ Is (e.assign void (var s_t) (var s_t))
set_structure = refl

set_array : r.assign here (var (arr 3 int_t)) (var (arr 3 int_t)) ≡ Fails 21
set_array = refl

set_value : r.assign here (int int_t 1) (int int_t 1) ≡ Fails 21
set_value = refl

add_to_char : r.assignment here ao.Add (var char_t) (var long_t) ≡ Is (e.update char_t tb.Add long_t (var char_t) (var long_t))
add_to_char = refl

shift_char : r.assignment here ao.Shl (var char_t) (var long_t) ≡ Is (e.update char_t tb.Shl int_t (var char_t) (var long_t))
shift_char = refl

add_to_pointer : r.assignment here ao.Add (var (ptr int_t)) (var char_t) ≡ Is (e.update (ptr int_t) tb.Add (ptr int_t) (var (ptr int_t)) (convert int_t (var char_t)))
add_to_pointer = refl

multiply_pointer : r.assignment here ao.Mul (var (ptr int_t)) (var int_t) ≡ Fails 21
multiply_pointer = refl

step_enum : r.unary here uo.Inc (var (enum 1)) ≡ Fails 21
step_enum = refl

step_pointer : r.unary here uo.Dec (var (ptr s_t)) ≡ Is (e.step (ptr s_t) tst.PreDec (var (ptr s_t)))
step_pointer = refl

comma_of_structure : r.comma zero (var s_t) ≡ Fails 21
comma_of_structure = refl

-- rule 22
cast_to_enum : r.cast here (enum 1) (var char_t) ≡ Is (e.cast (enum 1) (var char_t))
cast_to_enum = refl

cast_pointer : r.cast here (ptr char_t) (var (ptr int_t)) ≡ Fails 22
cast_pointer = refl

cast_of_zero : r.cast here (ptr char_t) zero ≡ Is (e.cast (ptr char_t) zero)
cast_of_zero = refl

cast_structure_to_void : r.cast here void (var s_t) ≡ Fails 21
cast_structure_to_void = refl

-- rule 23
return_of_void : taken 23 here void zero ≡ Fails 23
return_of_void = refl
