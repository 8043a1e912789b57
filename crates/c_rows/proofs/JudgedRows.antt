-- Small units at the borders of the rules: 0 where a unit is typed, and otherwise the number of the rule that fails.
use Rattle.std.proofs.Common.{◌≡◌, ℕ, List, [], ◌∷◌, Option, Some, None, false, refl}
use Rattle.c_type.specs.Names.{Name}
use Rattle.c_type.specs.declared.Kind.TheVariants.{Char, Int}
use Rattle.c_type.specs.declared.TagKind.TheVariants.{Struct, Enum}
use Rattle.c_tree.specs.declared.decl.Storage.{Storage}
use Rattle.c_tree.specs.declared.decl.Storage.TheVariants.{Static, Extern}
use Rattle.c_tree.specs.declared.expr.UnaryOp.TheVariants.{Address}
use Rattle.c_tree.specs.TreeExpr as u
use Rattle.c_tree.specs.TreeDecl as ud
use Rattle.c_tree.specs.TreeStmt as us
use Rattle.c_tree.specs.TreeUnit as uu
use Rattle.c_rule.specs.RuleScope.{Judged, Is, Fails}
use Rattle.c_rule.specs.JudgingUnit.{judged}

abbrev outcome : {A : Type 0} → Judged A → ℕ
outcome (Is a) = 0
outcome (Fails n) = n

abbrev rule_of : List uu.Ext → ℕ
rule_of xs = outcome (judged (record { exts = xs }))

abbrev a : Name
a = 97 ∷ []

abbrev b : Name
b = 98 ∷ []

abbrev f : Name
f = 102 ∷ []

abbrev s : Name
s = 115 ∷ []

abbrev v : Name
v = 118 ∷ []

abbrev int_w : u.TypeSpec
int_w = u.num Int

abbrev char_w : u.TypeSpec
char_w = u.num Char

abbrev struct_s : u.TypeSpec
struct_s = u.tag (record { line = 1; kind = Struct; name = s })

abbrev enum_s : u.TypeSpec
enum_s = u.tag (record { line = 1; kind = Enum; name = s })

abbrev var : Name → ud.Declr
var x = ud.name 1 x

abbrev pointer : Name → ud.Declr
pointer x = ud.pointer 1 (var x)

abbrev array : Name → Option u.Expr → ud.Declr
array x e = ud.array 1 (var x) e

abbrev fun_of : Name → ud.Declr
fun_of x = ud.function 1 (var x) []

abbrev num : ℕ → u.Expr
num n = u.int 1 n false

abbrev name : Name → u.Expr
name x = u.name 1 x

abbrev value : u.Expr → Option ud.Init
value e = Some (ud.single e)

abbrev two_values : u.Expr → u.Expr → Option ud.Init
two_values d e = Some (ud.group 1 (ud.more_inits (ud.single d) (ud.more_inits (ud.single e) ud.no_inits)))

-- a declaration of one declarator
abbrev decl : Option Storage → u.TypeSpec → ud.Declr → Option ud.Init → uu.Ext
decl w y d i = uu.object 1 (record { storage = w; types = Some (ud.spec y) }) (record { declr = d; init = i } ∷ [])

-- struct s with members
abbrev members : List ud.Declr → uu.Ext
members ds = uu.tag_only 1 (ud.body (ud.struct 1 (Some s) (ud.more_mems (ud.mem 1 (ud.spec int_w) ds) ud.no_mems)))

abbrev local : Option Storage → u.TypeSpec → ud.Declr → Option ud.Init → ud.LocalDecl
local w y d i = record { line = 1; specs = record { storage = w; types = Some y }; items = record { declr = d; init = i } ∷ [] }

abbrev function : Option u.TypeSpec → List Name → List ud.ParDecl → List ud.LocalDecl → us.Stmts → uu.Ext
function y xs ps ds ss = uu.func 1 (words y) (ud.function 1 (var f) xs) ps (record { line = 1; decls = ds; stmts = ss; close_line = 1 })
  where
    words : Option u.TypeSpec → Option ud.FileSpecs
    words None = None
    words (Some y) = Some (record { storage = None; types = Some (ud.spec y) })

abbrev parameter : u.TypeSpec → ud.Declr → ud.ParDecl
parameter y d = record { line = 1; register = false; types = ud.spec y; declrs = d ∷ [] }

abbrev one : us.Stmt → us.Stmts
one z = us.more_stmts z us.no_stmts

-- a function whose block is these declarations and this statement
abbrev body : List ud.LocalDecl → us.Stmt → List uu.Ext
body ds z = function None [] [] ds (one z) ∷ []

abbrev case : ℕ → us.SwItems → us.SwItems
case n is = us.more_items (us.case 1 (num n)) is

-- rule 1
an_object_again : rule_of (decl None int_w (var a) None ∷ (decl None int_w (var a) None ∷ [])) ≡ 0
an_object_again = refl

another_type : rule_of (decl None int_w (var a) None ∷ (decl None char_w (var a) None ∷ [])) ≡ 1
another_type = refl

another_storage : rule_of (decl (Some Static) int_w (var a) None ∷ (decl None int_w (var a) None ∷ [])) ≡ 1
another_storage = refl

two_initialisers : rule_of (decl None int_w (var a) (value (num 1)) ∷ (decl None int_w (var a) (value (num 2)) ∷ [])) ≡ 1
two_initialisers = refl

twice_in_a_block : rule_of (body (local None int_w (var a) None ∷ (local None int_w (var a) None ∷ [])) (us.empty 1)) ≡ 1
twice_in_a_block = refl

parameter_in_the_block : rule_of (function None (a ∷ []) (parameter int_w (var a) ∷ []) (local None int_w (var a) None ∷ []) us.no_stmts ∷ []) ≡ 1
parameter_in_the_block = refl

in_an_inner_block : rule_of (function None (a ∷ []) [] [] (one (us.block 1 (local None int_w (var a) None ∷ []) us.no_stmts 1)) ∷ []) ≡ 0
in_an_inner_block = refl

-- a call of an undeclared name declares nothing at file level
called_before : rule_of (function None [] [] [] (one (us.expr 1 (u.call 1 (name a) u.no_exprs))) ∷ (decl None char_w (fun_of a) None ∷ [])) ≡ 0
called_before = refl

-- rule 2
undeclared : rule_of (body [] (us.expr 1 (name a))) ≡ 2
undeclared = refl

declared_before : rule_of (decl None int_w (var a) None ∷ body [] (us.expr 1 (name a))) ≡ 0
declared_before = refl

declared_behind : rule_of (function None [] [] [] (one (us.expr 1 (name a))) ∷ (decl None int_w (var a) None ∷ [])) ≡ 2
declared_behind = refl

-- rule 3
tag_named_before : rule_of (decl None struct_s (pointer a) None ∷ (members (var v ∷ []) ∷ [])) ≡ 0
tag_named_before = refl

never_defined : rule_of (decl None struct_s (pointer a) None ∷ []) ≡ 3
never_defined = refl

defined_twice : rule_of (members (var v ∷ []) ∷ (members (var a ∷ []) ∷ [])) ≡ 3
defined_twice = refl

another_kind : rule_of (members (var v ∷ []) ∷ (decl None enum_s (var a) None ∷ [])) ≡ 3
another_kind = refl

object_before_its_tag : rule_of (decl None struct_s (var a) None ∷ (members (var v ∷ []) ∷ [])) ≡ 3
object_before_its_tag = refl

-- rule 4
void_object : rule_of (decl None u.void (var a) None ∷ []) ≡ 4
void_object = refl

void_result : rule_of (decl None u.void (fun_of a) None ∷ []) ≡ 0
void_result = refl

-- rule 5
no_dimension : rule_of (decl None int_w (array a None) None ∷ []) ≡ 5
no_dimension = refl

extern_dimension : rule_of (decl (Some Extern) int_w (array a None) None ∷ []) ≡ 0
extern_dimension = refl

given_dimension : rule_of (decl None int_w (array a None) (two_values (num 1) (num 2)) ∷ []) ≡ 0
given_dimension = refl

dimension_of_0 : rule_of (decl None int_w (array a (Some (num 0))) None ∷ []) ≡ 5
dimension_of_0 = refl

inner_dimension : rule_of (decl (Some Extern) int_w (ud.array 1 (array a (Some (num 2))) None) None ∷ []) ≡ 5
inner_dimension = refl

size_of_open : rule_of (decl (Some Extern) int_w (array a None) None ∷ body [] (us.expr 1 (u.size_of 1 (name a)))) ≡ 5
size_of_open = refl

size_given_behind : rule_of (decl (Some Extern) int_w (array a None) None ∷ (decl None int_w (array a (Some (num 2))) None ∷ body [] (us.expr 1 (u.size_of 1 (name a))))) ≡ 0
size_given_behind = refl

-- rule 6
returns_array : rule_of (decl None int_w (ud.array 1 (fun_of a) (Some (num 2))) None ∷ []) ≡ 6
returns_array = refl

returns_pointer : rule_of (decl None int_w (ud.pointer 1 (fun_of a)) None ∷ []) ≡ 0
returns_pointer = refl

-- rule 7
members_alike : rule_of (members (var v ∷ (var v ∷ [])) ∷ []) ≡ 7
members_alike = refl

member_is_function : rule_of (members (fun_of v ∷ []) ∷ []) ≡ 7
member_is_function = refl

two_members : rule_of (members (var v ∷ (pointer a ∷ [])) ∷ []) ≡ 0
two_members = refl

-- rule 8
parameter_not_listed : rule_of (function None (a ∷ []) (parameter int_w (var b) ∷ []) [] us.no_stmts ∷ []) ≡ 8
parameter_not_listed = refl

parameter_is_structure : rule_of (members (var v ∷ []) ∷ (function None (a ∷ []) (parameter struct_s (var a) ∷ []) [] us.no_stmts ∷ [])) ≡ 8
parameter_is_structure = refl

parameter_is_array : rule_of (function None (a ∷ []) (parameter int_w (array a None) ∷ []) [] us.no_stmts ∷ []) ≡ 0
parameter_is_array = refl

-- rule 9
variable_dimension : rule_of (decl None int_w (var b) None ∷ (decl None int_w (array a (Some (name b))) None ∷ [])) ≡ 9
variable_dimension = refl

-- rule 10
begins_with_variable : rule_of (decl None int_w (var b) None ∷ (decl None int_w (var a) (value (name b)) ∷ [])) ≡ 10
begins_with_variable = refl

begins_with_address : rule_of (decl None int_w (var b) None ∷ (decl None int_w (pointer a) (value (u.unary 1 Address (name b))) ∷ [])) ≡ 0
begins_with_address = refl

too_many : rule_of (decl None int_w (array a (Some (num 1))) (two_values (num 1) (num 2)) ∷ []) ≡ 10
too_many = refl

text_fits : rule_of (decl None char_w (array a (Some (num 2))) (value (u.text 1 (104 ∷ (105 ∷ [])))) ∷ []) ≡ 0
text_fits = refl

text_too_long : rule_of (decl None char_w (array a (Some (num 1))) (value (u.text 1 (104 ∷ (105 ∷ [])))) ∷ []) ≡ 10
text_too_long = refl

-- rule 11
automatic_list : rule_of (body (local None int_w (array a (Some (num 2))) (two_values (num 1) (num 2)) ∷ []) (us.empty 1)) ≡ 11
automatic_list = refl

automatic_value : rule_of (body (local None int_w (var a) (value (num 1)) ∷ []) (us.empty 1)) ≡ 0
automatic_value = refl

extern_value : rule_of (decl (Some Extern) int_w (var a) (value (num 1)) ∷ []) ≡ 11
extern_value = refl

-- rule 15
test_of_function_value : rule_of (body [] (us.if_only 1 (name f) (us.empty 1))) ≡ 0
test_of_function_value = refl

test_of_void : rule_of (decl None u.void (fun_of a) None ∷ body [] (us.while 1 (u.call 1 (name a) u.no_exprs) (us.empty 1))) ≡ 15
test_of_void = refl

-- rule 20
argument_is_structure : rule_of (members (var v ∷ []) ∷ (decl None struct_s (var a) None ∷ body [] (us.expr 1 (u.call 1 (name f) (u.more_exprs (name a) u.no_exprs))))) ≡ 21
argument_is_structure = refl

called_object : rule_of (decl None int_w (var a) None ∷ body [] (us.expr 1 (u.call 1 (name a) u.no_exprs))) ≡ 20
called_object = refl

-- rule 23
void_returns_value : rule_of (function (Some u.void) [] [] [] (one (us.return 1 (Some (num 0)))) ∷ []) ≡ 23
void_returns_value = refl

returns_nothing : rule_of (body [] (us.return 1 None)) ≡ 0
returns_nothing = refl

-- rule 24
break_alone : rule_of (body [] (us.break 1)) ≡ 24
break_alone = refl

break_in_loop : rule_of (body [] (us.while 1 (num 1) (us.break 1))) ≡ 0
break_in_loop = refl

continue_in_switch : rule_of (body [] (us.switch 1 (num 1) (us.more_items (us.stmt (us.continue 1)) us.no_items))) ≡ 24
continue_in_switch = refl

cases_alike : rule_of (body [] (us.switch 1 (num 1) (case 2 (case 2 us.no_items)))) ≡ 24
cases_alike = refl

cases_differ : rule_of (body [] (us.switch 1 (num 1) (case 2 (case 3 (us.more_items (us.default 1) us.no_items))))) ≡ 0
cases_differ = refl

two_defaults : rule_of (body [] (us.switch 1 (num 1) (us.more_items (us.default 1) (us.more_items (us.default 1) us.no_items)))) ≡ 24
two_defaults = refl
