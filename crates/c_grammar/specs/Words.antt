-- Words and marks by their places in the two lists of the language, and the operators' marks and levels.
use Rattle.std.specs.Prelude.{ℕ, List, [], ◌∷◌, nat_eq, Option, Some, None}
use Rattle.c_type.specs.Names.{pick}
use Rattle.c_type.specs.declared.TagKind.{TagKind}
use Rattle.c_type.specs.declared.TagKind.TheVariants.{Struct, Union, Enum}
use Rattle.c_lex.specs.Tokens.{Token, Tok}
use Rattle.c_lex.specs.Tokens as k
use Rattle.c_tree.specs.declared.decl.Storage.{Storage}
use Rattle.c_tree.specs.declared.decl.Storage.TheVariants.{Auto, Register, Static, Extern}
use Rattle.c_tree.specs.declared.expr.AssignOp.{AssignOp}
use Rattle.c_tree.specs.declared.expr.BinaryOp.{BinaryOp}
use Rattle.c_tree.specs.declared.expr.UnaryOp.{UnaryOp}
use Rattle.c_tree.specs.declared.expr.StepOp.{StepOp}
use Rattle.c_tree.specs.declared.expr.AssignOp.TheVariants as a
use Rattle.c_tree.specs.declared.expr.BinaryOp.TheVariants as b
use Rattle.c_tree.specs.declared.expr.UnaryOp.TheVariants as u
use Rattle.c_tree.specs.declared.expr.StepOp.TheVariants as s

abbrev pub break_word : ℕ
break_word = 1

abbrev pub case_word : ℕ
case_word = 2

abbrev pub continue_word : ℕ
continue_word = 4

abbrev pub default_word : ℕ
default_word = 5

abbrev pub do_word : ℕ
do_word = 6

abbrev pub else_word : ℕ
else_word = 7

abbrev pub for_word : ℕ
for_word = 10

abbrev pub if_word : ℕ
if_word = 11

abbrev pub register_word : ℕ
register_word = 14

abbrev pub return_word : ℕ
return_word = 15

abbrev pub sizeof_word : ℕ
sizeof_word = 17

abbrev pub switch_word : ℕ
switch_word = 20

abbrev pub typedef_word : ℕ
typedef_word = 21

abbrev pub while_word : ℕ
while_word = 24

abbrev pub storage_word : Storage → ℕ
storage_word Auto = 0
storage_word Register = register_word
storage_word Static = 18
storage_word Extern = 9

abbrev pub tag_word : TagKind → ℕ
tag_word Struct = 19
tag_word Union = 29
tag_word Enum = 8

-- the words of which the types of numbers and void are made
pub data TypeWord : Type 0 where
  Unsigned : TypeWord
  Char : TypeWord
  Short : TypeWord
  Long : TypeWord
  Int : TypeWord
  Void : TypeWord

abbrev pub type_word : TypeWord → ℕ
type_word Unsigned = 22
type_word Char = 3
type_word Short = 16
type_word Long = 13
type_word Int = 12
type_word Void = 23

abbrev pub arrow_mark : ℕ
arrow_mark = 4

abbrev pub open_round : ℕ
open_round = 21

abbrev pub close_round : ℕ
close_round = 22

abbrev pub open_square : ℕ
open_square = 23

abbrev pub close_square : ℕ
close_square = 24

abbrev pub open_brace : ℕ
open_brace = 25

abbrev pub close_brace : ℕ
close_brace = 26

abbrev pub dot_mark : ℕ
dot_mark = 27

abbrev pub comma_mark : ℕ
comma_mark = 28

abbrev pub semicolon : ℕ
semicolon = 29

abbrev pub colon : ℕ
colon = 30

abbrev pub question : ℕ
question = 31

abbrev pub equals : ℕ
equals = 32

abbrev pub star : ℕ
star = 35

abbrev pub assign_mark : AssignOp → ℕ
assign_mark a.Set = equals
assign_mark a.Add = 13
assign_mark a.Sub = 14
assign_mark a.Mul = 15
assign_mark a.Div = 16
assign_mark a.Rem = 17
assign_mark a.And = 18
assign_mark a.Or = 19
assign_mark a.Xor = 20
assign_mark a.Shl = 0
assign_mark a.Shr = 1

abbrev pub binary_mark : BinaryOp → ℕ
binary_mark b.Either = 12
binary_mark b.Both = 11
binary_mark b.Or = 39
binary_mark b.Xor = 40
binary_mark b.And = 38
binary_mark b.Eq = 9
binary_mark b.Ne = 10
binary_mark b.Lt = 43
binary_mark b.Gt = 44
binary_mark b.Le = 7
binary_mark b.Ge = 8
binary_mark b.Shl = 5
binary_mark b.Shr = 6
binary_mark b.Add = 33
binary_mark b.Sub = 34
binary_mark b.Mul = star
binary_mark b.Div = 36
binary_mark b.Rem = 37

-- how tightly a binary operator binds
abbrev pub binary_level : BinaryOp → ℕ
binary_level b.Either = 4
binary_level b.Both = 5
binary_level b.Or = 6
binary_level b.Xor = 7
binary_level b.And = 8
binary_level b.Eq = 9
binary_level b.Ne = 9
binary_level b.Lt = 10
binary_level b.Gt = 10
binary_level b.Le = 10
binary_level b.Ge = 10
binary_level b.Shl = 11
binary_level b.Shr = 11
binary_level b.Add = 12
binary_level b.Sub = 12
binary_level b.Mul = 13
binary_level b.Div = 13
binary_level b.Rem = 13

abbrev pub unary_mark : UnaryOp → ℕ
unary_mark u.Deref = star
unary_mark u.Address = 38
unary_mark u.Neg = 34
unary_mark u.Not = 42
unary_mark u.Flip = 41
unary_mark u.Inc = 2
unary_mark u.Dec = 3

abbrev pub step_mark : StepOp → ℕ
step_mark s.Inc = 2
step_mark s.Dec = 3

-- ---- the operators that marks spell

-- the first of the operators whose mark is this one
abbrev pub with_mark : {A : Type 0} → (A → ℕ) → ℕ → List A → Option A
with_mark mark m [] = None
with_mark mark m (x ∷ xs) = pick (nat_eq m (mark x)) (Some x) (with_mark mark m xs)

abbrev pub assign_of : ℕ → Option AssignOp
assign_of m = with_mark assign_mark m (a.Set ∷ a.Add ∷ a.Sub ∷ a.Mul ∷ a.Div ∷ a.Rem ∷ a.And ∷ a.Or ∷ a.Xor ∷ a.Shl ∷ a.Shr ∷ [])

abbrev pub binary_of : ℕ → Option BinaryOp
binary_of m = with_mark binary_mark m (b.Either ∷ b.Both ∷ b.Or ∷ b.Xor ∷ b.And ∷ b.Eq ∷ b.Ne ∷ b.Lt ∷ b.Gt ∷ b.Le ∷ b.Ge ∷ b.Shl ∷ b.Shr ∷ b.Add ∷ b.Sub ∷ b.Mul ∷ b.Div ∷ b.Rem ∷ [])

abbrev pub unary_of : ℕ → Option UnaryOp
unary_of m = with_mark unary_mark m (u.Deref ∷ u.Address ∷ u.Neg ∷ u.Not ∷ u.Flip ∷ u.Inc ∷ u.Dec ∷ [])

abbrev pub step_of : ℕ → Option StepOp
step_of m = with_mark step_mark m (s.Inc ∷ s.Dec ∷ [])

-- a token of the line
abbrev pub tok : ℕ → Tok → Token
tok l t = record { kind = t; line = l }

abbrev pub mark : ℕ → ℕ → Token
mark l m = tok l (k.mark m)

abbrev pub word : ℕ → ℕ → Token
word l w = tok l (k.word w)

-- Members that are separated by commas, at least one. Each further one has the line of the comma before it.
pub record After (A : Type 0) : Type 0 where
  pub comma : ℕ
  pub member : A

pub record Separated (A : Type 0) : Type 0 where
  pub first : A
  pub others : List (After A)

abbrev pub members_of : {A B : Type 0} → (A → B) → List (After A) → List B
members_of f [] = []
members_of f (x ∷ xs) = f x.member ∷ members_of f xs

-- what each member stands for
abbrev pub listed : {A B : Type 0} → (A → B) → Separated A → List B
listed f xs = f xs.first ∷ members_of f xs.others

abbrev pub spell_others : {A : Type 0} → (A → List Token → List Token) → List (After A) → List Token → List Token
spell_others spell [] after = after
spell_others spell (x ∷ xs) after = mark x.comma comma_mark ∷ spell x.member (spell_others spell xs after)

-- the tokens of the members with commas between them, and then the others
abbrev pub spell_separated : {A : Type 0} → (A → List Token → List Token) → Separated A → List Token → List Token
spell_separated spell xs after = spell xs.first (spell_others spell xs.others after)

-- a fact that holds of each member
abbrev pub AreEach : {A : Type 0} → (A → Type 0) → List (After A) → Type 0
AreEach P [] = Unit {0}
AreEach P (x ∷ xs) = P x.member × AreEach P xs

abbrev pub AreAll : {A : Type 0} → (A → Type 0) → Separated A → Type 0
AreAll P xs = P xs.first × AreEach P xs.others
