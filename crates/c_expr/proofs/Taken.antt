-- What a reader of one token takes from the front.
use Rattle.std.proofs.Common.{◌≡◌, ℕ, ◌≤◌, List, [], ◌∷◌, Option, Some, None, Bool, true, false, nat_eq, nat_lt, refl, ap, sym, ◌∙◌, ◌⊎◌, inl, inr}
use Rattle.std.proofs.lemmas.Bool.{eqb-true, ltb-false}
use Rattle.c_type.specs.Names.{Name, pick}
use Rattle.c_lex.specs.Tokens.{Tok, Token}
use Rattle.c_lex.specs.Tokens as k
use Rattle.c_tree.specs.declared.expr.BinaryOp.{BinaryOp}
use Rattle.c_tree.specs.declared.expr.AssignOp.{AssignOp}
use Rattle.c_tree.specs.declared.expr.UnaryOp.{UnaryOp}
use Rattle.c_tree.specs.declared.expr.StepOp.{StepOp}
use Rattle.c_tree.specs.declared.expr.AssignOp.TheVariants as a
use Rattle.c_tree.specs.declared.expr.BinaryOp.TheVariants as b
use Rattle.c_tree.specs.declared.expr.UnaryOp.TheVariants as u
use Rattle.c_tree.specs.declared.expr.StepOp.TheVariants as s
use Rattle.c_grammar.specs.Words.{tok, mark, with_mark, binary_of, binary_mark, binary_level, assign_of, assign_mark, unary_of, unary_mark, step_of, step_mark}
use Rattle.c_grammar.specs.WrittenType.{is_typedef}
use Rattle.c_expr.specs.Front.{◌>>=◌, eat, eat_word, is_mark, is_word, line_at, any_name, name_of, name_at, paired, marked, front_mark}
use Rattle.c_expr.specs.Reading.{at_least, binary_from, operator_at, assigned_at, choice_at, comma_at}

pub some_is : {A : Type 0} {x y : A} → Some x ≡ Some y → x ≡ y
some_is e = cc

pub bind_some : {A B : Type 0} (o : Option A) (f : A → Option B) (y : B) → (o >>= f) ≡ Some y → (x : A) × (o ≡ Some x) × (f x ≡ Some y)
bind_some None f y is = cc
bind_some (Some x) f y is = (x, refl, is)

pub chosen : {A : Type 0} (b : Bool) (x y z : A) → pick b x y ≡ z → ((b ≡ true) × (x ≡ z)) ⊎ ((b ≡ false) × (y ≡ z))
chosen true x y z is = inl (refl, is)
chosen false x y z is = inr (refl, is)

-- The token stands at the front, on the line of the front, and the others behind it.
abbrev pub Front : List Token → Tok → List Token → Type 0
Front ts k after = (l : ℕ) × (line_at ts ≡ l) × (ts ≡ tok l k ∷ after)

front : (x : Token) (ts after : List Token) (k : Tok) → x.kind ≡ k → ts ≡ after → Front (x ∷ ts) k after
front x ts after k is same = (x.line, refl, ap (λ k. tok x.line k ∷ ts) is ∙ ap (λ y. tok x.line k ∷ y) same)

mark_is : (m : ℕ) (x : Tok) → is_mark m x ≡ true → x ≡ k.mark m
mark_is m (k.name x) e = cc
mark_is m (k.int n long) e = cc
mark_is m (k.chr n) e = cc
mark_is m (k.text bytes) e = cc
mark_is m (k.word w) e = cc
mark_is m (k.mark n) e = ap k.mark (eqb-true n m e)

word_is : (m : ℕ) (x : Tok) → is_word m x ≡ true → x ≡ k.word m
word_is m (k.name x) e = cc
word_is m (k.int n long) e = cc
word_is m (k.chr n) e = cc
word_is m (k.text bytes) e = cc
word_is m (k.word w) e = ap k.word (eqb-true w m e)
word_is m (k.mark n) e = cc

pub eat_takes : (m : ℕ) (ts after : List Token) → eat m ts ≡ Some after → Front ts (k.mark m) after
eat_takes m [] after is = cc
eat_takes m (x ∷ ts) after is = elim (chosen (is_mark m x.kind) (Some ts) None (Some after) is) [
  | inl h ↦ front x ts after (k.mark m) (mark_is m x.kind h.0) (some_is h.1)
  | inr h ↦ cc (h.1)
]

pub word_takes : (m : ℕ) (ts after : List Token) → eat_word m ts ≡ Some after → Front ts (k.word m) after
word_takes m [] after is = cc
word_takes m (x ∷ ts) after is = elim (chosen (is_word m x.kind) (Some ts) None (Some after) is) [
  | inl h ↦ front x ts after (k.word m) (word_is m x.kind h.0) (some_is h.1)
  | inr h ↦ cc (h.1)
]

name_of_takes : (ts : List Token) (y : Name × List Token) (x : Tok) → name_of ts x ≡ Some y → (x ≡ k.name y.0) × (ts ≡ y.1)
name_of_takes ts y (k.name x) is = let pair : Name × List Token = (x, ts) in let same : pair ≡ y = some_is is in (ap (λ q. k.name q.0) same, ap (λ q. q.1) same)
name_of_takes ts y (k.int n long) is = cc
name_of_takes ts y (k.chr n) is = cc
name_of_takes ts y (k.text bytes) is = cc
name_of_takes ts y (k.word w) is = cc
name_of_takes ts y (k.mark n) is = cc

pub any_takes : (ts : List Token) (y : Name × List Token) → any_name ts ≡ Some y → Front ts (k.name y.0) y.1
any_takes [] y is = cc
any_takes (x ∷ ts) y is = let h = name_of_takes ts y x.kind is in front x ts y.1 (k.name y.0) h.0 h.1

pub name_takes : (defs : List Name) (ts : List Token) (y : Name × List Token) → name_at defs ts ≡ Some y → Front ts (k.name y.0) y.1 × (is_typedef defs y.0 ≡ false)
name_takes defs ts y is =
    let b = bind_some (any_name ts) (λ x. pick (is_typedef defs x.0) None (Some x)) y is in
    elim (chosen (is_typedef defs b.0.0) None (Some b.0) (Some y) b.2) [
      | inl h ↦ cc (h.1)
      | inr h ↦ let same : b.0 ≡ y = some_is h.1 in (any_takes ts y (b.1 ∙ ap Some same), sym (ap (λ q. is_typedef defs q.0) same) ∙ h.0)
    ]

paired_takes : {A : Type 0} (ts : List Token) (o : Option A) (y : A × List Token) → paired ts o ≡ Some y → (o ≡ Some y.0) × (ts ≡ y.1)
paired_takes ts None y is = cc
paired_takes {A = A} ts (Some a) y is = let pair : A × List Token = (a, ts) in let same : pair ≡ y = some_is is in (ap (λ q. Some q.0) same, ap (λ q. q.1) same)

-- a mark with what is read of it
abbrev pub Marks : {A : Type 0} → (ℕ → Option A) → List Token → A × List Token → Type 0
Marks f ts y = (m : ℕ) × Front ts (k.mark m) y.1 × (f m ≡ Some y.0)

marked_takes : {A : Type 0} (f : ℕ → Option A) (ts : List Token) (y : A × List Token) (x : Tok) → marked f ts x ≡ Some y → (m : ℕ) × (x ≡ k.mark m) × (ts ≡ y.1) × (f m ≡ Some y.0)
marked_takes f ts y (k.name x) is = cc
marked_takes f ts y (k.int n long) is = cc
marked_takes f ts y (k.chr n) is = cc
marked_takes f ts y (k.text bytes) is = cc
marked_takes f ts y (k.word w) is = cc
marked_takes f ts y (k.mark m) is = let h = paired_takes ts (f m) y is in (m, refl, h.1, h.0)

pub mark_takes : {A : Type 0} (f : ℕ → Option A) (ts : List Token) (y : A × List Token) → front_mark f ts ≡ Some y → Marks f ts y
mark_takes f [] y is = cc
mark_takes f (x ∷ ts) y is = let h = marked_takes f ts y x.kind is in (h.0, front x ts y.1 (k.mark h.0) h.1 h.2, h.3)

-- an operator has its mark
pub with_mark_is : {A : Type 0} (f : A → ℕ) (m : ℕ) (xs : List A) (x : A) → with_mark f m xs ≡ Some x → m ≡ f x
with_mark_is f m [] x is = cc
with_mark_is f m (y ∷ ys) x is = elim (chosen (nat_eq m (f y)) (Some y) (with_mark f m ys) (Some x) is) [
  | inl h ↦ eqb-true m (f y) h.0 ∙ ap f (some_is h.1)
  | inr h ↦ with_mark_is f m ys x h.1
]

abbrev unaries : List UnaryOp
unaries = u.Deref ∷ u.Address ∷ u.Neg ∷ u.Not ∷ u.Flip ∷ u.Inc ∷ u.Dec ∷ []

abbrev steps : List StepOp
steps = s.Inc ∷ s.Dec ∷ []

abbrev assigns : List AssignOp
assigns = a.Set ∷ a.Add ∷ a.Sub ∷ a.Mul ∷ a.Div ∷ a.Rem ∷ a.And ∷ a.Or ∷ a.Xor ∷ a.Shl ∷ a.Shr ∷ []

abbrev binaries : List BinaryOp
binaries = b.Either ∷ b.Both ∷ b.Or ∷ b.Xor ∷ b.And ∷ b.Eq ∷ b.Ne ∷ b.Lt ∷ b.Gt ∷ b.Le ∷ b.Ge ∷ b.Shl ∷ b.Shr ∷ b.Add ∷ b.Sub ∷ b.Mul ∷ b.Div ∷ b.Rem ∷ []

-- the operator's own mark stands at the front
pub own_mark : {A : Type 0} (f : ℕ → Option A) (g : A → ℕ) (ts : List Token) (y : A × List Token) → ((m : ℕ) (a : A) → f m ≡ Some a → m ≡ g a) → Marks f ts y → Front ts (k.mark (g y.0)) y.1
own_mark f g ts y own h = (h.1.0, h.1.1, h.1.2 ∙ ap (λ m. mark h.1.0 m ∷ y.1) (own h.0 y.0 h.2))

pub unary_takes : (ts : List Token) (y : UnaryOp × List Token) → front_mark unary_of ts ≡ Some y → Front ts (k.mark (unary_mark y.0)) y.1
unary_takes ts y is = own_mark unary_of unary_mark ts y (λ m a e. with_mark_is unary_mark m unaries a e) (mark_takes unary_of ts y is)

pub step_takes : (ts : List Token) (y : StepOp × List Token) → front_mark step_of ts ≡ Some y → Front ts (k.mark (step_mark y.0)) y.1
step_takes ts y is = own_mark step_of step_mark ts y (λ m a e. with_mark_is step_mark m steps a e) (mark_takes step_of ts y is)

pub assigned_takes : (l : ℕ) (ts : List Token) (y : AssignOp × List Token) → assigned_at l ts ≡ Some y → Front ts (k.mark (assign_mark y.0)) y.1 × (l ≤ 2)
assigned_takes l ts y is = elim (chosen (nat_lt 2 l) None (front_mark assign_of ts) (Some y) is) [
  | inl h ↦ cc (h.1)
  | inr h ↦ (own_mark assign_of assign_mark ts y (λ m a e. with_mark_is assign_mark m assigns a e) (mark_takes assign_of ts y h.1), ltb-false 2 l h.0)
]

at_least_is : (l : ℕ) (o : Option BinaryOp) (op : BinaryOp) → at_least l o ≡ Some op → (o ≡ Some op) × (l ≤ binary_level op)
at_least_is l None op is = cc
at_least_is l (Some a) op is = elim (chosen (nat_lt (binary_level a) l) None (Some a) (Some op) is) [
  | inl h ↦ cc (h.1)
  | inr h ↦ let same : a ≡ op = some_is h.1 in (ap Some same, ltb-false (binary_level op) l (sym (ap (λ b. nat_lt (binary_level b) l) same) ∙ h.0))
]

pub operator_takes : (l : ℕ) (ts : List Token) (y : BinaryOp × List Token) → operator_at l ts ≡ Some y → Front ts (k.mark (binary_mark y.0)) y.1 × (l ≤ binary_level y.0)
operator_takes l ts y is =
    let h = mark_takes (binary_from l) ts y is in
    let g = at_least_is l (binary_of h.0) y.0 h.2 in
    ((h.1.0, h.1.1, h.1.2 ∙ ap (λ m. mark h.1.0 m ∷ y.1) (with_mark_is binary_mark h.0 binaries y.0 g.0)), g.1)

pub choice_takes : (l : ℕ) (ts after : List Token) → choice_at l ts ≡ Some after → Front ts (k.mark 31) after × (l ≤ 3)
choice_takes l ts after is = elim (chosen (nat_lt 3 l) None (eat 31 ts) (Some after) is) [ inl h ↦ cc (h.1) | inr h ↦ (eat_takes 31 ts after h.1, ltb-false 3 l h.0) ]

pub comma_takes : (l : ℕ) (ts after : List Token) → comma_at l ts ≡ Some after → Front ts (k.mark 28) after × (l ≤ 1)
comma_takes l ts after is = elim (chosen (nat_lt 1 l) None (eat 28 ts) (Some after) is) [ inl h ↦ cc (h.1) | inr h ↦ (eat_takes 28 ts after h.1, ltb-false 1 l h.0) ]
