-- What the operators' marks are read as, and where an expression ends.
use Rattle.std.proofs.Common.{◌≡◌, ℕ, ◌<◌, ◌≤◌, List, [], ◌∷◌, Option, Some, None, Bool, true, false, nat_lt, nat_eq, refl, arith, ap}
use Rattle.std.proofs.lemmas.Bool.{lt-ltb, le-ltb, ltb-true}
use Rattle.c_type.specs.Names.{pick}
use Rattle.c_lex.specs.Tokens.{Tok, Token}
use Rattle.c_lex.specs.Tokens as k
use Rattle.c_tree.specs.declared.expr.BinaryOp.{BinaryOp}
use Rattle.c_tree.specs.declared.expr.AssignOp.{AssignOp}
use Rattle.c_tree.specs.declared.expr.UnaryOp.{UnaryOp}
use Rattle.c_tree.specs.declared.expr.StepOp.{StepOp}
use Rattle.c_tree.specs.declared.expr.AssignOp.TheVariants as a
use Rattle.c_tree.specs.declared.expr.BinaryOp.TheVariants as b
use Rattle.c_tree.specs.declared.expr.UnaryOp.TheVariants as u
use Rattle.c_tree.specs.declared.expr.StepOp.TheVariants as s
use Rattle.c_grammar.specs.Words.{mark, binary_of, binary_mark, binary_level, assign_of, assign_mark, unary_of, unary_mark, step_of, step_mark}
use Rattle.c_expr.specs.Front.{eat, paired, marked, front_mark}
use Rattle.c_expr.specs.Reading.{at_least, binary_from, operator_at, assigned_at}
use Rattle.c_expr.specs.Ends.{Ends}
use Rattle.c_expr.proofs.Levels.{binary_range, when_true, stops_above}

-- A mark that is none of the suffixes, of the comma and of the question mark.
pub record IsPlain (m : ℕ) : Type 0 where
  pub no_call : nat_eq m 21 ≡ false
  pub no_index : nat_eq m 23 ≡ false
  pub no_member : nat_eq m 27 ≡ false
  pub no_arrow : nat_eq m 4 ≡ false
  pub no_step : step_of m ≡ None
  pub no_choice : nat_eq m 31 ≡ false
  pub no_comma : nat_eq m 28 ≡ false

pub binary_plain : (op : BinaryOp) → IsPlain (binary_mark op)
binary_plain b.Either = record { no_call = refl; no_index = refl; no_member = refl; no_arrow = refl; no_step = refl; no_choice = refl; no_comma = refl }
binary_plain b.Both = record { no_call = refl; no_index = refl; no_member = refl; no_arrow = refl; no_step = refl; no_choice = refl; no_comma = refl }
binary_plain b.Or = record { no_call = refl; no_index = refl; no_member = refl; no_arrow = refl; no_step = refl; no_choice = refl; no_comma = refl }
binary_plain b.Xor = record { no_call = refl; no_index = refl; no_member = refl; no_arrow = refl; no_step = refl; no_choice = refl; no_comma = refl }
binary_plain b.And = record { no_call = refl; no_index = refl; no_member = refl; no_arrow = refl; no_step = refl; no_choice = refl; no_comma = refl }
binary_plain b.Eq = record { no_call = refl; no_index = refl; no_member = refl; no_arrow = refl; no_step = refl; no_choice = refl; no_comma = refl }
binary_plain b.Ne = record { no_call = refl; no_index = refl; no_member = refl; no_arrow = refl; no_step = refl; no_choice = refl; no_comma = refl }
binary_plain b.Lt = record { no_call = refl; no_index = refl; no_member = refl; no_arrow = refl; no_step = refl; no_choice = refl; no_comma = refl }
binary_plain b.Gt = record { no_call = refl; no_index = refl; no_member = refl; no_arrow = refl; no_step = refl; no_choice = refl; no_comma = refl }
binary_plain b.Le = record { no_call = refl; no_index = refl; no_member = refl; no_arrow = refl; no_step = refl; no_choice = refl; no_comma = refl }
binary_plain b.Ge = record { no_call = refl; no_index = refl; no_member = refl; no_arrow = refl; no_step = refl; no_choice = refl; no_comma = refl }
binary_plain b.Shl = record { no_call = refl; no_index = refl; no_member = refl; no_arrow = refl; no_step = refl; no_choice = refl; no_comma = refl }
binary_plain b.Shr = record { no_call = refl; no_index = refl; no_member = refl; no_arrow = refl; no_step = refl; no_choice = refl; no_comma = refl }
binary_plain b.Add = record { no_call = refl; no_index = refl; no_member = refl; no_arrow = refl; no_step = refl; no_choice = refl; no_comma = refl }
binary_plain b.Sub = record { no_call = refl; no_index = refl; no_member = refl; no_arrow = refl; no_step = refl; no_choice = refl; no_comma = refl }
binary_plain b.Mul = record { no_call = refl; no_index = refl; no_member = refl; no_arrow = refl; no_step = refl; no_choice = refl; no_comma = refl }
binary_plain b.Div = record { no_call = refl; no_index = refl; no_member = refl; no_arrow = refl; no_step = refl; no_choice = refl; no_comma = refl }
binary_plain b.Rem = record { no_call = refl; no_index = refl; no_member = refl; no_arrow = refl; no_step = refl; no_choice = refl; no_comma = refl }

pub assign_plain : (op : AssignOp) → IsPlain (assign_mark op)
assign_plain a.Set = record { no_call = refl; no_index = refl; no_member = refl; no_arrow = refl; no_step = refl; no_choice = refl; no_comma = refl }
assign_plain a.Add = record { no_call = refl; no_index = refl; no_member = refl; no_arrow = refl; no_step = refl; no_choice = refl; no_comma = refl }
assign_plain a.Sub = record { no_call = refl; no_index = refl; no_member = refl; no_arrow = refl; no_step = refl; no_choice = refl; no_comma = refl }
assign_plain a.Mul = record { no_call = refl; no_index = refl; no_member = refl; no_arrow = refl; no_step = refl; no_choice = refl; no_comma = refl }
assign_plain a.Div = record { no_call = refl; no_index = refl; no_member = refl; no_arrow = refl; no_step = refl; no_choice = refl; no_comma = refl }
assign_plain a.Rem = record { no_call = refl; no_index = refl; no_member = refl; no_arrow = refl; no_step = refl; no_choice = refl; no_comma = refl }
assign_plain a.And = record { no_call = refl; no_index = refl; no_member = refl; no_arrow = refl; no_step = refl; no_choice = refl; no_comma = refl }
assign_plain a.Or = record { no_call = refl; no_index = refl; no_member = refl; no_arrow = refl; no_step = refl; no_choice = refl; no_comma = refl }
assign_plain a.Xor = record { no_call = refl; no_index = refl; no_member = refl; no_arrow = refl; no_step = refl; no_choice = refl; no_comma = refl }
assign_plain a.Shl = record { no_call = refl; no_index = refl; no_member = refl; no_arrow = refl; no_step = refl; no_choice = refl; no_comma = refl }
assign_plain a.Shr = record { no_call = refl; no_index = refl; no_member = refl; no_arrow = refl; no_step = refl; no_choice = refl; no_comma = refl }

pub binary_again : (op : BinaryOp) → binary_of (binary_mark op) ≡ Some op
binary_again b.Either = refl
binary_again b.Both = refl
binary_again b.Or = refl
binary_again b.Xor = refl
binary_again b.And = refl
binary_again b.Eq = refl
binary_again b.Ne = refl
binary_again b.Lt = refl
binary_again b.Gt = refl
binary_again b.Le = refl
binary_again b.Ge = refl
binary_again b.Shl = refl
binary_again b.Shr = refl
binary_again b.Add = refl
binary_again b.Sub = refl
binary_again b.Mul = refl
binary_again b.Div = refl
binary_again b.Rem = refl

pub binary_not_assign : (op : BinaryOp) → assign_of (binary_mark op) ≡ None
binary_not_assign b.Either = refl
binary_not_assign b.Both = refl
binary_not_assign b.Or = refl
binary_not_assign b.Xor = refl
binary_not_assign b.And = refl
binary_not_assign b.Eq = refl
binary_not_assign b.Ne = refl
binary_not_assign b.Lt = refl
binary_not_assign b.Gt = refl
binary_not_assign b.Le = refl
binary_not_assign b.Ge = refl
binary_not_assign b.Shl = refl
binary_not_assign b.Shr = refl
binary_not_assign b.Add = refl
binary_not_assign b.Sub = refl
binary_not_assign b.Mul = refl
binary_not_assign b.Div = refl
binary_not_assign b.Rem = refl

pub assign_again : (op : AssignOp) → assign_of (assign_mark op) ≡ Some op
assign_again a.Set = refl
assign_again a.Add = refl
assign_again a.Sub = refl
assign_again a.Mul = refl
assign_again a.Div = refl
assign_again a.Rem = refl
assign_again a.And = refl
assign_again a.Or = refl
assign_again a.Xor = refl
assign_again a.Shl = refl
assign_again a.Shr = refl

pub assign_not_binary : (op : AssignOp) → binary_of (assign_mark op) ≡ None
assign_not_binary a.Set = refl
assign_not_binary a.Add = refl
assign_not_binary a.Sub = refl
assign_not_binary a.Mul = refl
assign_not_binary a.Div = refl
assign_not_binary a.Rem = refl
assign_not_binary a.And = refl
assign_not_binary a.Or = refl
assign_not_binary a.Xor = refl
assign_not_binary a.Shl = refl
assign_not_binary a.Shr = refl

pub unary_again : (op : UnaryOp) → unary_of (unary_mark op) ≡ Some op
unary_again u.Deref = refl
unary_again u.Address = refl
unary_again u.Neg = refl
unary_again u.Not = refl
unary_again u.Flip = refl
unary_again u.Inc = refl
unary_again u.Dec = refl

pub unary_not_open : (op : UnaryOp) → nat_eq (unary_mark op) 21 ≡ false
unary_not_open u.Deref = refl
unary_not_open u.Address = refl
unary_not_open u.Neg = refl
unary_not_open u.Not = refl
unary_not_open u.Flip = refl
unary_not_open u.Inc = refl
unary_not_open u.Dec = refl

-- the mark of a step
pub record IsStepMark (op : StepOp) : Type 0 where
  pub again : step_of (step_mark op) ≡ Some op
  pub no_call : nat_eq (step_mark op) 21 ≡ false
  pub no_index : nat_eq (step_mark op) 23 ≡ false
  pub no_member : nat_eq (step_mark op) 27 ≡ false
  pub no_arrow : nat_eq (step_mark op) 4 ≡ false

pub step_is : (op : StepOp) → IsStepMark op
step_is s.Inc = record { again = refl; no_call = refl; no_index = refl; no_member = refl; no_arrow = refl }
step_is s.Dec = record { again = refl; no_call = refl; no_index = refl; no_member = refl; no_arrow = refl }

always_none : {A : Type 0} (c : Bool) (o : Option A) → o ≡ None → pick c None o ≡ None
always_none true o is = refl
always_none false o is = is

none_above : {A : Type 0} (n l m : ℕ) (o : Option A) → l ≤ m → pick (nat_lt n l) None o ≡ None → pick (nat_lt n m) None o ≡ None
none_above n l m None le is = always_none (nat_lt n m) None refl
none_above n l m (Some x) le is =
    let lt : n < l = ltb-true n l (test (nat_lt n l) x is) in
    when_true (nat_lt n m) None (Some x) (lt-ltb n m (omega arith))
  where
    test : {A : Type 0} (c : Bool) (x : A) → pick c None (Some x) ≡ None → c ≡ true
    test true x is = refl
    test false x is = cc

none_high : {A : Type 0} (n l : ℕ) (o : Option A) → n < l → pick (nat_lt n l) None o ≡ None
none_high n l o lt = when_true (nat_lt n l) None o (lt-ltb n l lt)

pub ends_above : (l m : ℕ) (ts : List Token) → l ≤ m → Ends l ts → Ends m ts
ends_above l m ts le e = record {
  no_call = e.no_call;
  no_index = e.no_index;
  no_member = e.no_member;
  no_arrow = e.no_arrow;
  no_step = e.no_step;
  no_operator = stops_above l m ts le e.no_operator;
  no_assign = none_above 2 l m (front_mark assign_of ts) le e.no_assign;
  no_choice = none_above 3 l m (eat 31 ts) le e.no_choice;
  no_comma = none_above 1 l m (eat 28 ts) le e.no_comma;
}

low_operator : (l line : ℕ) (op : BinaryOp) (ts : List Token) → binary_level op < l → operator_at l (mark line (binary_mark op) ∷ ts) ≡ None
low_operator l line op ts lt = rw (binary_again op, lt-ltb (binary_level op) l lt) refl

pub high_operator : (l line : ℕ) (op : BinaryOp) (ts : List Token) → l ≤ binary_level op → operator_at l (mark line (binary_mark op) ∷ ts) ≡ Some (op, ts)
high_operator l line op ts le = rw (binary_again op, le-ltb (binary_level op) l le) refl

-- before a binary operator of a lower level
pub ends_before_binary : (l line : ℕ) (op : BinaryOp) (ts : List Token) → binary_level op < l → Ends l (mark line (binary_mark op) ∷ ts)
ends_before_binary l line op ts lt =
    let p = binary_plain op in
    let four : 4 ≤ binary_level op = (binary_range op).0 in
    record {
      no_call = rw p.no_call refl;
      no_index = rw p.no_index refl;
      no_member = rw p.no_member refl;
      no_arrow = rw p.no_arrow refl;
      no_step = rw p.no_step refl;
      no_operator = low_operator l line op ts lt;
      no_assign = none_high 2 l _ (omega arith);
      no_choice = none_high 3 l _ (omega arith);
      no_comma = none_high 1 l _ (omega arith);
    }

pub ends_before_assign : (l line : ℕ) (op : AssignOp) (ts : List Token) → 3 ≤ l → Ends l (mark line (assign_mark op) ∷ ts)
ends_before_assign l line op ts three =
    let p = assign_plain op in
    record {
      no_call = rw p.no_call refl;
      no_index = rw p.no_index refl;
      no_member = rw p.no_member refl;
      no_arrow = rw p.no_arrow refl;
      no_step = rw p.no_step refl;
      no_operator = rw (assign_not_binary op) refl;
      no_assign = none_high 2 l _ (omega arith);
      no_choice = always_none (nat_lt 3 l) _ (rw p.no_choice refl);
      no_comma = always_none (nat_lt 1 l) _ (rw p.no_comma refl);
    }

pub not_assigned : (l line : ℕ) (op : BinaryOp) (ts : List Token) → assigned_at l (mark line (binary_mark op) ∷ ts) ≡ None
not_assigned l line op ts = always_none (nat_lt 2 l) _ (rw (binary_not_assign op) refl)

pub choice_not_assigned : (l line : ℕ) (ts : List Token) → assigned_at l (mark line 31 ∷ ts) ≡ None
choice_not_assigned l line ts = always_none (nat_lt 2 l) _ refl

pub ends_before_close : (l line : ℕ) (ts : List Token) → Ends l (mark line 22 ∷ ts)
ends_before_close l line ts = record {
  no_call = refl;
  no_index = refl;
  no_member = refl;
  no_arrow = refl;
  no_step = refl;
  no_operator = refl;
  no_assign = always_none (nat_lt 2 l) _ refl;
  no_choice = always_none (nat_lt 3 l) _ refl;
  no_comma = always_none (nat_lt 1 l) _ refl;
}

pub ends_before_square : (l line : ℕ) (ts : List Token) → Ends l (mark line 24 ∷ ts)
ends_before_square l line ts = record {
  no_call = refl;
  no_index = refl;
  no_member = refl;
  no_arrow = refl;
  no_step = refl;
  no_operator = refl;
  no_assign = always_none (nat_lt 2 l) _ refl;
  no_choice = always_none (nat_lt 3 l) _ refl;
  no_comma = always_none (nat_lt 1 l) _ refl;
}

pub ends_before_colon : (l line : ℕ) (ts : List Token) → Ends l (mark line 30 ∷ ts)
ends_before_colon l line ts = record {
  no_call = refl;
  no_index = refl;
  no_member = refl;
  no_arrow = refl;
  no_step = refl;
  no_operator = refl;
  no_assign = always_none (nat_lt 2 l) _ refl;
  no_choice = always_none (nat_lt 3 l) _ refl;
  no_comma = always_none (nat_lt 1 l) _ refl;
}

pub ends_before_semicolon : (l line : ℕ) (ts : List Token) → Ends l (mark line 29 ∷ ts)
ends_before_semicolon l line ts = record {
  no_call = refl;
  no_index = refl;
  no_member = refl;
  no_arrow = refl;
  no_step = refl;
  no_operator = refl;
  no_assign = always_none (nat_lt 2 l) _ refl;
  no_choice = always_none (nat_lt 3 l) _ refl;
  no_comma = always_none (nat_lt 1 l) _ refl;
}

pub ends_before_brace : (l line : ℕ) (ts : List Token) → Ends l (mark line 26 ∷ ts)
ends_before_brace l line ts = record {
  no_call = refl;
  no_index = refl;
  no_member = refl;
  no_arrow = refl;
  no_step = refl;
  no_operator = refl;
  no_assign = always_none (nat_lt 2 l) _ refl;
  no_choice = always_none (nat_lt 3 l) _ refl;
  no_comma = always_none (nat_lt 1 l) _ refl;
}

pub ends_before_comma : (l line : ℕ) (ts : List Token) → 2 ≤ l → Ends l (mark line 28 ∷ ts)
ends_before_comma l line ts two = record {
  no_call = refl;
  no_index = refl;
  no_member = refl;
  no_arrow = refl;
  no_step = refl;
  no_operator = refl;
  no_assign = always_none (nat_lt 2 l) _ refl;
  no_choice = always_none (nat_lt 3 l) _ refl;
  no_comma = none_high 1 l _ (omega arith);
}

pub ends_before_choice : (l line : ℕ) (ts : List Token) → 4 ≤ l → Ends l (mark line 31 ∷ ts)
ends_before_choice l line ts four = record {
  no_call = refl;
  no_index = refl;
  no_member = refl;
  no_arrow = refl;
  no_step = refl;
  no_operator = refl;
  no_assign = always_none (nat_lt 2 l) _ refl;
  no_choice = none_high 3 l _ (omega arith);
  no_comma = always_none (nat_lt 1 l) _ refl;
}

never_at : (o : Option BinaryOp) → at_least 14 o ≡ None
never_at None = refl
never_at (Some op) = let hi : binary_level op ≤ 13 = (binary_range op).1 in when_true (nat_lt (binary_level op) 14) None (Some op) (lt-ltb (binary_level op) 14 (omega arith))

never_of : (ts : List Token) (x : Tok) → marked (binary_from 14) ts x ≡ None
never_of ts (k.name x) = refl
never_of ts (k.int n long) = refl
never_of ts (k.chr n) = refl
never_of ts (k.text bytes) = refl
never_of ts (k.word v) = refl
never_of ts (k.mark m) = ap (paired ts) (never_at (binary_of m))

never : (ts : List Token) → operator_at 14 ts ≡ None
never [] = refl
never (x ∷ ts) = never_of ts x.kind

-- a part of level 14 ends where one of any level does
pub ends_at_prefix : (l : ℕ) (ts : List Token) → Ends l ts → Ends 14 ts
ends_at_prefix l ts e = record {
  no_call = e.no_call;
  no_index = e.no_index;
  no_member = e.no_member;
  no_arrow = e.no_arrow;
  no_step = e.no_step;
  no_operator = never ts;
  no_assign = refl;
  no_choice = refl;
  no_comma = refl;
}
