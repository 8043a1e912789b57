-- Operators on two values, steps and compound assignments give values of their types.
use Rattle.std.proofs.Common.{◌≡◌, ℕ, ◌<◌, Bool, true, false, ◌&&◌, ◌||◌, refl, sym, subst}
use Rattle.std.proofs.lemmas.Bool.{and_parts, and_from, or_left, or_right}
use Rattle.c_type.specs.declared.Kind.TheVariants as kinds
use Rattle.c_type.specs.Names.{pick}
use Rattle.c_type.specs.Types.{CType, num, void, ptr, arr, struct, union, enum, fun, same_type, is_integer, is_pointer, signed_type}
use Rattle.c_tree.specs.declared.TBinary.{TBinary}
use Rattle.c_tree.specs.declared.TBinary.TheVariants.{Add, Sub}
use Rattle.c_tree.specs.declared.TStep.{TStep}
use Rattle.c_tree.specs.declared.TStep.TheVariants.{PreInc, PreDec, PostInc, PostDec}
use Rattle.c_run.specs.Values.{Value, Num, converted, Fault}
use Rattle.c_tree.specs.Arith.{may_trap, two_numbers}
use Rattle.c_run.specs.State.{State, Out, Gave, Halt, choose}
use Rattle.c_run.specs.Context.{Linked, Context}
use Rattle.c_run.specs.Pointers.{load, store, add_to, two_pointers}
use Rattle.c_run.specs.Exprs.{numbers, element, pointer_first, pointer_second, operate, step_op, new_or_old, updated, stepped}
use Rattle.c_rule.specs.RuleValues.{is_scalar, is_object_pointer}
use Rattle.c_rule.specs.RuleExprs.{is_number}
use Rattle.c_run.proofs.Suited.{same_is}
use Rattle.c_sound.specs.HasType.{IsPlace, PointsTo, HasType, Holds}
use Rattle.c_sound.specs.Suits.{is_wide, is_used, converts, compares, is_add, is_move, binary_suits}
use Rattle.c_sound.proofs.Goes.{Goes, goes_bind, goes_choose}
use Rattle.c_sound.proofs.Numbers.{two_below, one_kept}
use Rattle.c_sound.proofs.Types.{integer_is, pointer_is, is_pointer_to, wide_has, converts_has}
use Rattle.c_sound.proofs.Memory.{IsSpot, goes_as, load_goes, store_goes}
use Rattle.c_sound.proofs.Pointers.{object_target, add_to_goes, two_pointers_go}
use Rattle.c_sound.proofs.TypeTests.{same_self, scalar_used}

numbers_go : (ch : Bool) (w : Linked) (t : CType) (op : TBinary) (signed : Bool) (n m : ℕ) (s : State) →
    is_wide t ≡ true → n < 4294967296 → m < 4294967296 → Holds w s → Goes ch w (HasType w t) (numbers op signed (Num n) (Num m) s)
numbers_go ch w t op signed n m s a ln lm h =
    goes_choose ch w (HasType w t) (may_trap op signed n m) s (Halt (Fault 8)) (λ s1. Gave (Num (two_numbers op signed n m)) s1) (λ e. tt)
    (λ e. (wide_has w t (two_numbers op signed n m) a (two_below op signed n m ln lm e), h))

place_has : (ch : Bool) (w : Linked) (t u : CType) (o : Out Value) → is_object_pointer u ≡ true → same_type t u ≡ true → Goes ch w IsPlace o → Goes ch w (HasType w t) o
place_has ch w t (ptr u) o i e g =
    subst (λ x. Goes ch w (HasType w x) o) (sym (same_is t (ptr u) e)) (goes_as ch w IsPlace (PointsTo w u) o (λ p. is_pointer_to w u p (object_target u i)) g)
place_has ch w t _ o i e g = absurd cc

-- a pointer to an object
pub object_is : (w : Linked) (t : CType) (p : Value) → is_object_pointer t ≡ true → HasType w t p → IsPlace p
object_is w (ptr t) p i h = pointer_is w t p (object_target t i) h
object_is w _ p i h = absurd cc

first_goes : (ch : Bool) (c : Context) (t : CType) (op : TBinary) (a b : CType) (x : Value) (n : ℕ) (s : State) →
    is_object_pointer a ≡ true → is_move op ≡ true → same_type t a ≡ true → HasType c.whole a x → Holds c.whole s →
    Goes ch c.whole (HasType c.whole t) (pointer_first c op a b x (Num n) s)
first_goes ch c t Add a b x n s i m e hx h =
    place_has ch c.whole t a (add_to (element c a) (signed_type b) false x (Num n) s) i e
    (add_to_goes ch c.whole (element c a) (signed_type b) false x n s (object_is c.whole a x i hx) h)
first_goes ch c t Sub a b x n s i m e hx h =
    place_has ch c.whole t a (add_to (element c a) (signed_type b) true x (Num n) s) i e
    (add_to_goes ch c.whole (element c a) (signed_type b) true x n s (object_is c.whole a x i hx) h)
first_goes ch c t _ a b x n s i m e hx h = absurd cc

second_goes : (ch : Bool) (c : Context) (t : CType) (op : TBinary) (a b : CType) (n : ℕ) (y : Value) (s : State) →
    is_object_pointer b ≡ true → is_add op ≡ true → same_type t b ≡ true → HasType c.whole b y → Holds c.whole s →
    Goes ch c.whole (HasType c.whole t) (pointer_second c op a b (Num n) y s)
second_goes ch c t Add a b n y s i m e hy h =
    place_has ch c.whole t b (add_to (element c b) (signed_type a) false y (Num n) s) i e
    (add_to_goes ch c.whole (element c b) (signed_type a) false y n s (object_is c.whole b y i hy) h)
second_goes ch c t _ a b n y s i m e hy h = absurd cc

-- what suits, by which of the operands are pointers

pub pick_true : (p x y : Bool) → p ≡ true → pick p x y ≡ true → x ≡ true
pick_true true x y e h = h
pick_true false x y e h = cc

pub pick_false : (p x y : Bool) → p ≡ false → pick p x y ≡ true → y ≡ true
pick_false true x y e h = cc
pick_false false x y e h = h

both_pointers : (t : CType) (op : TBinary) (a b : CType) → is_pointer a ≡ true → is_pointer b ≡ true → binary_suits t op a b ≡ true →
    (same_type a b && (compares op (is_object_pointer a) && is_wide t)) ≡ true
both_pointers t op a b ea eb h = pick_true (is_pointer b) _ _ eb (pick_true (is_pointer a) _ _ ea h)

pointer_and_integer : (t : CType) (op : TBinary) (a b : CType) → is_pointer a ≡ true → is_pointer b ≡ false → binary_suits t op a b ≡ true →
    (is_object_pointer a && (is_integer b && (is_move op && same_type t a))) ≡ true
pointer_and_integer t op a b ea eb h = pick_false (is_pointer b) _ _ eb (pick_true (is_pointer a) _ _ ea h)

integer_and_pointer : (t : CType) (op : TBinary) (a b : CType) → is_pointer a ≡ false → is_pointer b ≡ true → binary_suits t op a b ≡ true →
    (is_integer a && (is_object_pointer b && (is_add op && same_type t b))) ≡ true
integer_and_pointer t op a b ea eb h = pick_true (is_pointer b) _ _ eb (pick_false (is_pointer a) _ _ ea h)

-- neither operand is a pointer
pub both_integers : (t : CType) (op : TBinary) (a b : CType) → is_pointer a ≡ false → is_pointer b ≡ false → binary_suits t op a b ≡ true →
    (is_integer a && (is_integer b && is_wide t)) ≡ true
both_integers t op a b ea eb h = pick_false (is_pointer b) _ _ eb (pick_false (is_pointer a) _ _ ea h)

pointers_go : (ch : Bool) (c : Context) (t : CType) (op : TBinary) (a b : CType) (x y : Value) (s : State) →
    is_pointer a ≡ true → (same_type a b && (compares op (is_object_pointer a) && is_wide t)) ≡ true → HasType c.whole a x → HasType c.whole b y → Holds c.whole s →
    Goes ch c.whole (HasType c.whole t) (two_pointers (element c a) op x y s)
pointers_go ch c t op (ptr u) b x y s ea q hx hy h =
    let q1 = and_parts (same_type (ptr u) b) (compares op (is_object_pointer (ptr u)) && is_wide t) q in
    let q2 = and_parts (compares op (is_object_pointer (ptr u))) (is_wide t) q1.1 in
    two_pointers_go ch c.whole t u (element c (ptr u)) op x y s q2.1 q2.0 hx (subst (λ r. HasType c.whole r y) (sym (same_is (ptr u) b q1.0)) hy) h
pointers_go ch c t op _ b x y s ea q hx hy h = absurd cc

pub operate_goes : (ch : Bool) (c : Context) (t : CType) (op : TBinary) (a b : CType) (x y : Value) (s : State) →
    binary_suits t op a b ≡ true → HasType c.whole a x → HasType c.whole b y → Holds c.whole s → Goes ch c.whole (HasType c.whole t) (operate c op a b x y s)
operate_goes ch c t op a b x y s q hx hy h =
    goes_choose ch c.whole (HasType c.whole t) (is_pointer a) s
    (λ s1. choose (is_pointer b) s1 (two_pointers (element c a) op x y) (pointer_first c op a b x y))
    (λ s1. choose (is_pointer b) s1 (pointer_second c op a b x y) (numbers op (signed_type a) x y))
    (λ ea. goes_choose ch c.whole (HasType c.whole t) (is_pointer b) s (two_pointers (element c a) op x y) (pointer_first c op a b x y)
    (λ eb. pointers_go ch c t op a b x y s ea (both_pointers t op a b ea eb q) hx hy h)
    (λ eb. first (pointer_and_integer t op a b ea eb q)))
    (λ ea. goes_choose ch c.whole (HasType c.whole t) (is_pointer b) s (pointer_second c op a b x y) (numbers op (signed_type a) x y)
    (λ eb. second (integer_and_pointer t op a b ea eb q))
    (λ eb. integers (both_integers t op a b ea eb q)))
  where
    first : (is_object_pointer a && (is_integer b && (is_move op && same_type t a))) ≡ true → Goes ch c.whole (HasType c.whole t) (pointer_first c op a b x y s)
    first e =
        let e1 = and_parts (is_object_pointer a) (is_integer b && (is_move op && same_type t a)) e in
        let e2 = and_parts (is_integer b) (is_move op && same_type t a) e1.1 in
        let e3 = and_parts (is_move op) (same_type t a) e2.1 in
        let n = integer_is c.whole b y e2.0 hy in
        subst (λ z. Goes ch c.whole (HasType c.whole t) (pointer_first c op a b x z s)) (sym n.1) (first_goes ch c t op a b x n.0 s e1.0 e3.0 e3.1 hx h)

    second : (is_integer a && (is_object_pointer b && (is_add op && same_type t b))) ≡ true → Goes ch c.whole (HasType c.whole t) (pointer_second c op a b x y s)
    second e =
        let e1 = and_parts (is_integer a) (is_object_pointer b && (is_add op && same_type t b)) e in
        let e2 = and_parts (is_object_pointer b) (is_add op && same_type t b) e1.1 in
        let e3 = and_parts (is_add op) (same_type t b) e2.1 in
        let n = integer_is c.whole a x e1.0 hx in
        subst (λ z. Goes ch c.whole (HasType c.whole t) (pointer_second c op a b z y s)) (sym n.1) (second_goes ch c t op a b n.0 y s e2.0 e3.0 e3.1 hy h)

    integers : (is_integer a && (is_integer b && is_wide t)) ≡ true → Goes ch c.whole (HasType c.whole t) (numbers op (signed_type a) x y s)
    integers e =
        let e1 = and_parts (is_integer a) (is_integer b && is_wide t) e in
        let e2 = and_parts (is_integer b) (is_wide t) e1.1 in
        let n = integer_is c.whole a x e1.0 hx in
        let m = integer_is c.whole b y e2.0 hy in
        subst (λ z. Goes ch c.whole (HasType c.whole t) (numbers op (signed_type a) z y s)) (sym n.1)
        (subst (λ z. Goes ch c.whole (HasType c.whole t) (numbers op (signed_type a) (Num n.0) z s)) (sym m.1)
        (numbers_go ch c.whole t op (signed_type a) n.0 m.0 s e2.1 n.2 m.2 h))

-- operators take scalars
pub operands_are_scalars : (t : CType) (op : TBinary) (a b : CType) → binary_suits t op a b ≡ true → (is_scalar a ≡ true) × (is_scalar b ≡ true)
operands_are_scalars t op a b h = case_of (is_pointer a) (is_pointer b) refl refl
  where
    case_of : (pa pb : Bool) → is_pointer a ≡ pa → is_pointer b ≡ pb → (is_scalar a ≡ true) × (is_scalar b ≡ true)
    case_of true true ea eb = (or_right (is_integer a) (is_pointer a) ea, or_right (is_integer b) (is_pointer b) eb)
    case_of true false ea eb =
        let q = and_parts (is_object_pointer a) (is_integer b && (is_move op && same_type t a)) (pointer_and_integer t op a b ea eb h) in
        (or_right (is_integer a) (is_pointer a) ea, or_left (is_integer b) (is_pointer b) (and_parts (is_integer b) (is_move op && same_type t a) q.1).0)
    case_of false true ea eb =
        let q = and_parts (is_integer a) (is_object_pointer b && (is_add op && same_type t b)) (integer_and_pointer t op a b ea eb h) in
        (or_left (is_integer a) (is_pointer a) q.0, or_right (is_integer b) (is_pointer b) eb)
    case_of false false ea eb =
        let q = and_parts (is_integer a) (is_integer b && is_wide t) (both_integers t op a b ea eb h) in
        (or_left (is_integer a) (is_pointer a) q.0, or_left (is_integer b) (is_pointer b) (and_parts (is_integer b) (is_wide t) q.1).0)

-- `op=`, `++` and `--`

pub updated_goes : (ch : Bool) (c : Context) (t : CType) (op : TBinary) (at tb : CType) (p y : Value) (s : State) →
    is_scalar t ≡ true → converts at t ≡ true → binary_suits at op at tb ≡ true → converts t at ≡ true → IsSpot p → HasType c.whole tb y → Holds c.whole s →
    Goes ch c.whole (HasType c.whole t) (updated c t op at tb p y s)
updated_goes ch c t op at tb p y s sc to q back i hy h =
    goes_bind ch c.whole (HasType c.whole t) (HasType c.whole t) (load c t p s) _ (load_goes ch c t p s sc i h)
    (λ x s1 hx h1. goes_bind ch c.whole (HasType c.whole at) (HasType c.whole t) (operate c op at tb (converted at x) y s1) _
    (operate_goes ch c at op at tb (converted at x) y s1 q (converts_has c.whole at t x (scalar_used t sc) to hx) hy h1)
    (λ z s2 hz h2. store_goes ch c t p (converted t z) s2 sc i
    (converts_has c.whole t at z (scalar_used at (operands_are_scalars at op at tb q).0) back hz) h2))

-- the type of the sum: a number's is int
abbrev stepped_type : CType → CType
stepped_type (ptr t) = ptr t
stepped_type _ = num kinds.Int

step_moves : (op : TStep) → is_move (step_op op) ≡ true
step_moves PreInc = refl
step_moves PreDec = refl
step_moves PostInc = refl
step_moves PostDec = refl

step_suits : (t : CType) (op : TStep) → (is_number t || is_object_pointer t) ≡ true → binary_suits (stepped_type t) (step_op op) t (num kinds.Int) ≡ true
step_suits (num k) op h = refl
step_suits (ptr t) op h = and_from (is_object_pointer (ptr t)) (is_move (step_op op) && same_type t t) h (and_from (is_move (step_op op)) (same_type t t) (step_moves op) (same_self t))
step_suits _ op h = cc

step_back : (t : CType) → (is_number t || is_object_pointer t) ≡ true → converts t (stepped_type t) ≡ true
step_back (num k) h = refl
step_back (ptr t) h = same_self t
step_back _ h = cc

step_used : (t : CType) → is_used (stepped_type t) ≡ true
step_used (num k) = refl
step_used void = refl
step_used (ptr t) = refl
step_used (arr n t) = refl
step_used (struct k) = refl
step_used (union k) = refl
step_used (enum k) = refl
step_used (fun t) = refl

step_scalar : (t : CType) → (is_number t || is_object_pointer t) ≡ true → is_scalar t ≡ true
step_scalar (num k) h = refl
step_scalar (ptr t) h = refl
step_scalar _ h = cc

new_or_old_has : (w : Linked) (t : CType) (op : TStep) (new old : Value) → HasType w t new → HasType w t old → HasType w t (new_or_old op new old)
new_or_old_has w t PreInc new old hn ho = hn
new_or_old_has w t PreDec new old hn ho = hn
new_or_old_has w t PostInc new old hn ho = ho
new_or_old_has w t PostDec new old hn ho = ho

pub stepped_goes : (ch : Bool) (c : Context) (t : CType) (op : TStep) (p : Value) (s : State) →
    (is_number t || is_object_pointer t) ≡ true → IsSpot p → Holds c.whole s → Goes ch c.whole (HasType c.whole t) (stepped c t op p s)
stepped_goes ch c t op p s q i h =
    goes_bind ch c.whole (HasType c.whole t) (HasType c.whole t) (load c t p s) _ (load_goes ch c t p s (step_scalar t q) i h)
    (λ x s1 hx h1. goes_bind ch c.whole (HasType c.whole (stepped_type t)) (HasType c.whole t) (operate c (step_op op) t (num kinds.Int) x (Num 1) s1) _
    (operate_goes ch c (stepped_type t) (step_op op) t (num kinds.Int) x (Num 1) s1 (step_suits t op q) hx (one_kept kinds.Int) h1)
    (λ z s2 hz h2. goes_bind ch c.whole (HasType c.whole t) (HasType c.whole t) (store c t p (converted t z) s2) _
    (store_goes ch c t p (converted t z) s2 (step_scalar t q) i (converts_has c.whole t (stepped_type t) z (step_used t) (step_back t q) hz) h2)
    (λ y s3 hy h3. (new_or_old_has c.whole t op y x hy hx, h3))))
