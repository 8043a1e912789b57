-- Expressions under two stop numbers.
use Rattle.std.proofs.Common.{ℕ, ◌<◌, ◌≤◌, List, [], ◌∷◌, refl, arith}
use Rattle.c_type.specs.Types.{target}
use Rattle.c_tree.specs.TExpr.{TExpr, TArgs, name, int, text, unary, deref, address, step, size_of, size_of_type, cast, convert, decay, designate, binary, both, either, comma, choice, assign, update, index, call, member, arrow, no_args, more_args, type_of}
use Rattle.c_tree.specs.declared.typed_expr.TBinary.TheVariants.{Add}
use Rattle.c_run.specs.Values.{Value, Num, converted, is_true, truth}
use Rattle.c_run.specs.State.{State, Out, Gave, bind, choose}
use Rattle.c_run.specs.Context.{Context, text_object, offset, shared}
use Rattle.c_run.specs.Pointers.{load, store, copy, as_pointer, beyond}
use Rattle.c_tree.specs.Constant.{is_zero}
use Rattle.c_run.specs.Exprs.{Call, Arg, value, place, args, value_of, place_of, as_place, unary_op, operate, updated, stepped, is_function, is_member, is_structure}
use Rattle.c_run.proofs.Quiet.{quiet_bind, quiet_value_of, quiet_place_of, quiet_as_place, quiet_unary_op, quiet_load, quiet_store, quiet_copy, quiet_as_pointer, quiet_beyond, quiet_operate, quiet_updated, quiet_stepped}
use Rattle.c_run.proofs.Later.{Goes, goes_gave, goes_quiet, goes_bind, goes_last, goes_choose}

-- two calls that go the same way from turn t on
abbrev pub CallsGo : (n m t : ℕ) → Call → Call → Type 0
CallsGo n m t go go' = (f : Value) (as_ : List Arg) (s : State) → t ≤ s.turns → s.turns < n → Goes n m s (go f as_ s) (go' f as_ s)

truth_goes : (n m : ℕ) (s : State) (o o' : Out Value) → Goes n m s o o' → Goes n m s (bind o (λ y s1. Gave (truth (is_true y)) s1)) (bind o' (λ y s1. Gave (truth (is_true y)) s1))
truth_goes n m s o o' h = goes_last n m s o o' (λ y s1. Gave (truth (is_true y)) s1) h (λ y s1. refl)

mutual
  pub value_goes : (n m t : ℕ) (c : Context) (go go' : Call) → CallsGo n m t go go' → (e : TExpr) (s : State) → t ≤ s.turns → s.turns < n → Goes n m s (value c go e s) (value c go' e s)
  value_goes n m t c go go' h (name y r) s lo hi = goes_quiet n m s (value_of c y r s) hi (quiet_value_of c y r s)
  value_goes n m t c go go' h (int y k) s lo hi = goes_gave n m s (converted y (Num k)) hi
  value_goes n m t c go go' h (text y k) s lo hi = refl
  value_goes n m t c go go' h (unary y op e) s lo hi = goes_last n m s (value c go e s) (value c go' e s) (unary_op op) (value_goes n m t c go go' h e s lo hi) (λ v s1. quiet_unary_op op v s1)
  value_goes n m t c go go' h (deref y e) s lo hi = goes_last n m s (value c go e s) (value c go' e s) (load c y) (value_goes n m t c go go' h e s lo hi) (λ v s1. quiet_load c y v s1)
  value_goes n m t c go go' h (address y e) s lo hi =
      goes_choose n m (is_function (type_of e)) s (value c go e) (λ s1. bind (place c go e s1) (λ p s2. choose (is_member e) s2 (as_pointer p) (Gave p)))
      (value c go' e) (λ s1. bind (place c go' e s1) (λ p s2. choose (is_member e) s2 (as_pointer p) (Gave p)))
      (value_goes n m t c go go' h e s lo hi)
      (goes_bind n m s (place c go e s) (place c go' e s) (λ p s2. choose (is_member e) s2 (as_pointer p) (Gave p)) (λ p s2. choose (is_member e) s2 (as_pointer p) (Gave p))
      (place_goes n m t c go go' h e s lo hi)
      (λ p s1 le lt. goes_choose n m (is_member e) s1 (as_pointer p) (Gave p) (as_pointer p) (Gave p) (goes_quiet n m s1 (as_pointer p s1) lt (quiet_as_pointer p s1)) (goes_gave n m s1 p lt)))
  value_goes n m t c go go' h (step y op e) s lo hi = goes_last n m s (place c go e s) (place c go' e s) (stepped c y op) (place_goes n m t c go go' h e s lo hi) (λ p s1. quiet_stepped c y op p s1)
  value_goes n m t c go go' h (size_of e) s lo hi = goes_gave n m s _ hi
  value_goes n m t c go go' h (size_of_type y) s lo hi = goes_gave n m s _ hi
  value_goes n m t c go go' h (cast y e) s lo hi = goes_last n m s (value c go e s) (value c go' e s) (λ v s1. Gave (converted y v) s1) (value_goes n m t c go go' h e s lo hi) (λ v s1. refl)
  value_goes n m t c go go' h (convert y e) s lo hi = goes_last n m s (value c go e s) (value c go' e s) (λ v s1. Gave (converted y v) s1) (value_goes n m t c go go' h e s lo hi) (λ v s1. refl)
  value_goes n m t c go go' h (decay y e) s lo hi = goes_last n m s (place c go e s) (place c go' e s) as_pointer (place_goes n m t c go go' h e s lo hi) (λ p s1. quiet_as_pointer p s1)
  value_goes n m t c go go' h (designate y e) s lo hi = value_goes n m t c go go' h e s lo hi
  value_goes n m t c go go' h (binary y op a b) s lo hi =
      goes_bind n m s (value c go a s) (value c go' a s) (λ x s1. bind (value c go b s1) (operate c op (type_of a) (type_of b) x)) (λ x s1. bind (value c go' b s1) (operate c op (type_of a) (type_of b) x))
      (value_goes n m t c go go' h a s lo hi)
      (λ x s1 le lt. goes_last n m s1 (value c go b s1) (value c go' b s1) (operate c op (type_of a) (type_of b) x) (value_goes n m t c go go' h b s1 (omega arith) lt) (λ z s2. quiet_operate c op (type_of a) (type_of b) x z s2))
  value_goes n m t c go go' h (both a b) s lo hi =
      goes_bind n m s (value c go a s) (value c go' a s) _ _ (value_goes n m t c go go' h a s lo hi)
      (λ x s1 le lt. goes_choose n m (is_true x) s1 (λ s2. bind (value c go b s2) (λ y s3. Gave (truth (is_true y)) s3)) (Gave (Num 0)) (λ s2. bind (value c go' b s2) (λ y s3. Gave (truth (is_true y)) s3)) (Gave (Num 0))
      (truth_goes n m s1 (value c go b s1) (value c go' b s1) (value_goes n m t c go go' h b s1 (omega arith) lt)) (goes_gave n m s1 (Num 0) lt))
  value_goes n m t c go go' h (either a b) s lo hi =
      goes_bind n m s (value c go a s) (value c go' a s) _ _ (value_goes n m t c go go' h a s lo hi)
      (λ x s1 le lt. goes_choose n m (is_true x) s1 (Gave (Num 1)) (λ s2. bind (value c go b s2) (λ y s3. Gave (truth (is_true y)) s3)) (Gave (Num 1)) (λ s2. bind (value c go' b s2) (λ y s3. Gave (truth (is_true y)) s3))
      (goes_gave n m s1 (Num 1) lt) (truth_goes n m s1 (value c go b s1) (value c go' b s1) (value_goes n m t c go go' h b s1 (omega arith) lt)))
  value_goes n m t c go go' h (comma y a b) s lo hi =
      goes_bind n m s (value c go a s) (value c go' a s) _ _ (value_goes n m t c go go' h a s lo hi) (λ x s1 le lt. value_goes n m t c go go' h b s1 (omega arith) lt)
  value_goes n m t c go go' h (choice y e a b) s lo hi =
      goes_bind n m s (value c go e s) (value c go' e s) _ _ (value_goes n m t c go go' h e s lo hi)
      (λ x s1 le lt. goes_choose n m (is_true x) s1 (value c go a) (value c go b) (value c go' a) (value c go' b) (value_goes n m t c go go' h a s1 (omega arith) lt) (value_goes n m t c go go' h b s1 (omega arith) lt))
  value_goes n m t c go go' h (assign y a b) s lo hi =
      goes_bind n m s (place c go a s) (place c go' a s) _ _ (place_goes n m t c go go' h a s lo hi)
      (λ p s1 le lt. goes_choose n m (is_structure (type_of a)) s1
      (λ s2. bind (place c go b s2) (copy c (type_of a) p)) (λ s2. bind (value c go b s2) (store c (type_of a) p))
      (λ s2. bind (place c go' b s2) (copy c (type_of a) p)) (λ s2. bind (value c go' b s2) (store c (type_of a) p))
      (goes_last n m s1 (place c go b s1) (place c go' b s1) (copy c (type_of a) p) (place_goes n m t c go go' h b s1 (omega arith) lt) (λ q s2. quiet_copy c (type_of a) p q s2))
      (goes_last n m s1 (value c go b s1) (value c go' b s1) (store c (type_of a) p) (value_goes n m t c go go' h b s1 (omega arith) lt) (λ v s2. quiet_store c (type_of a) p v s2)))
  value_goes n m t c go go' h (update y op u a b) s lo hi =
      goes_bind n m s (place c go a s) (place c go' a s) _ _ (place_goes n m t c go go' h a s lo hi)
      (λ p s1 le lt. goes_last n m s1 (value c go b s1) (value c go' b s1) (updated c y op u (type_of b) p) (value_goes n m t c go go' h b s1 (omega arith) lt) (λ v s2. quiet_updated c y op u (type_of b) p v s2))
  value_goes n m t c go go' h (index y a i) s lo hi =
      goes_bind n m s (value c go a s) (value c go' a s) _ _ (value_goes n m t c go go' h a s lo hi)
      (λ x s1 le lt. goes_last n m s1 (value c go i s1) (value c go' i s1) (λ z s2. bind (operate c Add (type_of a) (type_of i) x z s2) (load c y)) (value_goes n m t c go go' h i s1 (omega arith) lt)
      (λ z s2. quiet_bind s2 (operate c Add (type_of a) (type_of i) x z s2) (load c y) (quiet_operate c Add (type_of a) (type_of i) x z s2) (λ p s3. quiet_load c y p s3)))
  value_goes n m t c go go' h (call y f es) s lo hi =
      goes_bind n m s (value c go f s) (value c go' f s) _ _ (value_goes n m t c go go' h f s lo hi)
      (λ g s1 le lt. goes_bind n m s1 (args c go es s1) (args c go' es s1) (go g) (go' g) (args_goes n m t c go go' h es s1 (omega arith) lt) (λ vs s2 le2 lt2. h g vs s2 (omega arith) lt2))
  value_goes n m t c go go' h (member y e k) s lo hi =
      goes_last n m s (place c go e s) (place c go' e s) (λ p s1. bind (beyond (offset c (type_of e) k) p s1) (load c y)) (place_goes n m t c go go' h e s lo hi)
      (λ p s1. quiet_bind s1 (beyond (offset c (type_of e) k) p s1) (load c y) (quiet_beyond (offset c (type_of e) k) p s1) (λ q s2. quiet_load c y q s2))
  value_goes n m t c go go' h (arrow y e k) s lo hi =
      goes_last n m s (value c go e s) (value c go' e s) (λ p s1. bind (beyond (offset c (target (type_of e)) k) p s1) (load c y)) (value_goes n m t c go go' h e s lo hi)
      (λ p s1. quiet_bind s1 (beyond (offset c (target (type_of e)) k) p s1) (load c y) (quiet_beyond (offset c (target (type_of e)) k) p s1) (λ q s2. quiet_load c y q s2))

  pub place_goes : (n m t : ℕ) (c : Context) (go go' : Call) → CallsGo n m t go go' → (e : TExpr) (s : State) → t ≤ s.turns → s.turns < n → Goes n m s (place c go e s) (place c go' e s)
  place_goes n m t c go go' h (name y r) s lo hi = goes_quiet n m s (place_of c r s) hi (quiet_place_of c r s)
  place_goes n m t c go go' h (text y k) s lo hi = goes_quiet n m s (as_place (text_object c k) s) hi (quiet_as_place (text_object c k) s)
  place_goes n m t c go go' h (deref y e) s lo hi = value_goes n m t c go go' h e s lo hi
  place_goes n m t c go go' h (index y a i) s lo hi =
      goes_bind n m s (value c go a s) (value c go' a s) _ _ (value_goes n m t c go go' h a s lo hi)
      (λ x s1 le lt. goes_last n m s1 (value c go i s1) (value c go' i s1) (operate c Add (type_of a) (type_of i) x) (value_goes n m t c go go' h i s1 (omega arith) lt) (λ z s2. quiet_operate c Add (type_of a) (type_of i) x z s2))
  place_goes n m t c go go' h (member y e k) s lo hi =
      goes_last n m s (place c go e s) (place c go' e s) (beyond (offset c (type_of e) k)) (place_goes n m t c go go' h e s lo hi) (λ p s1. quiet_beyond (offset c (type_of e) k) p s1)
  place_goes n m t c go go' h (arrow y e k) s lo hi =
      goes_last n m s (value c go e s) (value c go' e s) (beyond (offset c (target (type_of e)) k)) (value_goes n m t c go go' h e s lo hi) (λ p s1. quiet_beyond (offset c (target (type_of e)) k) p s1)
  place_goes n m t c go go' h _ s lo hi = refl

  pub args_goes : (n m t : ℕ) (c : Context) (go go' : Call) → CallsGo n m t go go' → (es : TArgs) (s : State) → t ≤ s.turns → s.turns < n → Goes n m s (args c go es s) (args c go' es s)
  args_goes n m t c go go' h no_args s lo hi = goes_gave n m s [] hi
  args_goes n m t c go go' h (more_args e es) s lo hi =
      goes_bind n m s (value c go e s) (value c go' e s) _ _ (value_goes n m t c go go' h e s lo hi)
      (λ v s1 le lt. goes_last n m s1 (args c go es s1) (args c go' es s1) (λ vs s2. Gave (record { ty = shared c.classes (type_of e); zero = is_zero c.tags e; val = v } ∷ vs) s2)
      (args_goes n m t c go go' h es s1 (omega arith) lt) (λ vs s2. refl))
