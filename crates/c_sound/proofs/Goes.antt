-- An evaluation that goes well: what it gives is as wanted and its state holds values of their types, or it ends as the language names.
use Rattle.std.proofs.Common.{◌≡◌, List, [], ◌∷◌, Bool, true, false, refl}
use Rattle.c_type.specs.Types.{CType, is_integer}
use Rattle.c_tree.specs.TExpr.{TExpr, type_of}
use Rattle.c_run.specs.Values.{Value}
use Rattle.c_run.specs.State.{State, Out, Gave, Halt, bind, choose}
use Rattle.c_run.specs.Context.{Linked, Context}
use Rattle.c_run.specs.Exprs.{Arg, Call, value}
use Rattle.c_rule.specs.RuleTypes.{is_function}
use Rattle.c_rule.specs.RuleValues.{is_scalar}
use Rattle.c_sound.specs.HasType.{HasType, IsFunction, Holds}
use Rattle.c_sound.specs.Suits.{Suits, is_used}
use Rattle.c_sound.specs.Program.{IsBound, HasText, HaveSizes, IsNamed}
use Rattle.std.specs.Prelude.{◌||◌}

abbrev pub Goes : {A : Type 0} → Bool → Linked → (A → Type 0) → Out A → Type 0
Goes changes w P (Gave a s) = P a × Holds w s
Goes changes w P (Halt why s) = IsNamed changes why

pub goes_bind : {A B : Type 0} (ch : Bool) (w : Linked) (P : A → Type 0) (Q : B → Type 0) (o : Out A) (go : A → State → Out B) →
    Goes ch w P o → ((a : A) (s : State) → P a → Holds w s → Goes ch w Q (go a s)) → Goes ch w Q (bind o go)
goes_bind ch w P Q (Gave a s) go h f = f a s h.0 h.1
goes_bind ch w P Q (Halt why s) go h f = h

pub goes_choose : {A : Type 0} (ch : Bool) (w : Linked) (P : A → Type 0) (b : Bool) (s : State) (x y : State → Out A) →
    (b ≡ true → Goes ch w P (x s)) → (b ≡ false → Goes ch w P (y s)) → Goes ch w P (choose b s x y)
goes_choose ch w P true s x y hx hy = hx refl
goes_choose ch w P false s x y hx hy = hy refl

-- a type whose values are looked at: a scalar, void, or a function
abbrev pub is_valued : CType → Bool
is_valued t = is_used t || is_function t

-- an argument: a scalar of its type, an integer where it is the constant 0
abbrev pub HoldsArg : Linked → Arg → Type 0
HoldsArg w a = HasType w a.ty a.val × (is_scalar a.ty ≡ true) × (a.zero ≡ true → is_integer a.ty ≡ true)

abbrev pub HoldArgs : Linked → List Arg → Type 0
HoldArgs w [] = Unit {0}
HoldArgs w (a ∷ as_) = HoldsArg w a × HoldArgs w as_

-- calls go well
abbrev pub CallsGo : Bool → Linked → Call → Type 0
CallsGo ch w go =
    (t : CType) (v : Value) (as_ : List Arg) (s : State) → IsFunction w t v → HoldArgs w as_ → Holds w s → Goes ch w (HasType w t) (go v as_ s)

-- expressions that suit go well
abbrev pub ExprsGo : Bool → (calls : Bool) → Context → Call → Type 0
ExprsGo ch calls c go =
    (e : TExpr) (s : State) → Suits calls (IsBound c) (HasText c) e → is_valued (type_of e) ≡ true → Holds c.whole s →
    Goes ch c.whole (HasType c.whole (type_of e)) (value c go e s)

-- so they do wherever calls do
abbrev pub AllExprsGo : Bool → Type 0
AllExprsGo ch = (c : Context) (calls : Bool) (go : Call) → (calls ≡ true → CallsGo ch c.whole go) → HaveSizes c.tags → ExprsGo ch calls c go
