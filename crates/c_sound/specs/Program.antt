-- The conditions under which a run never ends by rule 0, which no text of the language names.
use Rattle.std.specs.Prelude.{◌≡◌, ℕ, suc, zero, ◌<◌, List, [], ◌∷◌, Option, Some, None, Bool, true, false, slice_get}
use Rattle.c_type.specs.Names.{at_or}
use Rattle.c_type.specs.Types.{CType, fun, Tag, is_integer}
use Rattle.c_tree.specs.TExpr as e
use Rattle.c_tree.specs.TExpr.{Ref}
use Rattle.c_run.specs.Lasting.{Lasting}
use Rattle.c_tree.specs.Bodies.{BodyAt, body_named}
use Rattle.c_run.specs.Values.{Target, Object, Stop, Stopped, NoFuel, Stack, Ended, Fault, Leaves, Ill}
use Rattle.c_run.specs.Context.{Linked, Context, context_of, context, object_of, text_object, own, outer}
use Rattle.c_tree.specs.TUnit.{no_unit}
use Rattle.c_tree.specs.Library.{main_name}
use Rattle.c_rule.specs.RuleTypes.{is_function}
use Rattle.c_sound.specs.HasType.{Gives}
use Rattle.c_sound.specs.Suits.{SuitsFunc, SuitsBegin}

-- an object that is there
abbrev pub IsThere : Option Object → Type 0
IsThere None = ⊥
IsThere (Some o) = Unit {0}

-- a function that is there and gives what its type says
abbrev pub IsCallable : Linked → CType → Option Target → Type 0
IsCallable w (fun t) (Some f) = Gives w t f
IsCallable w _ _ = ⊥

-- A name of a unit with its type: an object that is there and no function, a function that gives what the type says, or a
-- constant of an integer type.
abbrev pub IsBound : Context → CType → Ref → Type 0
IsBound c t (e.Local i) = is_function t ≡ false
IsBound c t (e.Param i) = is_function t ≡ false
IsBound c t (e.Static k) = (is_function t ≡ false) × IsThere (object_of c 0 (e.Static k))
IsBound c t (e.Ext x) = (is_function t ≡ false) × IsThere (object_of c 0 (e.Ext x))
IsBound c t (e.Func k) = IsCallable c.whole t (own c k)
IsBound c t (e.Outer x) = IsCallable c.whole t (outer c x)
IsBound c t (e.Const n) = is_integer t ≡ true

-- text k of a unit is an object
abbrev pub HasText : Context → ℕ → Type 0
HasText c k = IsThere (text_object c k)

-- each tag's size is a number
abbrev pub HaveSizes : List Tag → Type 0
HaveSizes [] = Unit {0}
HaveSizes (t ∷ ts) = (t.size < 4294967296) × HaveSizes ts

-- a function body suits where it stands
abbrev pub SuitsBody : Linked → BodyAt → Type 0
SuitsBody w b = SuitsFunc (IsBound (context w b)) (HasText (context w b)) b.func

abbrev pub SuitBodies : Linked → List BodyAt → Type 0
SuitBodies w [] = Unit {0}
SuitBodies w (b ∷ bs) = SuitsBody w b × SuitBodies w bs

-- what an object of static life begins as suits it
abbrev pub SuitsLasting : Linked → Lasting → Type 0
SuitsLasting w x =
    SuitsBegin (IsBound (context_of w x.unit 0)) (HasText (context_of w x.unit 0)) (at_or no_unit w.units x.unit).tags x.ty x.init

abbrev pub SuitLastings : Linked → List Lasting → Type 0
SuitLastings w [] = Unit {0}
SuitLastings w (x ∷ xs) = SuitsLasting w x × SuitLastings w xs

-- a body that is there and gives an integer
abbrev pub GivesInteger : Option BodyAt → Type 0
GivesInteger None = ⊥
GivesInteger (Some b) = is_integer b.func.result ≡ true

-- `main` is there and gives an integer
abbrev pub IsMain : Linked → Option ℕ → Type 0
IsMain w None = ⊥
IsMain w (Some f) = GivesInteger (slice_get w.bodies f)

-- A program whose trees suit and whose names are there.
pub record SuitsProgram (w : Linked) : Type 0 where
  pub sizes : (u : ℕ) → HaveSizes (at_or no_unit w.units u).tags
  pub bodies : SuitBodies w w.bodies
  pub statics : SuitLastings w w.lasting
  pub main : IsMain w (body_named 0 w.bodies main_name)

-- an end that the language names; what a change does that may not be made is named where changes are
abbrev pub IsNamed : (changes : Bool) → Stop → Type 0
IsNamed changes Stopped = Unit {0}
IsNamed changes NoFuel = Unit {0}
IsNamed changes Stack = Unit {0}
IsNamed changes (Ended status) = Unit {0}
IsNamed changes (Fault signal) = Unit {0}
IsNamed changes (Leaves zero) = ⊥
IsNamed changes (Leaves (suc rule)) = Unit {0}
IsNamed changes Ill = changes ≡ true
