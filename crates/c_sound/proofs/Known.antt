-- What the rules give of a unit's external objects besides: none is a function, and the unit declares each one that it uses.
use Rattle.std.proofs.Common.{◌≡◌, List, [], ◌∷◌, false, Option}
use Rattle.c_type.specs.Names.{Name}
use Rattle.c_type.specs.Types.{CType}
use Rattle.c_tree.specs.TStmt.{Init}
use Rattle.c_tree.specs.TUnit.{TypedUnit}
use Rattle.c_rule.specs.RuleTypes.{is_function}
use Rattle.c_join.specs.JoinSaid.{Event, External, Saying, Declared, Common, Begun, Defined, Used, Named, Called}
use Rattle.c_run.specs.Mentions.{Outside, in_exts}
use Rattle.c_sound.proofs.Listed.{IsIn}

-- a declaration of an object
abbrev pub SaysObject : Saying → Type 0
SaysObject (Declared t) = is_function t ≡ false
SaysObject (Common t) = is_function t ≡ false
SaysObject (Begun t) = is_function t ≡ false
SaysObject (Defined t ps) = ⊥
SaysObject Used = ⊥
SaysObject (Named t) = ⊥
SaysObject (Called es) = ⊥

-- a declaration of an external object among events
abbrev pub DeclaredIn : List Event → Name → Type 0
DeclaredIn vs x = (v : Event) × IsIn v vs × (v.about ≡ External x) × SaysObject v.says

pub record KnowsObjects (u : TypedUnit) : Type 0 where
  pub objects : (x : Name) (t : CType) (i : Option Init) → IsIn (Outside x t i) (in_exts u.exts) → is_function t ≡ false

abbrev pub AllKnow : List TypedUnit → Type 0
AllKnow [] = Unit {0}
AllKnow (x ∷ xs) = KnowsObjects x × AllKnow xs
