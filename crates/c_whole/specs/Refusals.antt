-- Refusals of the code.
use Rattle.std.specs.Prelude.{◌≡◌, ℕ, List, Bool, not, ◌&&◌, Option, Some, None}
use Rattle.std.specs.Option.{option_map}
use Rattle.c_type.specs.Names.{Name, pick, or_else}
use Rattle.c_tree.specs.TUnit.{TypedUnit}
use Rattle.c_join.specs.JoinChecks as s
use Rattle.c_join.specs.JoinChecks.{same_class, refusal}
use Rattle.c_whole.specs.Classes.{IsNumbered}
use Rattle.c_whole.specs.declared.refusals.Refusal.{Refusal}
use Rattle.c_whole.specs.declared.refusals.Refusal.TheVariants as r
use Rattle.c_whole.specs.declared.JoinErr.{JoinErr}
use Rattle.c_whole.specs.declared.JoinErr.TheVariants as e

-- the refusal that a value of the code stands for
abbrev pub refusal_of : Refusal → s.Refusal
refusal_of r.NoMain = s.NoMain
refusal_of (r.Twice x) = s.Twice x.now
refusal_of (r.Undefined x) = s.Undefined x.now
refusal_of (r.Clash x) = s.Clash x.now
refusal_of (r.Arguments x) = s.Arguments x.now

-- the first refusal, in the order of the checks
abbrev pub in_order : (complete main : Bool) → (twice undefined clash arguments : Option Name) → Option s.Refusal
in_order complete main twice undefined clash arguments =
    or_else (pick (complete && not main) (Some s.NoMain) None)
    (or_else (option_map s.Twice twice)
    (or_else (pick complete (option_map s.Undefined undefined) None)
    (or_else (option_map s.Clash clash) (option_map s.Arguments arguments))))

-- what an answer tells of the units; want of memory tells nothing
abbrev pub told_as : JoinErr → Option s.Refusal
told_as e.NoMain = Some s.NoMain
told_as (e.Twice x) = Some (s.Twice x)
told_as (e.Undefined x) = Some (s.Undefined x)
told_as (e.Clash x) = Some (s.Clash x)
told_as (e.Arguments x) = Some (s.Arguments x)
told_as e.Memory = None

-- The tags of the units are numbered, and nothing refuses the units.
pub record IsAccepted (complete : Bool) (us : List TypedUnit) (cs : List (List ℕ)) : Type 0 where
  pub numbered : IsNumbered us cs
  pub accepted : refusal complete us (same_class cs) ≡ None
