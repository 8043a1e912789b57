-- Runs of checked programs end as the language names.
use Rattle.std.proofs.Common.{List, [], ◌∷◌}
use Rattle.std.specs.List.{AllZip}
use Rattle.c_tree.specs.TreeUnit as u
use Rattle.c_tree.specs.TUnit.{TypedUnit}
use Rattle.c_rule.specs.RuleUnit.{IsTyped}
use Rattle.c_sound.specs.Laws.{AllSuit, CheckedRunsAreNamed, CheckedRunsEnd}
use Rattle.c_sound.proofs.Joined.{joined_suits}
use Rattle.c_sound.proofs.Units.{typed_suits}
use Rattle.c_sound.proofs.Run.{suited_runs_are_named, plain_runs_are_named}

all_suit : (ys : List u.Unit) (us : List TypedUnit) → AllZip IsTyped ys us → AllSuit us
all_suit [] [] h = tt
all_suit (y ∷ ys) (x ∷ us) h = (typed_suits y x h.0, all_suit ys us h.1)
all_suit [] (x ∷ us) h = absurd h
all_suit (y ∷ ys) [] h = absurd h

pub checked_runs_are_named : CheckedRunsAreNamed
checked_runs_are_named ys p input ch n why s t j b r = suited_runs_are_named p input ch n why s (joined_suits p.units p (all_suit ys p.units t) j) b r

pub checked_runs_end : CheckedRunsEnd
checked_runs_end ys p input n why s t j b r = plain_runs_are_named p input n why s (joined_suits p.units p (all_suit ys p.units t) j) b r
