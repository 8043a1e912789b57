-- The calls of an object in memory, and which of them are to fail.
use Rattle.std.specs.Prelude.{ℕ, Bool, ◌==◌, List, if◌then◌else◌}
use Rattle.std.specs.List.{list_any}
use Rattle.outside.specs.Causes.{counted}

-- the numbers of the calls that are to fail, how many calls there were, and how many of them failed
pub record Schedule : Type 0 where
  pub fail : List ℕ
  pub calls : ℕ
  pub faults : ℕ

-- the next call's number is listed
abbrev pub is_next_listed : Schedule → Bool
is_next_listed s = list_any (λ n. n == s.calls) s.fail

-- the calls after one more, which failed or didn't
abbrev pub after_call : Bool → Schedule → Schedule
after_call failed s = record { fail = s.fail; calls = counted s.calls; faults = if failed then counted s.faults else s.faults }

-- no call yet
abbrev pub first_schedule : List ℕ → Schedule
first_schedule fail = record { fail = fail; calls = 0; faults = 0 }
