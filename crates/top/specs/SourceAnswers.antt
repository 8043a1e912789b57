-- *SourceAnswers*: the end of a program, against *Run*.
use Rattle.std.specs.Prelude.{ℕ, ◌≡◌, ◌<◌, ◌≤◌, ◌⊎◌, ◌+◌, ◌*◌, []}
use Rattle.c_tree.specs.TUnit.{Program}
use Rattle.c_run.specs.Values.{Ended, Stopped}
use Rattle.c_run.specs.State.{State, Halt, no_changes}
use Rattle.c_run.specs.Run.{run}
use Rattle.subject.specs.Output.{GainsFront}
use Rattle.top.specs.Outside.{Outside, IsExcused, IsEndWith}
use Rattle.top.specs.declared.answer.End.{End}
use Rattle.top.specs.declared.answer.End.TheVariants.{Ran, Budget}

-- so many instructions are enough for a text of so many bytes whose run begins so many turns
abbrev pub enough : ℕ → ℕ → ℕ
enough bytes turns = (turns + 2) * (64 * bytes + 512)

-- The source machine's run of a program, as it is stopped at a turn or ends.
pub record SourceAnswers (p : Program) (bytes most : ℕ) (o : Outside) (end : End) : Type 0 where
  -- where the run ends, the end is its status and the output is the run's, or the budget ends the run and the output is a front of it
  pub ends :
      (n status : ℕ) (s : State) → run p [] no_changes n ≡ Halt (Ended status) s →
      IsEndWith o (Ran status) s.output end ⊎ ((end ≡ Budget) × GainsFront o.old o.new s.output)
  -- where it ends within a budget that is enough, the budget does not end it
  pub budget_is_enough :
      (n status : ℕ) (s : State) → run p [] no_changes n ≡ Halt (Ended status) s → enough bytes s.turns ≤ most → IsEndWith o (Ran status) s.output end
  -- where it goes on for ever, the budget ends it, and the output is a front of what it has written at some turn
  pub goes_on :
      ((n : ℕ) → 0 < n → (s : State) × (run p [] no_changes n ≡ Halt Stopped s)) →
      ((end ≡ Budget) ⊎ IsExcused o end) × (n : ℕ) × (s : State) × (run p [] no_changes n ≡ Halt Stopped s) × GainsFront o.old o.new s.output
