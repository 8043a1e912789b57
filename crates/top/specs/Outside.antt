-- What is told of the outside, and an end with what was written.
use Rattle.std.specs.Prelude.{ℕ, ◌≡◌, ◌⊎◌, List, [], Option}
use Rattle.std.specs.Io.KnownBytes.{Appends}
use Rattle.outside.specs.Causes.{Rose}
use Rattle.outside.specs.Told.{Held}
use Rattle.subject.specs.Output.{GainsFront}
use Rattle.top.specs.declared.answer.End.{End}
use Rattle.top.specs.declared.answer.End.TheVariants.{ReadFault, WriteFault, Memory}

-- what is told before a call and behind it: what the files hold and their count of faults, and what the output's sink held, then
-- holds, and its count of faults
pub record Outside : Type 0 where
  pub held : Option Held
  pub reads_before : ℕ
  pub reads_now : ℕ
  pub old : Option (List ℕ)
  pub new : Option (List ℕ)
  pub writes_before : ℕ
  pub writes_now : ℕ

abbrev pub outside : Option Held → ℕ → ℕ → Option (List ℕ) → Option (List ℕ) → ℕ → ℕ → Outside
outside held reads_before reads_now old new writes_before writes_now =
    record { held = held; reads_before = reads_before; reads_now = reads_now; old = old; new = new; writes_before = writes_before; writes_now = writes_now }

-- Want of memory, which has no cause, or a fault of reading or writing, which has raised its count. They may stand for an end of
-- a program that was read.
abbrev pub IsExcused : Outside → End → Type 0
IsExcused o end = (end ≡ Memory) ⊎ ((end ≡ ReadFault) × Rose o.reads_before o.reads_now) ⊎ ((end ≡ WriteFault) × Rose o.writes_before o.writes_now)

-- nothing was written
abbrev pub IsSilent : Outside → Type 0
IsSilent o = Appends o.old o.new []

-- this end, or one that may stand for it, and nothing was written
abbrev pub IsEnd : Outside → End → End → Type 0
IsEnd o told end = ((end ≡ told) ⊎ IsExcused o end) × IsSilent o

-- this end with all of an output, or an end that may stand for it with a front of the output
abbrev pub IsEndWith : Outside → End → List ℕ → End → Type 0
IsEndWith o told output end = ((end ≡ told) × Appends o.old o.new output) ⊎ (IsExcused o end × GainsFront o.old o.new output)
