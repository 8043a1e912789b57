-- What running the bytes of .text says.
use Rattle.std.specs.Prelude.{ℕ, List, [], ◌≡◌, Option, Result, Ok, Err}
use Rattle.mach_mem.specs.Space.{Space, IsInitial}
use Rattle.mach_exec.specs.Started.{started}
use Rattle.subject.specs.declared.process.Halt.{Halt}
use Rattle.subject.specs.declared.machine.Stuck.{Stuck}
use Rattle.subject.specs.declared.machine.Stuck.TheVariants.{WriteFault, Memory}
use Rattle.subject.specs.Process.{StopsWith, Breaks}

-- The process over the bytes of .text has stopped, and the sink gained its output; or the sink failed, and gained a front of it;
-- or memory was wanting, and the sink is as it was.
abbrev pub RunsText : List ℕ → ℕ → Option (List ℕ) → Option (List ℕ) → Result Halt Stuck → Type 0
RunsText text most old new (Ok h) = (mem : Space) × IsInitial mem text [] 0 × StopsWith (started mem []) most old new h
RunsText text most old new (Err WriteFault) = (mem : Space) × IsInitial mem text [] 0 × Breaks (started mem []) most old new
RunsText text most old new (Err Memory) = new ≡ old
