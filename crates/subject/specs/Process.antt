-- A process without input, one instruction after the other.
use Rattle.std.specs.Prelude.{ℕ, suc, ◌≡◌, ◌≤◌, min, List, [], Option, Some, None, Result, Ok, Err}
use Rattle.std.specs.Io.KnownBytes.{Appends}
use Rattle.mach_mem.specs.Space.{Space}
use Rattle.mach_exec.specs.declared.Cpu.{Cpu}
use Rattle.mach_exec.specs.declared.Event.{Event}
use Rattle.mach_exec.specs.declared.Event.TheVariants.{Next, Trap, System, Signal}
use Rattle.mach_exec.specs.Step.{stepped}
use Rattle.mach_exec.specs.System.{Called, Ended, Returned, argument, called, exited, transferred, stored, appended, failed}
use Rattle.mach_exec.specs.Process.{Process, Goes, Exits, Raises, ran}
use Rattle.mach_exec.specs.Process as runs
use Rattle.mach_exec.specs.Ends.{Exited, Raised, Spent}
use Rattle.subject.specs.declared.process.Progress.{Progress}
use Rattle.subject.specs.declared.process.Progress.TheVariants as progress
use Rattle.subject.specs.declared.process.Halt.{Halt}
use Rattle.subject.specs.declared.process.Halt.TheVariants as halt
use Rattle.subject.specs.Output.{Moves, GainsFront}

-- a process with this output so far
abbrev pub process_at : Cpu → Space → List ℕ → Process
process_at cpu mem output = record { cpu = cpu; mem = mem; input = []; output = output }

-- the status that a system call ends with, if it ends the process
abbrev pub exit_status : Called → Option ℕ
exit_status (Ended status) = Some status
exit_status (Returned cpu mem input output) = None

-- the processor behind a system call, which began with another
abbrev pub cpu_behind : Cpu → Called → Cpu
cpu_behind c (Ended status) = c
cpu_behind c (Returned cpu mem input output) = cpu

-- the bytes that a system call appends to the output
abbrev pub output_of : Called → List ℕ
output_of (Ended status) = []
output_of (Returned cpu mem input output) = output

-- the three system calls
abbrev pub exit_called : Cpu → Space → Called
exit_called c m = exited c m [] (argument c m 4)

abbrev pub transfer_called : Cpu → Space → ℕ → (ℕ → ℕ → Called) → Called
transfer_called c m descriptor f = transferred c m [] descriptor (argument c m 4) (argument c m 8) (argument c m 12) f

abbrev pub stored_at : Cpu → Space → ℕ → ℕ → Called
stored_at c m at n = stored c m [] at (min n 0)

abbrev pub read_called : Cpu → Space → Called
read_called c m = transfer_called c m 0 (stored_at c m)

abbrev pub appended_from : Cpu → Space → ℕ → ℕ → Called
appended_from c m at n = appended c m [] at (min n 4096)

abbrev pub write_called : Cpu → Space → Called
write_called c m = transfer_called c m 1 (appended_from c m)

-- a read or write of a place and a number of bytes, or the error with which it fails
abbrev pub by_place : Cpu → Space → Result (ℕ × ℕ) ℕ → (ℕ → ℕ → Called) → Called
by_place c m (Ok p) f = f p.0 p.1
by_place c m (Err error) f = failed c m [] error

-- the bytes that were written where an event has come
abbrev pub written_at : Event → Cpu → Space → List ℕ
written_at Next cpu mem = []
written_at Trap cpu mem = []
written_at System cpu mem = output_of (called cpu mem [])
written_at (Signal g) cpu mem = []

-- the bytes that the next instruction writes
unfoldable pub written : Cpu → Space → List ℕ
written cpu mem = let o = stepped cpu mem in written_at o.event o.cpu o.mem

-- what one instruction led to, and the process then
abbrev pub progressed : Progress → Process → runs.Progress
progressed progress.Goes p = Goes p
progressed (progress.Exits status) p = Exits status
progressed (progress.Raises signal) p = Raises signal

-- how a process has stopped that may execute so many instructions, and its output
abbrev pub Stops : Process → ℕ → Halt → List ℕ → Type 0
Stops start most (halt.Exited status) output = Exited start status output most
Stops start most (halt.Raised signal) output = Raised start signal output most
Stops start most halt.Spent output = Spent start output most

-- a process has stopped so, and its output is on its way to a sink
abbrev pub StopsBefore : Process → ℕ → Option (List ℕ) → Option (List ℕ) → List ℕ → Halt → Type 0
StopsBefore start most old new waiting h = (output : List ℕ) × Stops start most h output × Moves old new [] waiting output

-- a process has stopped so, and a sink gained all its output
abbrev pub StopsWith : Process → ℕ → Option (List ℕ) → Option (List ℕ) → Halt → Type 0
StopsWith start most old new h = (output : List ℕ) × Stops start most h output × Appends old new output

-- a sink gained a front of the output that a process has behind some of so many instructions
pub record Breaks (start : Process) (most : ℕ) (old new : Option (List ℕ)) : Type 0 where
  pub count : ℕ
  pub last : Process
  pub ran_to : ran count start ≡ Goes last
  pub within : count ≤ most
  pub front : GainsFront old new last.output
