-- *MachineRun*: a process of the 386, its instructions one after the other, each with the system call that it asks for.
use Rattle.std.specs.Prelude.{ℕ, zero, suc, List, ◌++◌}
use Rattle.mach_mem.specs.Space.{Space}
use Rattle.mach_exec.specs.declared.processor.Cpu.{Cpu}
use Rattle.mach_exec.specs.declared.processor.Event.{Event}
use Rattle.mach_exec.specs.declared.processor.Event.TheVariants.{Next, Trap, System, Signal}
use Rattle.mach_exec.specs.Effect.{Outcome}
use Rattle.mach_exec.specs.Step.{stepped}
use Rattle.mach_exec.specs.System.{Called, Ended, Returned, called}

-- registers and memory, the input that is left, and the output so far
pub record Process : Type 0 where
  pub cpu : Cpu
  pub mem : Space
  pub input : List ℕ
  pub output : List ℕ

-- what one instruction leads to: the process goes on, has ended, or has a signal
pub data Progress : Type 0 where
  Goes : (after : Process) → Progress
  Exits : (status : ℕ) → Progress
  Raises : (signal : ℕ) → Progress

-- a system call was performed
abbrev pub performed : List ℕ → Called → Progress
performed output (Ended status) = Exits status
performed output (Returned cpu mem input more) = Goes record { cpu = cpu; mem = mem; input = input; output = output ++ more }

-- what follows on an event; a breakpoint that nobody set is signal 5
abbrev pub followed : Process → Event → Cpu → Space → Progress
followed p Next cpu mem = Goes record { cpu = cpu; mem = mem; input = p.input; output = p.output }
followed p System cpu mem = performed p.output (called cpu mem p.input)
followed p Trap cpu mem = Raises 5
followed p (Signal g) cpu mem = Raises g

abbrev pub after : Process → Outcome → Progress
after p o = followed p o.event o.cpu o.mem

-- one instruction, and the system call that it asks for
unfoldable pub advanced : Process → Progress
advanced p = after p (stepped p.cpu p.mem)

-- goes on where the process does
abbrev pub and_on : Progress → (Process → Progress) → Progress
and_on (Goes p) f = f p
and_on (Exits status) f = Exits status
and_on (Raises g) f = Raises g

-- so many instructions, unless the process ends before
abbrev pub ran : ℕ → Process → Progress
ran zero p = Goes p
ran (suc n) p = and_on (advanced p) (ran n)
