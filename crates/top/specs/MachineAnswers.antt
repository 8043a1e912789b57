-- *MachineAnswers*: the end of a main, against the 386.
use Rattle.std.specs.Prelude.{ℕ, List, []}
use Rattle.mach_mem.specs.Space.{Space, IsInitial}
use Rattle.mach_exec.specs.Started.{started}
use Rattle.c_tree.specs.TUnit.{Func}
use Rattle.small_build.specs.Compiled.{bytes_of}
use Rattle.subject.specs.Process.{Stops}
use Rattle.subject.specs.declared.Halt as h
use Rattle.subject.specs.declared.Halt.TheVariants.{Exited, Raised, Spent}
use Rattle.top.specs.Outside.{Outside, IsEndWith}
use Rattle.top.specs.declared.answer.End.{End}
use Rattle.top.specs.declared.answer.End.TheVariants.{Ran, Signalled, Budget}

-- the end where a process has stopped
abbrev pub end_of : h.Halt → End
end_of (Exited status) = Ran status
end_of (Raised signal) = Signalled signal
end_of Spent = Budget

-- The machine runs the bytes of .text that are made of a main, and the end is how the process has stopped.
abbrev pub MachineAnswers : Func → ℕ → Outside → End → Type 0
MachineAnswers f most o end =
    (mem : Space) → IsInitial mem (bytes_of f) [] 0 →
    (stop : h.Halt) (output : List ℕ) → Stops (started mem []) most stop output → IsEndWith o (end_of stop) output end
