-- A process that has executed nothing.
use Rattle.std.specs.Prelude.{ℕ, List, [], ◌∷◌, false}
use Rattle.mach_mem.specs.Addresses.{text_start, stack_end}
use Rattle.mach_mem.specs.Space.{Space}
use Rattle.mach_exec.specs.Process.{Process}

-- It stands at the first byte of .text, its stack is empty, and the other registers are 0.
abbrev pub started : Space → List ℕ → Process
started mem input =
    record {
      cpu = record { regs = 0 ∷ 0 ∷ 0 ∷ 0 ∷ stack_end ∷ 0 ∷ 0 ∷ 0 ∷ []; eip = text_start; cf = false; zf = false; sf = false; of = false };
      mem = mem;
      input = input;
      output = [];
    }
