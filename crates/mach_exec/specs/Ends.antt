-- Where a process has come to behind so many instructions.
use Rattle.std.specs.Prelude.{ℕ, suc, ◌≡◌, ◌≤◌, List}
use Rattle.mach_exec.specs.Process.{Process, Goes, Exits, Raises, advanced, ran}

-- a process that exits behind so many instructions, the exit counted too, with that output
pub record Exited (start : Process) (status : ℕ) (output : List ℕ) (most : ℕ) : Type 0 where
  pub count : ℕ
  pub last : Process
  pub ran_to : ran count start ≡ Goes last
  pub exits : advanced last ≡ Exits status
  pub output_is : last.output ≡ output
  pub within : suc count ≤ most

-- a process that a signal ends behind so many instructions, the one that raises it counted too, with that output
pub record Raised (start : Process) (signal : ℕ) (output : List ℕ) (most : ℕ) : Type 0 where
  pub count : ℕ
  pub last : Process
  pub ran_to : ran count start ≡ Goes last
  pub raises : advanced last ≡ Raises signal
  pub output_is : last.output ≡ output
  pub within : suc count ≤ most

-- a process that goes on behind exactly so many instructions, with that output
pub record Spent (start : Process) (output : List ℕ) (most : ℕ) : Type 0 where
  pub last : Process
  pub ran_to : ran most start ≡ Goes last
  pub output_is : last.output ≡ output

-- a process that has executed so many instructions, with that output
pub record Reached (start : Process) (output : List ℕ) (least most : ℕ) : Type 0 where
  pub count : ℕ
  pub last : Process
  pub ran_to : ran count start ≡ Goes last
  pub output_is : last.output ≡ output
  pub at_least : least ≤ count
  pub within : count ≤ most
