-- *Step386*: one step of the 386, over registers, flags and memory.
use Rattle.std.specs.Prelude.{◌≡◌, ℕ, ◌+◌, ◌-◌, ◌%◌, ◌^◌, nat_le, if◌then◌else◌, List, [], drop}
use Rattle.mach_mem.specs.Addresses.{text_start}
use Rattle.mach_mem.specs.Space.{Space}
use Rattle.isa_dec.specs.Decoded.{decoded}
use Rattle.isa_dec.specs.Reads.{Reads}
use Rattle.isa_dec.specs.declared.Dec.{Dec}
use Rattle.isa_dec.specs.declared.Dec.TheVariants.{Ins as IsIns, Short, Unknown}
use Rattle.mach_exec.specs.declared.processor.Cpu.{Cpu}
use Rattle.mach_exec.specs.Effect.{Outcome, signalled}
use Rattle.mach_exec.specs.Execute.{executed}

-- the bytes of .text from this address on
abbrev pub text_from : Space → ℕ → List ℕ
text_from m at = if nat_le text_start at then drop (at - text_start) m.text else []

-- signal 11 where the instruction goes on outside .text, signal 4 where it is none of the table
abbrev pub decided : Cpu → Space → Dec → Outcome
decided c m Short = signalled c m 11
decided c m Unknown = signalled c m 4
decided c m (IsIns i n) = executed c m i ((c.eip + n) % 2 ^ 32)

-- the outcome of the instruction at eip
unfoldable pub stepped : Cpu → Space → Outcome
stepped c m = decided c m (decoded (text_from m c.eip))

-- an outcome is the effect of the row that stands at eip, or the signal where none does
pub record Steps (c : Cpu) (m : Space) (o : Outcome) : Type 0 where
  pub found : Dec
  pub reads : Reads (text_from m c.eip) found
  pub effect : o ≡ decided c m found
