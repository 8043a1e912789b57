-- What a step leaves, and the ways in which an instruction goes on or fails.
use Rattle.std.specs.Prelude.{ℕ, if◌then◌else◌, Option, Some, None}
use Rattle.mach_mem.specs.Space.{Space, is_writable, is_writable2, is_writable4, with_byte, with_number16, with_number, number_at, byte_at}
use Rattle.mach_exec.specs.declared.processor.Cpu.{Cpu}
use Rattle.mach_exec.specs.declared.processor.Event.{Event}
use Rattle.mach_exec.specs.declared.processor.Event.TheVariants.{Next, Signal}
use Rattle.mach_exec.specs.declared.operand.Place.{Place}
use Rattle.mach_exec.specs.declared.operand.Place.TheVariants.{Register, Memory}
use Rattle.mach_exec.specs.Word.{add32, sub32}
use Rattle.mach_exec.specs.Registers.{esp}
use Rattle.mach_exec.specs.Operand.{reg, with_reg, with_reg8, with_reg16}

-- an event, and the processor and the memory behind it
pub record Outcome : Type 0 where
  pub event : Event
  pub cpu : Cpu
  pub mem : Space

abbrev pub outcome : Event → Cpu → Space → Outcome
outcome event c m = record { event = event; cpu = c; mem = m }

-- the instruction was executed
abbrev pub done : Cpu → Space → Outcome
done c m = record { event = Next; cpu = c; mem = m }

-- a signal, with nothing changed
abbrev pub signalled : Cpu → Space → ℕ → Outcome
signalled c m g = record { event = Signal g; cpu = c; mem = m }

-- goes on with a number that was read; signal 11 where it can't be read
abbrev pub reading : Cpu → Space → Option ℕ → (ℕ → Outcome) → Outcome
reading c m None f = signalled c m 11
reading c m (Some v) f = f v

-- a number of 32, 16 or 8 bits is put into a place, and the processor becomes `after` but for that place; signal 11 where it can't be written
abbrev pub storing : Cpu → Space → Place → ℕ → Cpu → Outcome
storing c m (Register r) v after = done (with_reg after r v) m
storing c m (Memory at) v after = if is_writable4 m at then done after (with_number m at v) else signalled c m 11

abbrev pub storing16 : Cpu → Space → Place → ℕ → Cpu → Outcome
storing16 c m (Register r) w after = done (with_reg16 after r w) m
storing16 c m (Memory at) w after = if is_writable2 m at then done after (with_number16 m at w) else signalled c m 11

abbrev pub storing8 : Cpu → Space → Place → ℕ → Cpu → Outcome
storing8 c m (Register r) b after = done (with_reg8 after r b) m
storing8 c m (Memory at) b after = if is_writable m at then done after (with_byte m at b) else signalled c m 11

-- a number is pushed: esp goes down by 4, and the number stands there
abbrev pub pushing : Cpu → Space → ℕ → Cpu → Outcome
pushing c m v after = storing c m (Memory (sub32 (reg c esp) 4)) v (with_reg after esp (sub32 (reg c esp) 4))

-- a number is popped: it stands at esp, and esp goes up by 4
abbrev pub popping : Cpu → Space → (ℕ → Cpu → Outcome) → Outcome
popping c m f = reading c m (number_at (byte_at m) (reg c esp)) (λ v. f v (with_reg c esp (add32 (reg c esp) 4)))
