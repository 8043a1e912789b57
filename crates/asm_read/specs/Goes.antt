-- What the reader's answers say of the statements that it took.
use Rattle.std.specs.Prelude.{◌≡◌, ℕ, Result, Ok, Err}
use Rattle.std.specs.Option.{option_map}
use Rattle.asm_read.specs.declared.AsmErr.{AsmErr}
use Rattle.asm_read.specs.declared.AsmErr.TheVariants.{NotAsm, Memory}
use Rattle.asm_read.specs.declared.reader.Open as code_open
use Rattle.asm_read.specs.declared.reader.Reader.{Reader}
use Rattle.asm_read.specs.Reading.{State, Open}

abbrev pub shown_open : code_open.Open → Open
shown_open o = record { line = o.line; group = o.group; next = o.next }

-- where the reader stands
abbrev pub state_of : Reader → State
state_of r = record { done = r.items.items; group = option_map shown_open r.group; filed = r.filed }

-- Ok where each of the statements can stand there, then in this state; NotAsm with the line of the first that can't
abbrev pub Goes : {A : Type 0} → Result A AsmErr → State → Result State ℕ → Type 0
Goes (Ok u) st r = r ≡ Ok st
Goes (Err (NotAsm n)) st r = r ≡ Err n
Goes (Err Memory) st r = Unit {0}
