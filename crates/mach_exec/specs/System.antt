-- What a system call does, which is executed behind the step that answers System.
use Rattle.std.specs.Prelude.{ℕ, ◌%◌, ◌==◌, min, Bool, true, false, if◌then◌else◌, List, [], length, take, drop, Option, Some, None}
use Rattle.mach_mem.specs.Space.{Space, byte_at, number_at, is_writable}
use Rattle.mach_exec.specs.declared.processor.Cpu.{Cpu}
use Rattle.mach_exec.specs.Word.{add32}
use Rattle.mach_exec.specs.Registers.{eax, esp}
use Rattle.mach_exec.specs.Operand.{reg, with_reg}
use Rattle.mach_exec.specs.Strings.{is_readable, each_byte, bytes_from, with_bytes}

-- registers, memory and input behind a system call, and the bytes that it appends to the output; or the status that it ends with
pub data Called : Type 0 where
  Ended : (status : ℕ) → Called
  Returned : (cpu : Cpu) (mem : Space) (input output : List ℕ) → Called

abbrev pub with_cf : Cpu → Bool → Cpu
with_cf c b = record { regs = c.regs; eip = c.eip; cf = b; zf = c.zf; sf = c.sf; of = c.of }

-- CF is clear and eax has the answer
abbrev pub succeeded : Cpu → Space → List ℕ → List ℕ → ℕ → Called
succeeded c m input output answer = Returned (with_cf (with_reg c eax answer) false) m input output

-- CF is set and eax has the error, and nothing else has changed
abbrev pub failed : Cpu → Space → List ℕ → ℕ → Called
failed c m input error = Returned (with_cf (with_reg c eax error) true) m input []

-- the errors: no such descriptor, a place that can't be reached, no such call
abbrev pub bad_descriptor : ℕ
bad_descriptor = 9

abbrev pub bad_place : ℕ
bad_place = 14

abbrev pub bad_call : ℕ
bad_call = 22

-- an argument, which stands so many bytes above esp
abbrev pub argument : Cpu → Space → ℕ → Option ℕ
argument c m at = number_at (byte_at m) (add32 (reg c esp) at)

-- exit: the low byte is the status
abbrev pub exited : Cpu → Space → List ℕ → Option ℕ → Called
exited c m input None = failed c m input bad_place
exited c m input (Some status) = Ended (status % 256)

-- read: the next n bytes of the input at most are stored from a place on
abbrev pub stored : Cpu → Space → List ℕ → ℕ → ℕ → Called
stored c m input at n =
    if each_byte (is_writable m) at n
    then succeeded c (with_bytes m at (take n input)) (drop n input) [] n
    else failed c m input bad_place

-- write: n bytes from a place on are appended
abbrev pub appended : Cpu → Space → List ℕ → ℕ → ℕ → Called
appended c m input at n =
    if each_byte (is_readable m) at n
    then succeeded c m input (bytes_from m at n) n
    else failed c m input bad_place

-- the three arguments of read and write, and the descriptor that the call has
abbrev pub transferred : Cpu → Space → List ℕ → ℕ → Option ℕ → Option ℕ → Option ℕ → (ℕ → ℕ → Called) → Called
transferred c m input descriptor (Some d) (Some at) (Some n) f = if d == descriptor then f at n else failed c m input bad_descriptor
transferred c m input descriptor None at n f = failed c m input bad_place
transferred c m input descriptor (Some d) None n f = failed c m input bad_place
transferred c m input descriptor (Some d) (Some at) None f = failed c m input bad_place

-- the system call whose number is in eax: exit 1, read 3 of descriptor 0, write 4 of descriptor 1
unfoldable pub called : Cpu → Space → List ℕ → Called
called c m input =
    if reg c eax == 1 then exited c m input (argument c m 4)
    else if reg c eax == 3 then transferred c m input 0 (argument c m 4) (argument c m 8) (argument c m 12) (λ at n. stored c m input at (min n (length input)))
    else if reg c eax == 4 then transferred c m input 1 (argument c m 4) (argument c m 8) (argument c m 12) (λ at n. appended c m input at (min n 4096))
    else failed c m input bad_call
