-- Where the regions of a process lie.
use Rattle.std.specs.Prelude.{ℕ}

-- the first address of .text
abbrev pub text_start : ℕ
text_start = 0x10000

-- the first address of the statics, and the bytes of .text that fit below it
abbrev pub statics_start : ℕ
statics_start = 0x400000

abbrev pub text_room : ℕ
text_room = 0x3F0000

-- the lowest address of the stack, the address behind its highest byte, and its bytes
abbrev pub stack_start : ℕ
stack_start = 0x7FC00000

abbrev pub stack_end : ℕ
stack_end = 0x80000000

abbrev pub stack_room : ℕ
stack_room = 0x400000
