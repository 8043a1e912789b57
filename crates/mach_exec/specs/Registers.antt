-- The numbers of the registers, as instructions name them.
use Rattle.std.specs.Prelude.{ℕ}

abbrev pub eax : ℕ
eax = 0

abbrev pub ecx : ℕ
ecx = 1

abbrev pub edx : ℕ
edx = 2

abbrev pub esp : ℕ
esp = 4

abbrev pub ebp : ℕ
ebp = 5

abbrev pub esi : ℕ
esi = 6

abbrev pub edi : ℕ
edi = 7
