use Rattle.std.proofs.Common.{◌≡◌, drop}
use Rattle.asm_read.specs.Numerals as spec
use Rattle.asm_read.proofs.numerals.digits.Given as goal

-- the digits that are left lead from the number so far to the whole one
abbrev pub invariant-loop-c : goal.invariant-loop-c
invariant-loop-c l = spec.digits l.base l.n (drop l.c-index l.w) ≡ spec.digits l.base 0 l.w
