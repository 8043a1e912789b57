-- The 32 bits of a number that is read as a signed one.
use Rattle.std.proofs.Common.{◌≡◌, ℕ, ◌<◌, ◌^◌, ℤ, pos, negsuc, refl, ◌∙◌, arith}
use Rattle.std.specs.Int.{w32, cast_signed, cast_unsigned}
use Rattle.std.proofs.lemmas.Int.{of_z-to_z}
use Rattle.c_tree.specs.TypedOf.{bits_of}

bits_are : (z : ℤ) → bits_of z ≡ cast_unsigned w32 z
bits_are (pos n) = refl
bits_are (negsuc n) = omega arith

pub bits_of_signed : (n : ℕ) → n < 2 ^ 32 → bits_of (cast_signed w32 n) ≡ n
bits_of_signed n lt = bits_are (cast_signed w32 n) ∙ of_z-to_z w32 n lt
