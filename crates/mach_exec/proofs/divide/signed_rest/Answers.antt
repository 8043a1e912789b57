use Rattle.std.proofs.Common.{◌≡◌, ◌<◌, ℕ, arith, subst, ap, sym, ◌∙◌}
use Rattle.std.specs.Prelude.{ℤ, pos, negsuc}
use Rattle.std.proofs.lemmas.Int.{ints, to_z-of_z, of_z-to_z}
use Rattle.std.specs.Int.{w32, w64, cast_signed, cast_unsigned}
use Rattle.std.specs.Int.RustNames.{FitsSigned, int_rem}
use Rattle.mach_exec.proofs.divide.signed_rest.Goals as goal

-- a remainder fits where the divisor does
rest_fits : (z d : ℤ) → 0 < cast_unsigned w32 d → FitsSigned w32 d → FitsSigned w32 (int_rem z d)
rest_fits (pos a) (pos b) some fits = record { sfits = omega (arith, fits.sfits) }
rest_fits (pos a) (negsuc b) some fits = record { sfits = omega (arith, fits.sfits) }
rest_fits (negsuc a) (pos b) some fits = omega (arith, ints, fits.sfits)
rest_fits (negsuc a) (negsuc b) some fits = omega (arith, ints, fits.sfits)

rest_bits : (n d x : ℕ) (a b e r : ℤ) → FitsSigned w64 a → FitsSigned w64 b → FitsSigned w32 e → FitsSigned w64 r → 0 < cast_unsigned w32 e
    → r ≡ int_rem (cast_signed w64 (cast_unsigned w64 a)) (cast_signed w64 (cast_unsigned w64 b))
    → x ≡ cast_unsigned w32 (cast_signed w32 (cast_unsigned w32 (cast_signed w64 (cast_unsigned w64 r))))
    → b ≡ cast_signed w32 (cast_unsigned w32 e) → a ≡ cast_signed w64 n → e ≡ cast_signed w32 d
    → x ≡ cast_unsigned w32 (int_rem (cast_signed w64 n) (cast_signed w32 d))
rest_bits n d x a b e r fa fb fe fr some er ex eb ea ee =
    let er1 : r ≡ int_rem a b = er ∙ ap (λ z. int_rem z (cast_signed w64 (cast_unsigned w64 b))) (to_z-of_z w64 a fa) ∙ ap (int_rem a) (to_z-of_z w64 b fb) in
    let er2 : r ≡ int_rem a e = er1 ∙ ap (int_rem a) (eb ∙ to_z-of_z w32 e fe) in
    let f : FitsSigned w32 r = subst (λ z. FitsSigned w32 z) (sym er2) (rest_fits a e some fe) in
    ex ∙ ap (λ z. cast_unsigned w32 (cast_signed w32 (cast_unsigned w32 z))) (to_z-of_z w64 r fr) ∙ ap (cast_unsigned w32) (to_z-of_z w32 r f) ∙ ap (cast_unsigned w32) (er2 ∙ ap (λ z. int_rem z e) ea ∙ ap (int_rem (cast_signed w64 n)) ee)

pub returns : goal.returns
returns c = rest_bits _ _ _ c.cast_signed.result c.from.result c.cast_signed-2.result c.wrapping_rem-rest.result
    record { sfits = c.cast_signed.type_inv } record { sfits = c.from.type_inv } record { sfits = c.cast_signed-2.type_inv } record { sfits = c.wrapping_rem-rest.type_inv }
    (rw c.cast_signed-2.ensures (rw (of_z-to_z w32 c.args.d c.ranges.d.fits) c.requires)) c.wrapping_rem-rest.ensures c.cast_unsigned.ensures c.from.ensures c.cast_signed.ensures c.cast_signed-2.ensures
