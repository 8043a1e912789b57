-- Looking for a register by its name, from the last one down.
use Rattle.std.proofs.Common.{◌≡◌, ℕ, zero, suc, ◌-◌, ◌<◌, List, cond, Some, ap, arith}
use Rattle.std.specs.Str.{bytes_eq}
use Rattle.asm_read.specs.Arguments.{number_by}

pub number_step : (names : ℕ → List ℕ) (r : ℕ) (w : List ℕ) → 0 < r → number_by names r w ≡ cond (bytes_eq w (names (r - 1))) (Some (r - 1)) (number_by names (r - 1) w)
number_step names zero w h = absurd (omega arith)
number_step names (suc r) w h =
    let e : r ≡ suc r - 1 = omega arith in
    ap (λ n. cond (bytes_eq w (names n)) (Some n) (number_by names n w)) e
