-- The look-up in a list of named bytes, one member on.
use Rattle.std.proofs.Common.{◌≡◌, ℕ, ◌+◌, ◌<◌, true, false, List, length, get_or, drop, add-one, drop-cons, ◌∙◌, ap, refl}
use Rattle.std.specs.Prelude.{Vec, Some, if◌then◌else◌}
use Rattle.std.specs.Str.{bytes_eq}
use Rattle.std.specs.declared.alloc.Global.{Global}
use Rattle.outside.specs.Named.{named}

named_at : (xs : List (List ℕ × Vec ℕ Global)) (name : List ℕ) (k : ℕ) (x : List ℕ × Vec ℕ Global) → k < length xs → x ≡ get_or xs k x
    → named (drop k xs) name ≡ (if bytes_eq x.0 name then Some x.1.items else named (drop (k + 1) xs) name)
named_at xs name k x within e =
    ap (λ l. named l name) (drop-cons xs k x within) ∙ (rw (← e) (rw add-one refl))

pub named_here : (xs : List (List ℕ × Vec ℕ Global)) (name : List ℕ) (k : ℕ) (x : List ℕ × Vec ℕ Global) → k < length xs → x ≡ get_or xs k x
    → bytes_eq x.0 name ≡ true → named (drop k xs) name ≡ Some x.1.items
named_here xs name k x within e same = named_at xs name k x within e ∙ (rw same refl)

pub named_on : (xs : List (List ℕ × Vec ℕ Global)) (name : List ℕ) (k : ℕ) (x : List ℕ × Vec ℕ Global) → k < length xs → x ≡ get_or xs k x
    → bytes_eq x.0 name ≡ false → named (drop k xs) name ≡ named (drop (k + 1) xs) name
named_on xs name k x within e other = named_at xs name k x within e ∙ (rw other refl)
