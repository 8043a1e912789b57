-- The first bad member of a list.
use Rattle.std.specs.Prelude.{◌≡◌, ℕ, List, take, Some, slice_get}
use Rattle.std.specs.List.{AllZip}

-- The members before number k have partners, place by place, and number k is bad.
pub record IsFirst {A B : Type 0} (Partners : A → B → Type 0) (IsBad : A → Type 0) (xs : List A) (k : ℕ) : Type 0 where
  pub before : List B
  pub good : AllZip Partners (take k xs) before
  pub member : A
  pub there : slice_get xs k ≡ Some member
  pub bad : IsBad member
