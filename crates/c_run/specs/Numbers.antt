-- The numbers in a typed unit are in textual order.
-- It states docs/LANGUAGE.md, section Starts and turns.
use Rattle.std.specs.Prelude.{◌≡◌, ℕ, suc, ◌<◌, List, [], ◌∷◌, length, ◌⊎◌, map}
use Rattle.c_tree.specs.TUnit.{TypedUnit, Func, funcs_of}
use Rattle.c_tree.specs.Starts.{starts}
use Rattle.c_tree.specs.Bodies.{autos}
use Rattle.c_run.specs.Mentions.{Mention, Text, Own, in_exts}

-- n, n + 1 and so on
abbrev pub IsCounted : ℕ → List ℕ → Type 0
IsCounted n [] = Unit {0}
IsCounted n (k ∷ ks) = (k ≡ n) × IsCounted (suc n) ks

-- each number is the next one, or stood before
abbrev pub IsFirstSeen : ℕ → List ℕ → Type 0
IsFirstSeen n [] = Unit {0}
IsFirstSeen n (k ∷ ks) = ((k < n) × IsFirstSeen n ks) ⊎ ((k ≡ n) × IsFirstSeen (suc n) ks)

-- the numbers of the texts, in textual order
abbrev pub text_numbers : List Mention → List ℕ
text_numbers [] = []
text_numbers (Text k ∷ ms) = k ∷ text_numbers ms
text_numbers (_ ∷ ms) = text_numbers ms

-- the numbers of the statics, in textual order
abbrev pub own_numbers : List Mention → List ℕ
own_numbers [] = []
own_numbers (Own k t i ∷ ms) = k ∷ own_numbers ms
own_numbers (_ ∷ ms) = own_numbers ms

-- the automatic objects of each function count from 0
abbrev pub AllCounted : List Func → Type 0
AllCounted [] = Unit {0}
AllCounted (f ∷ fs) = IsCounted 0 (map (λ x. x.number) (autos f)) × AllCounted fs

-- Starts and texts count up through the unit, automatic objects through their function. A static that is declared again
-- keeps its number.
pub record IsNumbered (u : TypedUnit) : Type 0 where
  pub starts_count : IsCounted 0 (map (λ s. s.index) (starts u))
  pub autos_count : AllCounted (funcs_of u.exts)
  pub texts_count : IsCounted 0 (text_numbers (in_exts u.exts))
  pub texts_are : length (text_numbers (in_exts u.exts)) ≡ length u.texts
  pub statics_count : IsFirstSeen 0 (own_numbers (in_exts u.exts))
