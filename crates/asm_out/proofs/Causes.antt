-- Each of the small texts without an object has its cause.
use Rattle.std.specs.Prelude.{◌≡◌, ℕ, ◌+◌, ◌-◌, pos, List, [], ◌∷◌, ◌++◌, length, take, drop, get_or, reverse, true, false, None, refl, codes}
use Rattle.std.proofs.Common.{arith, inl, inr}
use Rattle.asm_item.specs.declared.model.Val.TheVariants as values
use Rattle.asm_item.specs.declared.model.Item.{Item}
use Rattle.asm_item.specs.declared.model.Item.TheVariants.{Align, Ln}
use Rattle.asm_lay.specs.Pieces.{fixed}
use Rattle.asm_lay.specs.Laying.{Laid, begin}
use Rattle.coff_rec.specs.declared.nesting.Kind.TheVariants.{Other}
use Rattle.asm_out.specs.Causes.{Group, groups_of, groups_in, bare, is_bad, is_in_body, IsBadGroup}
use Rattle.asm_out.specs.Rows.{CausesAreFound, behind_main, group, function, body_begin, body_end, block_begin, block_end, mark, of_class}

abbrev some_group : Group
some_group = record { group = record { name = []; val = values.Here; scl = pos 0; ty = 0; tag = None; line = 0; size = 0; dims = [] }; kind = Other }

abbrev some_statement : Laid
some_statement = record { counters = begin; bss = 0; item = Align; piece = fixed [] }

-- the n-th group is bad between those before it and those behind it
by_place : (xs : List Item) (n : ℕ)
    → groups_of xs ≡ take n (groups_of xs) ++ (get_or (groups_of xs) n some_group ∷ drop (n + 1) (groups_of xs))
    → length (take n (groups_of xs)) ≡ n
    → is_bad (groups_of xs) (reverse (take n (groups_of xs))) (get_or (groups_of xs) n some_group) (drop (n + 1) (groups_of xs)) ≡ true
    → IsBadGroup xs n
by_place xs n splits len bad =
    inl (take n (groups_of xs), get_or (groups_of xs) n some_group, drop (n + 1) (groups_of xs), splits, len, bad)

-- the m-th statement is a .ln out of its place
by_line : (xs : List Item) (n m : ℕ)
    → bare xs ≡ take m (bare xs) ++ (get_or (bare xs) m some_statement ∷ drop (m + 1) (bare xs))
    → (get_or (bare xs) m some_statement).item ≡ Ln 1
    → is_in_body (reverse (groups_in (bare xs) (take m (bare xs)))) ≡ false
    → n ≡ length (groups_in (bare xs) (take m (bare xs))) - 1
    → IsBadGroup xs n
by_line xs n m splits line loose count =
    inr (take m (bare xs), get_or (bare xs) m some_statement, drop (m + 1) (bare xs), splits, 1, line, loose, count)

pub all_found : CausesAreFound
all_found = record {
  lacks = (refl, refl, refl);
  twice_label = omega arith;
  twice_common = omega arith;
  twice_in_bss = omega arith;
  large_text = omega arith;
  very_large_text = omega arith;
  large_init = omega arith;
  no_class = by_place (behind_main (of_class (pos 0) ∷ [])) 0 refl refl refl;
  class_five = by_place (behind_main (of_class (pos 5) ∷ [])) 0 refl refl refl;
  of_a_section = by_place (behind_main (group (codes ".data") (values.Number 0) (pos 3) 4 0 ∷ [])) 0 refl refl refl;
  open_tag = by_place (behind_main (of_class (pos 10) ∷ of_class (pos 8) ∷ [])) 0 refl refl refl;
  lone_member = by_place (behind_main (of_class (pos 8) ∷ [])) 0 refl refl refl;
  lone_end = by_place (behind_main (of_class (pos 102) ∷ [])) 0 refl refl refl;
  first_begin = by_place (behind_main (body_begin ∷ body_end ∷ [])) 0 refl refl refl;
  open_begin = by_place (behind_main (function ∷ body_begin ∷ [])) 1 refl refl refl;
  second_begin = by_place (behind_main (function ∷ body_begin ∷ body_end ∷ body_begin ∷ body_end ∷ [])) 3 refl refl refl;
  loose_block_end = by_place (behind_main (function ∷ body_begin ∷ block_end ∷ body_end ∷ [])) 2 refl refl refl;
  late_block_end = by_place (behind_main (function ∷ body_begin ∷ block_begin ∷ body_end ∷ block_end ∷ [])) 2 refl refl refl;
  lone_line = by_line (behind_main (Ln 1 ∷ [])) 0 2 refl refl refl refl;
  early_line = by_line (behind_main (function ∷ Ln 1 ∷ body_begin ∷ body_end ∷ [])) 0 3 refl refl refl refl;
  late_line = by_line (behind_main (function ∷ body_begin ∷ body_end ∷ mark ∷ Ln 1 ∷ [])) 3 6 refl refl refl refl;
}
