-- Words of the types that syms(4) has as examples, and bits that say no type.
use Rattle.std.proofs.Common.{◌≡◌, ◌∷◌, [], refl}
use Rattle.c_type.specs.declared.Kind.TheVariants.{Char, Int}
use Rattle.c_type.specs.Types.{num, ptr, arr, struct, fun}
use Rattle.type_word.specs.Words.{word_of}
use Rattle.type_word.specs.Parts.{basic}
use Rattle.type_word.specs.Outer.{outer_of, Bad, Void, Arr}

-- struct node *
row_pointer : word_of (ptr (struct 7)) ≡ record { word = 0x18; tag = 7; dims = 0 ∷ (0 ∷ (0 ∷ (0 ∷ []))) }
row_pointer = refl

-- char a[2][3]
row_array : word_of (arr 2 (arr 3 (num Char))) ≡ record { word = 0xF2; tag = 0; dims = 2 ∷ (3 ∷ (0 ∷ (0 ∷ []))) }
row_array = refl

-- a function that returns int
row_function : word_of (fun (num Int)) ≡ basic 0x24 0
row_function = refl

-- int *(*fp)()
row_pointer_to_function : word_of (ptr (fun (ptr (num Int)))) ≡ basic 0x194 0
row_pointer_to_function = refl

-- the first dimension is the outermost array's
row_element : outer_of (word_of (arr 2 (arr 3 (num Char)))) ≡ Arr 2 (record { word = 0x32; tag = 0; dims = 3 ∷ (0 ∷ (0 ∷ (0 ∷ []))) })
row_element = refl

-- T_NULL is void
row_void : outer_of (basic 0 0) ≡ Void
row_void = refl

-- T_MOE and the codes of float and double are no type here
row_no_codes : (outer_of (basic 1 0) ≡ Bad) × (outer_of (basic 6 0) ≡ Bad) × (outer_of (basic 7 0) ≡ Bad) × (outer_of (basic 11 0) ≡ Bad)
row_no_codes = (refl, refl, refl, refl)

-- the number of a tag beside a type without one
row_tag_beside : outer_of (basic 4 3) ≡ Bad
row_tag_beside = refl

-- a dimension beside a type without arrays
row_dimension_behind : outer_of (record { word = 4; tag = 0; dims = 5 ∷ (0 ∷ (0 ∷ (0 ∷ []))) }) ≡ Bad
row_dimension_behind = refl

-- a gap below a derivation
row_gap : outer_of (basic 0x44 0) ≡ Bad
row_gap = refl

-- the fifth of five arrays has no dimension
row_fifth : outer_of (record { word = 0x34; tag = 0; dims = 0 ∷ (0 ∷ (0 ∷ (0 ∷ []))) }) ≡ Bad
row_fifth = refl
