-- The names of a text: where its labels are, and which names are external.
use Rattle.std.specs.Prelude.{ℕ, List, Bool, false, Option}
use Rattle.std.specs.Str.{bytes_eq}
use Rattle.asm_item.specs.declared.model.Item.{Item}
use Rattle.asm_item.specs.declared.model.Item.TheVariants as items

-- a place in a section: .text is 1, .data 2, .bss 3
pub record Location : Type 0 where
  pub section : ℕ
  pub offset : ℕ

-- what is known of each name
pub record Names : Type 0 where
  pub place : List ℕ → Option Location
  pub external : List ℕ → Bool

-- a statement that makes a name external
abbrev pub makes_external : List ℕ → Item → Bool
makes_external k (items.Globl j) = bytes_eq j k
makes_external k (items.Comm j n) = bytes_eq j k
makes_external k x = false
