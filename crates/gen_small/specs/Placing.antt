-- The table of the addresses of labels, and the instructions of items.
use Rattle.std.specs.Prelude.{ℕ, zero, suc, ◌+◌, ◌*◌, List, [], ◌∷◌, Option, Some, None, slice_index}
use Rattle.isa386.specs.declared.Ins.{Ins}
use Rattle.isa386.specs.Encoding.{encoding}
use Rattle.isa386.specs.Row.{IsRow}
use Rattle.gen_small.specs.declared.code_list.Label.{Label}
use Rattle.gen_small.specs.declared.code_list.Label.TheVariants.{Entry, Close, Top, End}
use Rattle.gen_small.specs.declared.code_list.Item.{Item}
use Rattle.gen_small.specs.declared.code_list.Item.TheVariants.{Op}
use Rattle.gen_small.specs.Items as s

-- where a label's address stands in the table
abbrev pub slot_of : Label → ℕ
slot_of Entry = 0
slot_of Close = 1
slot_of (Top k) = 2 * k + 2
slot_of (End k) = 2 * k + 3

-- the address of a label, 0 where none is known
abbrev pub known : List ℕ → Label → ℕ
known table n = slice_index table (slot_of n)

-- the first of two addresses that is known
abbrev pub first_known : ℕ → ℕ → ℕ
first_known zero b = b
first_known (suc a) b = suc a

-- the bytes of an instruction that may be missing
abbrev pub coded : Option Ins → List ℕ
coded None = []
coded (Some i) = encoding i

-- an item whose instruction, if it has one, is a row of the table
abbrev pub IsRowItem : Item → Type 0
IsRowItem (Op i) = IsRow i
IsRowItem _ = Unit {0}

-- items whose instructions are rows of the table
abbrev pub AreRows : List s.Item → Type 0
AreRows [] = Unit {0}
AreRows (s.Op i ∷ xs) = IsRow i × AreRows xs
AreRows (_ ∷ xs) = AreRows xs
