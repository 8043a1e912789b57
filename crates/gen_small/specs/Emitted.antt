-- The bytes of code whose labels are known, each jump in its long form.
use Rattle.std.specs.Prelude.{ℕ, ◌≡◌, ◌+◌, ◌<◌, ◌≤◌, List, [], ◌∷◌, ◌++◌, length, ℤ, true, false, Option, Some, None}
use Rattle.std.specs.Int.{w32, cast_signed}
use Rattle.isa386.specs.declared.Callee.TheVariants.{Relative}
use Rattle.isa386.specs.declared.Target.TheVariants.{Near}
use Rattle.isa386.specs.declared.PlainOp.TheVariants.{Nop}
use Rattle.isa386.specs.declared.Ins.TheVariants.{Call, Jump, Branch, Plain}
use Rattle.isa386.specs.Encoding.{encoding}
use Rattle.isa386.specs.Row.{IsRow}
use Rattle.mach_exec.specs.Word.{sub32}
use Rattle.gen_small.specs.Ghost.{Prog}
use Rattle.gen_small.specs.Items.{Name, Item, Start, Open, Op, Label, Goto, If, CallTo, Layout}

-- how far it is from the address behind an instruction to a label
abbrev pub distance : ℕ → ℕ → ℤ
distance next label = cast_signed w32 (sub32 label next)

-- the number of bytes of an item
abbrev pub width : Item → ℕ
width (Start k) = 1
width (Open k) = 1
width (Op i) = length (encoding i)
width (Label n) = 0
width (Goto n) = 5
width (If c n) = 6
width (CallTo n) = 5

-- the bytes of an item at an address
abbrev pub item_bytes : (Name → ℕ) → ℕ → Item → List ℕ
item_bytes label a (Start k) = encoding (Plain Nop)
item_bytes label a (Open k) = encoding (Plain Nop)
item_bytes label a (Op i) = encoding i
item_bytes label a (Label n) = []
item_bytes label a (Goto n) = encoding (Jump (Near (distance (a + 5) (label n))))
item_bytes label a (If c n) = encoding (Branch c (Near (distance (a + 6) (label n))))
item_bytes label a (CallTo n) = encoding (Call (Relative (distance (a + 5) (label n))))

abbrev pub emitted : (Name → ℕ) → ℕ → List Item → List ℕ
emitted label a [] = []
emitted label a (x ∷ xs) = item_bytes label a x ++ emitted label (a + width x) xs

-- the address behind the items
abbrev pub end_of : ℕ → List Item → ℕ
end_of a [] = a
end_of a (x ∷ xs) = end_of (a + width x) xs

-- bytes of the start k of function f, none of them a start's first
pub record IsInner (p : Prog) (l : Layout) (f k a n : ℕ) : Type 0 where
  pub no_start : p.is_start a ≡ false
  pub owned : (x : ℕ) → a ≤ x → x < a + n → l.owner x ≡ (f, k)

-- the nop of the start k of function f
pub record IsBegin (p : Prog) (l : Layout) (f k a : ℕ) (opened : Option ℕ) : Type 0 where
  pub is_start : p.is_start a ≡ true
  pub opens : p.opens a ≡ opened
  pub start : l.start f k ≡ a
  pub owned : (x : ℕ) → a ≤ x → x < a + 1 → l.owner x ≡ (f, k)

-- the layout knows the starts, the labels and the owners of these items, which stand from an address on
abbrev pub Marked : Prog → Layout → ℕ → ℕ → ℕ → List Item → Type 0
Marked p l f k a [] = Unit {0}
Marked p l f k a (Start j ∷ xs) = IsBegin p l f j a None × Marked p l f j (a + 1) xs
Marked p l f k a (Open j ∷ xs) = IsBegin p l f j a (Some f) × Marked p l f j (a + 1) xs
Marked p l f k a (Op i ∷ xs) = IsRow i × IsInner p l f k a (length (encoding i)) × Marked p l f k (a + length (encoding i)) xs
Marked p l f k a (Label n ∷ xs) = (l.label n ≡ a) × Marked p l f k (a + 0) xs
Marked p l f k a (Goto n ∷ xs) = (l.label n < 4294967296) × IsInner p l f k a 5 × Marked p l f k (a + 5) xs
Marked p l f k a (If c n ∷ xs) = (l.label n < 4294967296) × IsInner p l f k a 6 × Marked p l f k (a + 6) xs
Marked p l f k a (CallTo n ∷ xs) = (l.label n < 4294967296) × IsInner p l f k a 5 × Marked p l f k (a + 5) xs
