-- Code as a list of instructions, labels and jumps, and where it stands in memory.
use Rattle.std.specs.Prelude.{ℕ, ◌≡◌, ◌+◌, ◌-◌, ◌%◌, ◌^◌, ◌<◌, ◌≤◌, nat_le, if◌then◌else◌, List, [], ◌∷◌, ℤ, true, false, Option, Some, None, drop}
use Rattle.std.specs.Int.{w32, cast_unsigned}
use Rattle.mach_mem.specs.Addresses.{text_start}
use Rattle.isa386.specs.declared.Cond.{Cond}
use Rattle.isa386.specs.declared.Callee.TheVariants.{Relative}
use Rattle.isa386.specs.declared.Target.TheVariants.{Near}
use Rattle.isa386.specs.declared.PlainOp.TheVariants.{Nop}
use Rattle.isa386.specs.declared.Ins.{Ins}
use Rattle.isa386.specs.declared.Ins.TheVariants.{Call, Jump, Branch, Plain}
use Rattle.isa_dec.specs.Decoded.{decoded}
use Rattle.isa_dec.specs.declared.Dec.TheVariants.{Ins as IsIns}
use Rattle.mach_exec.specs.Word.{add32}
use Rattle.c_run.specs.Values.{Target}
use Rattle.gen_small.specs.Ghost.{Prog}

-- A place that a jump or call names: a function's entry and its close, the first and last place of the statement whose start is k,
-- and a place inside an expression by its number, each in function f.
pub data Name : Type 0 where
  Entry : (t : Target) → Name
  Close : (f : ℕ) → Name
  Top : (f k : ℕ) → Name
  End : (f k : ℕ) → Name
  Inside : (f n : ℕ) → Name

-- One item of code. `Start` is a start, and `Open` the start of an opening brace; each is a `nop`. `Goto`, `If` and `CallTo`
-- are jmp, jcc and call to a place.
pub data Item : Type 0 where
  Start : (k : ℕ) → Item
  Open : (k : ℕ) → Item
  Op : (i : Ins) → Item
  Label : (n : Name) → Item
  Goto : (n : Name) → Item
  If : (c : Cond) (n : Name) → Item
  CallTo : (n : Name) → Item

-- where labels and starts stand, and to which start of which function each byte of code belongs
pub record Layout : Type 0 where
  pub label : Name → ℕ
  pub start : (f k : ℕ) → ℕ
  pub owner : ℕ → ℕ × ℕ

-- the bytes of .text from an address on
abbrev pub code_from : List ℕ → ℕ → List ℕ
code_from text a = if nat_le text_start a then drop (a - text_start) text else []

-- the instruction i stands at a, and c is the address behind it
pub record Stored (text : List ℕ) (a : ℕ) (i : Ins) (c : ℕ) : Type 0 where
  pub size : ℕ
  pub read : decoded (code_from text a) ≡ IsIns i size
  pub next : c ≡ (a + size) % 2 ^ 32

-- it stands there in start k of function f, and is no start itself
pub record Stays (p : Prog) (l : Layout) (f k a : ℕ) (i : Ins) (c : ℕ) : Type 0 where
  pub no_start : p.is_start a ≡ false
  pub stored : Stored p.text a i c
  pub owned : (x : ℕ) → a ≤ x → x < c → l.owner x ≡ (f, k)

-- the start k of function f stands at a
pub record Begins (p : Prog) (l : Layout) (f k a c : ℕ) (opened : Option ℕ) : Type 0 where
  pub is_start : p.is_start a ≡ true
  pub opens : p.opens a ≡ opened
  pub start : l.start f k ≡ a
  pub stored : Stored p.text a (Plain Nop) c
  pub owned : (x : ℕ) → a ≤ x → x < c → l.owner x ≡ (f, k)

-- The items stand from a to b in function f, the first ones in start k. Jumps go by their distances.
abbrev pub Stands : Prog → Layout → ℕ → ℕ → ℕ → List Item → ℕ → Type 0
Stands p l f k a [] b = a ≡ b
Stands p l f k a (Start j ∷ is) b = (c : ℕ) × Begins p l f j a c None × Stands p l f j c is b
Stands p l f k a (Open j ∷ is) b = (c : ℕ) × Begins p l f j a c (Some f) × Stands p l f j c is b
Stands p l f k a (Op i ∷ is) b = (c : ℕ) × Stays p l f k a i c × Stands p l f k c is b
Stands p l f k a (Label n ∷ is) b = (l.label n ≡ a) × Stands p l f k a is b
Stands p l f k a (Goto n ∷ is) b =
    (c : ℕ) × (d : ℤ) × Stays p l f k a (Jump (Near d)) c × (add32 c (cast_unsigned w32 d) ≡ l.label n) × Stands p l f k c is b
Stands p l f k a (If cc n ∷ is) b =
    (c : ℕ) × (d : ℤ) × Stays p l f k a (Branch cc (Near d)) c × (add32 c (cast_unsigned w32 d) ≡ l.label n) × Stands p l f k c is b
Stands p l f k a (CallTo n ∷ is) b =
    (c : ℕ) × (d : ℤ) × Stays p l f k a (Call (Relative d)) c × (add32 c (cast_unsigned w32 d) ≡ l.label n) × Stands p l f k c is b

-- the start in which code goes on behind these items
abbrev pub last_start : ℕ → List Item → ℕ
last_start k [] = k
last_start k (Start j ∷ is) = last_start j is
last_start k (Open j ∷ is) = last_start j is
last_start k (Op i ∷ is) = last_start k is
last_start k (Label n ∷ is) = last_start k is
last_start k (Goto n ∷ is) = last_start k is
last_start k (If c n ∷ is) = last_start k is
last_start k (CallTo n ∷ is) = last_start k is
