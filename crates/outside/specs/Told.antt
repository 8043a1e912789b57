-- What files and a sink tell of their contents, and what a call does to it.
use Rattle.std.specs.Prelude.{ℕ, ◌≤◌, ◌≡◌, ◌≢◌, ◌⊎◌, List, length, take, Option, Some, None, Result, Ok, Err, OnOk, ⊤, Vec}
use Rattle.std.specs.Io.KnownBytes.{Appends}
use Rattle.std.specs.declared.alloc.Global.{Global}
use Rattle.outside.specs.declared.traits.FileErr.{FileErr}
use Rattle.outside.specs.declared.traits.FileErr.TheVariants.{Absent}
use Rattle.outside.specs.declared.traits.PutErr.{PutErr}
use Rattle.outside.specs.declared.traits.PutErr.TheVariants.{Failed, Memory}

-- the bytes of each file that there is
abbrev pub Held : Type 0
Held = List ℕ → Option (List ℕ)

-- a read of a file that isn't there, or that holds these bytes
abbrev pub ReadsHeld : Option (List ℕ) → ℕ → Result (Vec ℕ Global) FileErr → Type 0
ReadsHeld None most result = result ≡ Err Absent
ReadsHeld (Some bytes) most (Ok v) = v.items ≡ take most bytes
ReadsHeld (Some bytes) most (Err e) = e ≢ Absent

-- a read of the file of this name, where it is told what the files hold
abbrev pub ReadsFile : Option Held → List ℕ → ℕ → Result (Vec ℕ Global) FileErr → Type 0
ReadsFile None name most result = ⊤
ReadsFile (Some held) name most result = ReadsHeld (held name) most result

-- a write makes the file hold these bytes; after a fault it holds a front of them or what it held, after
-- want of memory what it held
abbrev pub Puts : Option (List ℕ) → Option (List ℕ) → List ℕ → Result (Unit {0}) PutErr → Type 0
Puts old new bytes (Ok u) = new ≡ Some bytes
Puts old new bytes (Err Failed) = (new ≡ old) ⊎ ((n : ℕ) × (new ≡ Some (take n bytes)))
Puts old new bytes (Err Memory) = new ≡ old

-- a write to the file of this name, where what the files hold is told: no other file changes
abbrev pub WritesHeld : Option Held → Option Held → List ℕ → List ℕ → Result (Unit {0}) PutErr → Type 0
WritesHeld old None name bytes result = ⊤
WritesHeld None (Some new) name bytes result = OnOk result (new name ≡ Some bytes)
WritesHeld (Some old) (Some new) name bytes result =
    Puts (old name) (new name) bytes result × ((other : List ℕ) → other ≢ name → new other ≡ old other)

-- a write to a sink adds the first n of the bytes at `Ok(n)`, and some front of them at `Err`
abbrev pub Takes : {E : Type 0} → Option (List ℕ) → Option (List ℕ) → List ℕ → Result ℕ E → Type 0
Takes old new bytes (Ok n) = (n ≤ length bytes) × Appends old new (take n bytes)
Takes old new bytes (Err e) = (n : ℕ) × Appends old new (take n bytes)

-- all the bytes are added at `Ok`, and some front of them at `Err`
abbrev pub TakesAll : {T E : Type 0} → Option (List ℕ) → Option (List ℕ) → List ℕ → Result T E → Type 0
TakesAll old new bytes (Ok u) = Appends old new bytes
TakesAll old new bytes (Err e) = (n : ℕ) × Appends old new (take n bytes)
