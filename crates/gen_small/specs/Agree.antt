-- *Agree*: how a state of the source machine stands in the memory and the registers of the 386.
use Rattle.std.specs.Prelude.{ℕ, zero, suc, ◌≡◌, ◌+◌, ◌-◌, ◌*◌, ◌<◌, ◌≤◌, ◌⊎◌, List, [], ◌∷◌, length, Option, Some, true, false, slice_get, slice_index}
use Rattle.mach_mem.specs.Addresses.{stack_start, stack_end, stack_room}
use Rattle.c_type.specs.Names.{at_or}
use Rattle.c_type.specs.Sizes.{size}
use Rattle.mach_mem.specs.Space.{Space, byte_at, is_writable}
use Rattle.c_run.specs.Values.{Object, Static, Local, Value, Num, Null, To, Fn, same_object, suits}
use Rattle.c_run.specs.State.{State, Act, Made, Thing, Slot, thing}
use Rattle.c_run.specs.Context.{Linked}
use Rattle.c_run.specs.Calls.{no_made}
use Rattle.c_run.specs.Place.{place}
use Rattle.gen_small.specs.Items.{Layout, Entry}
use Rattle.gen_small.specs.Ghost.{M}
use Rattle.gen_small.specs.Spelled.{bytes, Tells}
use Rattle.gen_small.specs.Code.{Site, locals_size, temp_depth}

-- an object that is static, or of an activation that was made
abbrev pub IsKnown : List Made → Object → Type 0
IsKnown made (Static k) = Unit {0}
IsKnown made (Local serial i) = serial < length made

module _ (l : Layout) (w : Linked) (made : List Made) where
  -- the number that spells a value: a pointer by its address, a function by that of its code
  abbrev pub spell : Value → ℕ
  spell (Num n) = n
  spell Null = 0
  spell (To o a) = place w made o + a
  spell (Fn f) = l.label (Entry f)

  -- a value whose number fits 32 bits, and is 0 for a null pointer alone
  abbrev pub IsVal : Value → Type 0
  IsVal (Num n) = n < 4294967296
  IsVal Null = Unit {0}
  IsVal (To o a) = IsKnown made o × (0 < place w made o + a) × (place w made o + a < 4294967296)
  IsVal (Fn f) = (0 < l.label (Entry f)) × (l.label (Entry f) < 4294967296)

  -- the cells of an object that stands at an address, each spelled by its bytes
  abbrev pub Cells : (ℕ → Option ℕ) → ℕ → List Slot → Type 0
  Cells told at [] = Unit {0}
  Cells told at (c ∷ cs) = Tells told (at + c.off) (bytes (size [] c.ty) (spell c.val)) × (suits c.ty c.val ≡ true) × IsVal c.val × Cells told at cs

-- cells in order, between two offsets
abbrev pub Sorted : ℕ → List Slot → ℕ → Type 0
Sorted low [] high = low ≤ high
Sorted low (c ∷ cs) high = (low ≤ c.off) × Sorted (c.off + size [] c.ty) cs high

-- two parts of memory have no byte in common
abbrev pub IsApart : (a n b k : ℕ) → Type 0
IsApart a n b k = (a + n ≤ b) ⊎ (b + k ≤ a)

-- each of n bytes from an address on can be written
abbrev pub CanWrite : Space → ℕ → ℕ → Type 0
CanWrite m a zero = Unit {0}
CanWrite m a (suc n) = (is_writable m a ≡ true) × CanWrite m (suc a) n

-- What the frame of an activation holds besides its objects: where its code stands, its base, the return address, and the
-- numbers in the temporaries in use.
pub record Ghost : Type 0 where
  pub serial : ℕ
  pub site : Site
  pub base : ℕ
  pub ret : ℕ
  pub temps : List ℕ

abbrev pub frame : Ghost → ℕ
frame g = locals_size g.site + 256

-- the base of the latest activation, and the lowest address of the frames
abbrev pub base_of : List Ghost → ℕ
base_of [] = 0
base_of (g ∷ gs) = g.base

abbrev pub floor : List Ghost → ℕ
floor [] = stack_end
floor (g ∷ gs) = g.base - frame g

-- the frames lie in the stack, one below the other, each above its lowest address and below its arguments
abbrev pub Layered : List Ghost → Type 0
Layered [] = Unit {0}
Layered (g ∷ gs) =
    (stack_start + frame g ≤ g.base) × (g.base + 8 + 4 * length g.site.body.func.params ≤ floor gs) × (floor gs ≤ stack_end) × Layered gs

-- the byte before a return address belongs to the caller's current start
abbrev pub Returns : Layout → ℕ → List Act → Type 0
Returns l ret [] = Unit {0}
Returns l ret (a ∷ rs) = l.owner (ret - 1) ≡ (a.fun, a.start)

-- one activation and its frame; `link` is the base of the one that called it
pub record Frame (l : Layout) (w : Linked) (told : ℕ → Option ℕ) (made : List Made) (g : Ghost) (link : ℕ) (a : Act) (rs : List Act) : Type 0 where
  pub whole_is : g.site.whole ≡ w
  pub body_is : slice_get w.bodies g.site.fun ≡ Some g.site.body
  pub serial_is : a.serial ≡ g.serial
  pub fun_is : a.fun ≡ g.site.fun
  pub known : g.serial < length made
  pub made_is : at_or no_made made g.serial ≡ record { fun = g.site.fun; base = g.base }
  pub temps : (j : ℕ) → j < length g.temps → Tells told (g.base - temp_depth g.site j) (bytes 4 (slice_index g.temps j))
  pub few : length g.temps ≤ 64
  pub link_told : Tells told g.base (bytes 4 link)
  pub ret_told : Tells told (g.base + 4) (bytes 4 g.ret)
  pub returns : Returns l g.ret rs

-- the activations in order with their frames: walking from the latest base meets them, and ends at 0
abbrev pub Frames : Layout → Linked → (ℕ → Option ℕ) → List Made → List Ghost → List Act → Type 0
Frames l w told made [] [] = Unit {0}
Frames l w told made [] (a ∷ rs) = ⊥
Frames l w told made (g ∷ gs) [] = ⊥
Frames l w told made (g ∷ gs) (a ∷ rs) = Frame l w told made g (base_of gs) a rs × Frames l w told made gs rs

-- an object keeps off the temporaries, the links and the return addresses of all frames
abbrev pub KeepsOff : List Ghost → ℕ → ℕ → Type 0
KeepsOff [] a n = Unit {0}
KeepsOff (g ∷ gs) a n = IsApart a n (g.base - frame g) 256 × IsApart a n g.base 8 × KeepsOff gs a n

-- Where the live objects stand: in memory that can be written, apart from each other, from what the frames hold besides them,
-- and from the part of the stack that no frame uses.
pub record Placed (w : Linked) (s : State) (gs : List Ghost) (m : Space) : Type 0 where
  pub sorted : (o : Object) (x : Thing) → thing s o ≡ Some x → Sorted 0 x.slots x.size
  pub writable : (o : Object) (x : Thing) → thing s o ≡ Some x → CanWrite m (place w s.made o) x.size
  pub apart : (o q : Object) (x y : Thing) → thing s o ≡ Some x → thing s q ≡ Some y → same_object o q ≡ false → IsApart (place w s.made o) x.size (place w s.made q) y.size
  pub off : (o : Object) (x : Thing) → thing s o ≡ Some x → KeepsOff gs (place w s.made o) x.size
  pub free : (o : Object) (x : Thing) → thing s o ≡ Some x → IsApart (place w s.made o) x.size stack_start (floor gs - stack_start)

-- The state and the machine agree.
pub record Agree (l : Layout) (w : Linked) (text : List ℕ) (s : State) (gs : List Ghost) (ebp esp : ℕ) (mem : Space) (input output : List ℕ) (turns : ℕ) (made : List Made) : Type 0 where
  pub cells : (o : Object) (x : Thing) → thing s o ≡ Some x → Cells l w s.made (byte_at mem) (place w s.made o) x.slots
  pub frames : Frames l w (byte_at mem) s.made gs s.chain
  pub placed : Placed w s gs mem
  pub layered : Layered gs
  pub ebp_is : ebp ≡ base_of gs
  pub esp_is : esp ≡ floor gs
  pub stack_is : length mem.stack ≡ stack_room
  pub text_is : mem.text ≡ text
  pub input_is : input ≡ s.input
  pub output_is : output ≡ s.output
  pub turns_is : turns ≡ s.turns
  pub made_is : made ≡ s.made

abbrev pub Agrees : Layout → Linked → List ℕ → State → List Ghost → M → Type 0
Agrees l w text s gs m = Agree l w text s gs m.regs.ebp m.regs.esp m.mem m.input m.output m.turns m.made
