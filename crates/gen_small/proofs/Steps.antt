-- What each instruction form does, where its operands are known.
use Rattle.std.proofs.Common.{◌≡◌, ℕ, ◌+◌, ◌-◌, ◌%◌, ◌<◌, ◌≤◌, Bool, true, false, Some, None, refl, ap, ◌∙◌, arith}
use Rattle.std.specs.Prelude.{◌==◌, if◌then◌else◌, ℤ}
use Rattle.std.specs.Int.{w32, cast_signed, cast_unsigned}
use Rattle.std.specs.Int.Bits.{and_self}
use Rattle.std.proofs.lemmas.Int.{of_z-to_z}
use Rattle.mach_mem.specs.Space.{Space, byte_at, number_at, is_writable4, with_number}
use Rattle.isa386.specs.declared.Dw.TheVariants.{D32}
use Rattle.isa386.specs.declared.Opnd.TheVariants.{Reg, Mem}
use Rattle.isa386.specs.declared.Way.TheVariants.{ToOperand, ToRegister}
use Rattle.isa386.specs.declared.Dest.TheVariants.{Register}
use Rattle.isa386.specs.declared.StackOp.TheVariants.{Push, PushImm}
use Rattle.isa386.specs.declared.ArithOp.TheVariants as op
use Rattle.isa386.specs.declared.Cond.TheVariants.{Equal}
use Rattle.isa386.specs.declared.Target.TheVariants.{Near}
use Rattle.isa386.specs.declared.Ins.TheVariants.{Move, MoveImm, Stack, ArithTo, ArithImm, Test, Jump, Branch}
use Rattle.mach_exec.specs.Word.{add32, sub32, sign}
use Rattle.mach_exec.specs.Flags.{add_flags, sub_flags}
use Rattle.mach_exec.specs.Effect.{Outcome, done, signalled, reading}
use Rattle.mach_exec.specs.Execute.{executed}
use Rattle.gen_small.specs.Ghost.{Regs, Flags, cpu_of}

-- movl $n, %eax
pub set_eax : (r : Regs) (f : Flags) (a : ℕ) (m : Space) (n c : ℕ) → executed (cpu_of r f a) m (MoveImm (Register 0) n) c ≡ done (cpu_of (record r { eax = n }) f c) m
unfolding executed
set_eax r f a m n c = refl

-- movl %eax, %ecx
pub eax_to_ecx : (r : Regs) (f : Flags) (a : ℕ) (m : Space) (c : ℕ) → executed (cpu_of r f a) m (Move ToOperand 0 (Reg 1)) c ≡ done (cpu_of (record r { ecx = r.eax }) f c) m
unfolding executed
eax_to_ecx r f a m c = refl

-- movl %esp, %eax
pub esp_to_eax : (r : Regs) (f : Flags) (a : ℕ) (m : Space) (c : ℕ) → executed (cpu_of r f a) m (Move ToOperand 4 (Reg 0)) c ≡ done (cpu_of (record r { eax = r.esp }) f c) m
unfolding executed
esp_to_eax r f a m c = refl

-- movl %esp, %ebp
pub esp_to_ebp : (r : Regs) (f : Flags) (a : ℕ) (m : Space) (c : ℕ) → executed (cpu_of r f a) m (Move ToOperand 4 (Reg 5)) c ≡ done (cpu_of (record r { ebp = r.esp }) f c) m
unfolding executed
esp_to_ebp r f a m c = refl

-- the flags of a sum and of a difference
abbrev pub sum_flags : ℕ → ℕ → Flags
sum_flags x y = let f = add_flags x y in record { cf = f.cf; zf = f.zf; sf = f.sf; of = f.of }

abbrev pub difference_flags : ℕ → ℕ → Flags
difference_flags x y = let f = sub_flags x y in record { cf = f.cf; zf = f.zf; sf = f.sf; of = f.of }

-- addl %ecx, %eax; subl %ecx, %eax
pub add_ecx : (r : Regs) (f : Flags) (a : ℕ) (m : Space) (c : ℕ) → executed (cpu_of r f a) m (ArithTo op.Add 1 (Reg 0)) c ≡ done (cpu_of (record r { eax = add32 r.eax r.ecx }) (sum_flags r.eax r.ecx) c) m
unfolding executed
add_ecx r f a m c = refl

pub sub_ecx : (r : Regs) (f : Flags) (a : ℕ) (m : Space) (c : ℕ) → executed (cpu_of r f a) m (ArithTo op.Sub 1 (Reg 0)) c ≡ done (cpu_of (record r { eax = sub32 r.eax r.ecx }) (difference_flags r.eax r.ecx) c) m
unfolding executed
sub_ecx r f a m c = refl

-- addl $n, %esp; subl $n, %esp
pub add_esp : (r : Regs) (f : Flags) (a : ℕ) (m : Space) (n c : ℕ) → executed (cpu_of r f a) m (ArithImm op.Add (Reg 4) n) c ≡ done (cpu_of (record r { esp = add32 r.esp n }) (sum_flags r.esp n) c) m
unfolding executed
add_esp r f a m n c = refl

pub sub_esp : (r : Regs) (f : Flags) (a : ℕ) (m : Space) (n c : ℕ) → executed (cpu_of r f a) m (ArithImm op.Sub (Reg 4) n) c ≡ done (cpu_of (record r { esp = sub32 r.esp n }) (difference_flags r.esp n) c) m
unfolding executed
sub_esp r f a m n c = refl

-- testl %eax, %eax
abbrev pub test_flags : ℕ → Flags
test_flags x = record { cf = false; zf = x == 0; sf = sign x; of = false }

pub test_eax : (r : Regs) (f : Flags) (a : ℕ) (m : Space) (c : ℕ) → executed (cpu_of r f a) m (Test 0 (Reg 0)) c ≡ done (cpu_of r (test_flags r.eax) c) m
unfolding executed
test_eax r f a m c = ap (λ x. done (cpu_of r (test_flags x) c) m) (and_self r.eax)

-- jmp; je
pub jump : (r : Regs) (f : Flags) (a : ℕ) (m : Space) (d : ℤ) (c : ℕ) → executed (cpu_of r f a) m (Jump (Near d)) c ≡ done (cpu_of r f (add32 c (cast_unsigned w32 d))) m
unfolding executed
jump r f a m d c = refl

pub jump_equal : (r : Regs) (f : Flags) (a : ℕ) (m : Space) (d : ℤ) (c : ℕ) → executed (cpu_of r f a) m (Branch Equal (Near d)) c ≡ done (cpu_of r f (if f.zf then add32 c (cast_unsigned w32 d) else c)) m
unfolding executed
jump_equal r f a m d c = refl

-- the address of a place beyond ebp
abbrev pub place : ℕ → ℤ → ℕ
place base d = add32 (add32 base 0) (cast_unsigned w32 d)

pub place_beyond : (base q at : ℕ) → q < 4294967296 → (base + q) % 4294967296 ≡ at → place base (cast_signed w32 q) ≡ at
place_beyond base q at lt e =
    ap (λ z. add32 (add32 base 0) z) (of_z-to_z w32 q lt) ∙ two base q ∙ e
  where
    two : (base q : ℕ) → ((base + 0) % 4294967296 + q) % 4294967296 ≡ (base + q) % 4294967296
    two base q = omega arith

pub place_below : (base q : ℕ) → 0 < q → q ≤ base → base < 4294967296 → place base (cast_signed w32 (4294967296 - q)) ≡ base - q
place_below base q pos le lt = place_beyond base (4294967296 - q) (base - q) (omega arith) (omega arith)

-- a push of v at the address `at`
pushed : (r : Regs) (f : Flags) (a : ℕ) (m : Space) (at c v : ℕ) → sub32 r.esp 4 ≡ at → is_writable4 m at ≡ true → (if is_writable4 m (sub32 r.esp 4) then done (cpu_of (record r { esp = sub32 r.esp 4 }) f c) (with_number m (sub32 r.esp 4) v) else signalled (cpu_of r f a) m 11) ≡ done (cpu_of (record r { esp = at }) f c) (with_number m at v)
pushed r f a m at c v e t =
    ap (λ z. if is_writable4 m z then done (cpu_of (record r { esp = z }) f c) (with_number m z v) else signalled (cpu_of r f a) m 11) e
    ∙ ap (λ b. if b then done (cpu_of (record r { esp = at }) f c) (with_number m at v) else signalled (cpu_of r f a) m 11) t

-- movl d(%ebp), %eax; movl %eax, d(%ebp)
pub load : (r : Regs) (f : Flags) (a : ℕ) (m : Space) (d : ℤ) (at v c : ℕ) → place r.ebp d ≡ at → number_at (byte_at m) at ≡ Some v → executed (cpu_of r f a) m (Move ToRegister 0 (Mem (Some 5) None d D32)) c ≡ done (cpu_of (record r { eax = v }) f c) m
unfolding executed
load r f a m d at v c e t =
    ap (λ z. reading (cpu_of r f a) m (number_at (byte_at m) z) (λ v. done (cpu_of (record r { eax = v }) f c) m)) e
    ∙ ap (λ o. reading (cpu_of r f a) m o (λ v. done (cpu_of (record r { eax = v }) f c) m)) t

pub store : (r : Regs) (f : Flags) (a : ℕ) (m : Space) (d : ℤ) (at c : ℕ) → place r.ebp d ≡ at → is_writable4 m at ≡ true → executed (cpu_of r f a) m (Move ToOperand 0 (Mem (Some 5) None d D32)) c ≡ done (cpu_of r f c) (with_number m at r.eax)
unfolding executed
store r f a m d at c e t =
    ap (λ z. stored z (is_writable4 m z)) e ∙ ap (stored at) t
  where
    stored : ℕ → Bool → Outcome
    stored z b = if b then done (cpu_of r f c) (with_number m z r.eax) else signalled (cpu_of r f a) m 11

-- pushl: esp goes down, and the number stands there
pub push_eax : (r : Regs) (f : Flags) (a : ℕ) (m : Space) (at c : ℕ) → sub32 r.esp 4 ≡ at → is_writable4 m at ≡ true → executed (cpu_of r f a) m (Stack (Push 0)) c ≡ done (cpu_of (record r { esp = at }) f c) (with_number m at r.eax)
unfolding executed
push_eax r f a m at c e t = pushed r f a m at c r.eax e t

pub push_ebp : (r : Regs) (f : Flags) (a : ℕ) (m : Space) (at c : ℕ) → sub32 r.esp 4 ≡ at → is_writable4 m at ≡ true → executed (cpu_of r f a) m (Stack (Push 5)) c ≡ done (cpu_of (record r { esp = at }) f c) (with_number m at r.ebp)
unfolding executed
push_ebp r f a m at c e t = pushed r f a m at c r.ebp e t

pub push_number : (r : Regs) (f : Flags) (a : ℕ) (m : Space) (at n c : ℕ) → sub32 r.esp 4 ≡ at → is_writable4 m at ≡ true → executed (cpu_of r f a) m (Stack (PushImm n)) c ≡ done (cpu_of (record r { esp = at }) f c) (with_number m at n)
unfolding executed
push_number r f a m at n c e t = pushed r f a m at c n e t
