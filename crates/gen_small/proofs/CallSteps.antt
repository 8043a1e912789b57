-- The instructions that enter and leave a function, that fill memory, and that end a process.
use Rattle.std.proofs.Common.{◌≡◌, ℕ, zero, suc, ◌+◌, ◌-◌, ◌%◌, ◌<◌, ◌≤◌, List, true, false, Some, refl, sym, ap, ◌∙◌, subst, arith, ⊎_elim}
use Rattle.std.specs.Prelude.{ℤ, ◌&&◌, if◌then◌else◌}
use Rattle.std.specs.Int.{w32, cast_signed, cast_unsigned}
use Rattle.std.proofs.lemmas.Bool.{cases_eq}
use Rattle.mach_mem.specs.Space.{Space, byte_at, is_writable, with_byte, number_at, is_writable4, with_number}
use Rattle.isa386.specs.declared.Dest.TheVariants.{Register as ToOne}
use Rattle.isa386.specs.declared.Callee.TheVariants.{Relative}
use Rattle.isa386.specs.declared.PlainOp.TheVariants.{Ret, Leave}
use Rattle.isa386.specs.declared.StringOp.TheVariants.{RepStosb}
use Rattle.isa386.specs.declared.Ins.TheVariants.{MoveImm, Lea, Call, Plain, Str, Lcall}
use Rattle.isa_dec.specs.Decoded.{decoded}
use Rattle.mach_exec.specs.Word.{add32, sub32}
use Rattle.mach_exec.specs.Effect.{done, reading, signalled}
use Rattle.mach_exec.specs.Execute.{executed}
use Rattle.mach_exec.specs.Step.{decided, stepped}
use Rattle.mach_exec.specs.Strings.{each_byte, filled}
use Rattle.mach_exec.specs.System.{Ended, called, exited}
use Rattle.mach_exec.specs.Process.{Exits, advanced, after, performed}
use Rattle.gen_small.specs.Ghost.{Regs, Flags, M, cpu_of, process, Prog, arrive, arrived}
use Rattle.gen_small.specs.Items.{Layout, code_from, Stays}
use Rattle.gen_small.specs.Code.{below}
use Rattle.gen_small.proofs.Memory.{Shaped, shaped_on, byte_same, byte_other, byte_shaped, writable_shaped}
use Rattle.gen_small.proofs.Steps.{place}

-- call: the address behind it is pushed
pub call_near : (r : Regs) (f : Flags) (a : ℕ) (m : Space) (d : ℤ) (at c : ℕ) → sub32 r.esp 4 ≡ at → is_writable4 m at ≡ true → executed (cpu_of r f a) m (Call (Relative d)) c ≡ done (cpu_of (record r { esp = at }) f (add32 c (cast_unsigned w32 d))) (with_number m at c)
unfolding executed
call_near r f a m d at c e t =
    ap (λ z. if is_writable4 m z then done (cpu_of (record r { esp = z }) f (add32 c (cast_unsigned w32 d))) (with_number m z c) else signalled (cpu_of r f a) m 11) e
    ∙ ap (λ b. if b then done (cpu_of (record r { esp = at }) f (add32 c (cast_unsigned w32 d))) (with_number m at c) else signalled (cpu_of r f a) m 11) t

-- leave; ret
pub leave : (r : Regs) (f : Flags) (a : ℕ) (m : Space) (v c : ℕ) → number_at (byte_at m) r.ebp ≡ Some v → executed (cpu_of r f a) m (Plain Leave) c ≡ done (cpu_of (record r { esp = add32 r.ebp 4; ebp = v }) f c) m
unfolding executed
leave r f a m v c t = ap (λ o. reading (cpu_of r f a) m o (λ v. done (cpu_of (record r { esp = add32 r.ebp 4; ebp = v }) f c) m)) t

pub ret : (r : Regs) (f : Flags) (a : ℕ) (m : Space) (v c : ℕ) → number_at (byte_at m) r.esp ≡ Some v → executed (cpu_of r f a) m (Plain Ret) c ≡ done (cpu_of (record r { esp = add32 r.esp 4 }) f v) m
unfolding executed
ret r f a m v c t = ap (λ o. reading (cpu_of r f a) m o (λ v. done (cpu_of (record r { esp = add32 r.esp 4 }) f v) m)) t

-- leal d(%ebp), %edi
pub address_edi : (r : Regs) (f : Flags) (a : ℕ) (m : Space) (q at c : ℕ) → place r.ebp (cast_signed w32 (4294967296 - q)) ≡ at → executed (cpu_of r f a) m (Lea 7 (below q)) c ≡ done (cpu_of (record r { edi = at }) f c) m
unfolding executed
address_edi r f a m q at c e = ap (λ z. done (cpu_of (record r { edi = z }) f c) m) e

-- movl $n, %ecx
pub set_ecx : (r : Regs) (f : Flags) (a : ℕ) (m : Space) (n c : ℕ) → executed (cpu_of r f a) m (MoveImm (ToOne 1) n) c ≡ done (cpu_of (record r { ecx = n }) f c) m
unfolding executed
set_ecx r f a m n c = refl

-- what filling n bytes with b did
pub record Filled (m : Space) (at b n : ℕ) (m' : Space) : Type 0 where
  pub inside : (x : ℕ) → at ≤ x → x < at + n → byte_at m' x ≡ Some b
  pub below : (x : ℕ) → x < at → byte_at m' x ≡ byte_at m x
  pub above : (x : ℕ) → at + n ≤ x → byte_at m' x ≡ byte_at m x
  pub shaped : Shaped m m'

straight : (at n : ℕ) → at + suc n ≤ 4294967295 → (at + n) % 4294967296 ≡ at + n
straight at n le = omega arith

pub filled_all : (m : Space) (at b n : ℕ) → at + n ≤ 4294967295 → ((x : ℕ) → at ≤ x → x < at + n → is_writable m x ≡ true) → Filled m at b n (filled m at b n)
unfolding filled
filled_all m at b zero le can = record { inside = λ x lo hi. absurd (omega arith); below = λ x h. refl; above = λ x h. refl; shaped = record { text = refl; stack = refl; statics = refl } }
filled_all m at b (suc n) le can =
    let h = filled_all m at b n (omega arith) (λ x lo hi. can x lo (omega arith)) in
    let m1 = filled m at b n in
    let e : add32 at n ≡ at + n = straight at n le in
    let ok : is_writable m1 (at + n) ≡ true = writable_shaped m m1 (at + n) h.shaped ∙ can (at + n) (omega arith) (omega arith) in
    let P : ℕ → Type 0 = λ z. Filled m at b (suc n) (with_byte m1 z b) in
    subst P (sym e) record {
      inside = λ x lo hi. ⊎_elim
          (λ same. ap (λ z. byte_at (with_byte m1 (at + n) b) z) same ∙ byte_same m1 (at + n) b ok)
          (λ ne. byte_other m1 (at + n) x b ne ∙ h.inside x lo (omega arith))
          (cases_eq x (at + n));
      below = λ x lt. byte_other m1 (at + n) x b (omega arith) ∙ h.below x lt;
      above = λ x ge. byte_other m1 (at + n) x b (omega arith) ∙ h.above x (omega arith);
      shaped = shaped_on m m1 _ h.shaped (byte_shaped m1 (at + n) b);
    }

pub each_writable : (m : Space) (at n : ℕ) → at + n ≤ 4294967295 → ((x : ℕ) → at ≤ x → x < at + n → is_writable m x ≡ true) → each_byte (is_writable m) at n ≡ true
unfolding each_byte
each_writable m at zero le can = refl
each_writable m at (suc n) le can =
    ap (λ b. b && is_writable m (add32 at n)) (each_writable m at n (omega arith) (λ x lo hi. can x lo (omega arith)))
    ∙ ap (λ z. true && is_writable m z) (straight at n le)
    ∙ ap (λ b. true && b) (can (at + n) (omega arith) (omega arith))

-- rep stosb, where al is 0
pub fill : (r : Regs) (f : Flags) (a : ℕ) (m : Space) (c : ℕ) → each_byte (is_writable m) r.edi r.ecx ≡ true → executed (cpu_of (record r { eax = 0 }) f a) m (Str RepStosb) c ≡ done (cpu_of (record r { eax = 0; ecx = 0; edi = add32 r.edi r.ecx }) f c) (filled m r.edi 0 r.ecx)
unfolding executed
fill r f a m c e = ap (λ b. if b then done (cpu_of (record r { eax = 0; ecx = 0; edi = add32 r.edi r.ecx }) f c) (filled m r.edi 0 r.ecx) else signalled (cpu_of (record r { eax = 0 }) f a) m 11) e

-- exit
pub exit_called : (r : Regs) (f : Flags) (m : Space) (input : List ℕ) (c n : ℕ) → number_at (byte_at m) ((r.esp + 4) % 4294967296) ≡ Some n → called (cpu_of (record r { eax = 1 }) f c) m input ≡ Ended (n % 256)
unfolding called
exit_called r f m input c n t = ap (λ o. exited (cpu_of (record r { eax = 1 }) f c) m input o) t

-- lcall, where the process ends
pub exits_at : (p : Prog) (l : Layout) (f k : ℕ) (m : M) (a c status : ℕ) → Stays p l f k a Lcall c → m.eip ≡ a → m.mem.text ≡ p.text → called (cpu_of m.regs m.flags c) m.mem m.input ≡ Ended status → advanced (process (arrived p m)) ≡ Exits status
unfolding advanced stepped executed
exits_at p l f k m a c status st e text ex =
    let quiet : p.is_start m.eip ≡ false = ap p.is_start e ∙ st.no_start in
    let s = st.stored in
    ap (λ b. advanced (process (arrive p b m))) quiet
    ∙ ap (λ x. after (process m) (decided (cpu_of m.regs m.flags x) m.mem (decoded (code_from m.mem.text x)))) e
    ∙ ap (λ t. after (process m) (decided (cpu_of m.regs m.flags a) m.mem (decoded (code_from t a)))) text
    ∙ ap (λ d. after (process m) (decided (cpu_of m.regs m.flags a) m.mem d)) s.read
    ∙ ap (λ x. after (process m) (executed (cpu_of m.regs m.flags a) m.mem Lcall x)) (sym s.next)
    ∙ ap (performed m.output) ex
