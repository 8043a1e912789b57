-- The instructions of a system call that writes one byte.
use Rattle.std.proofs.Common.{◌≡◌, ℕ, suc, ◌+◌, ◌%◌, ◌<◌, List, [], ◌∷◌, ◌++◌, true, false, Some, sym, ap, ◌∙◌, subst, arith}
use Rattle.std.specs.Prelude.{◌&&◌, min, is_some, unwrap_or, if◌then◌else◌}
use Rattle.std.specs.Int.{w32, cast_signed}
use Rattle.std.proofs.lemmas.Int.{of_z-to_z}
use Rattle.mach_mem.specs.Space.{Space, byte_at, number_at}
use Rattle.isa386.specs.declared.Dw.TheVariants.{D32}
use Rattle.isa386.specs.declared.Opnd.TheVariants.{Mem}
use Rattle.isa386.specs.declared.WidenOp.TheVariants.{ZeroByte}
use Rattle.isa386.specs.declared.Ins.TheVariants.{Widen, Lcall}
use Rattle.isa_dec.specs.Decoded.{decoded}
use Rattle.mach_exec.specs.declared.Cpu.{Cpu}
use Rattle.mach_exec.specs.Word.{add32}
use Rattle.mach_exec.specs.Effect.{done, reading}
use Rattle.mach_exec.specs.Execute.{executed}
use Rattle.mach_exec.specs.Step.{decided, stepped}
use Rattle.mach_exec.specs.Strings.{each_byte, bytes_from}
use Rattle.mach_exec.specs.System.{Returned, called, transferred, appended, succeeded, failed}
use Rattle.mach_exec.specs.Process.{advanced, after, performed}
use Rattle.gen_small.specs.Ghost.{Regs, Flags, M, cpu_of, process, Prog, arrive, Moves}
use Rattle.gen_small.specs.Items.{Layout, code_from, Stays}

-- movzbl 16(%esp), %eax
pub load_byte : (r : Regs) (f : Flags) (a : ℕ) (m : Space) (at v c : ℕ) → (r.esp + 16) % 4294967296 ≡ at → byte_at m at ≡ Some v → executed (cpu_of r f a) m (Widen ZeroByte 0 (Mem (Some 4) (Some (4, 0)) (cast_signed w32 16) D32)) c ≡ done (cpu_of (record r { eax = v }) f c) m
unfolding executed
load_byte r f a m at v c e t =
    ap (λ z. reading (cpu_of r f a) m (byte_at m (add32 (add32 r.esp 0) z)) (λ b. done (cpu_of (record r { eax = b }) f c) m)) (of_z-to_z w32 16 (omega arith))
    ∙ ap (λ z. reading (cpu_of r f a) m (byte_at m z) (λ b. done (cpu_of (record r { eax = b }) f c) m)) (two r.esp ∙ e)
    ∙ ap (λ o. reading (cpu_of r f a) m o (λ b. done (cpu_of (record r { eax = b }) f c) m)) t
  where
    two : (b : ℕ) → ((b + 0) % 4294967296 + 16) % 4294967296 ≡ (b + 16) % 4294967296
    two b = omega arith

-- the machine behind a system call that goes on
abbrev pub called_on : M → Regs → Flags → ℕ → List ℕ → M
called_on m r f c more = record m { regs = r; flags = f; eip = c; output = m.output ++ more; since = suc m.since }

-- write(1, at, 1): the byte there is appended, and eax becomes 1
pub write_byte : (r : Regs) (f : Flags) (m : Space) (input : List ℕ) (c at b : ℕ) → number_at (byte_at m) ((r.esp + 4) % 4294967296) ≡ Some 1 → number_at (byte_at m) ((r.esp + 8) % 4294967296) ≡ Some at → number_at (byte_at m) ((r.esp + 12) % 4294967296) ≡ Some 1 → at < 4294967296 → byte_at m at ≡ Some b → called (cpu_of (record r { eax = 4 }) f c) m input ≡ Returned (cpu_of (record r { eax = 1 }) (record f { cf = false }) c) m input (b ∷ [])
unfolding called each_byte bytes_from
write_byte r f m input c at b d place n lt told =
    ap (λ o. transferred cpu m input 1 o (number_at (byte_at m) (add32 r.esp 8)) (number_at (byte_at m) (add32 r.esp 12)) (λ at n. appended cpu m input at (min n 4096))) d
    ∙ ap (λ o. transferred cpu m input 1 (Some 1) o (number_at (byte_at m) (add32 r.esp 12)) (λ at n. appended cpu m input at (min n 4096))) place
    ∙ ap (λ o. transferred cpu m input 1 (Some 1) (Some at) o (λ at n. appended cpu m input at (min n 4096))) n
    ∙ ap (λ z. if true && is_some (byte_at m z) then succeeded cpu m input (bytes_from m at 1) 1 else failed cpu m input 14) flat
    ∙ ap (λ o. if true && is_some o then succeeded cpu m input (bytes_from m at 1) 1 else failed cpu m input 14) told
    ∙ ap (λ o. Returned (cpu_of (record r { eax = 1 }) (record f { cf = false }) c) m input (unwrap_or o 0 ∷ [])) told
  where
    cpu : Cpu
    cpu = cpu_of (record r { eax = 4 }) f c

    flat : (at + 0) % 4294967296 ≡ at
    flat = omega arith

-- lcall, where the call goes on
pub step_called : (p : Prog) (l : Layout) (f k : ℕ) (m : M) (a c : ℕ) (r : Regs) (fl : Flags) (more : List ℕ) → Stays p l f k a Lcall c → m.eip ≡ a → m.mem.text ≡ p.text → m.since < p.limit → called (cpu_of m.regs m.flags c) m.mem m.input ≡ Returned (cpu_of r fl c) m.mem m.input more → Moves p m (called_on m r fl c more)
unfolding advanced stepped executed
step_called p l f k m a c r fl more st e text lt ex =
    let quiet : p.is_start m.eip ≡ false = ap p.is_start e ∙ st.no_start in
    let s = st.stored in
    record {
      within = subst (λ b. (arrive p b m).since < p.limit) (sym quiet) lt;
      by =
          ap (λ b. advanced (process (arrive p b m))) quiet
          ∙ ap (λ x. after (process m) (decided (cpu_of m.regs m.flags x) m.mem (decoded (code_from m.mem.text x)))) e
          ∙ ap (λ t. after (process m) (decided (cpu_of m.regs m.flags a) m.mem (decoded (code_from t a)))) text
          ∙ ap (λ d. after (process m) (decided (cpu_of m.regs m.flags a) m.mem d)) s.read
          ∙ ap (λ x. after (process m) (executed (cpu_of m.regs m.flags a) m.mem Lcall x)) (sym s.next)
          ∙ ap (performed m.output) ex;
      turns = ap (λ b. (arrive p b m).turns) (sym quiet);
      since = ap (λ b. suc (arrive p b m).since) (sym quiet);
      made = ap (λ b. (arrive p b m).made) (sym quiet);
    }
