use Rattle.std.proofs.Common.{◌≡◌, [], ◌∙◌, sym, refl, ◌++◌}
use Rattle.std.proofs.lemmas.Result.{err_from_is_err_and}
use Rattle.mach_exec.specs.Step.{stepped}
use Rattle.mach_exec.specs.System.{called}
use Rattle.mach_exec.specs.declared.Event.TheVariants.{Next, Trap, System, Signal}
use Rattle.subject.specs.Process.{process_at, cpu_behind, written}
use Rattle.subject.proofs.Sending.{moves-nil}
use Rattle.subject.proofs.Calling.{next_goes, system_goes, system_exits, trap_raises, signal_raises, written_none, written_system}
use Rattle.subject.proofs.process.advance.Goals as goal

pub returns-in_err-status-in-System-clause-writes :
    goal.returns-in_err-status-in-System-clause-writes
returns-in_err-status-in-System-clause-writes g c =
    let p = err_from_is_err_and c.from_residual.result c.from_residual.ensures.1 in
    rw (p.1) (λ before. (
      process_at (cpu_behind c.step.new.cpu (called c.step.new.cpu c.step.new.mem [])) c.step.new.mem (before ++ written c.args.cpu.now c.args.memory.now),
      system_goes c.args.cpu.now c.args.memory.now before _ c.step.new.cpu c.step.new.mem (sym c.step.ensures.event ∙ c.in-System.is) c.step.ensures.cpu c.step.ensures.mem
          (sym c.in_err-status-in-System.ensures.returns) refl,
      refl,
    ))

pub returns-in_err-status-in-System-clause-front :
    goal.returns-in_err-status-in-System-clause-front
returns-in_err-status-in-System-clause-front g c =
    let p = err_from_is_err_and c.from_residual.result c.from_residual.ensures.1 in
    rw (p.1, written_system c.args.cpu.now c.step.new.cpu c.args.memory.now c.step.new.mem (sym c.step.ensures.event ∙ c.in-System.is) c.step.ensures.cpu c.step.ensures.mem)
    c.in_err-status-in-System.ensures.front

pub returns-in-Next-clause-progress : goal.returns-in-Next-clause-progress
returns-in-Next-clause-progress g c =
    λ before. rw (c.step.ensures.cpu, c.step.ensures.mem) (next_goes c.args.cpu.now c.args.memory.now before (sym c.step.ensures.event ∙ c.in-Next.is))

pub returns-in-Next-clause-moved : goal.returns-in-Next-clause-moved
returns-in-Next-clause-moved g c =
    let e : (stepped c.args.cpu.now c.args.memory.now).event ≡ Next = sym c.step.ensures.event ∙ c.in-Next.is in
    rw (written_none c.args.cpu.now c.args.memory.now (λ h. let no_ : Next ≡ System = sym e ∙ h in cc)) (moves-nil _ _)

pub returns-in-Some-clause-progress : goal.returns-in-Some-clause-progress
returns-in-Some-clause-progress g c =
    λ before. system_exits c.args.cpu.now c.args.memory.now before c.step.new.cpu c.step.new.mem c.in-Some.status (sym c.step.ensures.event ∙ c.in-System.is) c.step.ensures.cpu c.step.ensures.mem
    (sym c.in-Some.is ∙ c.in_ok-status-in-System.ensures.status)

pub returns-in-Some-clause-moved : goal.returns-in-Some-clause-moved
returns-in-Some-clause-moved g c =
    rw (written_system c.args.cpu.now c.step.new.cpu c.args.memory.now c.step.new.mem (sym c.step.ensures.event ∙ c.in-System.is) c.step.ensures.cpu c.step.ensures.mem) c.in_ok-status-in-System.ensures.moved

pub returns-in-None-clause-progress : goal.returns-in-None-clause-progress
returns-in-None-clause-progress g c =
    λ before. system_goes c.args.cpu.now c.args.memory.now before c.perform.new.cpu c.step.new.cpu c.step.new.mem (sym c.step.ensures.event ∙ c.in-System.is) c.step.ensures.cpu c.step.ensures.mem
    (sym c.in-None.is ∙ c.in_ok-status-in-System.ensures.status) c.in_ok-status-in-System.ensures.cpu

pub returns-in-None-clause-moved : goal.returns-in-None-clause-moved
returns-in-None-clause-moved g c =
    rw (written_system c.args.cpu.now c.step.new.cpu c.args.memory.now c.step.new.mem (sym c.step.ensures.event ∙ c.in-System.is) c.step.ensures.cpu c.step.ensures.mem) c.in_ok-status-in-System.ensures.moved

pub returns-in-Trap-clause-progress : goal.returns-in-Trap-clause-progress
returns-in-Trap-clause-progress g c = λ before. trap_raises c.args.cpu.now c.args.memory.now before (sym c.step.ensures.event ∙ c.in-Trap.is)

pub returns-in-Trap-clause-moved : goal.returns-in-Trap-clause-moved
returns-in-Trap-clause-moved g c =
    let e : (stepped c.args.cpu.now c.args.memory.now).event ≡ Trap = sym c.step.ensures.event ∙ c.in-Trap.is in
    rw (written_none c.args.cpu.now c.args.memory.now (λ h. let no_ : Trap ≡ System = sym e ∙ h in cc)) (moves-nil _ _)

pub returns-in-Signal-clause-progress : goal.returns-in-Signal-clause-progress
returns-in-Signal-clause-progress g c =
    λ before. signal_raises c.args.cpu.now c.args.memory.now before c.in-Signal.signal (sym c.step.ensures.event ∙ c.in-Signal.is)

pub returns-in-Signal-clause-moved : goal.returns-in-Signal-clause-moved
returns-in-Signal-clause-moved g c =
    let e : (stepped c.args.cpu.now c.args.memory.now).event ≡ Signal c.in-Signal.signal = sym c.step.ensures.event ∙ c.in-Signal.is in
    rw (written_none c.args.cpu.now c.args.memory.now (λ h. let no_ : Signal c.in-Signal.signal ≡ System = sym e ∙ h in cc)) (moves-nil _ _)
