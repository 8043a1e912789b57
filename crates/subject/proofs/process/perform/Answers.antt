use Rattle.std.proofs.Common.{◌≡◌, ◌∙◌, ap, sym, arith}
use Rattle.std.proofs.lemmas.Result.{err_from_is_err_and}
use Rattle.mach_exec.specs.Operand.{reg}
use Rattle.subject.specs.Process.{exit_status, output_of}
use Rattle.subject.proofs.Sending.{moves-nil}
use Rattle.subject.proofs.Calling.{called_exit, called_read, called_write, called_other, exit_writes, read_writes, read_returns, write_returns}
use Rattle.subject.proofs.process.perform.Goals as goal

pub returns-in-1-clause-moved : goal.returns-in-1-clause-moved
returns-in-1-clause-moved g c =
    let cpu = c.args.cpu.now in
    let m = c.args.memory.now in
    rw (ap output_of (called_exit cpu m c.in-1.is) ∙ exit_writes cpu m) (moves-nil _ _)

pub returns-in_err-write-in-4-clause-returns : goal.returns-in_err-write-in-4-clause-returns
returns-in_err-write-in-4-clause-returns g c =
    let cpu = c.args.cpu.now in
    let m = c.args.memory.now in
    let p = err_from_is_err_and c.from_residual.result c.from_residual.ensures.1 in
    rw (p.1) (ap exit_status (called_write cpu m c.in-4.is) ∙ write_returns cpu m)

pub returns-in-3-clause-status : goal.returns-in-3-clause-status
returns-in-3-clause-status g c =
    let cpu = c.args.cpu.now in
    let m = c.args.memory.now in
    sym (ap exit_status (called_read cpu m c.in-3.is) ∙ read_returns cpu m)

pub returns-in-3-clause-moved : goal.returns-in-3-clause-moved
returns-in-3-clause-moved g c =
    let cpu = c.args.cpu.now in
    let m = c.args.memory.now in
    rw (ap output_of (called_read cpu m c.in-3.is) ∙ read_writes cpu m) (moves-nil _ _)

pub returns-in_ok-write-in-4-clause-status : goal.returns-in_ok-write-in-4-clause-status
returns-in_ok-write-in-4-clause-status g c =
    let cpu = c.args.cpu.now in
    let m = c.args.memory.now in
    sym (ap exit_status (called_write cpu m c.in-4.is) ∙ write_returns cpu m)

pub returns-in_default-clause-moved : goal.returns-in_default-clause-moved
returns-in_default-clause-moved g c =
    let cpu = c.args.cpu.now in
    let m = c.args.memory.now in
    let one : reg cpu 0 ≡ 1 → ⊥ = omega arith in
    let three : reg cpu 0 ≡ 3 → ⊥ = omega arith in
    let four : reg cpu 0 ≡ 4 → ⊥ = omega arith in
    rw (ap output_of (called_other cpu m one three four)) (moves-nil _ _)
