use Rattle.std.proofs.Common.{arith, sym, ◌+◌}
use Rattle.std.proofs.lemmas.Result.{err_from_is_err_and}
use Rattle.c_grammar.specs.Reads.{most}
use Rattle.c_tree.specs.TreeOf.{declr_of}
use Rattle.c_decl.specs.Answers.{names, found}
use Rattle.c_decl.specs.Expression.{expression}
use Rattle.c_decl.proofs.Loops.{refuses_with, gives_error}
use Rattle.c_decl.proofs.Suffixes.{array_goes_on, array_fails, function_goes_on, function_fails, runs_out}
use Rattle.c_decl.proofs.reader.Reader.suffixes.Goals as goal
use Rattle.c_decl.proofs.reader.Reader.suffixes.Goals.{in-Some+in_ok-found, in_default+in-Some-eat+in_ok-found-2}

pub returns-in_err-found : goal.returns-in_err-found
returns-in_err-found c =
    let p = err_from_is_err_and c.from_residual.result c.from_residual.ensures.1 in
    let defs = names c.args.self.now in
    gives_error _ c.from_residual.result _ _ _ p.1 p.2
    (refuses_with c.in_err-found.field-0.0 _ _ c.in_err-found.ensures
    (array_fails defs most (expression defs) c.args.line (most + 1) c.loop-turn._turn (declr_of c.loop-turn.found.0) _ _ _ (omega (arith, c.loop-turn-test.true)) c.loop-turn.invariant (sym c.in-Some.ensures.place)))

pub returns-in_err-found-2 : goal.returns-in_err-found-2
returns-in_err-found-2 c =
    let p = err_from_is_err_and c.from_residual-in_err-found-2.result c.from_residual-in_err-found-2.ensures.1 in
    let defs = names c.args.self.now in
    gives_error _ c.from_residual-in_err-found-2.result _ _ _ p.1 p.2
    (refuses_with c.in_err-found-2.field-0.0 _ _ c.in_err-found-2.ensures
    (function_fails defs most (expression defs) c.args.line (most + 1) c.loop-turn._turn (declr_of c.loop-turn.found.0) _ _ _ (omega (arith, c.loop-turn-test.true)) c.loop-turn.invariant
    (sym c.in_default.ensures.place) (sym c.in-Some-eat.ensures.place)))

pub loop-turn-preserved : goal.loop-turn-preserved
loop-turn-preserved c =
    let defs = names c.args.self.now in
    elim c.match-eat.branch [
      | in-Some+in_ok-found w ↦
          rw (w.found-is)
          (array_goes_on defs most (expression defs) c.args.line (most + 1) c.loop-turn._turn (declr_of c.loop-turn.found.0) _ _ _ (found declr_of c.args.self.now w.in_ok-found.found)
          (omega (arith, c.loop-turn-test.true)) c.loop-turn.invariant (sym w.in-Some.ensures.place) w.in_ok-found.ensures)
      | in_default+in-Some-eat+in_ok-found-2 w ↦
          rw (w.found-is)
          (function_goes_on defs most (expression defs) c.args.line (most + 1) c.loop-turn._turn (declr_of c.loop-turn.found.0) _ _ _ (found declr_of c.args.self.now w.in_ok-found-2.found)
          (omega (arith, c.loop-turn-test.true)) c.loop-turn.invariant (sym w.in_default.ensures.place) (sym w.in-Some-eat.ensures.place) w.in_ok-found-2.ensures)
    ]

pub returns : goal.returns
returns c =
    let defs = names c.args.self.now in
    rw (c.refusal.ensures)
    (runs_out defs most (expression defs) c.args.line (most + 1) c.loop-turn._turn (declr_of c.loop-turn.found.0) _ _ (omega (arith, c.loop-turn-test.false)) c.loop-turn.invariant)
