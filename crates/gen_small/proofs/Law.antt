-- The laws of the small form's code hold.
use Rattle.gen_small.specs.Reaches.{run_of}
use Rattle.gen_small.specs.Laws.{GhostsCanGo, ExpressionsReach, StatementsReach, MainsReach}
use Rattle.c_run.specs.Calls.{rest}
use Rattle.gen_small.proofs.Reach.{without_ghosts}
use Rattle.gen_small.proofs.ExprsRun.{expr_runs}
use Rattle.gen_small.proofs.Stmts.{puts_byte, loops_on, stmts_run}
use Rattle.gen_small.proofs.MainRuns.{main_runs}

pub ghosts_can_go : GhostsCanGo
ghosts_can_go p m m' k none h = without_ghosts p m m' k none h

pub expressions_reach : ExpressionsReach
expressions_reach p l w stop acts fuel most room e sm g gs f k s m a b few st ag here at soon =
    expr_runs p l w most room stop acts (rest fuel (run_of stop acts w)).call (puts_byte w stop acts fuel) e sm g gs f k s m few a b st ag here at soon

pub statements_reach : StatementsReach
statements_reach p l w stop acts fuel most room pos ok ss sm g gs j i s m a b empty st ag here at soon =
    stmts_run p l w most room pos stop acts ok (rest fuel (run_of stop acts w)) (puts_byte w stop acts fuel) (loops_on p l w most room pos stop acts ok fuel) ss sm g gs s m j a b i st ag here at soon empty

pub mains_reach : MainsReach
mains_reach p l w stop acts fuel most room enough ok f b is f0 k0 a0 z j a1 e s m st sf ag at soon =
    main_runs p l w most room enough stop acts ok f b is fuel f0 k0 a0 z j a1 e s m st sf ag at soon
