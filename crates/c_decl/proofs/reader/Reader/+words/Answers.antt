use Rattle.std.proofs.Common.{◌+◌, map, arith, sym}
use Rattle.std.proofs.lemmas.List.{map-append}
use Rattle.std.proofs.lemmas.Result.{err_from_is_err_and}
use Rattle.c_grammar.specs.Reads.{most}
use Rattle.c_tree.specs.TreeOf.{mem_of}
use Rattle.c_decl.specs.Answers.{names, rest}
use Rattle.c_decl.specs.Expression.{expression}
use Rattle.c_decl.specs.ReadSpecs.{body_at, file_words}
use Rattle.c_decl.specs.WordsOf.{found_of, word_of}
use Rattle.c_decl.proofs.MemTurns as m
use Rattle.c_decl.proofs.Worded as w
use Rattle.c_decl.proofs.reader.Reader.+words.Goals as goal

pub mems-loop-turn-init : goal.mems-loop-turn-init
mems-loop-turn-init t c = let defs = names c.args.self.now in rw (c.new-mems.ensures.items) (m.begins defs most (expression defs) (file_words defs most (expression defs) c.args.nested) c.left-turn-end.result (rest c.args.self.now c.args.at))

pub mems-returns-in_err-mem : goal.mems-returns-in_err-mem
mems-returns-in_err-mem t c =
    let p = err_from_is_err_and c.from_residual.result c.from_residual.ensures.1 in
    let defs = names c.args.self.now in
    rw (← c.left-turn-end.ensures.count)
    (m.failed defs most (expression defs) (file_words defs most (expression defs) c.args.nested) _ _ _ _ c.left-turn-end.result c.loop-turn._turn (map mem_of c.loop-turn.mems.items) _ _ p.1 p.2 c.loop-turn-test.true c.loop-turn.invariant c.in_err-mem.ensures)

pub mems-returns-in-Some : goal.mems-returns-in-Some
mems-returns-in-Some t c =
    let defs = names c.args.self.now in
    let last = m.ends defs most (expression defs) (file_words defs most (expression defs) c.args.nested) c.left-turn-end.result c.loop-turn._turn c.loop-turn.mems.items c.in_ok-mem.mem _ _ _ _ c.loop-turn-test.true c.loop-turn.invariant c.in_ok-mem.ensures (sym c.in-Some.ensures.place) in
    rw (← c.left-turn-end.ensures.count, c.in_ok-push.ensures.items) last

pub mems-loop-turn-preserved : goal.mems-loop-turn-preserved
mems-loop-turn-preserved t c =
    let defs = names c.args.self.now in
    rw (c.in_ok-push.ensures.items, map-append)
    (m.goes_on defs most (expression defs) (file_words defs most (expression defs) c.args.nested) c.left-turn-end.result c.loop-turn._turn (map mem_of c.loop-turn.mems.items) (mem_of c.in_ok-mem.mem) _ _ _ c.loop-turn-test.true c.loop-turn.invariant c.in_ok-mem.ensures (sym c.in_default.ensures.place))

pub mems-returns : goal.mems-returns
mems-returns t c =
    let defs = names c.args.self.now in
    rw (c.refusal.ensures, ← c.left-turn-end.ensures.count) (m.runs_out defs most (expression defs) (file_words defs most (expression defs) c.args.nested) c.left-turn-end.result c.loop-turn._turn (map mem_of c.loop-turn.mems.items) _ _ c.loop-turn-test.false c.loop-turn.invariant)

pub words-loop-turn-init : goal.words-loop-turn-init
words-loop-turn-init t c =
    let defs = names c.args.self.now in
    record { gone = w.begins defs (body_at defs most (expression defs) c.args.nested) (found_of c.new-words.result) (c.left-turn-end.result + 1) (rest c.args.self.now c.args.at) c.new-words.ensures.empty; few = omega (arith, c.new-words.ensures.none) }

pub words-returns-in_err-word : goal.words-returns-in_err-word
words-returns-in_err-word t c =
    let p = err_from_is_err_and c.from_residual.result c.from_residual.ensures.1 in
    let defs = names c.args.self.now in
    rw (← w.whole_words defs most (expression defs) c.args.nested (rest c.args.self.now c.args.at) (c.left-turn-end.result + 1) (omega (arith, c.left-turn-end.ensures.count)))
    (w.failed defs (body_at defs most (expression defs) c.args.nested) _ _ _ _ (c.left-turn-end.result + 1) c.loop-turn._turn (found_of c.loop-turn.words) _ _ p.1 p.2 c.loop-turn-test.true c.loop-turn.invariant.gone c.in_err-word.ensures)

pub words-returns-in_default : goal.words-returns-in_default
words-returns-in_default t c =
    let defs = names c.args.self.now in
    rw (← w.whole_words defs most (expression defs) c.args.nested (rest c.args.self.now c.args.at) (c.left-turn-end.result + 1) (omega (arith, c.left-turn-end.ensures.count)))
    (w.ends defs (body_at defs most (expression defs) c.args.nested) (c.left-turn-end.result + 1) c.loop-turn._turn (found_of c.loop-turn.words) _ _ _ c.loop-turn-test.true c.loop-turn.invariant.gone (rw c.in_default.is at c.in_ok-word.ensures))

pub words-loop-turn-preserved : goal.words-loop-turn-preserved
words-loop-turn-preserved t c =
    let defs = names c.args.self.now in
    record {
      gone = w.goes_on defs (body_at defs most (expression defs) c.args.nested) (c.left-turn-end.result + 1) c.loop-turn._turn (found_of c.loop-turn.words) (found_of c.add.new.self) (word_of c.in-Some.word) _ _ _ c.loop-turn-test.true c.loop-turn.invariant.gone
          (rw c.in-Some.is at c.in_ok-word.ensures) c.in_ok-add.ensures.added;
      few = omega (arith, c.in_ok-add.ensures.few, c.loop-turn.invariant.few);
    }

pub words-returns : goal.words-returns
words-returns t c =
    let defs = names c.args.self.now in
    rw (c.refusal.ensures, ← w.whole_words defs most (expression defs) c.args.nested (rest c.args.self.now c.args.at) (c.left-turn-end.result + 1) (omega (arith, c.left-turn-end.ensures.count)))
    (w.runs_out defs (body_at defs most (expression defs) c.args.nested) (c.left-turn-end.result + 1) c.loop-turn._turn (found_of c.loop-turn.words) _ _ c.loop-turn-test.false c.loop-turn.invariant.gone)
