-- Each body holds fewer bodies in one another.
use Rattle.std.proofs.Common.{◌≡◌, ◌≤◌, ◌+◌, ◌*◌, ◌-◌, map}
use Rattle.c_tree.specs.TreeDecl.{more_mems}
use Rattle.c_grammar.specs.Reads.{most}
use Rattle.c_tree.specs.TreeOf.{mem_of}
use Rattle.c_decl.specs.Answers.{names, rest}
use Rattle.c_decl.specs.Expression.{expression}
use Rattle.c_decl.specs.ReadSpecs.{body_at, file_words, mems, words}
use Rattle.c_decl.specs.WordsOf.{found_of}
use Rattle.c_decl.proofs.Loops.{with_front}
use Rattle.c_decl.proofs.Worded.{Gone}
use Rattle.c_decl.proofs.reader.Reader.+words.Given as goal

abbrev pub decreases-body : goal.decreases-body
decreases-body l = 7 * l.nested + 1

abbrev pub decreases-body_word : goal.decreases-body_word
decreases-body_word l = 7 * l.nested + 2

abbrev pub decreases-tagged : goal.decreases-tagged
decreases-tagged l = 7 * l.nested + 3

abbrev pub decreases-word : goal.decreases-word
decreases-word l = 7 * l.nested + 4

abbrev pub decreases-words : goal.decreases-words
decreases-words l = 7 * l.nested + 5

abbrev pub decreases-mem : goal.decreases-mem
decreases-mem l = 7 * l.nested + 6

abbrev pub decreases-mems : goal.decreases-mems
decreases-mems l = 7 * l.nested + 7

abbrev pub invariant-mems-loop-turn : goal.invariant-mems-loop-turn
invariant-mems-loop-turn l =
    with_front more_mems (map mem_of l.mems.items) (mems (names l.self) most (expression (names l.self)) (file_words (names l.self) most (expression (names l.self)) l.nested) (l._turn-end - l._turn) (rest l.self l.next)) ≡
    mems (names l.self) most (expression (names l.self)) (file_words (names l.self) most (expression (names l.self)) l.nested) l._turn-end (rest l.self l.fn.at)

abbrev pub invariant-words-loop-turn : goal.invariant-words-loop-turn
invariant-words-loop-turn l = record {
  gone : Gone (names l.self) (body_at (names l.self) most (expression (names l.self)) l.nested) (found_of l.words) (l._turn-end - l._turn) (rest l.self l.next)
      (words (names l.self) (body_at (names l.self) most (expression (names l.self)) l.nested) l._turn-end (rest l.self l.fn.at));
  few : l.words.typedefs ≤ l._turn;
}
