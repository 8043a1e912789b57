use Rattle.std.proofs.Common.{◌≡◌, length}
use Rattle.c_expr.specs.Parts.{names}
use Rattle.c_expr.specs.Shown.{left}
use Rattle.c_expr.specs.Tally.{added, no_words, word_of}
use Rattle.c_expr.proofs.Told.{types_told}
use Rattle.c_expr.proofs.reader.Reader.words.Given as goal

abbrev pub decreases-loop-part : goal.decreases-loop-part
decreases-loop-part l = length l.ahead.tokens.now

abbrev pub invariant-loop-part : goal.invariant-loop-part
invariant-loop-part l = types_told (names l.self) l.seen (left l.ahead) ≡ types_told (names l.self) (added (word_of l.fn.first) no_words) (left l.rest)
