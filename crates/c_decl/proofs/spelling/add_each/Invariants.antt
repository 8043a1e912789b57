use Rattle.std.proofs.Common.{◌≡◌, ◌++◌, drop, map}
use Rattle.c_grammar.specs.WrittenType.{occurrences}
use Rattle.c_decl.specs.WordsOf.{type_word_of, words_of}
use Rattle.c_decl.proofs.spelling.add_each.Given as goal

abbrev pub invariant-loop-other : goal.invariant-loop-other
invariant-loop-other l =
    words_of l.ordered ++ occurrences (type_word_of l.word) (map type_word_of (drop l.other-index l.words)) ≡ words_of l.initial.ordered ++ occurrences (type_word_of l.word) (map type_word_of l.words)
