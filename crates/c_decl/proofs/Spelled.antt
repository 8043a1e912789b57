-- Parts that are words are the words that were taken and those that are left.
use Rattle.std.proofs.Common.{List, ◌++◌, Option, Some, None}
use Rattle.c_grammar.specs.Words.{TypeWord}

abbrev pub with_words : List TypeWord → Option (List TypeWord) → Option (List TypeWord)
with_words ws None = None
with_words ws (Some vs) = Some (ws ++ vs)
