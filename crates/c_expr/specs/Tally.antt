-- How often each word of a type was seen.
use Rattle.std.specs.Prelude.{List, [], ◌∷◌, ◌++◌}
use Rattle.c_grammar.specs.Words.{TypeWord}
use Rattle.c_grammar.specs.Words as w
use Rattle.c_expr.specs.declared.tally.TypeWord as code
use Rattle.c_expr.specs.declared.tally.TypeWord.TheVariants as c
use Rattle.c_expr.specs.declared.tally.Count.{Count}
use Rattle.c_expr.specs.declared.tally.Count.TheVariants.{Never, Once, Twice}
use Rattle.c_expr.specs.declared.tally.Tally.{Tally}

-- the word that the code's one stands for
abbrev pub word_of : code.TypeWord → TypeWord
word_of c.Unsigned = w.Unsigned
word_of c.Char = w.Char
word_of c.Short = w.Short
word_of c.Long = w.Long
word_of c.Int = w.Int
word_of c.Void = w.Void

-- how often, with one more
abbrev pub once_more : Count → Count
once_more Never = Once
once_more Once = Twice
once_more Twice = Twice

-- no word
abbrev pub no_words : Tally
no_words = record { unsigned = Never; char = Never; short = Never; long = Never; int = Never; void = Never }

-- with one more word
abbrev pub added : TypeWord → Tally → Tally
added w.Unsigned t = record t { unsigned = once_more t.unsigned }
added w.Char t = record t { char = once_more t.char }
added w.Short t = record t { short = once_more t.short }
added w.Long t = record t { long = once_more t.long }
added w.Int t = record t { int = once_more t.int }
added w.Void t = record t { void = once_more t.void }

-- the word as often as it was seen, where more than two are as good as two
abbrev pub copies : Count → TypeWord → List TypeWord
copies Never v = []
copies Once v = v ∷ []
copies Twice v = v ∷ v ∷ []

-- the words in the order that the table of types has them in
abbrev pub listed : Tally → List TypeWord
listed t = copies t.unsigned w.Unsigned ++ (copies t.char w.Char ++ (copies t.short w.Short ++ (copies t.long w.Long ++ (copies t.int w.Int ++ copies t.void w.Void))))
