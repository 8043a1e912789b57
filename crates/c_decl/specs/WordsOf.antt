-- The words of the code as data.
use Rattle.std.specs.Prelude.{List, Vec, map}
use Rattle.std.specs.Global.{Global}
use Rattle.c_grammar.specs.Words as w
use Rattle.c_grammar.specs.WrittenType as p
use Rattle.c_tree.specs.TreeOf.{def_of}
use Rattle.c_decl.specs.declared.words.TypeWord.{TypeWord}
use Rattle.c_decl.specs.declared.words.TypeWord.TheVariants.{Unsigned, Char, Short, Long, Int, Void}
use Rattle.c_decl.specs.declared.words.TypePart.{TypePart}
use Rattle.c_decl.specs.declared.words.TypePart.TheVariants as t
use Rattle.c_decl.specs.declared.words.Word as v
use Rattle.c_decl.specs.declared.words.Words.{Words}
use Rattle.c_decl.specs.declared.words.Start.{Start}
use Rattle.c_decl.specs.declared.words.Start.TheVariants as b
use Rattle.c_decl.specs.ReadSpecs as s

abbrev pub type_word_of : TypeWord → w.TypeWord
type_word_of Unsigned = w.Unsigned
type_word_of Char = w.Char
type_word_of Short = w.Short
type_word_of Long = w.Long
type_word_of Int = w.Int
type_word_of Void = w.Void

abbrev pub type_part_of : TypePart → p.TypePart
type_part_of (t.Word l x) = p.word_part l (type_word_of x)
type_part_of (t.Tag r m) = p.tag_part r.line r.kind m r.name
type_part_of (t.Name l x) = p.name_part l x

abbrev pub word_of : v.Word → s.Word
word_of (v.TheVariants.Storage c) = s.storage_word c
word_of v.TheVariants.Typedef = s.typedef_word
word_of (v.TheVariants.Part x) = s.type_part (type_part_of x)
word_of (v.TheVariants.Body d) = s.body_word (def_of d)

abbrev pub found_of : Words → s.Found
found_of x = record { storages = x.storages.items; typedefs = x.typedefs; parts = map type_part_of x.parts.items; bodies = map def_of x.bodies.items }

-- what a token begins
abbrev pub start_of : Start → s.Start
start_of (b.Storage c) = s.storage c
start_of b.Typedef = s.typedef
start_of (b.Typed x) = s.typed (type_word_of x)
start_of (b.Tag kind) = s.tag kind
start_of (b.Named x) = s.named x.now
start_of b.Nothing = s.ends

-- the words of the code in a list
abbrev pub words_of : Vec TypeWord Global → List w.TypeWord
words_of v = map type_word_of v.items
