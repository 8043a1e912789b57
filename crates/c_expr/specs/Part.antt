-- A part of a type, apart from the line of a tag's name.
use Rattle.std.specs.Prelude.{Option, Some, None}
use Rattle.c_type.specs.Names.{Name}
use Rattle.c_grammar.specs.Words.{TypeWord}
use Rattle.c_tree.specs.TreeExpr.{TagRef}
use Rattle.c_grammar.specs.WrittenType.{TypePart, word_part, tag_part, name_part}
use Rattle.c_expr.specs.Tally.{word_of}
use Rattle.c_expr.specs.declared.typename.Part as code
use Rattle.c_expr.specs.declared.typename.Part.TheVariants as c

-- a word, a tag or a typedef name
pub data Part : Type 0 where
  word : (w : TypeWord) → Part
  tag : (t : TagRef) → Part
  named : (x : Name) → Part

-- what is left of a part
abbrev pub plain_part : TypePart → Part
plain_part (word_part l w) = word w
plain_part (tag_part l kind m x) = tag (record { line = l; kind = kind; name = x })
plain_part (name_part l x) = named x

-- the word, where the part is one
abbrev pub word_in : Part → Option TypeWord
word_in (word w) = Some w
word_in (tag t) = None
word_in (named x) = None

-- what the code reads
abbrev pub part_of : code.Part → Part
part_of (c.Word w) = word (word_of w)
part_of (c.Tag l kind x) = tag (record { line = l; kind = kind; name = x.now })
part_of (c.Named x) = named x.now
