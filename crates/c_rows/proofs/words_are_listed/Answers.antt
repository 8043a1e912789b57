use Rattle.std.proofs.Common.{refl}
use Rattle.c_rows.specs.Listed.{WordsAreListed}
use Rattle.c_rows.proofs.words_are_listed.Goals as goal

pub returns : goal.returns
returns c = record { law = record { words_are = refl; storage_words = refl; tag_words = refl; type_words = refl; marks_are = refl; assign_marks = refl; binary_marks = refl; unary_marks = refl; step_marks = refl } }
