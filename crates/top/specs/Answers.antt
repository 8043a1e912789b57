-- *Answers*: the end of a call with these words.
use Rattle.std.specs.Prelude.{ℕ, ◌≡◌, ◌⊎◌, List, Option, Some, None}
use Rattle.c_type.specs.Names.{Name}
use Rattle.outside.specs.Told.{Held}
use Rattle.top.specs.Command.{Request, asked}
use Rattle.top.specs.Outside.{Outside, IsSilent, IsEnd}
use Rattle.top.specs.Reading.{Reading, Texts, Lacks, Exceeds, reading, IsReading}
use Rattle.top.specs.TextsAnswer.{TextsAnswer}
use Rattle.top.specs.declared.answer.End.{End}
use Rattle.top.specs.declared.answer.End.TheVariants.{Usage, Absent, TooLarge, Memory}

-- what reading the files comes to
abbrev pub ReadingAnswers : Reading → ℕ → Outside → End → Type 0
ReadingAnswers (Texts texts) most o end = TextsAnswer texts most o end
ReadingAnswers (Lacks name) most o end = IsEnd o (Absent name) end
ReadingAnswers (Exceeds name) most o end = IsEnd o (TooLarge name) end

-- The files of these names. Where it isn't told what they hold, the end is one that some texts of them give.
abbrev pub FilesAnswer : List Name → ℕ → Option Held → Outside → End → Type 0
FilesAnswer names most None o end = (r : Reading) × IsReading None names r × ReadingAnswers r most o end
FilesAnswer names most (Some held) o end = ReadingAnswers (reading held names) most o end

-- The words ask for nothing, or to run files. Want of memory may come before it is known what they ask for.
abbrev pub WordsAnswer : Option Request → Outside → End → Type 0
WordsAnswer None o end = ((end ≡ Usage) ⊎ (end ≡ Memory)) × IsSilent o
WordsAnswer (Some a) o end = FilesAnswer a.files a.most o.held o end

-- the end of a call with these words
abbrev pub Answers : List (List ℕ) → Outside → End → Type 0
Answers words o end = WordsAnswer (asked words) o end
