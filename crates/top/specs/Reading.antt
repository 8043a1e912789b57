-- Files read in the order of their names.
use Rattle.std.specs.Prelude.{◌≡◌, ◌≤◌, ℕ, nat_lt, Bool, true, List, [], ◌∷◌, length, Option, Some, None, All, Contains, Vec, Result, Ok, Err, ⊤}
use Rattle.std.specs.declared.alloc.Global.{Global}
use Rattle.c_type.specs.Names.{Name, pick}
use Rattle.outside.specs.Told.{Held}
use Rattle.c_front.specs.Sources.{texts_of}
use Rattle.top.specs.declared.answer.End.{End}
use Rattle.top.specs.declared.answer.End.TheVariants.{Absent, TooLarge, ReadFault, Memory}

-- The texts of all files, or the first file that isn't there or is too large.
pub data Reading : Type 0 where
  Texts : (texts : List (List ℕ)) → Reading
  Lacks : (name : Name) → Reading
  Exceeds : (name : Name) → Reading

-- above the limit of a source file
abbrev pub is_large : List ℕ → Bool
is_large text = nat_lt 262144 (length text)

-- a text, and what is read behind it
abbrev pub with_text : List ℕ → Reading → Reading
with_text text (Texts texts) = Texts (text ∷ texts)
with_text text (Lacks name) = Lacks name
with_text text (Exceeds name) = Exceeds name

-- a file by what it holds, and what is read behind it
abbrev pub with_file : Name → Option (List ℕ) → Reading → Reading
with_file name None rest = Lacks name
with_file name (Some text) rest = pick (is_large text) (Exceeds name) (with_text text rest)

-- reading the files of these names
abbrev pub reading : Held → List Name → Reading
reading held [] = Texts []
reading held (name ∷ names) = with_file name (held name) (reading held names)

-- a reading that some files of these names give
abbrev pub MayRead : List Name → Reading → Type 0
MayRead names (Texts texts) = (length texts ≡ length names) × All (λ text. length text ≤ 262144) texts
MayRead names (Lacks name) = Contains names name
MayRead names (Exceeds name) = Contains names name

-- reading the files of these names, where it is told what they hold
abbrev pub IsReading : Option Held → List Name → Reading → Type 0
IsReading None names r = MayRead names r
IsReading (Some held) names r = reading held names ≡ r

-- What the code reads. A fault or want of memory says nothing of the files.
abbrev pub ReadsTexts : Option Held → List Name → Result (Vec (Vec ℕ Global) Global) End → Type 0
ReadsTexts held names (Ok texts) = IsReading held names (Texts (texts_of texts.items))
ReadsTexts held names (Err (Absent name)) = IsReading held names (Lacks name)
ReadsTexts held names (Err (TooLarge name)) = IsReading held names (Exceeds name)
ReadsTexts held names (Err ReadFault) = ⊤
ReadsTexts held names (Err Memory) = ⊤
ReadsTexts held names (Err _) = ⊥

-- a file that isn't there, where it is told
abbrev pub IsAbsent : Option Held → Name → Type 0
IsAbsent None name = ⊤
IsAbsent (Some held) name = held name ≡ None

-- a file that holds this text, where it is told
abbrev pub Holds : Option Held → Name → List ℕ → Type 0
Holds None name text = ⊤
Holds (Some held) name text = held name ≡ Some text

-- what the code reads of one file
abbrev pub ReadsText : Option Held → Name → Result (Vec ℕ Global) End → Type 0
ReadsText held name (Ok text) = Holds held name text.items × (length text.items ≤ 262144)
ReadsText held name (Err (Absent other)) = (other ≡ name) × IsAbsent held name
ReadsText held name (Err (TooLarge other)) = (other ≡ name) × IsLarge held name
  where
    IsLarge : Option Held → Name → Type 0
    IsLarge None name = ⊤
    IsLarge (Some held) name = (text : List ℕ) × (held name ≡ Some text) × (is_large text ≡ true)
ReadsText held name (Err ReadFault) = ⊤
ReadsText held name (Err Memory) = ⊤
ReadsText held name (Err _) = ⊥
