-- The line that tells of an end.
use Rattle.std.specs.Prelude.{◌≡◌, ◌⊎◌, ℕ, List, [], ◌∷◌, ◌++◌, codes, decimal, slice_get, Option, take, ⊤}
use Rattle.std.specs.Io.KnownBytes.{Appends}
use Rattle.c_type.specs.Names.{Name, or_default}
use Rattle.outside.specs.Causes.{Rose}
use Rattle.c_whole.specs.declared.JoinErr.{JoinErr}
use Rattle.c_whole.specs.declared.JoinErr.TheVariants as join
use Rattle.top.specs.declared.answer.End.{End}
use Rattle.top.specs.declared.answer.End.TheVariants.{Ran, Signalled, Session, Built, Usage, Absent, TooLarge, Refused, ReadFault, WriteFault, Budget, Memory}
use Rattle.top.specs.declared.answer.Refusal.{Refusal}
use Rattle.top.specs.declared.answer.Refusal.TheVariants.{Syntax, Rule, Join, Unbuilt}

-- some words with a name behind them
abbrev pub named_line : List ℕ → List ℕ → List ℕ
named_line words name = (words ++ name) ++ 10 ∷ []

-- the name of file k
abbrev pub name_at : List Name → ℕ → Name
name_at names k = or_default [] (slice_get names k)

-- a file and a line of it
abbrev pub place_text : List Name → ℕ → ℕ → List ℕ
place_text names k line = ((name_at names k ++ codes ":") ++ decimal line) ++ codes ": "

-- why typed units make no program
abbrev pub join_text : JoinErr → List ℕ
join_text join.NoMain = codes "nomain"
join_text (join.Twice x) = codes "twice " ++ x
join_text (join.Undefined x) = codes "undefined " ++ x
join_text (join.Clash x) = codes "clash " ++ x
join_text (join.Arguments x) = codes "arguments " ++ x
join_text join.Memory = codes "memory"

-- why files of these names are refused
abbrev pub refusal_text : List Name → Refusal → List ℕ
refusal_text names (Syntax k line) = place_text names k line ++ codes "syntax"
refusal_text names (Rule k line rule) = (place_text names k line ++ codes "rule ") ++ decimal rule
refusal_text names (Join why) = join_text why
refusal_text names Unbuilt = codes "unbuilt"

-- the line that tells of an end of a call with files of these names, if one does
abbrev pub line_of : List Name → End → List ℕ
line_of names (Ran s) = []
line_of names (Signalled g) = []
line_of names Session = []
line_of names Built = []
line_of names Usage = codes "svr3: usage" ++ 10 ∷ []
line_of names (Absent name) = named_line (codes "svr3: absent: ") name
line_of names (TooLarge name) = named_line (codes "svr3: too large: ") name
line_of names (Refused refusal) = named_line (codes "svr3: refused: ") (refusal_text names refusal)
line_of names ReadFault = codes "svr3: read fault" ++ 10 ∷ []
line_of names WriteFault = codes "svr3: write fault" ++ 10 ∷ []
line_of names Budget = codes "svr3: budget" ++ 10 ∷ []
line_of names Memory = codes "svr3: memory" ++ 10 ∷ []

-- a refusal whose text takes memory
abbrev pub HasParts : Refusal → Type 0
HasParts (Syntax k line) = ⊤
HasParts (Rule k line rule) = ⊤
HasParts (Join why) = ⊤
HasParts Unbuilt = ⊥

-- an end whose line takes memory
abbrev pub IsNamed : End → Type 0
IsNamed (Ran s) = ⊥
IsNamed (Signalled g) = ⊥
IsNamed Session = ⊥
IsNamed Built = ⊥
IsNamed Usage = ⊥
IsNamed (Absent name) = ⊤
IsNamed (TooLarge name) = ⊤
IsNamed (Refused refusal) = HasParts refusal
IsNamed ReadFault = ⊥
IsNamed WriteFault = ⊥
IsNamed Budget = ⊥
IsNamed Memory = ⊥

-- the same end, or want of memory for its line
abbrev pub IsOrMemory : End → End → Type 0
IsOrMemory end now = (now ≡ end) ⊎ ((now ≡ Memory) × IsNamed end)

-- a sink gained this line, or a front of it where its count of faults rose
abbrev pub GainsLine : Option (List ℕ) → Option (List ℕ) → ℕ → ℕ → List ℕ → Type 0
GainsLine old new before now line = Appends old new line ⊎ (Rose before now × ((n : ℕ) × Appends old new (take n line)))
