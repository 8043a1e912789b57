-- The exit status of an end.
use Rattle.std.specs.Prelude.{ℕ, ◌+◌, ◌%◌}
use Rattle.top.specs.declared.answer.End.{End}
use Rattle.top.specs.declared.answer.End.TheVariants.{Ran, Signalled, Session, Built, Usage, Absent, TooLarge, Refused, ReadFault, WriteFault, Budget, Memory}

-- the exit status
abbrev pub status_of : End → ℕ
status_of (Ran s) = s
status_of (Signalled g) = (g + 128) % 256
status_of Session = 0
status_of Built = 0
status_of Usage = 2
status_of (Absent name) = 3
status_of (TooLarge name) = 3
status_of (Refused refusal) = 4
status_of ReadFault = 6
status_of WriteFault = 6
status_of Budget = 7
status_of Memory = 8
