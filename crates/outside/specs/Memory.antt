-- What files, a source and a sink in memory show.
use Rattle.std.specs.Prelude.{ℕ, ◌==◌, ◌&&◌, ◌||◌, ◌-◌, Bool, nat_lt, is_some, List, length, drop}
use Rattle.outside.specs.Named.{named}
use Rattle.outside.specs.Told.{Held}
use Rattle.outside.specs.Schedule.{Schedule, is_next_listed}
use Rattle.outside.specs.declared.mem_files.MemFiles.{MemFiles}
use Rattle.outside.specs.declared.mem_source.MemSource.{MemSource}
use Rattle.outside.specs.declared.mem_sink.MemSink.{MemSink}

-- the bytes of each file
abbrev pub files_held : MemFiles → Held
files_held s = named s.list.items

-- the reads and writes, numbered together
abbrev pub files_calls : MemFiles → Schedule
files_calls s = s.calls

-- the next call fails where its number is listed, but for a read of a file that isn't there
abbrev pub read_fails : MemFiles → List ℕ → Bool
read_fails s name = is_next_listed (files_calls s) && is_some (files_held s name)

-- the bytes that are left
abbrev pub source_left : MemSource → List ℕ
source_left s = drop s.taken s.bytes.items

abbrev pub source_calls : MemSource → Schedule
source_calls s = s.calls

-- the bytes that are held
abbrev pub sink_held : MemSink → List ℕ
sink_held s = s.bytes.items

-- how many bytes there is room for in all
abbrev pub sink_room : MemSink → ℕ
sink_room s = s.room

abbrev pub sink_calls : MemSink → Schedule
sink_calls s = s.calls

-- the next call fails where its number is listed, or where the room is full and there is something to write
abbrev pub sink_fails : MemSink → List ℕ → Bool
sink_fails s bytes = is_next_listed (sink_calls s) || (sink_room s - length (sink_held s) == 0 && nat_lt 0 (length bytes))
