-- What files, a source and a sink that never fail show.
use Rattle.std.specs.Prelude.{ℕ, List, Option, Some, None, drop, if◌then◌else◌}
use Rattle.outside.specs.Named.{named}
use Rattle.outside.specs.Told.{Held}
use Rattle.outside.specs.declared.sure_files.SureFiles.{SureFiles}
use Rattle.outside.specs.declared.sure_source.SureSource.{SureSource}
use Rattle.outside.specs.declared.sure_sink.SureSink.{SureSink}

-- the bytes of each file, up to the first write
abbrev pub sure_files_held : SureFiles → Option Held
sure_files_held s = if s.written then None else Some (named s.list.items)

-- the bytes that are left
abbrev pub sure_source_left : SureSource → List ℕ
sure_source_left s = drop s.taken s.bytes.items

-- the number of the bytes that were taken
abbrev pub sure_sink_taken : SureSink → ℕ
sure_sink_taken s = s.taken
