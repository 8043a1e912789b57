-- The faults that a source and a sink of the system and its files have counted.
use Rattle.std.specs.Prelude.{ℕ}
use Rattle.real_io.specs.declared.real.RealFiles.{RealFiles}
use Rattle.real_io.specs.declared.real.RealSource.{RealSource}
use Rattle.real_io.specs.declared.real.RealSink.{RealSink}

abbrev pub files_faults : {R : Type 0} → RealFiles R → ℕ
files_faults s = s.faults

abbrev pub source_faults : {R : Type 0} → RealSource R → ℕ
source_faults s = s.faults

abbrev pub sink_faults : {W : Type 0} → RealSink W → ℕ
sink_faults s = s.faults
