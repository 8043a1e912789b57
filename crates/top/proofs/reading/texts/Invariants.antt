-- The first files are read.
use Rattle.std.proofs.Common.{◌≡◌, ◌≤◌, length}
use Rattle.std.specs.Prelude.{All}
use Rattle.c_front.specs.Sources.{texts_of}
use Rattle.top.proofs.Filing.{SoFar}
use Rattle.top.proofs.reading.texts.Given as goal

abbrev pub invariant-loop-name : goal.invariant-loop-name
invariant-loop-name g l = record {
  so : SoFar (g.F.Files.held l.initial.files) l.names l.name-index (texts_of l.texts.items);
  short : All (λ t. length t.items ≤ 262144) l.texts.items;
  count : length l.texts.items ≡ l.name-index;
  unchanged : g.F.Files.held l.files ≡ g.F.Files.held l.initial.files;
  later : g.F.Files.faults l.initial.files ≤ g.F.Files.faults l.files;
}
