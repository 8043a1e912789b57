-- The first texts are read.
use Rattle.std.proofs.Common.{◌≡◌, take}
use Rattle.std.specs.List.{AllZip}
use Rattle.c_front.specs.Sources.{IsSource, texts_of}
use Rattle.c_front.proofs.front.sources.Given as goal

abbrev pub invariant-loop-text : goal.invariant-loop-text
invariant-loop-text l = record {
  read : AllZip IsSource (take l.text-index (texts_of l.texts)) l.list.items;
  number : l.file ≡ l.text-index;
}
