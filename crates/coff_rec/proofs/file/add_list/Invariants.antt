use Rattle.std.proofs.Common.{◌≡◌, ◌++◌, take}
use Rattle.std.specs.List.{flat_map}
use Rattle.coff_rec.proofs.file.add_list.Given as goal

abbrev pub invariant-loop-r : goal.invariant-loop-r
invariant-loop-r g l = l.out.items ≡ l.fn.out.items ++ flat_map g.R.Listed.bytes (take l.r-index l.list)
