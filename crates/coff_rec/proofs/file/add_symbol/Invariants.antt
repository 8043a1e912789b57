use Rattle.std.proofs.Common.{◌≡◌, ◌++◌, take}
use Rattle.std.specs.List.{flat_map}
use Rattle.coff_rec.specs.Records.{symbol_bytes, aux_bytes}
use Rattle.coff_rec.proofs.file.add_symbol.Given as goal

abbrev pub invariant-loop-x : goal.invariant-loop-x
invariant-loop-x l = l.out.items ≡ (l.fn.out.items ++ symbol_bytes l.s) ++ flat_map (aux_bytes l.kind) (take l.x-index l.entries)
