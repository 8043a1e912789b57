use Rattle.std.proofs.Common.{◌≡◌, ◌++◌, drop}
use Rattle.coff_rec.specs.Files.{symbol_table, AreShared}
use Rattle.coff_rec.proofs.file.add_symbols.Given as goal

abbrev pub invariant-loop-s : goal.invariant-loop-s
invariant-loop-s l = record {
  written : l.out.items ++ symbol_table (drop l.s-index l.syms) l.rest ≡ l.fn.out.items ++ symbol_table l.syms l.auxs;
  shared : AreShared (drop l.s-index l.syms) l.rest;
}
