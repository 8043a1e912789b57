-- The bytes so far, and those of the rest of the code, are the whole; the rest stands from the address on.
use Rattle.std.proofs.Common.{◌≡◌, ◌+◌, ◌≤◌, ◌++◌, map, drop}
use Rattle.mach_mem.specs.Addresses.{statics_start}
use Rattle.gen_small.specs.Emitted.{emitted}
use Rattle.gen_small.specs.Listed.{item_of}
use Rattle.gen_small.specs.Placing.{AreRows}
use Rattle.gen_small.specs.Whole.{label_in, laid}
use Rattle.gen_small.proofs.Weighed.{size}
use Rattle.gen_small.proofs.emit.text.Given as goal

abbrev pub invariant-loop-item : goal.invariant-loop-item
invariant-loop-item l =
    record {
      fits : l.address + size (map (item_of l.code.frame.fun) (drop l.item-index l.item-items)) ≤ statics_start;
      rows : AreRows (map (item_of l.code.frame.fun) (drop l.item-index l.item-items));
      bytes : l.bytes.items ++ emitted (label_in l.code.items) l.address (map (item_of l.code.frame.fun) (drop l.item-index l.item-items)) ≡ laid l.code.items;
    }
