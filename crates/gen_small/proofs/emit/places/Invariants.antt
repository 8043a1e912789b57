-- What is known is where the labels before stand, and the rest of the code stands from the address on.
use Rattle.std.proofs.Common.{◌≡◌, ◌+◌, ◌<◌, ◌≤◌, map, drop}
use Rattle.mach_mem.specs.Addresses.{statics_start}
use Rattle.gen_small.specs.declared.code_list.Label.{Label}
use Rattle.gen_small.specs.Laid.{is_label, address}
use Rattle.gen_small.specs.Listed.{label_of, item_of}
use Rattle.gen_small.specs.Placing.{known, first_known}
use Rattle.gen_small.specs.Whole.{label_in}
use Rattle.gen_small.proofs.Weighed.{size}
use Rattle.gen_small.proofs.emit.places.Given as goal

abbrev pub invariant-loop-item : goal.invariant-loop-item
invariant-loop-item l =
    record {
      low : 0 < l.address;
      fits : l.address + size (map (item_of l.code.frame.fun) (drop l.item-index l.item-items)) ≤ statics_start;
      known : (n : Label) → first_known (known l.places n) (address (is_label (label_of l.code.frame.fun n)) l.address (map (item_of l.code.frame.fun) (drop l.item-index l.item-items))) ≡ label_in l.code.items (label_of l.code.frame.fun n);
    }
