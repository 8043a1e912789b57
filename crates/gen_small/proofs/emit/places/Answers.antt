use Rattle.std.proofs.Common.{◌+◌, ◌≤◌, ◌∙◌, List, map, ap, sym, subst, arith}
use Rattle.mach_mem.specs.Addresses.{text_start, statics_start}
use Rattle.gen_small.specs.Items.{Item}
use Rattle.gen_small.specs.Laid.{is_label, address}
use Rattle.gen_small.specs.Listed.{label_of, item_of}
use Rattle.gen_small.specs.Placing.{known, first_known}
use Rattle.gen_small.proofs.Weighed.{size, end_is}
use Rattle.gen_small.proofs.emit.places.Goals as goal

pub loop-item-init : goal.loop-item-init
loop-item-init c =
    let all : List Item = c.args.code.now.items in
    let whole = c.items-item-items.ensures in
    let fits : text_start + size all ≤ statics_start = (let e = end_is text_start all in let h = c.requires.fits in omega arith) in
    record {
      low = omega arith;
      fits = subst (λ xs. text_start + size xs ≤ statics_start) (sym whole) fits;
      known = λ n.
          ap (λ table. first_known (known table n) (address (is_label (label_of c.args.code.now.frame.fun n)) text_start (map (item_of c.args.code.now.frame.fun) c.items-item-items.result.now))) c.new-places.ensures
          ∙ ap (λ xs. address (is_label (label_of c.args.code.now.frame.fun n)) text_start xs) whole;
    }
