use Rattle.std.proofs.Common.{◌+◌, ◌≤◌, ◌∙◌, ◌++◌, map, drop, List, ap, sym, subst, arith}
use Rattle.mach_mem.specs.Addresses.{text_start, statics_start}
use Rattle.gen_small.specs.declared.code_list.Item.TheVariants.{Start}
use Rattle.gen_small.specs.Items.{Item}
use Rattle.gen_small.specs.Emitted.{emitted}
use Rattle.gen_small.specs.Listed.{item_of}
use Rattle.gen_small.specs.Placing.{AreRows}
use Rattle.gen_small.specs.Whole.{label_in, laid}
use Rattle.gen_small.proofs.Weighed.{size, end_is}
use Rattle.gen_small.proofs.Emitting.{Emitting, emitted_one}
use Rattle.gen_small.proofs.emit.text.Goals as goal

pub loop-item-init : goal.loop-item-init
loop-item-init c =
    let all : List Item = c.args.code.now.items in
    let whole = c.items-item-items.ensures in
    let fits : text_start + size all ≤ statics_start = (let e = end_is text_start all in let h = c.requires.fits in omega arith) in
    record {
      fits = subst (λ xs. text_start + size xs ≤ statics_start) (sym whole) fits;
      rows = subst AreRows (sym whole) c.requires.rows;
      bytes =
          ap (λ bytes. bytes ++ emitted (label_in c.args.code.now.items) text_start (map (item_of c.args.code.now.frame.fun) c.items-item-items.result.now)) c.new-bytes.ensures.items
          ∙ ap (emitted (label_in c.args.code.now.items) text_start) whole;
    }

-- one item more
one : (c : goal.After-width-address) → Emitting (label_in c.args.code.now.items) (laid c.args.code.now.items) (c.loop-item.address + c.width-address.result) c.push_item.new.bytes.items (map (item_of c.args.code.now.frame.fun) (drop (c.loop-item.item-index + 1) c.items-item-items.result.now))
one c =
    emitted_one (label_in c.args.code.now.items) (laid c.args.code.now.items) c.args.code.now.frame.fun c.items-item-items.result.now c.loop-item.item-index (Start 0) c.loop-item.address c.width-address.result c.loop-item.bytes.items c.push_item.new.bytes.items
    c.loop-item-test.true c.loop-item.invariant.fits c.loop-item.invariant.rows c.loop-item.invariant.bytes (c.width-address.ensures.bytes c.args.code.now.frame.fun)
    (c.in_ok-push_item.ensures.bytes c.args.code.now.frame.fun (label_in c.args.code.now.items) c.in_ok-places.ensures.known)

pub overflow_add-address : goal.overflow_add-address
overflow_add-address c =
    let h = one c in
    let f = h.fits in
    omega arith

pub loop-item-preserved : goal.loop-item-preserved
loop-item-preserved c = let h = one c in record { fits = h.fits; rows = h.rows; bytes = h.bytes_are }
