use Rattle.std.proofs.Common.{◌≡◌, ◌++◌, arith, rules, w32, SFits}
use Rattle.std.proofs.lemmas.Grind.{common_steps}
use Rattle.std.proofs.lemmas.Int.{to_z-of_z}
use Rattle.asm_item.specs.Groups.{parts_text, dims_parts, significant}
use Rattle.asm_item.proofs.Parts.{put_in_order}
use Rattle.asm_item.proofs.printing.put_parts.Goals as goal

pub returns : goal.returns
returns c =
    let dims : c.put_dims.new.out.items ≡ c.put_size.new.out.items ++ parts_text (dims_parts (significant c.args.g.now.dims)) = grind (arith, common_steps, c.significant.ensures.front, c.in_ok-put_dims.ensures) in
    let fits : SFits w32 c.args.g.now.scl = search rules in
    let class = simp to_z-of_z at c.in_ok-put_scl.ensures in
    put_in_order c.args.g.now c.args.out.now.items c.put_val.new.out.items c.put_scl.new.out.items c.put_ty.new.out.items c.put_tag.new.out.items c.put_line_number.new.out.items c.put_size.new.out.items c.put_dims.new.out.items c.in_ok-put_val.ensures class c.in_ok-put_ty.ensures c.in_ok-put_tag.ensures c.in_ok-put_line_number.ensures c.in_ok-put_size.ensures dims
