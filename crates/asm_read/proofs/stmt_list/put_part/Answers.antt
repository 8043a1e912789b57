use Rattle.std.proofs.Common.{sym}
use Rattle.asm_read.proofs.Fronts.{put_label}
use Rattle.asm_read.proofs.stmt_list.put_part.Goals as goal

pub loop-k-preserved : goal.loop-k-preserved
loop-k-preserved c =
    put_label c.loop-k.out.items c.push_back.new.self.items (record { line = c.args.line; stmt = c.in_ok-stmt.stmt }) c.loop-k.rest.now c.in-Some.k.now _ (sym c.in-Some.ensures.word) c.in_ok-stmt.ensures c.in_ok-push_back.ensures.items c.loop-k.invariant
