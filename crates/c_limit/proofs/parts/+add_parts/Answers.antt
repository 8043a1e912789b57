use Rattle.std.proofs.Common.{ap, ◌∙◌}
use Rattle.std.proofs.lemmas.List.{map-append}
use Rattle.c_limit.specs.Of.{body_part_of, parts_of}
use Rattle.c_limit.proofs.Rows.{switch_adds, block_adds}
use Rattle.c_limit.proofs.parts.+add_parts.Goals as goal

pub add_stmt-returns-in_ok-add_items-in-Switch : goal.add_stmt-returns-in_ok-add_items-in-Switch
add_stmt-returns-in_ok-add_items-in-Switch t c =
    record {
      added =
          switch_adds _ _ _ _ _ _ (parts_of c.args.out.now.items) _ _ c.in-Switch.is c.deref-in-Switch.ensures.value
          (ap parts_of c.in_ok-push-in-Switch.ensures.items ∙ map-append body_part_of c.args.out.now.items _) c.in_ok-add_items-in-Switch.ensures.added;
    }

pub add_stmt-returns-in_ok-add_stmts-in-Block : goal.add_stmt-returns-in_ok-add_stmts-in-Block
add_stmt-returns-in_ok-add_stmts-in-Block t c =
    record { added = block_adds _ _ _ _ _ _ _ c.in-Block.is c.deref-in-Block.ensures.value c.deref-in-Block-2.ensures.value c.in_ok-add_decls-in-Block.ensures.added c.in_ok-add_stmts-in-Block.ensures.added }
