use Rattle.std.proofs.lemmas.Result.{on_ok_weaker}
use Rattle.c_whole.proofs.Rows.{group_adds}
use Rattle.c_whole.proofs.in_exprs.+in_inits.Goals as goal

pub in_init-returns-in-Group : goal.in_init-returns-in-Group
in_init-returns-in-Group t c = record { added = on_ok_weaker c.in_inits.result (group_adds _ _ _ _ _ c.in-Group.is c.deref.ensures.value) c.in_inits.ensures.added }
