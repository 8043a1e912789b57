use Rattle.c_limit.proofs.Needed.{group_needs}
use Rattle.c_limit.proofs.temporaries.+in_init.Goals as goal

pub in_init-returns-in-Group : goal.in_init-returns-in-Group
in_init-returns-in-Group t c = group_needs _ _ _ _ c.in-Group.is c.deref.ensures.value c.in_inits.ensures
