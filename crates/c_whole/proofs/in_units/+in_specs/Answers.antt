use Rattle.std.proofs.lemmas.Result.{on_ok_weaker}
use Rattle.c_whole.proofs.Rows.{body_adds}
use Rattle.c_whole.proofs.in_units.+in_specs.Goals as goal

pub in_spec-returns-in-Struct : goal.in_spec-returns-in-Struct
in_spec-returns-in-Struct t c = record { added = on_ok_weaker c.in_mems.result (body_adds _ _ _ _ _ _ c.in-Struct.is c.deref.ensures.value) c.in_mems.ensures.added }
