-- What was added and what is left is the whole.
use Rattle.std.proofs.Common.{◌≡◌, ◌++◌, drop}
use Rattle.c_type.specs.Of.{tags_of}
use Rattle.c_limit.specs.Names as s
use Rattle.c_limit.specs.Of.{mems_from, all_named_of}
use Rattle.c_limit.proofs.names.+add_specs.Given as goal

abbrev pub invariant-add_mems-loop-mem : goal.invariant-add_mems-loop-mem
invariant-add_mems-loop-mem l = all_named_of l.out.items ++ s.named_mems (tags_of l.tags) (mems_from (drop l.mem-index l.mems)) ≡ all_named_of l.initial.out.items ++ s.named_mems (tags_of l.tags) (mems_from l.mems)
