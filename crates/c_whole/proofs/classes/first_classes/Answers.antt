use Rattle.std.proofs.Common.{map}
use Rattle.c_tree.specs.TypedOf.{unit_of}
use Rattle.c_whole.specs.Classes.{named_in, rows_of}
use Rattle.c_whole.proofs.Numbers.{coarse_by_first}
use Rattle.c_whole.proofs.classes.first_classes.Goals as goal

pub returns : goal.returns
returns c = record { coarse = coarse_by_first (named_in c.in_ok-names.names) c.names.new.next (map unit_of c.args.units.now) (rows_of c.in_ok-rows.rows.items) c.in_ok-rows.ensures.rows }
