-- What is passed on is as it was.
use Rattle.std.proofs.Common.{refl}
use Rattle.c_case.proofs.scopes.three_arrays.Goals as goal

pub same-declare_in_file : goal.same-declare_in_file
same-declare_in_file c = refl

pub same-declare_in_file-2 : goal.same-declare_in_file-2
same-declare_in_file-2 c = refl

pub same-declare_in_file-3 : goal.same-declare_in_file-3
same-declare_in_file-3 c = refl
