-- Each star and each pair of brackets comes nearer to the name.
use Rattle.std.proofs.Common.{◌+◌, ◌*◌}
use Rattle.c_decl.proofs.reader.Reader.+declr.Given as goal

abbrev pub decreases-nested_declr : goal.decreases-nested_declr
decreases-nested_declr l = 3 * l.nested + l.stars

abbrev pub decreases-direct : goal.decreases-direct
decreases-direct l = 3 * l.nested + l.stars + 1

abbrev pub decreases-starred : goal.decreases-starred
decreases-starred l = 3 * l.nested + l.stars + 2
