-- The typedef names of a unit up to a place in it.
use Rattle.std.specs.Prelude.{List}
use Rattle.c_type.specs.Names.{Name}
use Rattle.c_expr.specs.declared.typedefs.Typedefs.{Typedefs}

-- the names of the set, in the order in which they were added
abbrev pub names_of : Typedefs → List Name
names_of d = d.list.items
