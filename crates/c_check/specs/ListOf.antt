-- The names that a list of the code holds.
use Rattle.std.specs.Prelude.{List}
use Rattle.c_type.specs.Names.{Name}
use Rattle.c_check.specs.declared.name_list.NameList.{NameList}

abbrev pub names_of : NameList → List Name
names_of l = l.names.items
