use Rattle.std.proofs.Common.{◌≡◌, ◌++◌, map, drop}
use Rattle.c_tree.specs.TreeOf.{local_of}
use Rattle.small_form.specs.SmallForm.{names_in}
use Rattle.small_form.proofs.typed_main.names_in.Given as goal

abbrev pub invariant-loop-decl : goal.invariant-loop-decl
invariant-loop-decl l = l.names.items ++ names_in (map local_of (drop l.decl-index l.decls)) ≡ names_in (map local_of l.decls)
