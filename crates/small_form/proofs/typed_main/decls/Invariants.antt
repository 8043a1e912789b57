use Rattle.std.proofs.Common.{◌≡◌, ◌+◌, ◌++◌, length, map, drop}
use Rattle.c_tree.specs.TreeOf as u
use Rattle.c_tree.specs.TypedOf.{local_decl_of}
use Rattle.small_form.specs.SmallForm.{names_in, decls_in}
use Rattle.small_form.proofs.typed_main.decls.Given as goal

abbrev pub invariant-loop-decl : goal.invariant-loop-decl
invariant-loop-decl l = record {
  number : l.number + length (names_in (map u.local_of (drop l.decl-index l.decls))) ≡ length (names_in (map u.local_of l.decls));
  typed : map local_decl_of l.list.items ++ decls_in l.number (map u.local_of (drop l.decl-index l.decls)) ≡ decls_in 0 (map u.local_of l.decls);
}
