-- What the code reads outside of blocks, as data.
use Rattle.std.specs.Prelude.{map}
use Rattle.c_tree.specs.TreeUnit as u
use Rattle.c_tree.specs.TreeOf.{declr_of, ext_of, file_specs_of, par_of, part_of}
use Rattle.c_decl.specs.declared.FuncHead.{FuncHead}
use Rattle.c_decl.specs.declared.Head.{Head}
use Rattle.c_decl.specs.declared.Head.TheVariants as h
use Rattle.c_decl.specs.ReadDecl.{Outside, whole, head}

abbrev pub head_of : FuncHead → u.FuncHead
head_of x = record { line = x.line; specs = part_of file_specs_of x.specs; declr = declr_of x.declr; params = map par_of x.params.items }

abbrev pub outside_of : Head → Outside
outside_of (h.Whole e) = whole (ext_of e)
outside_of (h.Func x) = head (head_of x)
