use Rattle.std.proofs.Common.{◌∙◌, ap, map, length}
use Rattle.std.specs.List.{flat_map}
use Rattle.c_tree.specs.Bodies.{autos_local}
use Rattle.c_tree.specs.TStmt.{locals}
use Rattle.c_tree.specs.TypedOf.{local_decl_of, func_of}
use Rattle.gen_small.specs.declared.code_list.IntFrame.{IntFrame}
use Rattle.gen_small.proofs.SameCode.{objects_are}
use Rattle.gen_small.proofs.small.small_code.Goals as goal

pub push_function-requires-clause-objects : goal.push_function-requires-clause-objects
push_function-requires-clause-objects c =
    ap (λ (f : IntFrame). f.objects) (c.in_ok-push_start.ensures.kept ∙ c.new-code.ensures.frame)
    ∙ c.objects.ensures.count
    ∙ ap (λ ds. length (flat_map autos_local (locals (map local_decl_of ds)))) c.deref.ensures.value
    ∙ objects_are (func_of c.args.main.now) c.requires.form
