use Rattle.std.proofs.Common.{rules, ◌≡◌, [], ◌∷◌, ◌++◌}
use Rattle.c_type.specs.Names.{or_default}
use Rattle.c_type.specs.declared.TagKind.TheVariants as k
use Rattle.c_tree.specs.TreeOf.{mems_from}
use Rattle.c_rule.specs.RuleScope.{TagHead}
use Rattle.c_rule.specs.RuleNames.{tags_in_mems}
use Rattle.c_scope.specs.EnvOf.{heads_of}
use Rattle.c_scope.proofs.TagsIn.{struct_adds, union_adds}
use Rattle.c_scope.proofs.tags_in.+tags_in.Goals as goal

pub in_def-returns-in_ok-add-in-Struct : goal.in_def-returns-in_ok-add-in-Struct
in_def-returns-in_ok-add-in-Struct t c =
    let mid : heads_of c.in_mems.new.heads ≡ heads_of c.args.heads.now ++ tags_in_mems (mems_from c.in-Struct.mems.items) = search rules in
    let h : TagHead = record { name = or_default [] c.in-Struct.name; kind = k.Struct } in
    let after : heads_of c.add.new.self ≡ heads_of c.in_mems.new.heads ++ h ∷ [] = search rules in
    record { added = struct_adds (heads_of c.args.heads.now) _ _ _ _ _ _ c.in-Struct.is mid after }

pub in_def-returns-in_ok-add-in-Union : goal.in_def-returns-in_ok-add-in-Union
in_def-returns-in_ok-add-in-Union t c =
    let mid : heads_of c.in_mems-in-Union.new.heads ≡ heads_of c.args.heads.now ++ tags_in_mems (mems_from c.in-Union.mems.items) = search rules in
    let h : TagHead = record { name = or_default [] c.in-Union.name; kind = k.Union } in
    let after : heads_of c.add-in-Union.new.self ≡ heads_of c.in_mems-in-Union.new.heads ++ h ∷ [] = search rules in
    record { added = union_adds (heads_of c.args.heads.now) _ _ _ _ _ _ c.in-Union.is mid after }
