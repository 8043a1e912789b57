use Rattle.std.proofs.Common.{ap, ◌∙◌}
use Rattle.std.proofs.lemmas.List.{map-append}
use Rattle.c_type.specs.Types.{struct}
use Rattle.c_type.specs.Of.{tags_of}
use Rattle.c_limit.specs.Of.{named_of, all_named_of}
use Rattle.c_limit.proofs.Rows.{struct_adds}
use Rattle.c_limit.proofs.names.+add_specs.Goals as goal

pub add_spec-returns-in_ok-push-in-Struct : goal.add_spec-returns-in_ok-push-in-Struct
add_spec-returns-in_ok-push-in-Struct t c =
    record {
      added =
          struct_adds (tags_of c.args.tags.now) _ c.in-Struct.tag _ _ _ (all_named_of c.args.out.now.items) (all_named_of c.add_mems.new.out.items) _ c.in-Struct.is c.deref.ensures.value
          c.in_ok-add_mems-in-Struct.ensures.added (ap (λ n. record { name = n; ty = struct c.in-Struct.tag }) c.tag_name.ensures)
          (ap all_named_of c.in_ok-push-in-Struct.ensures.items ∙ map-append named_of c.add_mems.new.out.items _);
    }
