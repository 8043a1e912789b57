use Rattle.std.proofs.Common.{Some, ap, sym, ◌∙◌}
use Rattle.c_tree.specs.TreeOf.{expr_of, sw_items_from}
use Rattle.c_tree.proofs.Of.{stmt_of-Switch}
use Rattle.c_decl.specs.Answers.{rest}
use Rattle.c_parse.proofs.Switches.{closed_by}
use Rattle.c_parse.proofs.forms.switch_end.Goals as goal

pub returns : goal.returns
returns c =
    ap (closed_by c.args.line (expr_of c.args.value) (sw_items_from c.args.list.items)) c.in_ok-after.ensures.place
    ∙ ap (λ y. Some (y, rest c.args.r.now c.in_ok-after.after)) (sym (stmt_of-Switch c.args.line c.args.value c.args.list))
