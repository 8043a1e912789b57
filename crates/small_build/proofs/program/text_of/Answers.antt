use Rattle.c_tree.specs.TypedOf.{func_of}
use Rattle.c_run.specs.Context.{linked}
use Rattle.small_form.specs.SmallForm.{program_of_main}
use Rattle.c_front.specs.Sources.{texts_of}
use Rattle.small_build.proofs.MainFits.{main_taken}
use Rattle.small_build.proofs.Compiling.{code_of}
use Rattle.small_build.proofs.program.text_of.Goals as goal

pub small_text-requires : goal.small_text-requires
small_text-requires c =
    let small = c.in_ok-main.ensures in
    record { form = (main_taken small.text (func_of c.in_ok-main.main) small.small).form }

pub returns : goal.returns
returns c =
    let main = func_of c.in_ok-main.main in
    code_of (texts_of c.args.texts.now) main c.in_ok-small_text.field-0.items c.in_ok-main.ensures (c.in_ok-small_text.ensures.bytes (linked (program_of_main main)) 0)
