use Rattle.std.proofs.Common.{◌≡◌, ◌∙◌, ◌≤◌, [], ap, sym, subst, arith}
use Rattle.std.proofs.lemmas.Result.{IfOk-weaker}
use Rattle.mach_mem.specs.Addresses.{text_start, statics_start}
use Rattle.c_tree.specs.Bodies.{BodyAt}
use Rattle.c_run.specs.Context.{Linked}
use Rattle.c_tree.specs.TypedOf.{func_of}
use Rattle.gen_small.specs.Emitted.{end_of}
use Rattle.gen_small.specs.Placing.{AreRows}
use Rattle.gen_small.specs.Whole.{whole_code, laid, text_of}
use Rattle.gen_small.proofs.Coded.{whole_encoded}
use Rattle.gen_small.proofs.Emitting.{encoded_rows}
use Rattle.gen_small.proofs.Weighed.{end_is, whole_size}
use Rattle.gen_small.proofs.WholeRuns.{text_is}
use Rattle.gen_small.proofs.small.small_text.Goals as goal

-- the code is that of each program
nothing : Linked
nothing = record { units = []; classes = []; lasting = []; bodies = [] }

pub text-requires-clause-fits : goal.text-requires-clause-fits
text-requires-clause-fits c =
    let b : BodyAt = record { unit = 0; func = func_of c.args.main.now } in
    let code = c.in_ok-code.ensures.code nothing 0 in
    let size = whole_size nothing c.args.fun b c.requires.form in
    let end = end_is text_start (whole_code nothing c.args.fun b) in
    let short = c.requires.form.short in
    subst (λ xs. end_of text_start xs ≤ statics_start) (sym code) (omega arith)

pub text-requires-clause-rows : goal.text-requires-clause-rows
text-requires-clause-rows c =
    let b : BodyAt = record { unit = 0; func = func_of c.args.main.now } in
    subst AreRows (sym (c.in_ok-code.ensures.code nothing 0)) (encoded_rows (whole_code nothing c.args.fun b) (whole_encoded nothing c.args.fun b c.requires.form))

pub returns : goal.returns
returns c = record {
  bytes = λ w unit.
      let b : BodyAt = record { unit = unit; func = func_of c.args.main.now } in
      let same = ap laid (c.in_ok-code.ensures.code w unit) ∙ sym (text_is w c.args.fun b) in
      IfOk-weaker c.text.result (λ v. v.items ≡ laid c.in_ok-code.code.items) (λ v. v.items ≡ text_of w c.args.fun (record { unit = unit; func = func_of c.args.main.now })) (λ v is. is ∙ same) c.text.ensures.bytes;
}
