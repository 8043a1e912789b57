use Rattle.std.proofs.Common.{◌≡◌, List, Bor, IfOk, sym, subst}
use Rattle.std.proofs.lemmas.Bool.{ltb-true, ltb-false}
use Rattle.c_type.specs.Of.{type_of}
use Rattle.c_tree.specs.declared.typed_stmt.TDeclr.{TDeclr}
use Rattle.c_check.proofs.Placed.{typed_there, typed_nowhere}
use Rattle.c_check.proofs.parameters.typed_by.Goals as goal

pub returns-in-Some-get : goal.returns-in-Some-get
returns-in-Some-get c =
    let ds : List (Bor TDeclr) = c.args.declared.now in
    let d : Bor TDeclr = c.in-Some-get.declr.now in
    subst (λ t. IfOk c.as_parameter.result (λ x. type_of x ≡ t))
    (sym (typed_there ds c.args.place c.in-Some.place d c.in-Some.is (ltb-true _ _ (sym c.in-Some-get.ensures.lookup.0)) c.in-Some-get.ensures.lookup.1)) c.as_parameter.ensures

pub returns-in-None : goal.returns-in-None
returns-in-None c = sym (typed_nowhere c.args.declared.now c.args.place c.in-Some.place c.in-Some.is (ltb-false _ _ (sym c.in-None.ensures.lookup.0)))
