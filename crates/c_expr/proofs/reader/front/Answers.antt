use Rattle.std.proofs.Common.{◌+◌, Result, Err, refl, sym, ◌∙◌, ap, arith}
use Rattle.std.proofs.lemmas.Result.{err_from_is_err_and}
use Rattle.c_expr.specs.declared.error.ParseErr.{ParseErr}
use Rattle.c_expr.specs.declared.rest.Found.{Found}
use Rattle.c_expr.specs.Parts.{names}
use Rattle.c_expr.specs.Shown.{left, shown}
use Rattle.c_expr.proofs.Place.{front_found, front_none, front_goes_on}
use Rattle.c_expr.proofs.Answered.{says_of_fails, says_of_refusal, on_not_c, not_too_deep}
use Rattle.c_expr.proofs.reader.front.Goals as goal

pub returns-in_err-found-clause-none : goal.returns-in_err-found-clause-none
returns-in_err-found-clause-none c =
    let p = err_from_is_err_and c.from_residual.result c.from_residual.ensures.1 in
    on_not_c _ c.from_residual.result c.in_err-found.field-0.0 (p.1 ∙ ap Err p.2) (says_of_fails _ c.in_err-found.field-0.0 _ c.in_err-found.ensures (λ none.
    front_none (names c.args.reader.now) (200 + c.brackets.result) c.args.level (left c.args.rest) none (λ v behind at is. omega (arith, c.brackets.ensures.enough (names c.args.reader.now) v behind at is))))

pub returns-in_err-found-clause-shallow : goal.returns-in_err-found-clause-shallow
returns-in_err-found-clause-shallow c =
    let p = err_from_is_err_and c.from_residual.result c.from_residual.ensures.1 in
    not_too_deep (Unit {0}) c.from_residual.result c.in_err-found.field-0.0 (p.1 ∙ ap Err p.2) (says_of_fails (Unit {0}) c.in_err-found.field-0.0 _ c.in_err-found.ensures (λ none. tt))

pub returns-then-not-may_follow-clause-none : goal.returns-then-not-may_follow-clause-none
returns-then-not-may_follow-clause-none c =
    let r : Result Found ParseErr = Err c.refusal.result in
    on_not_c _ r c.refusal.result refl (says_of_refusal _ c.refusal.result c.refusal.ensures (
    front_goes_on (names c.args.reader.now) (200 + c.brackets.result) c.args.level (left c.args.rest) (shown c.in_ok-found.found) c.in_ok-found.ensures (sym c.if-not-may_follow.ensures)
    (λ v behind at is. omega (arith, c.brackets.ensures.enough (names c.args.reader.now) v behind at is))))

pub returns-then-not-may_follow-clause-shallow : goal.returns-then-not-may_follow-clause-shallow
returns-then-not-may_follow-clause-shallow c =
    let r : Result Found ParseErr = Err c.refusal.result in
    not_too_deep (Unit {0}) r c.refusal.result refl (says_of_refusal (Unit {0}) c.refusal.result c.refusal.ensures tt)

pub returns-clause-found : goal.returns-clause-found
returns-clause-found c =
    front_found (names c.args.reader.now) (200 + c.brackets.result) c.args.level (left c.args.rest) (shown c.in_ok-found.found) c.requires c.in_ok-found.ensures (sym c.if-not-may_follow.ensures)
