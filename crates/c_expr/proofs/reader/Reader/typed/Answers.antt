use Rattle.std.proofs.Common.{ap, sym, ◌∙◌, Some}
use Rattle.std.proofs.lemmas.Result.{err_from_is_err_and}
use Rattle.c_tree.specs.TreeOf.{type_name_of, type_spec_of}
use Rattle.c_expr.specs.Parts.{names}
use Rattle.c_expr.specs.Shown.{left}
use Rattle.c_expr.proofs.Told.{typed_none, typed_open, typed_whole}
use Rattle.c_expr.proofs.Turns.{refused, fails_along, passed}
use Rattle.c_expr.proofs.reader.Reader.typed.Goals as goal

pub returns-in_err-types : goal.returns-in_err-types
returns-in_err-types c =
    let p = err_from_is_err_and c.from_residual.result c.from_residual.ensures.1 in
    passed (λ x. (type_name_of x.0, left x.1)) c.from_residual.result _ c.in_err-types.field-0.0 p.0 p.1 p.2
    (fails_along c.in_err-types.field-0.0 _ _ (typed_none (names c.args.self.now) (left c.args.rest)) c.in_err-types.ensures)

pub returns-in-Some : goal.returns-in-Some
returns-in-Some c =
    typed_whole (names c.args.self.now) (left c.args.rest) (type_spec_of c.in_ok-types.types, left c.in_ok-types.after) (c.stars-stars.result.0, left c.stars-stars.result.1) (left c.in-Some.rest)
    c.in_ok-types.ensures c.stars-stars.ensures c.in-Some.ensures
    ∙ ap (λ l. Some (record { line = l; types = type_spec_of c.in_ok-types.types; stars = c.stars-stars.result.0 }, left c.in-Some.rest)) (sym c.first_line-line.ensures)

pub returns-in-None : goal.returns-in-None
returns-in-None c =
    refused c.refusal.result _ c.refusal.ensures (
    typed_open (names c.args.self.now) (left c.args.rest) (type_spec_of c.in_ok-types.types, left c.in_ok-types.after) (c.stars-stars.result.0, left c.stars-stars.result.1)
    c.in_ok-types.ensures c.stars-stars.ensures c.in-None.ensures)
