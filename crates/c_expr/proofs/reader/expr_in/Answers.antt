use Rattle.std.proofs.Common.{◌≡◌, ◌-◌, ℕ, length, map, drop, Result, Err, refl, ◌∙◌, ap, subst, arith}
use Rattle.std.proofs.lemmas.Result.{err_from_is_err_and}
use Rattle.std.proofs.lemmas.List.{length-map}
use Rattle.c_tree.specs.TreeOf.{expr_of}
use Rattle.c_grammar.specs.Reads.{IsExprAt}
use Rattle.c_lex.specs.Shown.{token_of}
use Rattle.c_expr.specs.declared.error.ParseErr.{ParseErr}
use Rattle.c_expr.specs.declared.rest.Found.{Found}
use Rattle.c_expr.specs.Typedefs.{names_of}
use Rattle.c_expr.specs.Shown.{left}
use Rattle.c_expr.proofs.Place.{front_at, at_front}
use Rattle.c_expr.proofs.Answered.{says_of_answer, on_not_c, seen_from, none_past}
use Rattle.c_expr.proofs.reader.expr_in.Goals as goal

pub returns-then-at-tokens-clause-none : goal.returns-then-at-tokens-clause-none
returns-then-at-tokens-clause-none c = λ e k x.
    none_past (names_of c.args.defs.now) c.args.level c.args.at k (map token_of c.args.tokens.now) e (omega (arith, c.if-at-tokens.true, length-map c.args.tokens.now token_of)) x

pub returns-in_err-found-clause-none : goal.returns-in_err-found-clause-none
returns-in_err-found-clause-none c =
    let p = err_from_is_err_and c.from_residual.result c.from_residual.ensures.1 in
    let r : Result Found ParseErr = Err c.in_err-found.field-0.0 in
    let none = rw (seen_from c.args.at c.args.tokens.now) at c.in_err-found.ensures.none in
    on_not_c _ c.from_residual.result c.in_err-found.field-0.0 (p.1 ∙ ap Err p.2)
    (says_of_answer _ _ r c.in_err-found.field-0.0 refl none c.in_err-found.ensures.shallow
    (λ never e k x. never e (drop k (map token_of c.args.tokens.now)) (at_front (names_of c.args.defs.now) c.args.level c.args.at k (map token_of c.args.tokens.now) e x)))

pub overflow_sub-result : goal.overflow_sub-result
overflow_sub-result c =
    let found = rw (seen_from c.args.at c.args.tokens.now) at c.in_ok-found.ensures.found in
    let there = front_at (names_of c.args.defs.now) c.args.level c.args.at (map token_of c.args.tokens.now) (expr_of c.in_ok-found.found.tree) (left c.in_ok-found.found.rest)
    (omega (arith, c.if-at-tokens.false, length-map c.args.tokens.now token_of)) found in
    omega (arith, there.0, length-map c.args.tokens.now token_of, length-map c.in_ok-found.found.rest.tokens.now token_of)

pub returns-clause-spelled : goal.returns-clause-spelled
returns-clause-spelled c =
    let found = rw (seen_from c.args.at c.args.tokens.now) at c.in_ok-found.ensures.found in
    let there = front_at (names_of c.args.defs.now) c.args.level c.args.at (map token_of c.args.tokens.now) (expr_of c.in_ok-found.found.tree) (left c.in_ok-found.found.rest)
    (omega (arith, c.if-at-tokens.false, length-map c.args.tokens.now token_of)) found in
    let P : ℕ → Type 0 = λ k. IsExprAt (names_of c.args.defs.now) c.args.level (map token_of c.args.tokens.now) c.args.at (expr_of c.in_ok-found.found.tree) k in
    let place : length (map token_of c.args.tokens.now) - length (left c.in_ok-found.found.rest) ≡ length c.args.tokens.now - length c.in_ok-found.found.rest.tokens.now
    = ap (λ n. n - length (left c.in_ok-found.found.rest)) (length-map c.args.tokens.now token_of) ∙ ap (λ n. length c.args.tokens.now - n) (length-map c.in_ok-found.found.rest.tokens.now token_of) in
    subst P place there.1
