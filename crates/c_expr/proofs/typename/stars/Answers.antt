use Rattle.std.proofs.Common.{◌≡◌, suc, length, sym, ◌∙◌, arith}
use Rattle.c_expr.specs.Shown.{left}
use Rattle.c_expr.proofs.Told.{star_fewer, star_turn, star_end, stars_begin}
use Rattle.c_expr.proofs.typename.stars.Goals as goal

pub loop-after-init : goal.loop-after-init
loop-after-init c = record { few = omega arith; same = stars_begin (left c.args.rest) }

pub loop-after-preserved : goal.loop-after-preserved
loop-after-preserved c =
    let one : length c.loop-after.ahead.tokens.now ≡ suc (length c.in-Some.after.tokens.now) = star_fewer c.loop-after.ahead.tokens.now c.in-Some.after.tokens.now c.in-Some.ensures in
    record {
      few = omega (arith, one, c.loop-after.invariant.few);
      same = sym (star_turn c.loop-after.count (left c.loop-after.ahead) (left c.in-Some.after) c.in-Some.ensures) ∙ c.loop-after.invariant.same;
    }

pub loop-after-smaller : goal.loop-after-smaller
loop-after-smaller c =
    let one : length c.loop-after.ahead.tokens.now ≡ suc (length c.in-Some.after.tokens.now) = star_fewer c.loop-after.ahead.tokens.now c.in-Some.after.tokens.now c.in-Some.ensures in
    omega (arith, one)

pub returns : goal.returns
returns c = sym c.loop-after.invariant.same ∙ star_end c.loop-after.count (left c.loop-after.ahead) c.in_default.ensures
