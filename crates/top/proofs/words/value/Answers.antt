use Rattle.std.proofs.Common.{get_or, refl, arith}
use Rattle.top.proofs.Digits.{early}
use Rattle.top.proofs.words.value.Goals as goal

pub returns-then-n-gt-GREATEST : goal.returns-then-n-gt-GREATEST
returns-then-n-gt-GREATEST c =
    let s = c.args.digits.now in
    let at = c.loop-d.d-index in
    omega (arith, early at 0 c.loop-d.n (get_or s at 0) s c.loop-d-test.true refl c.loop-d.invariant.so_far)
