use Rattle.std.proofs.Common.{◌≡◌, ◌<◌, ◌≤◌, length, get_or, ap, subst, sym, arith}
use Rattle.coff_walk.specs.Walk.{symbols_after, is_index}
use Rattle.coff_walk.proofs.Reaching.{at_reached}
use Rattle.coff_walk.proofs.index.Index.mark.Goals as goal

pub returns-then-marks-k-clause-reached : goal.returns-then-marks-k-clause-reached
returns-then-marks-k-clause-reached c =
    let same : c.self.inside.table ≡ c.args.self.now = c.self.view_is in
    let marks : c.as_slice-marks.result.now ≡ c.self.inside.marks.items = c.as_slice-marks.ensures.value in
    let here : c.args.k < length c.self.inside.marks.items = omega (arith, c.if-k-marks.true, ap length marks) in
    let low : get_or c.self.inside.marks.items c.args.k 0 ≤ c.args.n = subst (λ l. get_or l c.args.k 0 ≤ c.args.n) marks c.if-marks-k.true in
    let reached : is_index c.args.n (symbols_after c.self.inside.table (get_or c.self.inside.marks.items c.args.k 0)) ≡ is_index c.args.n (symbols_after c.self.inside.table 0)
    = at_reached c.self.inside.table (get_or c.self.inside.marks.items c.args.k 0) c.args.n (c.self.invariant.1 c.args.k here) low in
    subst (λ t. is_index c.args.n (symbols_after t (get_or c.as_slice-marks.result.now c.args.k 0)) ≡ is_index c.args.n (symbols_after t 0)) same
    (subst (λ l. is_index c.args.n (symbols_after c.self.inside.table (get_or l c.args.k 0)) ≡ is_index c.args.n (symbols_after c.self.inside.table 0)) (sym marks) reached)
