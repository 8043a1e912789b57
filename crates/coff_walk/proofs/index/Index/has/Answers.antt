use Rattle.std.proofs.Common.{◌≡◌, ap, arith, ◌∙◌}
use Rattle.coff_walk.specs.Walk.{Symtab, record_at}
use Rattle.coff_walk.proofs.Reaching.{behind_all, nearer, arrived}
use Rattle.coff_walk.proofs.index.Index.has.Goals as goal

pub returns-then-n-count : goal.returns-then-n-count
returns-then-n-count c =
    let same : c.self.inside.table ≡ c.args.self.now = c.self.view_is in
    let count : c.count.result ≡ c.args.self.now.count = c.count.ensures.count ∙ ap (λ (t : Symtab). t.count) same in
    record { index = behind_all c.args.self.now c.args.n (omega (arith, count, c.if-n-count.true)) }

pub loop-at-preserved : goal.loop-at-preserved
loop-at-preserved c =
    let same : c.self.inside.table ≡ c.args.self.now = c.self.view_is in
    let count : c.count.result ≡ c.args.self.now.count = c.count.ensures.count ∙ ap (λ (t : Symtab). t.count) same in
    nearer c.args.self.now c.args.n c.loop-at.at c.record.result _ (c.record.ensures.record ∙ ap (λ t. record_at t c.loop-at.at) same) c.loop-at-test.true (omega (arith, count, c.if-n-count.false)) c.loop-at.invariant

pub returns : goal.returns
returns c =
    let same : c.self.inside.table ≡ c.args.self.now = c.self.view_is in
    let count : c.count.result ≡ c.args.self.now.count = c.count.ensures.count ∙ ap (λ (t : Symtab). t.count) same in
    record { index = arrived c.args.self.now c.args.n c.loop-at.at _ c.loop-at-test.false (omega (arith, count, c.if-n-count.false)) c.loop-at.invariant }
