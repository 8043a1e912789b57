use Rattle.std.proofs.Common.{rules, ◌≡◌, length, Some, ap, ◌∙◌}
use Rattle.std.specs.Str.{bytes_eq}
use Rattle.c_type.specs.Names.{pick}
use Rattle.c_scope.proofs.Indexed.{at_inserted, at_bytes}
use Rattle.c_scope.proofs.scope.lead_to_next.Goals as goal

pub returns-clause-led : goal.returns-clause-led
returns-clause-led c x =
    let key : c.in_ok-key.key.items ≡ c.args.name.now = search rules in
    let place : c.len-place.result ≡ length c.args.entries.now.items = search rules in
    ap (λ l. at_bytes (λ k. k.items) l x) c.in_ok-insert.ensures.entries ∙ at_inserted (λ k. k.items) c.args.index.now.entries c.in_ok-key.key c.len-place.result x ∙
    ap (λ n. pick (bytes_eq x n) (Some c.len-place.result) (at_bytes (λ k. k.items) c.args.index.now.entries x)) key ∙
    ap (λ n. pick (bytes_eq x c.args.name.now) (Some n) (at_bytes (λ k. k.items) c.args.index.now.entries x)) place
