use Rattle.std.proofs.Common.{rules, ◌≡◌, None, Some, true, is_some, ap, ◌∙◌}
use Rattle.std.specs.Str.{bytes_eq}
use Rattle.c_type.specs.Names.{pick}
use Rattle.c_scope.proofs.Indexed.{at_inserted, at_bytes, first_kept, first_put}
use Rattle.c_scope.proofs.first.insert_first.Goals as goal

pub returns-clause-first : goal.returns-clause-first
returns-clause-first g c x =
    let none : at_bytes (λ k. k.items) c.args.index.now.entries c.args.name.now ≡ None = search rules in
    let key : c.in_ok-key.key.items ≡ c.args.name.now = search rules in
    ap (λ l. at_bytes (λ k. k.items) l x) c.in_ok-insert.ensures.entries ∙ at_inserted (λ k. k.items) c.args.index.now.entries c.in_ok-key.key c.args.value x ∙
    ap (λ n. pick (bytes_eq x n) (Some c.args.value) (at_bytes (λ k. k.items) c.args.index.now.entries x)) key ∙
    first_put (λ k. k.items) c.args.index.now.entries c.args.name.now c.args.value x none

pub returns-then-is_some-clause-first : goal.returns-then-is_some-clause-first
returns-then-is_some-clause-first g c x =
    let some : is_some (at_bytes (λ k. k.items) c.args.index.now.entries c.args.name.now) ≡ true = search rules in
    first_kept (λ k. k.items) c.args.index.now.entries c.args.name.now c.args.value x some
