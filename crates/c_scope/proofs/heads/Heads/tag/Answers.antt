use Rattle.std.proofs.Common.{rules, ◌≡◌, ℕ, List, map, Some, None, true, false, ap, sym, ◌∙◌}
use Rattle.c_rule.specs.RuleScope.{Judged, Is, Fails, provided, same_kind, type_of_tag}
use Rattle.c_type.specs.declared.TagKind.{TagKind}
use Rattle.c_rule.specs.RuleScope as r
use Rattle.c_scope.specs.Entries.{head_of}
use Rattle.c_scope.specs.Places.{head_from}
use Rattle.c_scope.proofs.Firsts.{tag_by_head, by_head}
use Rattle.c_scope.proofs.heads.Heads.tag.Goals as goal

pub returns : goal.returns
returns c =
    let hs : List r.TagHead = map head_of c.args.self.now.list.items in
    let p : ℕ × TagKind = c.in-Some.field-0.now in
    let some : head_from 0 hs c.args.name.now ≡ Some p = sym (c.args.self.now.indexed c.args.name.now) ∙ sym c.get.ensures.value ∙ (search rules) in
    let same : same_kind c.args.kind p.1 ≡ true = search rules in
    record {
      judged = tag_by_head 0 hs c.args.kind c.args.name.now ∙ ap (by_head c.args.kind) some ∙ ap (λ b. provided 3 b (Is (type_of_tag c.args.kind p.0))) same ∙
          ap Is (sym c.tagged.ensures.value);
    }

pub returns-then-not-is_same : goal.returns-then-not-is_same
returns-then-not-is_same c =
    let hs : List r.TagHead = map head_of c.args.self.now.list.items in
    let p : ℕ × TagKind = c.in-Some.field-0.now in
    let some : head_from 0 hs c.args.name.now ≡ Some p = sym (c.args.self.now.indexed c.args.name.now) ∙ sym c.get.ensures.value ∙ (search rules) in
    let differ : same_kind c.args.kind p.1 ≡ false = search rules in
    record {
      judged = tag_by_head 0 hs c.args.kind c.args.name.now ∙ ap (by_head c.args.kind) some ∙ ap (λ b. provided 3 b (Is (type_of_tag c.args.kind p.0))) differ;
    }

pub returns-in_default : goal.returns-in_default
returns-in_default c =
    let hs : List r.TagHead = map head_of c.args.self.now.list.items in
    let none : head_from 0 hs c.args.name.now ≡ None = sym (c.args.self.now.indexed c.args.name.now) ∙ sym c.get.ensures.value ∙ (search rules) in
    record { judged = tag_by_head 0 hs c.args.kind c.args.name.now ∙ ap (by_head c.args.kind) none }
