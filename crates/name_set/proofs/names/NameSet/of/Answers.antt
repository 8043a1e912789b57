use Rattle.std.proofs.Common.{rules, ◌≡◌, ◌++◌, ◌∷◌, [], true, false, map, drop, drop-cons, add-one, ap, sym, refl, ◌∙◌, ◌+◌}
use Rattle.std.specs.List.{list_any}
use Rattle.std.specs.Str.{bytes_eq}
use Rattle.name_set.specs.Different.{are_different, stands_in}
use Rattle.name_set.proofs.Different.{names_of, stands_among, twice, differ_more, added_last, is_old, is_new}
use Rattle.std.proofs.lemmas.List.{append_assoc}
use Rattle.name_set.proofs.names.NameSet.of.Goals as goal

pub returns-then-not-branch-clause-differ : goal.returns-then-not-branch-clause-differ
returns-then-not-branch-clause-differ c =
    let all = c.args.names.now in
    let names = names_of c.loop-name.set.keys in
    let key = c.in_ok-to_vec.field-0 in
    let item = c.name-item.result in
    let rest = drop (c.loop-name.name-index + 1) all in
    let same : key.items ≡ item = search rules in
    let split : drop c.loop-name.name-index all ≡ item ∷ rest = drop-cons all c.loop-name.name-index item c.loop-name-test.true ∙ (rw (← c.name-item.is, add-one) refl) in
    let there : list_any (λ k. bytes_eq key.items k.items) c.loop-name.set.keys ≡ true = is_old c.in_ok-insert.field-0 (list_any (λ k. bytes_eq key.items k.items) c.loop-name.set.keys) c.in_ok-insert.ensures.added c.if-not-branch.true in
    let stands : stands_in names key.items ≡ true = sym (stands_among (λ k. k.items) c.loop-name.set.keys key.items) ∙ there in
    let whole : names ++ key.items ∷ rest ≡ all = ap (λ z. names ++ z ∷ rest) same ∙ ap (λ z. names ++ z) (sym split) ∙ c.loop-name.invariant.first in
    sym (sym (ap are_different whole) ∙ twice names key.items rest stands)

pub loop-name-preserved : goal.loop-name-preserved
loop-name-preserved c =
    let all = c.args.names.now in
    let names = names_of c.loop-name.set.keys in
    let key = c.in_ok-to_vec.field-0 in
    let item = c.name-item.result in
    let rest = drop (c.loop-name.name-index + 1) all in
    let same : key.items ≡ item = search rules in
    let split : drop c.loop-name.name-index all ≡ item ∷ rest = drop-cons all c.loop-name.name-index item c.loop-name-test.true ∙ (rw (← c.name-item.is, add-one) refl) in
    let none : list_any (λ k. bytes_eq key.items k.items) c.loop-name.set.keys ≡ false = is_new c.in_ok-insert.field-0 (list_any (λ k. bytes_eq key.items k.items) c.loop-name.set.keys) c.in_ok-insert.ensures.added c.if-not-branch.false in
    let new : stands_in names key.items ≡ false = sym (stands_among (λ k. k.items) c.loop-name.set.keys key.items) ∙ none in
    let more : names_of c.insert.new.self.keys ≡ names ++ key.items ∷ [] =
    ap (map (λ k. k.items)) c.in_ok-insert.ensures.keys ∙ added_last (λ k. k.items) c.loop-name.set.keys key none in
    record {
      first = ap (λ ns. ns ++ rest) more ∙ append_assoc names (key.items ∷ []) rest ∙ ap (λ z. names ++ z ∷ rest) same ∙ ap (λ z. names ++ z) (sym split) ∙ c.loop-name.invariant.first;
      differ = ap are_different more ∙ differ_more names key.items c.loop-name.invariant.differ new;
    }
