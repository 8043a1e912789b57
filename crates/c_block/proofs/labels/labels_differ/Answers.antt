use Rattle.std.proofs.Common.{rules, ◌≡◌, ◌+◌, List, [], ◌∷◌, ◌++◌, drop, nat_eq, true, false, sym, ap, ◌∙◌, arith}
use Rattle.std.proofs.lemmas.List.{drop_all}
use Rattle.std.specs.List.{list_any}
use Rattle.c_tree.specs.declared.typed_stmt.TSwItem.{TSwItem}
use Rattle.c_tree.specs.declared.typed_stmt.TSwItem.TheVariants.{Default}
use Rattle.c_tree.specs.TypedOf.{item_of, items_from}
use Rattle.c_local.proofs.FromHere.{from_here}
use Rattle.c_block.proofs.LabelsDiffer.{left_differ, at_last, past_stmt, past_default, past_case, second_case}
use Rattle.c_block.proofs.labels.labels_differ.Goals.{in-Case+in_ok-insert-in-Case+else-not-branch, in-Default+else-has_default, in-Stmt}
use Rattle.c_block.proofs.labels.labels_differ.Goals as goal

pub returns-then-not-branch : goal.returns-then-not-branch
returns-then-not-branch c =
    let xs : List TSwItem = c.args.items.now in
    let rest = items_from (drop (c.loop-item.item-index + 1) xs) in
    let seen = c.loop-item.cases.keys in
    let d = c.loop-item.has_default in
    let had : list_any (nat_eq c.in-Case.value) seen ≡ true = search rules in
    sym (c.loop-item.invariant ∙ ap (λ is. left_differ seen d (items_from is)) (from_here xs c.loop-item.item-index c.item-item.result (omega arith) c.item-item.is) ∙
    ap (λ x. left_differ seen d (item_of x rest)) c.in-Case.is ∙ second_case seen d _ _ rest had)

pub loop-item-preserved : goal.loop-item-preserved
loop-item-preserved c =
    let xs : List TSwItem = c.args.items.now in
    let rest = items_from (drop (c.loop-item.item-index + 1) xs) in
    let seen = c.loop-item.cases.keys in
    let d = c.loop-item.has_default in
    let here = c.loop-item.invariant ∙ ap (λ is. left_differ seen d (items_from is)) (from_here xs c.loop-item.item-index c.item-item.result (omega arith) c.item-item.is) in
    elim c.match-item.branch [
      | in-Case+in_ok-insert-in-Case+else-not-branch w ↦
          let new : list_any (nat_eq w.in-Case.value) seen ≡ false = search rules in
          let keys : seen ++ w.in-Case.value ∷ [] ≡ c.match-item.cases.keys = search rules in
          here ∙ ap (λ x. left_differ seen d (item_of x rest)) w.in-Case.is ∙ past_case seen d _ _ rest new ∙
          ap (λ ks. left_differ ks d rest) keys ∙ ap (λ b. left_differ c.match-item.cases.keys b rest) (sym w.has_default-is)
      | in-Default+else-has_default w ↦
          let none : d ≡ false = search rules in
          here ∙ ap (λ x. left_differ seen d (item_of x rest)) w.in-Default.is ∙ ap (λ b. left_differ seen b (item_of Default rest)) none ∙ past_default seen rest ∙
          ap (λ cs. left_differ cs.keys true rest) (sym w.cases-is) ∙ ap (λ b. left_differ c.match-item.cases.keys b rest) (sym w.has_default-is)
      | in-Stmt w ↦
          here ∙ ap (λ x. left_differ seen d (item_of x rest)) w.in-Stmt.is ∙ past_stmt seen d _ rest ∙
          ap (λ cs. left_differ cs.keys d rest) (sym w.cases-is) ∙ ap (λ b. left_differ c.match-item.cases.keys b rest) (sym w.has_default-is)
    ]

pub returns : goal.returns
returns c =
    let none : drop c.loop-item.item-index c.args.items.now ≡ [] = drop_all c.loop-item.item-index c.args.items.now (omega arith) in
    sym (c.loop-item.invariant ∙ ap (λ is. left_differ c.loop-item.cases.keys c.loop-item.has_default (items_from is)) none ∙ at_last c.loop-item.cases.keys c.loop-item.has_default)
