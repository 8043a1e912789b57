use Rattle.std.proofs.Common.{rules, ◌≡◌, List, [], ◌∷◌, ◌++◌, length, Some, None, ap, sym, ◌∙◌}
use Rattle.std.specs.Str.{bytes_eq}
use Rattle.c_type.specs.Names.{Name, pick, or_else}
use Rattle.c_check.specs.Places.{place_from}
use Rattle.c_check.proofs.Placed.{place_last}
use Rattle.c_check.proofs.name_list.NameList.add.Goals as goal

pub invariant_of-self-2 : goal.invariant_of-self-2
invariant_of-self-2 c = record {
  indexed = λ x.
      let ns : List Name = c.args.self.now.names.items in
      let y : Name = c.args.name.now in
      let pushed : ns ++ y ∷ [] ≡ c.push.new.self.items = search rules in
      let number : c.len-place.result ≡ length ns = search rules in
      c.in_ok-insert_first.ensures.first x ∙ ap (λ o. or_else o (pick (bytes_eq x y) (Some c.len-place.result) None)) (c.args.self.now.indexed x) ∙
      ap (λ n. or_else (place_from 0 ns x) (pick (bytes_eq x y) (Some n) None)) number ∙
      sym (place_last ns y x) ∙ ap (λ l. place_from 0 l x) pushed;
}
