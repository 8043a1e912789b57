use Rattle.std.proofs.Common.{rules, ◌≡◌, List, [], ◌∷◌, ◌++◌, length, map, Some, None, ap, sym, ◌∙◌}
use Rattle.std.specs.Str.{bytes_eq}
use Rattle.std.proofs.lemmas.List.{map-append, length-map}
use Rattle.c_type.specs.Names.{pick, or_else}
use Rattle.c_scope.specs.declared.heads.Head.{Head}
use Rattle.c_scope.specs.Entries.{head_of}
use Rattle.c_scope.specs.Places.{head_from}
use Rattle.c_scope.proofs.Firsts.{head_last}
use Rattle.c_scope.proofs.heads.Heads.add.Goals as goal

pub invariant_of-self-2 : goal.invariant_of-self-2
invariant_of-self-2 c = record {
  indexed = λ x.
      let hs : List Head = c.args.self.now.list.items in
      let h : Head = record { name = c.args.name; kind = c.args.kind; line = c.args.line } in
      let pushed : hs ++ h ∷ [] ≡ c.push_reserved.new.self.items = search rules in
      let number : c.in_ok-number.number ≡ length (map head_of hs) = (let e : c.in_ok-number.number ≡ length hs = search rules in e) ∙ sym (length-map hs head_of) in
      let bytes : c.as_slice.result.now ≡ c.args.name = search rules in
      c.in_ok-insert_first.ensures.first x ∙ ap (λ o. or_else o (pick (bytes_eq x c.as_slice.result.now) (Some (c.in_ok-number.number, c.args.kind)) None)) (c.args.self.now.indexed x) ∙
      ap (λ n. or_else (head_from 0 (map head_of hs) x) (pick (bytes_eq x n) (Some (c.in_ok-number.number, c.args.kind)) None)) bytes ∙
      ap (λ n. or_else (head_from 0 (map head_of hs) x) (pick (bytes_eq x c.args.name) (Some (n, c.args.kind)) None)) number ∙
      sym (head_last (map head_of hs) (head_of h) x) ∙ ap (λ l. head_from 0 l x) (sym (map-append head_of hs (h ∷ []))) ∙ ap (λ l. head_from 0 (map head_of l) x) pushed;
}
