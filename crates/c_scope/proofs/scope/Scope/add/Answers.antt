use Rattle.std.proofs.Common.{rules, ◌≡◌, List, [], ◌∷◌, ◌++◌, length, Some, ap, sym, ◌∙◌}
use Rattle.std.specs.Str.{bytes_eq}
use Rattle.c_type.specs.Names.{pick}
use Rattle.c_scope.specs.declared.scope.Entry.{Entry}
use Rattle.c_scope.specs.Entries.{entries_of}
use Rattle.c_scope.specs.Places.{place_of}
use Rattle.c_scope.proofs.Indexed.{at_bytes}
use Rattle.c_scope.proofs.Entered.{entered, entries_length}
use Rattle.c_scope.proofs.scope.Scope.add.Goals as goal

pub invariant_of-self-2 : goal.invariant_of-self-2
invariant_of-self-2 c = record {
  indexed = λ x.
      let es : List Entry = c.args.self.now.entries.items in
      let e : Entry = record { name = c.args.name; meaning = c.args.meaning } in
      let pushed : es ++ e ∷ [] ≡ c.push_reserved.new.self.items = search rules in
      let bytes : c.as_slice.result.now ≡ c.args.name = search rules in
      c.in_ok-lead_to_next.ensures.led x ∙ ap (λ n. pick (bytes_eq x n) (Some (length es)) (at_bytes (λ k. k.items) c.args.self.now.index.entries x)) bytes ∙
      ap (λ n. pick (bytes_eq x c.args.name) (Some n) (at_bytes (λ k. k.items) c.args.self.now.index.entries x)) (sym (entries_length es)) ∙
      ap (pick (bytes_eq x c.args.name) (Some (length (entries_of es)))) (c.args.self.now.indexed x) ∙
      sym (ap (place_of x) (entered es e)) ∙ ap (λ l. place_of x (entries_of l)) pushed;
}
