use Rattle.std.proofs.Common.{rules, ◌≡◌, List, [], ◌∷◌, ◌++◌, ap, ◌∙◌}
use Rattle.std.specs.List.{list_any}
use Rattle.std.specs.Str.{bytes_eq}
use Rattle.c_type.specs.Names.{Name}
use Rattle.c_grammar.specs.WrittenType.{is_typedef}
use Rattle.c_expr.proofs.Indexed.{key_added}
use Rattle.c_expr.proofs.typedefs.Typedefs.add.Goals as goal

pub invariant_of-self-2 : goal.invariant_of-self-2
invariant_of-self-2 c = record {
  indexed = λ x.
      let names : List Name = c.args.self.now.list.items in
      let pushed : names ++ c.in_ok-key.key.items ∷ [] ≡ c.push.new.self.items = search rules in
      ap (list_any (λ k. bytes_eq x k.items)) c.in_ok-insert.ensures.keys ∙ key_added (λ k. k.items) c.args.self.now.index.keys names c.in_ok-key.key c.args.self.now.indexed x ∙ ap (λ ns. is_typedef ns x) pushed;
}
