use Rattle.std.proofs.Common.{rules, ◌≡◌, List, [], ◌∷◌, ◌++◌, length, map, Some, None, true, false, refl, ap, sym, ◌∙◌}
use Rattle.std.specs.Str.{bytes_eq}
use Rattle.std.proofs.lemmas.List.{map-append, length-map}
use Rattle.c_type.specs.Names.{pick, or_else}
use Rattle.c_rule.specs.RuleScope.{body_from}
use Rattle.c_scope.specs.declared.bodies.Body.{Body}
use Rattle.c_scope.specs.Entries.{body_of}
use Rattle.c_scope.proofs.Firsts.{own_added, other_added}
use Rattle.c_scope.proofs.bodies.Bodies.add_outside.Goals as goal

pub invariant_of-self-2 : goal.invariant_of-self-2
invariant_of-self-2 c =
    let fs : List Body = c.args.self.now.list.items in
    let f : Body = record { name = c.args.name; is_static = false } in
    let pushed : map body_of fs ++ body_of f ∷ [] ≡ map body_of c.push_reserved.new.self.items = search (rules, map-append) in
    let number : c.in_ok-number.number ≡ length (map body_of fs) = (let e : c.in_ok-number.number ≡ length fs = search rules in e) ∙ sym (length-map fs body_of) in
    let bytes : c.as_slice.result.now ≡ c.args.name = search rules in
    record {
      own_indexed = λ x. c.args.self.now.own_indexed x ∙ sym (other_added (map body_of fs) (body_of f) true x refl) ∙ ap (λ l. body_from 0 l true x) pushed;
      outside_indexed = λ x.
          c.in_ok-insert_first.ensures.first x ∙ ap (λ o. or_else o (pick (bytes_eq x c.as_slice.result.now) (Some c.in_ok-number.number) None)) (c.args.self.now.outside_indexed x) ∙
          ap (λ n. or_else (body_from 0 (map body_of fs) false x) (pick (bytes_eq x n) (Some c.in_ok-number.number) None)) bytes ∙
          ap (λ n. or_else (body_from 0 (map body_of fs) false x) (pick (bytes_eq x c.args.name) (Some n) None)) number ∙
          sym (own_added (map body_of fs) (body_of f) false x refl) ∙ ap (λ l. body_from 0 l false x) pushed;
    }
