use Rattle.std.proofs.Common.{rules, arith, ◌≡◌, ℕ, ◌+◌, ◌-◌, List, ◌∷◌, length, take, get_or, ap, sym, ◌∙◌}
use Rattle.std.proofs.lemmas.Grind.{common_steps}
use Rattle.std.proofs.lemmas.Result.{on_ok_weaker}
use Rattle.c_rule.specs.RuleScope.{Entry}
use Rattle.c_rule.specs.RuleStmts.{added}
use Rattle.c_scope.specs.declared.scope.Scope.{Scope}
use Rattle.c_scope.specs.Entries.{meaning_of}
use Rattle.c_scope.specs.EnvOf.{env_of, scope_of, blocks_of}
use Rattle.c_scope.proofs.Blocks.{last_row, last_set}
use Rattle.c_scope.proofs.scopes.Scopes.add_here.Goals as goal

pub returns : goal.returns
unfolding env_of
returns c =
    let bs : List Scope = c.args.self.now.blocks.items in
    let k : ℕ = c.len-innermost.result - 1 in
    let old : Scope = c.index_mut.result.now in
    let n : Scope = c.add.new.self in
    let entry : Entry = record { name = c.args.name; meaning = meaning_of c.args.meaning } in
    let e : k + 1 ≡ length bs = grind (arith, common_steps) in
    let at : old ≡ get_or bs k old = search rules in
    let row : blocks_of bs ≡ scope_of old ∷ blocks_of (take k bs) = last_row bs k old e ∙ ap (λ t. scope_of t ∷ blocks_of (take k bs)) (sym at) in
    record {
      added =
          on_ok_weaker c.add.result
          (λ more. ap (λ l. record (env_of c.args.self.now) { blocks = l }) (last_set bs k n e ∙ ap (λ x. x ∷ blocks_of (take k bs)) more ∙ sym (ap (added entry) row)))
          c.add.ensures.added;
    }
