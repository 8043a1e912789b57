use Rattle.std.proofs.Common.{rules, ◌≡◌}
use Rattle.c_tree.specs.TreeOf.{expr_of, exprs_from}
use Rattle.c_rule.specs.RuleScope.{met}
use Rattle.c_rule.specs.RuleTexts.{texts_in, texts_in_all}
use Rattle.c_scope.specs.EnvOf.{env_of}
use Rattle.c_local.proofs.TextsMet.{call_met}
use Rattle.c_local.proofs.texts.+texts.Goals as goal

pub pass-returns-in_ok-pass_all-in-Call : goal.pass-returns-in_ok-pass_all-in-Call
pass-returns-in_ok-pass_all-in-Call t c =
    let first : env_of c.pass-in-Call.new.c ≡ met (texts_in (expr_of c.in-Call.called.value)) (env_of c.args.c.now) = search rules in
    let rest : env_of c.pass_all.new.c ≡ met (texts_in_all (exprs_from c.in-Call.args.items)) (env_of c.pass-in-Call.new.c) = search rules in
    record { past = call_met _ _ _ _ _ _ _ c.in-Call.is first rest }
