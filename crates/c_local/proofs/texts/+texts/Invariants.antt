-- The texts that are left decide.
use Rattle.std.proofs.Common.{◌≡◌, drop}
use Rattle.c_tree.specs.TreeOf as u
use Rattle.c_rule.specs.RuleScope.{met}
use Rattle.c_rule.specs.RuleTexts.{texts_in_all}
use Rattle.c_scope.specs.EnvOf.{env_of}
use Rattle.c_local.proofs.texts.+texts.Given as goal

abbrev pub invariant-pass_all-loop-expr : goal.invariant-pass_all-loop-expr
invariant-pass_all-loop-expr l = met (texts_in_all (u.exprs_from (drop l.expr-index l.exprs))) (env_of l.c) ≡ met (texts_in_all (u.exprs_from l.exprs)) (env_of l.initial.c)
