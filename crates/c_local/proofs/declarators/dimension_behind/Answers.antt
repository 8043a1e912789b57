use Rattle.c_tree.specs.TreeOf.{declr_of, expr_of}
use Rattle.c_scope.specs.EnvOf.{env_of}
use Rattle.c_local.proofs.TextsMet.{forgotten_behind}
use Rattle.c_local.proofs.declarators.dimension_behind.Goals as goal

pub returns-clause-same : goal.returns-clause-same
returns-clause-same c =
    forgotten_behind (declr_of c.args.inner.now) (expr_of c.args.e.now) (env_of c.args.c.now) (env_of c.pass_dimensions.new.c) (env_of c.dimension_expr.new.c) (env_of c.forget_texts.new.self)
    c.count_texts-count.result c.count_texts-count.ensures.value c.in_ok-pass_dimensions.ensures.past c.in_ok-number.ensures.past c.forget_texts.ensures.first
