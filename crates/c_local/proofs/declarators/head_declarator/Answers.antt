use Rattle.c_tree.specs.TreeOf.{declr_of}
use Rattle.c_scope.specs.EnvOf.{env_of}
use Rattle.c_local.proofs.TextsMet.{forgotten_declr}
use Rattle.c_local.proofs.declarators.head_declarator.Goals as goal

pub returns-clause-same : goal.returns-clause-same
returns-clause-same c =
    forgotten_declr (declr_of c.args.declr.now) (env_of c.args.c.now) (env_of c.declarator.new.c) (env_of c.forget_texts.new.self) c.count_texts-count.result c.count_texts-count.ensures.value
    c.in_ok-typed.ensures.past c.forget_texts.ensures.first
