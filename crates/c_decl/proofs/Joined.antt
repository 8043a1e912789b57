-- The laws of reading declarations.
use Rattle.c_grammar.specs.Reads.{most}
use Rattle.c_decl.specs.Expression.{expression}
use Rattle.c_decl.specs.Laws.{IsWholeRead, IsHeadRead, IsLocalRead}
use Rattle.c_decl.proofs.Expressions.{expr_again}
use Rattle.c_decl.proofs.OutsideAgain.{whole_again, head_again}
use Rattle.c_decl.proofs.DeclAgain.{local_again}

pub whole_read : IsWholeRead
whole_read defs x after ok is low = whole_again defs most (expression defs) (expr_again defs) x after ok is low

pub head_read : IsHeadRead
head_read defs h after ok low block = head_again defs most (expression defs) (expr_again defs) h after ok low block

pub local_read : IsLocalRead
local_read defs d after ok low = local_again defs most (expression defs) (expr_again defs) d after ok low
