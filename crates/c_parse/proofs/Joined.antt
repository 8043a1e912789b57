-- The laws of reading a unit.
use Rattle.std.proofs.Common.{◌≡◌, subst}
use Rattle.c_grammar.specs.Reads.{ReadsTokens}
use Rattle.c_lex.proofs.Once.{falls_once}
use Rattle.c_decl.specs.Expression.{expression}
use Rattle.c_decl.proofs.Expressions.{expr_again, expr_takes}
use Rattle.c_parse.specs.Laws.{IsOneReading, IsOneUnit, IsRead, IsSpelled}
use Rattle.c_parse.proofs.UnitAgain as u
use Rattle.c_parse.proofs.UnitTakes as v

pub one_unit : IsOneUnit
one_unit = u.one_unit expression expr_again

pub is_read : IsRead
is_read = u.unit_reads expression expr_again

pub is_spelled : IsSpelled
is_spelled = v.unit_found expression (record { again = expr_again; takes = expr_takes })

pub one_reading : IsOneReading
one_reading bytes y z a b =
    let same : a.tokens ≡ b.tokens = falls_once bytes a.tokens b.tokens a.falls b.falls in
    one_unit b.tokens y z (subst (λ ts. ReadsTokens ts y) same a.reads) b.reads
