use Rattle.c_lex.proofs.quoted.+octal_from.Given as goal

abbrev pub decreases-octal_from : goal.decreases-octal_from
decreases-octal_from l = l.left
