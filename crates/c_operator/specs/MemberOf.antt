-- A member of a structure by its number and its type.
use Rattle.std.specs.Prelude.{ℕ, Option, Some, None}
use Rattle.c_type.specs.Names.{Name, at_or}
use Rattle.c_type.specs.Of.{type_of}
use Rattle.c_type.specs.Types.{CType, ptr, struct}
use Rattle.c_type.specs.Sizes.{no_tag}
use Rattle.c_rule.specs.RuleScope.{Judged, Is, Fails, provided, Env, known, is_sized}
use Rattle.c_rule.specs.RuleExprs.{member_from}
use Rattle.c_operator.specs.declared.postfix.Held.{Held}

abbrev pub held : Held → ℕ × CType
held x = (x.number, type_of x.ty)

-- rule 19 where there is no such member
abbrev pub found : Option (ℕ × CType) → Judged (ℕ × CType)
found None = Fails 19
found (Some p) = Is p

-- a member of a structure that is closed
abbrev pub member_in : Env → CType → Name → Judged (ℕ × CType)
member_in c (struct k) x = provided 3 (is_sized (known c) (struct k)) (found (member_from 0 (at_or no_tag c.tags k).members x))
member_in c _ x = Fails 19

-- what a pointer points to, by rule 19
abbrev pub pointed : CType → Judged CType
pointed (ptr t) = Is t
pointed _ = Fails 19
