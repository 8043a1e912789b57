-- What the front end answers where it gives no program.
use Rattle.std.specs.Prelude.{◌≡◌, ℕ, List, ⊤}
use Rattle.c_tree.specs.TreeUnit.{Unit}
use Rattle.c_rule.specs.RuleUnit.{IsTyped}
use Rattle.c_rule.specs.RuleFailsUnit.{UnitFails}
use Rattle.c_whole.specs.Refusals.{told_as}
use Rattle.c_whole.specs.declared.JoinErr.{JoinErr}
use Rattle.c_whole.specs.declared.JoinErr.TheVariants as whole
use Rattle.c_lex.specs.declared.LexErr.{LexErr}
use Rattle.c_lex.specs.declared.LexErr.TheVariants as lex
use Rattle.c_expr.specs.declared.ParseErr.{ParseErr}
use Rattle.c_expr.specs.declared.ParseErr.TheVariants as parse
use Rattle.c_front.specs.First.{IsFirst}
use Rattle.c_front.specs.Accepted.{IsUnread}
use Rattle.c_front.specs.Causes.{IsSyntax, IsRule, IsJoinAs}
use Rattle.c_front.specs.declared.front.FrontErr.{FrontErr}
use Rattle.c_front.specs.declared.front.FrontErr.TheVariants.{Syntax, Rule, Join, Memory}

-- An error is right: its cause is there. Want of memory says nothing of the texts.
abbrev pub IsRightErr : List (List ℕ) → FrontErr → Type 0
IsRightErr texts (Syntax k line) = IsSyntax texts k
IsRightErr texts (Rule k line rule) = IsRule texts k rule
IsRightErr texts (Join why) = IsJoinAs texts (told_as why)
IsRightErr texts Memory = ⊤

-- what a refusal of a text's bytes or tokens is here
abbrev pub lex_err : ℕ → LexErr → FrontErr
lex_err k (lex.BadByte line) = Syntax k line
lex_err k (lex.OpenComment line) = Syntax k line
lex_err k (lex.OpenText line) = Syntax k line
lex_err k (lex.NumberTooLarge line) = Syntax k line
lex_err k lex.Memory = Memory

abbrev pub parse_err : ℕ → ParseErr → FrontErr
parse_err k (parse.TooDeep line) = Syntax k line
parse_err k (parse.NotC line) = Syntax k line
parse_err k parse.Memory = Memory

-- what a refusal of the join is here
abbrev pub join_refused : JoinErr → FrontErr
join_refused whole.NoMain = Join whole.NoMain
join_refused (whole.Twice x) = Join (whole.Twice x)
join_refused (whole.Undefined x) = Join (whole.Undefined x)
join_refused (whole.Clash x) = Join (whole.Clash x)
join_refused (whole.Arguments x) = Join (whole.Arguments x)
join_refused whole.Memory = Memory

-- an error of text k alone
abbrev pub IsTextErr : List ℕ → ℕ → FrontErr → Type 0
IsTextErr text k (Syntax file line) = (file ≡ k) × IsUnread text
IsTextErr text k (Rule file line rule) = ⊥
IsTextErr text k (Join why) = ⊥
IsTextErr text k Memory = ⊤

-- an error of unit k alone
abbrev pub IsUnitErr : Unit → ℕ → FrontErr → Type 0
IsUnitErr u k (Rule file line rule) = (file ≡ k) × UnitFails u rule
IsUnitErr u k (Syntax file line) = ⊥
IsUnitErr u k (Join why) = ⊥
IsUnitErr u k Memory = ⊤

-- an error of units
abbrev pub IsUnitsErr : List Unit → FrontErr → Type 0
IsUnitsErr us (Rule file line rule) = IsFirst IsTyped (λ u. UnitFails u rule) us file
IsUnitsErr us (Syntax file line) = ⊥
IsUnitsErr us (Join why) = ⊥
IsUnitsErr us Memory = ⊤
