-- The laws that join reading to spelling.
use Rattle.std.specs.Prelude.{◌≡◌, ◌≤◌, ◌+◌, ℕ, List, Some}
use Rattle.c_type.specs.Names.{Name}
use Rattle.c_lex.specs.Tokens.{Token}
use Rattle.c_tree.specs.TreeExpr.{Expr, expr_depth}
use Rattle.c_grammar.specs.WrittenExpr.{Written, IsAtLevel, plain, spell}
use Rattle.c_grammar.specs.Reads.{Spells, most, AreShallow}
use Rattle.c_expr.specs.Reading as r
use Rattle.c_expr.specs.Ends.{Ends, nest}
use Rattle.c_expr.specs.Brackets.{brackets}

-- At most one expression of a level spells tokens up to where it may end.
abbrev pub IsOneReading : Type 0
IsOneReading = (defs : List Name) (l : ℕ) (e d : Expr) (ts x y : List Token) → Spells defs l e ts x → Spells defs l d ts y → Ends l x → Ends l y → (e ≡ d) × (x ≡ y)

-- What is read at the front is spelled there, and is no deeper than the greatest depth.
abbrev pub IsSpelled : Type 0
IsSpelled = (defs : List Name) (most n l : ℕ) (ts : List Token) (x : Expr × List Token) → 1 ≤ most → l ≤ 14 → r.expr defs most n l ts ≡ Some x → Spells defs l x.0 ts x.1 × (expr_depth x.0 ≤ most)

-- What is spelled up to where it may end is read, where its depth and its nesting are within the numbers.
abbrev pub IsRead : Type 0
IsRead = (defs : List Name) (most n l : ℕ) (e : Written) (after : List Token) → IsAtLevel defs l e → nest e ≤ n → expr_depth (plain e) ≤ most → Ends l after
    → r.expr defs most n l (spell e after) ≡ Some (plain e, after)

-- Parts and brackets stand no deeper in one another than the tree is deep and brackets are open at once.
abbrev pub IsNestedByBrackets : Type 0
IsNestedByBrackets = (e : Written) → nest e ≤ expr_depth (plain e) + brackets e

-- Where no more brackets are open at a token than the greatest number, those of an expression and those before it are no more.
abbrev pub AreBracketsFew : Type 0
AreBracketsFew = (n : ℕ) (e : Written) (after : List Token) → n ≤ most → AreShallow n (spell e after) → (n + brackets e ≤ most) × AreShallow n after
