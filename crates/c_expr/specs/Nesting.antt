-- What each token does to the brackets and choices that are open.
use Rattle.std.specs.Prelude.{ℕ, zero, suc, max, Bool, nat_eq, ◌&&◌, ◌||◌, Option, Some, None}
use Rattle.c_type.specs.Names.{pick}
use Rattle.c_lex.specs.Tokens.{Tok}
use Rattle.c_lex.specs.Tokens as k
use Rattle.c_grammar.specs.Words.{open_round, close_round, open_square, close_square, open_brace, close_brace, comma_mark, semicolon, colon, question, sizeof_word}
use Rattle.c_expr.specs.Typename.{type_word_of, is_there}
use Rattle.c_expr.specs.declared.brackets.Sort.{Sort}
use Rattle.c_expr.specs.declared.brackets.Sort.TheVariants.{Opens, Closes, Comma, Question, Colon, Ends, Plain}
use Rattle.c_expr.specs.declared.brackets.Nesting.{Nesting}

-- ---- tokens

-- `struct`, `union` and `enum`
abbrev pub is_tag_word : ℕ → Bool
is_tag_word v = nat_eq v 19 || (nat_eq v 29 || nat_eq v 8)

-- the words that may stand in an expression
abbrev pub is_expr_word : ℕ → Bool
is_expr_word v = nat_eq v sizeof_word || (is_tag_word v || is_there (type_word_of v))

-- the marks that stand in no expression
abbrev pub ends_mark : ℕ → Bool
ends_mark m = nat_eq m open_brace || (nat_eq m close_brace || nat_eq m semicolon)

-- what the mark does
abbrev pub mark_sort : ℕ → Sort
mark_sort m =
    pick (nat_eq m open_round || nat_eq m open_square) Opens (pick (nat_eq m close_round || nat_eq m close_square) Closes
    (pick (nat_eq m comma_mark) Comma (pick (nat_eq m question) Question (pick (nat_eq m colon) Colon (pick (ends_mark m) Ends Plain)))))

-- what the token does
abbrev pub sort_of : Tok → Sort
sort_of (k.name x) = Plain
sort_of (k.int n long) = Plain
sort_of (k.chr n) = Plain
sort_of (k.text bytes) = Plain
sort_of (k.word v) = pick (is_expr_word v) Plain Ends
sort_of (k.mark m) = mark_sort m

-- ---- what is open behind a token

-- behind a closing bracket, where so many are open
abbrev pub closed : ℕ → Nesting → Option Nesting
closed zero n = None
closed (suc o) n = Some (record n { opened = o })

-- the choices behind a `?`, those within brackets being left out
abbrev pub asked_more : ℕ → ℕ → ℕ
asked_more zero asked = suc asked
asked_more (suc o) asked = asked

-- behind a `:`
abbrev pub answered : ℕ → ℕ → Nesting → Option Nesting
answered zero zero n = None
answered zero (suc asked) n = Some (record n { asked = asked })
answered (suc o) asked n = Some n

-- a comma outside of brackets and choices
abbrev pub is_apart : Nesting → Bool
is_apart n = nat_eq n.opened 0 && nat_eq n.asked 0

-- behind the token; None where no expression goes on
abbrev pub after : Bool → Nesting → Sort → Option Nesting
after single n Opens = Some (record n { opened = suc n.opened; most = max n.most (suc n.opened) })
after single n Closes = closed n.opened n
after single n Comma = pick (single && is_apart n) None (Some n)
after single n Question = Some (record n { asked = asked_more n.opened n.asked })
after single n Colon = answered n.opened n.asked n
after single n Ends = None
after single n Plain = Some n
