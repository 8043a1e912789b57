-- Texts of the small form.
use Rattle.std.specs.Prelude.{ℕ, suc, ◌-◌, ◌≡◌, ◌≤◌, ◌&&◌, nat_eq, nat_le, Bool, true, List, [], ◌∷◌, length, Some}
use Rattle.c_type.specs.Names.{pick}
use Rattle.c_lex.specs.Tokens.{Token, Tok}
use Rattle.c_lex.specs.Tokens as k
use Rattle.c_lex.specs.Falls.{Falls}
use Rattle.c_grammar.specs.Words.{open_round, close_round}
use Rattle.c_tree.specs.TreeUnit as tu
use Rattle.c_grammar.specs.Reads.{ReadsTokens}
use Rattle.c_tree.specs.TUnit.{Func}
use Rattle.small_form.specs.SmallForm.{small_main}

-- how many `(` are open at a token, where so many were open before it
abbrev pub round_open : ℕ → Tok → ℕ
round_open n (k.mark m) = pick (nat_eq m open_round) (suc n) (pick (nat_eq m close_round) (n - 1) n)
round_open n _ = n

-- at no token are more than 62 `(` open
abbrev pub are_few : ℕ → List Token → Bool
are_few n [] = true
are_few n (x ∷ ts) = nat_le (round_open n x.kind) 62 && are_few (round_open n x.kind) ts

-- The tokens are of the small form, and this is their main. That no more than 200 brackets are open and that the tree is no deeper
-- than 200 is asked of every unit.
pub record AreSmallTokens (tokens : List Token) (f : Func) : Type 0 where
  pub unit : tu.Unit
  pub reads : ReadsTokens tokens unit
  pub few : are_few 0 tokens ≡ true
  pub main_is : small_main unit ≡ Some f

-- the text is of the small form, and this is its main
pub record IsSmallText (text : List ℕ) (f : Func) : Type 0 where
  pub tokens : List Token
  pub falls : Falls text tokens
  pub small : AreSmallTokens tokens f
  pub short : length text ≤ 131000

-- the texts are one, which is of the small form, and this is its main
pub record AreSmallTexts (texts : List (List ℕ)) (f : Func) : Type 0 where
  pub text : List ℕ
  pub one : texts ≡ text ∷ []
  pub small : IsSmallText text f
