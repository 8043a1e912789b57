-- The labels before a statement, and the statements of a line in parts.
use Rattle.std.proofs.Common.{◌≡◌, ℕ, ◌-◌, List, [], ◌∷◌, ◌++◌, length, take, drop, Option, Some, None, refl, sym, ap, ◌∙◌, append_assoc}
use Rattle.std.specs.Prelude.{map}
use Rattle.std.specs.Option.{option_map}
use Rattle.std.proofs.lemmas.List.{take_rest, map_push}
use Rattle.asm_read.specs.declared.stmt_list.Placed.{Placed}
use Rattle.asm_read.specs.Shown.{shown_stmt, shown_at}
use Rattle.asm_read.specs.declared.token.Sign.TheVariants as signs
use Rattle.asm_read.specs.declared.token.Token.{Token}
use Rattle.asm_read.specs.declared.token.Token.TheVariants as tokens
use Rattle.asm_read.specs.Lex.{all_shown}
use Rattle.asm_read.specs.Stmts.{Stmt, or_wrong, label_at, statement_at, label_front, stmts_at}
use Rattle.asm_read.specs.Reading.{At, at_line}

-- what the front of a part says of its statements
abbrev pub stmts_by : List Token → Option (List ℕ) → List Stmt
stmts_by [] None = []
stmts_by (t ∷ ts) None = statement_at (all_shown (t ∷ ts)) ∷ []
stmts_by ts (Some k) = label_at k ∷ stmts_at (all_shown (drop 2 ts))

pub fronts : (ts : List Token) → stmts_at (all_shown ts) ≡ stmts_by ts (label_front (all_shown ts))
fronts [] = refl
fronts (tokens.Word k ∷ []) = refl
fronts (tokens.Word k ∷ (tokens.Word w ∷ ts)) = refl
fronts (tokens.Word k ∷ (tokens.Mark signs.Comma ∷ ts)) = refl
fronts (tokens.Word k ∷ (tokens.Mark signs.Semicolon ∷ ts)) = refl
fronts (tokens.Word k ∷ (tokens.Mark signs.Colon ∷ ts)) = refl
fronts (tokens.Word k ∷ (tokens.Mark signs.Percent ∷ ts)) = refl
fronts (tokens.Word k ∷ (tokens.Mark signs.Dollar ∷ ts)) = refl
fronts (tokens.Word k ∷ (tokens.Mark signs.Minus ∷ ts)) = refl
fronts (tokens.Word k ∷ (tokens.Mark signs.Plus ∷ ts)) = refl
fronts (tokens.Word k ∷ (tokens.Mark signs.Open ∷ ts)) = refl
fronts (tokens.Word k ∷ (tokens.Mark signs.Close ∷ ts)) = refl
fronts (tokens.Word k ∷ (tokens.Mark signs.Star ∷ ts)) = refl
fronts (tokens.Word k ∷ (tokens.Mark (signs.Other c) ∷ ts)) = refl
fronts (tokens.Word k ∷ (tokens.Text q ∷ ts)) = refl
fronts (tokens.Word k ∷ (tokens.Bad ∷ ts)) = refl
fronts (tokens.Mark s ∷ ts) = refl
fronts (tokens.Text q ∷ ts) = refl
fronts (tokens.Bad ∷ ts) = refl

pub at_line_append : (n : ℕ) (ss us : List Stmt) → at_line n (ss ++ us) ≡ at_line n ss ++ at_line n us
at_line_append n [] us = refl
at_line_append n (s ∷ ss) us = ap (λ x. record { line = n; stmt = s } ∷ x) (at_line_append n ss us)

front_step : (rest : List Token) (k : List ℕ) → label_front (all_shown rest) ≡ Some k → stmts_at (all_shown rest) ≡ label_at k ∷ stmts_at (all_shown (take (length rest - 2) (drop 2 rest)))
front_step rest k e = fronts rest ∙ ap (stmts_by rest) e ∙ ap (λ x. label_at k ∷ stmts_at (all_shown x)) (sym (take_rest rest 2))

-- a label is put at the end, and the rest goes on behind its colon
pub put_label : (out : List Placed) (new : List Placed) (p : Placed) (rest : List Token) (k : List ℕ) (total : List At)
    → label_front (all_shown rest) ≡ Some k → or_wrong (option_map shown_stmt p.stmt) ≡ label_at k → new ≡ out ++ (p ∷ [])
    → map shown_at out ++ at_line p.line (stmts_at (all_shown rest)) ≡ total
    → map shown_at new ++ at_line p.line (stmts_at (all_shown (take (length rest - 2) (drop 2 rest)))) ≡ total
put_label out new p rest k total front made pushed so_far =
    ap (λ x. map shown_at x ++ at_line p.line (stmts_at (all_shown (take (length rest - 2) (drop 2 rest))))) pushed
    ∙ ap (λ x. x ++ at_line p.line (stmts_at (all_shown (take (length rest - 2) (drop 2 rest))))) (map_push shown_at out p)
    ∙ append_assoc (map shown_at out) (shown_at p ∷ []) (at_line p.line (stmts_at (all_shown (take (length rest - 2) (drop 2 rest)))))
    ∙ ap (λ s. map shown_at out ++ (record { line = p.line; stmt = s } ∷ at_line p.line (stmts_at (all_shown (take (length rest - 2) (drop 2 rest)))))) made
    ∙ ap (λ ss. map shown_at out ++ at_line p.line ss) (sym (front_step rest k front))
    ∙ so_far
