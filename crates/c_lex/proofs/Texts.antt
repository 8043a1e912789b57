-- Steps of reading a text.
use Rattle.std.proofs.Common.{◌≡◌, ℕ, suc, List, [], ◌∷◌, ◌++◌, Some, None, refl, sym, ap, ◌∙◌}
use Rattle.c_lex.specs.Reading.{eat, item, text, text_by, ◌>>=◌}

text_step : (m : ℕ) (bs ts : List ℕ) → text (suc m) bs ts ≡ text_by (text m) bs ts (eat 34 ts)
unfolding text
text_step m bs ts = refl

pub text_done : (n m : ℕ) (bs ts after : List ℕ) → n ≡ suc m → Some after ≡ eat 34 ts → text n bs ts ≡ Some (bs, after)
text_done n m bs ts after e f = ap (λ k. text k bs ts) e ∙ text_step m bs ts ∙ ap (λ o. text_by (text m) bs ts o) (sym f)

next_by : (m : ℕ) (bs ts after : List ℕ) (v : ℕ) → Some (v, after) ≡ item 34 ts → text_by (text m) bs ts None ≡ text m (bs ++ v ∷ []) after
next_by m bs ts after v f = ap (λ o. o >>= λ x. text m (bs ++ x.0 ∷ []) x.1) (sym f)

pub text_next : (n m : ℕ) (bs ts after : List ℕ) (v : ℕ) → n ≡ suc m → None ≡ eat 34 ts → Some (v, after) ≡ item 34 ts → text n bs ts ≡ text m (bs ++ v ∷ []) after
text_next n m bs ts after v e f g = ap (λ k. text k bs ts) e ∙ text_step m bs ts ∙ ap (λ o. text_by (text m) bs ts o) (sym f) ∙ next_by m bs ts after v g
