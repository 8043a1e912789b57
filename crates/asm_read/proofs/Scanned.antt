-- Going along a line, token by token.
use Rattle.std.proofs.Common.{◌≡◌, ℕ, suc, ◌+◌, ◌-◌, ◌<◌, List, [], ◌∷◌, ◌++◌, length, take, drop, get_or, Bool, true, false, cond, Option, Some, None, refl, sym, ap, subst, ◌∙◌, arith, append_assoc}
use Rattle.std.specs.Prelude.{nat_eq}
use Rattle.std.proofs.lemmas.List.{drop_more, drop-drop, take-append-drop, append-nil, map_push}
use Rattle.asm_read.specs.Tokens.{Tok, Word, Text, Bad, Blank, Letter, Quote, Slash, Other, class, is_blank_byte, goes_on, IsWord}
use Rattle.asm_item.specs.Normal.{is_name_byte}
use Rattle.asm_read.specs.Lex.{onto, lex, quoted}
use Rattle.asm_read.specs.Lex.{shown, all_shown, word_length, one_more, text_length, placed_at}
use Rattle.asm_read.specs.declared.token.Token.{Token}
use Rattle.asm_read.specs.declared.token.Token.TheVariants as tokens
use Rattle.asm_read.proofs.Lexed.{letter_class, word_lexed}

pub letter : (c : ℕ) → is_name_byte c ≡ true → class c ≡ Letter
letter c e = ap (λ b. cond b Letter (cond (is_blank_byte c) Blank (cond (nat_eq c 34) Quote (cond (nat_eq c 47) Slash Other)))) e

stop : (bs : List ℕ) → goes_on (drop (word_length bs) bs) ≡ false
stop [] = refl
stop (c ∷ cs) = by (stop cs) (is_name_byte c) refl
  where
    by : goes_on (drop (word_length cs) cs) ≡ false → (b : Bool) → is_name_byte c ≡ b → goes_on (drop (cond b (suc (word_length cs)) 0) (c ∷ cs)) ≡ false
    by deep true e = deep
    by deep false e = letter_class (is_name_byte c) (is_blank_byte c) (nat_eq c 34) (nat_eq c 47) e

is_word : (c : ℕ) (cs : List ℕ) → is_name_byte c ≡ true → IsWord (c ∷ take (word_length cs) cs)
is_word c [] e = letter c e
is_word c (d ∷ cs) e = by (is_name_byte d) refl (λ h. is_word d cs h)
  where
    by : (b : Bool) → is_name_byte d ≡ b → (is_name_byte d ≡ true → IsWord (d ∷ take (word_length cs) cs)) → IsWord (c ∷ take (cond b (suc (word_length cs)) 0) (d ∷ cs))
    by true h deep = (letter c e, deep h)
    by false h deep = letter c e

word_front : (c : ℕ) (cs : List ℕ) → is_name_byte c ≡ true → lex (c ∷ cs) ≡ Word (take (word_length (c ∷ cs)) (c ∷ cs)) ∷ lex (drop (word_length (c ∷ cs)) (c ∷ cs))
word_front c cs e =
    let n = word_length cs in
    let len : word_length (c ∷ cs) ≡ suc n = ap (λ b. cond b (suc (word_length cs)) 0) e in
    let P : ℕ → Type 0 = λ k. lex (c ∷ cs) ≡ Word (take k (c ∷ cs)) ∷ lex (drop k (c ∷ cs)) in
    subst P (sym len) (ap (λ t. lex (c ∷ t)) (sym (take-append-drop n cs)) ∙ word_lexed (c ∷ take n cs) (drop n cs) (is_word c cs e) (stop cs))

some_is : (x y : ℕ) → Some x ≡ Some y → x ≡ y
some_is x y e = cc

text_front : (bs : List ℕ) (n : ℕ) → text_length bs ≡ Some n → quoted bs ≡ Text (take n bs) ∷ lex (drop (suc n) bs)
text_front [] n e = absurd cc
text_front (c ∷ cs) n e = by (λ m h. text_front cs m h) (nat_eq c 34) (text_length cs) refl e
  where
    by : ((m : ℕ) → text_length cs ≡ Some m → quoted cs ≡ Text (take m cs) ∷ lex (drop (suc m) cs)) → (b : Bool) (o : Option ℕ) → text_length cs ≡ o → cond b (Some 0) (one_more o) ≡ Some n
        → cond b (Text [] ∷ lex cs) (onto c (quoted cs)) ≡ Text (take n (c ∷ cs)) ∷ lex (drop (suc n) (c ∷ cs))
    by deep true o is e = let P : ℕ → Type 0 = λ k. Text [] ∷ lex cs ≡ Text (take k (c ∷ cs)) ∷ lex (drop (suc k) (c ∷ cs)) in subst P (some_is 0 n e) refl
    by deep false None is e = absurd cc
    by deep false (Some m) is e =
        let P : ℕ → Type 0 = λ k. onto c (quoted cs) ≡ Text (take k (c ∷ cs)) ∷ lex (drop (suc k) (c ∷ cs)) in
        subst P (some_is (suc m) n e) (ap (onto c) (deep m is))

text_none : (bs : List ℕ) → text_length bs ≡ None → quoted bs ≡ Bad ∷ []
text_none [] e = refl
text_none (c ∷ cs) e = by (λ h. text_none cs h) (nat_eq c 34) (text_length cs) refl e
  where
    by : (text_length cs ≡ None → quoted cs ≡ Bad ∷ []) → (b : Bool) (o : Option ℕ) → text_length cs ≡ o → cond b (Some 0) (one_more o) ≡ None → cond b (Text [] ∷ lex cs) (onto c (quoted cs)) ≡ Bad ∷ []
    by deep true o is e = absurd cc
    by deep false None is e = ap (onto c) (deep is)
    by deep false (Some m) is e = absurd cc

pushed : (out new : List Token) (t : Token) (rest all : List Tok) (before : List Tok) → new ≡ out ++ (t ∷ []) → before ≡ shown t ∷ rest → all_shown out ++ before ≡ all → all_shown new ++ rest ≡ all
pushed out new t rest all before is front so_far =
    ap (λ x. all_shown x ++ rest) is ∙ ap (λ x. x ++ rest) (map_push shown out t) ∙ append_assoc (all_shown out) (shown t ∷ []) rest ∙ ap (λ x. all_shown out ++ x) (sym front) ∙ so_far

pub word_on : (line : List ℕ) (at end : ℕ) (out new : List Token) (t : Token) → at < length line → is_name_byte (get_or line at 0) ≡ true → end ≡ at + word_length (drop at line)
    → shown t ≡ Word (take (end - at) (drop at line)) → new ≡ out ++ (t ∷ []) → all_shown out ++ lex (drop at line) ≡ lex line → all_shown new ++ lex (drop end line) ≡ lex line
word_on line at end out new t lt is end_is t_is new_is so_far =
    let c = get_or line at 0 in
    let parts = drop_more line at 0 lt in
    let n = word_length (drop at line) in
    let n_is : end - at ≡ n = omega (arith, end_is) in
    let P : List ℕ → Type 0 = λ bs. lex bs ≡ Word (take (word_length bs) bs) ∷ lex (drop (word_length bs) bs) in
    let front : lex (drop at line) ≡ Word (take n (drop at line)) ∷ lex (drop n (drop at line)) = subst P (sym parts) (word_front c (drop (at + 1) line) is) in
    let rest : drop n (drop at line) ≡ drop end line = drop-drop n at line ∙ ap (λ k. drop k line) (sym end_is) in
    let word : Word (take n (drop at line)) ≡ shown t = ap (λ k. Word (take k (drop at line))) (sym n_is) ∙ sym t_is in
    pushed out new t (lex (drop end line)) (lex line) (lex (drop at line)) new_is (front ∙ ap (λ w. w ∷ lex (drop n (drop at line))) word ∙ ap (λ r. shown t ∷ lex r) rest) so_far

-- a quote begins a text
opened : (line : List ℕ) (at : ℕ) → at < length line → get_or line at 0 ≡ 34 → lex (drop at line) ≡ quoted (drop (at + 1) line)
opened line at lt is = ap lex (drop_more line at 0 lt) ∙ ap (λ c. lex (c ∷ drop (at + 1) line)) is

placed_some : (at end : ℕ) (o : Option ℕ) → Some end ≡ placed_at at o → (n : ℕ) × (o ≡ Some n) × (end ≡ at + n)
placed_some at end None e = absurd cc
placed_some at end (Some n) e = (n, refl, some_is end (at + n) e)

placed_none : (at : ℕ) (o : Option ℕ) → None ≡ placed_at at o → o ≡ None
placed_none at None e = refl
placed_none at (Some n) e = absurd cc

pub text_on : (line : List ℕ) (at end : ℕ) (out new : List Token) (t : Token) → at < length line → get_or line at 0 ≡ 34 → Some end ≡ placed_at (at + 1) (text_length (drop (at + 1) line))
    → shown t ≡ Text (take (end - (at + 1)) (drop (at + 1) line)) → new ≡ out ++ (t ∷ []) → all_shown out ++ lex (drop at line) ≡ lex line → all_shown new ++ lex (drop (end + 1) line) ≡ lex line
text_on line at end out new t lt is end_is t_is new_is so_far =
    let p = placed_some (at + 1) end (text_length (drop (at + 1) line)) end_is in
    let n = p.0 in
    let n_is : end - (at + 1) ≡ n = omega (arith, p.2) in
    let k_is : at + 1 + suc n ≡ end + 1 = omega (arith, p.2) in
    let front = opened line at lt is ∙ text_front (drop (at + 1) line) n p.1 in
    let rest : drop (suc n) (drop (at + 1) line) ≡ drop (end + 1) line = drop-drop (suc n) (at + 1) line ∙ ap (λ k. drop k line) k_is in
    let text : Text (take n (drop (at + 1) line)) ≡ shown t = ap (λ k. Text (take k (drop (at + 1) line))) (sym n_is) ∙ sym t_is in
    pushed out new t (lex (drop (end + 1) line)) (lex line) (lex (drop at line)) new_is (front ∙ ap (λ w. w ∷ lex (drop (suc n) (drop (at + 1) line))) text ∙ ap (λ r. shown t ∷ lex r) rest) so_far

pub text_open : (line : List ℕ) (at : ℕ) (out new : List Token) → at < length line → get_or line at 0 ≡ 34 → None ≡ placed_at (at + 1) (text_length (drop (at + 1) line))
    → new ≡ out ++ (tokens.Bad ∷ []) → all_shown out ++ lex (drop at line) ≡ lex line → all_shown new ≡ lex line
text_open line at out new lt is none new_is so_far =
    sym (append-nil (all_shown new)) ∙ pushed out new tokens.Bad [] (lex line) (lex (drop at line)) new_is (opened line at lt is ∙ text_none (drop (at + 1) line) (placed_none (at + 1) (text_length (drop (at + 1) line)) none)) so_far
