-- The tokens of a line are those that spell it.
use Rattle.std.proofs.Common.{◌≡◌, ℕ, List, [], ◌∷◌, ◌++◌, Bool, true, false, cond, refl, sym, ap, ◌∙◌}
use Rattle.std.specs.Prelude.{nat_eq}
use Rattle.asm_read.specs.Tokens.{Tok, Word, Mark, Text, Bad, Class, Blank, Letter, Quote, Slash, Other, class, is_letter, is_blank_byte, sign_of, sign_byte, goes_on, Piece, White, One, End, Nothing, Comment, Open, spell, tokens_of, IsWord, NoQuote, ArePieces, IsLine}
use Rattle.std.proofs.lemmas.Bool.{eqb-true}
use Rattle.asm_item.specs.Normal.{is_name_byte}
use Rattle.asm_read.specs.declared.token.Sign.TheVariants as signs
use Rattle.asm_read.specs.Lex.{longer, onto, lex_by, lex, quoted}

pub word_lexed : (w after : List ℕ) → IsWord w → goes_on after ≡ false → lex (w ++ after) ≡ Word w ∷ lex after
word_lexed [] after h e = absurd h
word_lexed (c ∷ []) after h e =
    ap (λ k. lex_by k c (goes_on after) (lex after) (quoted after)) h ∙ ap (λ b. cond b (longer c (lex after)) (Word (c ∷ []) ∷ lex after)) e
word_lexed (c ∷ (d ∷ w)) after h e =
    ap (λ k. lex_by k c (goes_on (d ∷ (w ++ after))) (lex (d ∷ (w ++ after))) (quoted (d ∷ (w ++ after)))) h.0
    ∙ ap (λ b. cond b (longer c (lex (d ∷ (w ++ after)))) (Word (c ∷ []) ∷ lex (d ∷ (w ++ after)))) (head d w h.1)
    ∙ ap (longer c) (word_lexed (d ∷ w) after h.1 e)
  where
    head : (d : ℕ) (w : List ℕ) → IsWord (d ∷ w) → is_letter (class d) ≡ true
    head d [] h = ap is_letter h
    head d (x ∷ w) h = ap is_letter h.0

pub text_lexed : (q after : List ℕ) → NoQuote q → quoted (q ++ (34 ∷ after)) ≡ Text q ∷ lex after
text_lexed [] after h = refl
text_lexed (c ∷ q) after h =
    ap (λ b. cond b (Text [] ∷ lex (q ++ (34 ∷ after))) (onto c (quoted (q ++ (34 ∷ after))))) h.0 ∙ ap (onto c) (text_lexed q after h.1)

open_lexed : (q : List ℕ) → NoQuote q → quoted q ≡ Bad ∷ []
open_lexed [] h = refl
open_lexed (c ∷ q) h = ap (λ b. cond b (Text [] ∷ lex q) (onto c (quoted q))) h.0 ∙ ap (onto c) (open_lexed q h.1)

pub lexed : (ps : List Piece) (e : End) → ArePieces ps e → lex (spell ps e) ≡ tokens_of ps e
lexed [] Nothing h = refl
lexed [] (Comment text) h = refl
lexed [] (Open text) h = open_lexed text h
lexed (White c ∷ ps) e h = ap (λ k. lex_by k c (goes_on (spell ps e)) (lex (spell ps e)) (quoted (spell ps e))) h.0 ∙ lexed ps e h.1
lexed (One (Word w) ∷ ps) e h = word_lexed w (spell ps e) h.0.0 h.0.1 ∙ ap (λ ts. Word w ∷ ts) (lexed ps e h.1)
lexed (One (Mark s) ∷ ps) e h =
    ap (λ k. lex_by k (sign_byte s) (goes_on (spell ps e)) (lex (spell ps e)) (quoted (spell ps e))) h.0.0
    ∙ ap (λ m. Mark m ∷ lex (spell ps e)) h.0.1
    ∙ ap (λ ts. Mark s ∷ ts) (lexed ps e h.1)
lexed (One (Text q) ∷ ps) e h = text_lexed q (spell ps e) h.0 ∙ ap (λ ts. Text q ∷ ts) (lexed ps e h.1)
lexed (One Bad ∷ ps) e h = absurd h.0

-- a line's tokens are unique
pub only : (bytes : List ℕ) (ts : List Tok) → IsLine bytes ts → ts ≡ lex bytes
only bytes ts h = h.tokens_are ∙ sym (lexed h.pieces h.end h.are) ∙ ap lex (sym h.bytes_are)

-- ---- what the first byte says

pub letter_class : (b s q l : Bool) → b ≡ false → is_letter (cond b Letter (cond s Blank (cond q Quote (cond l Slash Other)))) ≡ false
letter_class true s q l e = absurd cc
letter_class false true q l e = refl
letter_class false false true l e = refl
letter_class false false false true e = refl
letter_class false false false false e = refl

-- ---- each line has tokens

pub record Line (bytes : List ℕ) : Type 0 where
  pub pieces : List Piece
  pub end : End
  pub are : ArePieces pieces end
  pub bytes_are : bytes ≡ spell pieces end

-- a text that is closed, or that is open to the end of the line
pub data Quoted (bytes : List ℕ) : Type 0 where
  Closed : (q rest : List ℕ) (no : NoQuote q) (line : Line rest) (is : bytes ≡ q ++ (34 ∷ rest)) → Quoted bytes
  Unclosed : (no : NoQuote bytes) → Quoted bytes

classified : (P : Class → Type 0) (a b q s : Bool) → (a ≡ true → P Letter) → (b ≡ true → P Blank) → (q ≡ true → P Quote) → (s ≡ true → P Slash) → P Other → P (cond a Letter (cond b Blank (cond q Quote (cond s Slash Other))))
classified P true b q s l w x y z = l refl
classified P false true q s l w x y z = w refl
classified P false false true s l w x y z = x refl
classified P false false false true l w x y z = y refl
classified P false false false false l w x y z = z

quote_is : (c : ℕ) → class c ≡ Quote → c ≡ 34
quote_is c = classified (λ k. k ≡ Quote → c ≡ 34) (is_name_byte c) (is_blank_byte c) (nat_eq c 34) (nat_eq c 47) (λ _ e. absurd cc) (λ _ e. absurd cc) (λ h _. eqb-true c 34 h) (λ _ e. absurd cc) (λ e. absurd cc)

slash_is : (c : ℕ) → class c ≡ Slash → c ≡ 47
slash_is c = classified (λ k. k ≡ Slash → c ≡ 47) (is_name_byte c) (is_blank_byte c) (nat_eq c 34) (nat_eq c 47) (λ _ e. absurd cc) (λ _ e. absurd cc) (λ _ e. absurd cc) (λ h _. eqb-true c 47 h) (λ e. absurd cc)

-- a letter in front of pieces that begin with a word
longer_word : (c : ℕ) (ps : List Piece) (e : End) → class c ≡ Letter → ArePieces ps e → goes_on (spell ps e) ≡ true → Line (c ∷ spell ps e)
longer_word c [] Nothing k h g = absurd cc
longer_word c [] (Comment text) k h g = absurd cc
longer_word c [] (Open text) k h g = absurd cc
longer_word c (White x ∷ ps) e k h g = let no : false ≡ true = sym (ap is_letter h.0) ∙ g in absurd cc
longer_word c (One (Mark x) ∷ ps) e k h g = let no : false ≡ true = sym (ap is_letter h.0.0) ∙ g in absurd cc
longer_word c (One (Text q) ∷ ps) e k h g = absurd cc
longer_word c (One Bad ∷ ps) e k h g = absurd h.0
longer_word c (One (Word []) ∷ ps) e k h g = absurd h.0.0
longer_word c (One (Word (d ∷ w)) ∷ ps) e k h g = record { pieces = One (Word (c ∷ (d ∷ w))) ∷ ps; end = e; are = (((k, h.0.0), h.0.1), h.1); bytes_are = refl }

with_letter : (c : ℕ) (cs : List ℕ) → class c ≡ Letter → Line cs → Line (c ∷ cs)
with_letter c cs k l = by (goes_on (spell l.pieces l.end)) refl
  where
    back : Line (c ∷ spell l.pieces l.end) → Line (c ∷ cs)
    back m = record { pieces = m.pieces; end = m.end; are = m.are; bytes_are = ap (λ x. c ∷ x) l.bytes_are ∙ m.bytes_are }

    by : (b : Bool) → goes_on (spell l.pieces l.end) ≡ b → Line (c ∷ cs)
    by true g = back (longer_word c l.pieces l.end k l.are g)
    by false g = record { pieces = One (Word (c ∷ [])) ∷ l.pieces; end = l.end; are = ((k, g), l.are); bytes_are = ap (λ x. c ∷ x) l.bytes_are }

with_quote : (c : ℕ) (cs : List ℕ) → c ≡ 34 → Quoted cs → Line (c ∷ cs)
with_quote c cs k (Closed q rest free l is) = record { pieces = One (Text q) ∷ l.pieces; end = l.end; are = (free, l.are); bytes_are = ap (λ x. x ∷ cs) k ∙ ap (λ x. 34 ∷ x) (is ∙ ap (λ x. q ++ (34 ∷ x)) l.bytes_are) }
with_quote c cs k (Unclosed free) = record { pieces = []; end = Open cs; are = free; bytes_are = ap (λ x. x ∷ cs) k }

-- a mark's byte is the byte that made it
byte_again : (c : ℕ) → sign_byte (sign_of c) ≡ c
byte_again c =
    marked (nat_eq c 44) (nat_eq c 59) (nat_eq c 58) (nat_eq c 37) (nat_eq c 36) (nat_eq c 45) (nat_eq c 43) (nat_eq c 40) (nat_eq c 41) (nat_eq c 42) (λ h. eqb-true c 44 h) (λ h. eqb-true c 59 h) (λ h. eqb-true c 58 h) (λ h. eqb-true c 37 h) (λ h. eqb-true c 36 h) (λ h. eqb-true c 45 h) (λ h. eqb-true c 43 h) (λ h. eqb-true c 40 h) (λ h. eqb-true c 41 h) (λ h. eqb-true c 42 h)
  where
    marked : (b0 b1 b2 b3 b4 b5 b6 b7 b8 b9 : Bool)
        → (b0 ≡ true → c ≡ 44) → (b1 ≡ true → c ≡ 59) → (b2 ≡ true → c ≡ 58) → (b3 ≡ true → c ≡ 37) → (b4 ≡ true → c ≡ 36) → (b5 ≡ true → c ≡ 45) → (b6 ≡ true → c ≡ 43) → (b7 ≡ true → c ≡ 40) → (b8 ≡ true → c ≡ 41) → (b9 ≡ true → c ≡ 42)
        → sign_byte (cond b0 signs.Comma (cond b1 signs.Semicolon (cond b2 signs.Colon (cond b3 signs.Percent (cond b4 signs.Dollar (cond b5 signs.Minus (cond b6 signs.Plus (cond b7 signs.Open (cond b8 signs.Close (cond b9 signs.Star (signs.Other c))))))))))) ≡ c
    marked true b1 b2 b3 b4 b5 b6 b7 b8 b9 h0 h1 h2 h3 h4 h5 h6 h7 h8 h9 = sym (h0 refl)
    marked false true b2 b3 b4 b5 b6 b7 b8 b9 h0 h1 h2 h3 h4 h5 h6 h7 h8 h9 = sym (h1 refl)
    marked false false true b3 b4 b5 b6 b7 b8 b9 h0 h1 h2 h3 h4 h5 h6 h7 h8 h9 = sym (h2 refl)
    marked false false false true b4 b5 b6 b7 b8 b9 h0 h1 h2 h3 h4 h5 h6 h7 h8 h9 = sym (h3 refl)
    marked false false false false true b5 b6 b7 b8 b9 h0 h1 h2 h3 h4 h5 h6 h7 h8 h9 = sym (h4 refl)
    marked false false false false false true b6 b7 b8 b9 h0 h1 h2 h3 h4 h5 h6 h7 h8 h9 = sym (h5 refl)
    marked false false false false false false true b7 b8 b9 h0 h1 h2 h3 h4 h5 h6 h7 h8 h9 = sym (h6 refl)
    marked false false false false false false false true b8 b9 h0 h1 h2 h3 h4 h5 h6 h7 h8 h9 = sym (h7 refl)
    marked false false false false false false false false true b9 h0 h1 h2 h3 h4 h5 h6 h7 h8 h9 = sym (h8 refl)
    marked false false false false false false false false false true h0 h1 h2 h3 h4 h5 h6 h7 h8 h9 = sym (h9 refl)
    marked false false false false false false false false false false h0 h1 h2 h3 h4 h5 h6 h7 h8 h9 = refl

with_class : (c : ℕ) (cs : List ℕ) (k : Class) → class c ≡ k → Line cs → Quoted cs → Line (c ∷ cs)
with_class c cs Blank k l q = record { pieces = White c ∷ l.pieces; end = l.end; are = (k, l.are); bytes_are = ap (λ x. c ∷ x) l.bytes_are }
with_class c cs Letter k l q = with_letter c cs k l
with_class c cs Quote k l q = with_quote c cs (quote_is c k) q
with_class c cs Slash k l q = record { pieces = []; end = Comment cs; are = tt; bytes_are = ap (λ x. x ∷ cs) (slash_is c k) }
with_class c cs Other k l q =
    let byte = byte_again c in
    record {
      pieces = One (Mark (sign_of c)) ∷ l.pieces;
      end = l.end;
      are = ((ap class byte ∙ k, ap sign_of byte), l.are);
      bytes_are = ap (λ x. x ∷ cs) (sym byte) ∙ ap (λ x. sign_byte (sign_of c) ∷ x) l.bytes_are;
    }

with_byte : (c : ℕ) (cs : List ℕ) (b : Bool) → nat_eq c 34 ≡ b → Line cs → Quoted cs → Quoted (c ∷ cs)
with_byte c cs true k l q = Closed [] cs tt l (ap (λ x. x ∷ cs) (eqb-true c 34 k))
with_byte c cs false k l (Closed q rest free m is) = Closed (c ∷ q) rest (k, free) m (ap (λ x. c ∷ x) is)
with_byte c cs false k l (Unclosed free) = Unclosed (k, free)

both : (bytes : List ℕ) → Line bytes × Quoted bytes
both [] = (record { pieces = []; end = Nothing; are = tt; bytes_are = refl }, Unclosed tt)
both (c ∷ cs) =
    let d = both cs in
    (with_class c cs (class c) refl d.0 d.1, with_byte c cs (nat_eq c 34) refl d.0 d.1)

-- each line is spelled by the tokens that are read, and by no others
pub has_tokens : (bytes : List ℕ) → IsLine bytes (lex bytes)
has_tokens bytes =
    let l = (both bytes).0 in
    record { pieces = l.pieces; end = l.end; are = l.are; bytes_are = l.bytes_are; tokens_are = ap lex l.bytes_are ∙ lexed l.pieces l.end l.are }
