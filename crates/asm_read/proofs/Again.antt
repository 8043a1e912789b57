-- The tokens of arguments are read as these arguments.
use Rattle.std.proofs.Common.{◌≡◌, ℕ, zero, suc, ◌<◌, List, [], ◌∷◌, Bool, true, false, cond, Option, Some, None, refl, ap, ◌∙◌, arith}
use Rattle.std.specs.Prelude.{codes, decimal}
use Rattle.std.specs.List.{slice_split, onto_first}
use Rattle.std.specs.Str.{bytes_eq}
use Rattle.asm_item.specs.declared.args.Number.{Number}
use Rattle.asm_item.specs.declared.args.Size.{Size}
use Rattle.asm_item.specs.declared.args.Size.TheVariants as sizes
use Rattle.asm_item.specs.Args.{Op, register, number, name, plus, minus, base, Argument, plain, star, imm, imm_name, text, here, full_register, register_text, registers}
use Rattle.asm_item.specs.Normal.{is_name}
use Rattle.asm_read.specs.declared.token.Sign.TheVariants as signs
use Rattle.asm_read.specs.Tokens.{Tok, Word, Mark, Text}
use Rattle.asm_read.specs.Numerals.{◌>>=◌}
use Rattle.asm_read.specs.Arguments.{register_number, of_size, register_named, sized, number_at, based, single, operand_at, immediate_at, plain_at, argument_at, is_comma, each_argument, arguments_at}
use Rattle.asm_read.specs.Stmts.{is_semicolon}
use Rattle.asm_read.proofs.Words.{numeral_decimal, decimal_digits, no_dot, no_name, no_place}
use Rattle.asm_read.proofs.Printed.{number_then, operand_then, argument_then, IsOp, IsArgument, AreArguments, further_then, arguments_then}

-- ---- registers

pub full_again : (r : ℕ) → r < 8 → register_number sizes.Full (full_register r) ≡ Some r
unfolding register_number
full_again zero h = refl
full_again (suc zero) h = refl
full_again (suc (suc zero)) h = refl
full_again (suc (suc (suc zero))) h = refl
full_again (suc (suc (suc (suc zero)))) h = refl
full_again (suc (suc (suc (suc (suc zero))))) h = refl
full_again (suc (suc (suc (suc (suc (suc zero)))))) h = refl
full_again (suc (suc (suc (suc (suc (suc (suc zero))))))) h = refl
full_again (suc (suc (suc (suc (suc (suc (suc (suc r)))))))) h = absurd (omega arith)

short_again : (r : ℕ) → r < 8 → register_named (register_text sizes.Short r) ≡ Some (register sizes.Short r)
unfolding register_number
short_again zero h = refl
short_again (suc zero) h = refl
short_again (suc (suc zero)) h = refl
short_again (suc (suc (suc zero))) h = refl
short_again (suc (suc (suc (suc zero)))) h = refl
short_again (suc (suc (suc (suc (suc zero))))) h = refl
short_again (suc (suc (suc (suc (suc (suc zero)))))) h = refl
short_again (suc (suc (suc (suc (suc (suc (suc zero))))))) h = refl
short_again (suc (suc (suc (suc (suc (suc (suc (suc r)))))))) h = absurd (omega arith)

byte_again : (r : ℕ) → r < 4 → register_named (register_text sizes.Byte r) ≡ Some (register sizes.Byte r)
unfolding register_number
byte_again zero h = refl
byte_again (suc zero) h = refl
byte_again (suc (suc zero)) h = refl
byte_again (suc (suc (suc zero))) h = refl
byte_again (suc (suc (suc (suc r)))) h = absurd (omega arith)

full_named : (w : List ℕ) (r : ℕ) → register_number sizes.Full w ≡ Some r → register_named w ≡ Some (register sizes.Full r)
full_named w r e = ap (λ o. of_size sizes.Full o (of_size sizes.Short (register_number sizes.Short w) (of_size sizes.Byte (register_number sizes.Byte w) None))) e

register_again : (s : Size) (r : ℕ) → r < registers s → register_named (register_text s r) ≡ Some (register s r)
register_again sizes.Full r h = full_named (full_register r) r (full_again r h)
register_again sizes.Short r h = short_again r h
register_again sizes.Byte r h = byte_again r h

-- ---- numbers

sized_again : (m : Bool) (n : ℕ) → n < 4294967296 → sized m (decimal n) ≡ Some record { minus = m; size = n }
sized_again m n h = ap (λ o. o >>= λ x. Some record { minus = m; size = x }) (numeral_decimal n h)

number_again : (n : Number) → n.size < 4294967296 → number_at (number_then n []) ≡ Some n
number_again n h = by n.minus
  where
    by : (b : Bool) → number_at (cond b (Mark signs.Minus ∷ (Word (decimal n.size) ∷ [])) (Word (decimal n.size) ∷ [])) ≡ Some record { minus = b; size = n.size }
    by true = sized_again true n.size h
    by false = sized_again false n.size h

no_name_of : (n : ℕ) → n < 4294967296 → is_name (decimal n) ≡ false
no_name_of n h = no_name (decimal n) (decimal_digits n (omega arith))

single_number : (n : ℕ) → n < 4294967296 → single (decimal n) ≡ Some (number record { minus = false; size = n })
single_number n h =
    ap (λ b. cond b (Some (name (decimal n))) (sized false (decimal n) >>= λ x. Some (number x))) (no_name_of n h) ∙ ap (λ o. o >>= λ x. Some (number x)) (sized_again false n h)

-- ---- operands

if_name : {A : Type 0} (k : List ℕ) (x y : Option A) → is_name k ≡ true → cond (is_name k) x y ≡ x
if_name k x y h = ap (λ b. cond b x y) h

base_again : (n : Number) (r : ℕ) → r < 8 → based (Some n) (Mark signs.Percent ∷ (Word (full_register r) ∷ (Mark signs.Close ∷ []))) ≡ Some (base n r)
base_again n r h = ap (λ o. o >>= λ x. Some (base n x)) (full_again r h)

operand_again : (o : Op) → IsOp o → operand_at (operand_then o []) ≡ Some o
operand_again (register s r) h = register_again s r h
operand_again (number n) h = by n.minus
  where
    by : (b : Bool) → operand_at (cond b (Mark signs.Minus ∷ (Word (decimal n.size) ∷ [])) (Word (decimal n.size) ∷ [])) ≡ Some (number record { minus = b; size = n.size })
    by true = ap (λ o. o >>= λ x. Some (number x)) (sized_again true n.size h)
    by false = single_number n.size h
operand_again (name k) h = if_name k (Some (name k)) (sized false k >>= λ n. Some (number n)) h
operand_again (plus k n) h = if_name k (number_at (number_then n []) >>= λ n. Some (plus k n)) None h.0 ∙ ap (λ o. o >>= λ n. Some (plus k n)) (number_again n h.1)
operand_again (minus k n) h = if_name k (number_at (number_then n []) >>= λ n. Some (minus k n)) None h.0 ∙ ap (λ o. o >>= λ n. Some (minus k n)) (number_again n h.1)
operand_again (base n r) h = by n.minus
  where
    rest : List Tok
    rest = Mark signs.Percent ∷ (Word (full_register r) ∷ (Mark signs.Close ∷ []))

    by : (b : Bool) → operand_at (cond b (Mark signs.Minus ∷ (Word (decimal n.size) ∷ (Mark signs.Open ∷ (Mark signs.Percent ∷ (Word (full_register r) ∷ (Mark signs.Close ∷ [])))))) (Word (decimal n.size) ∷ (Mark signs.Open ∷ (Mark signs.Percent ∷ (Word (full_register r) ∷ (Mark signs.Close ∷ [])))))) ≡ Some (base record { minus = b; size = n.size } r)
    by true = ap (λ o. based o (Mark signs.Percent ∷ (Word (full_register r) ∷ (Mark signs.Close ∷ [])))) (sized_again true n.size h.0) ∙ base_again record { minus = true; size = n.size } r h.1
    by false = ap (λ o. based o (Mark signs.Percent ∷ (Word (full_register r) ∷ (Mark signs.Close ∷ [])))) (sized_again false n.size h.0) ∙ base_again record { minus = false; size = n.size } r h.1

-- ---- arguments

made_plain : (ts : List Tok) (o : Op) → operand_at ts ≡ Some o → plain_at ts ≡ Some (plain o)
made_plain ts o e = ap (λ x. x >>= λ o. Some (plain o)) e

one_word : (w : List ℕ) (o : Op) → bytes_eq w (codes ".") ≡ false → operand_at (Word w ∷ []) ≡ Some o → argument_at (Word w ∷ []) ≡ Some (plain o)
one_word w o other e = ap (λ b. cond b (Some here) (plain_at (Word w ∷ []))) other ∙ made_plain (Word w ∷ []) o e

plain_again : (o : Op) → IsOp o → argument_at (operand_then o []) ≡ Some (plain o)
plain_again (register s r) h = made_plain (operand_then (register s r) []) (register s r) (operand_again (register s r) h)
plain_again (number n) h = by n.minus
  where
    by : (b : Bool) → argument_at (cond b (Mark signs.Minus ∷ (Word (decimal n.size) ∷ [])) (Word (decimal n.size) ∷ [])) ≡ Some (plain (number record { minus = b; size = n.size }))
    by true = made_plain (Mark signs.Minus ∷ (Word (decimal n.size) ∷ [])) (number record { minus = true; size = n.size }) (operand_again (number record { minus = true; size = n.size }) h)
    by false = one_word (decimal n.size) (number record { minus = false; size = n.size }) (no_place (decimal n.size) (decimal_digits n.size (omega arith))) (operand_again (number record { minus = false; size = n.size }) h)
plain_again (name k) h = one_word k (name k) (no_dot k h) (operand_again (name k) h)
plain_again (plus k n) h = made_plain (operand_then (plus k n) []) (plus k n) (operand_again (plus k n) h)
plain_again (minus k n) h = made_plain (operand_then (minus k n) []) (minus k n) (operand_again (minus k n) h)
plain_again (base n r) h = by n.minus
  where
    by : (b : Bool) → argument_at (cond b (Mark signs.Minus ∷ (Word (decimal n.size) ∷ (Mark signs.Open ∷ (Mark signs.Percent ∷ (Word (full_register r) ∷ (Mark signs.Close ∷ [])))))) (Word (decimal n.size) ∷ (Mark signs.Open ∷ (Mark signs.Percent ∷ (Word (full_register r) ∷ (Mark signs.Close ∷ [])))))) ≡ Some (plain (base record { minus = b; size = n.size } r))
    by true = made_plain (operand_then (base record { minus = true; size = n.size } r) []) (base record { minus = true; size = n.size } r) (operand_again (base record { minus = true; size = n.size } r) h)
    by false = made_plain (operand_then (base record { minus = false; size = n.size } r) []) (base record { minus = false; size = n.size } r) (operand_again (base record { minus = false; size = n.size } r) h)

imm_again : (n : Number) → n.size < 4294967296 → immediate_at (number_then n []) ≡ Some (imm n)
imm_again n h = by n.minus
  where
    by : (b : Bool) → immediate_at (cond b (Mark signs.Minus ∷ (Word (decimal n.size) ∷ [])) (Word (decimal n.size) ∷ [])) ≡ Some (imm record { minus = b; size = n.size })
    by true = ap (λ o. o >>= λ x. Some (imm x)) (sized_again true n.size h)
    by false = ap (λ b. cond b (Some (imm_name (decimal n.size))) (sized false (decimal n.size) >>= λ x. Some (imm x))) (no_name_of n.size h) ∙ ap (λ o. o >>= λ x. Some (imm x)) (sized_again false n.size h)

pub argument_again : (a : Argument) → IsArgument a → argument_at (argument_then a []) ≡ Some a
argument_again (plain o) h = plain_again o h
argument_again (star o) h = ap (λ x. x >>= λ o. Some (star o)) (operand_again o h)
argument_again (imm n) h = imm_again n h
argument_again (imm_name k) h = if_name k (Some (imm_name k)) (sized false k >>= λ n. Some (imm n)) h
argument_again (text q) h = refl
argument_again here h = refl

-- ---- what is cut at commas, and at semicolons

-- a test that no token of an argument meets
pub record Passes (p : Tok → Bool) : Type 0 where
  pub word : (w : List ℕ) → p (Word w) ≡ false
  pub text : (q : List ℕ) → p (Text q) ≡ false
  pub percent : p (Mark signs.Percent) ≡ false
  pub dollar : p (Mark signs.Dollar) ≡ false
  pub minus : p (Mark signs.Minus) ≡ false
  pub plus : p (Mark signs.Plus) ≡ false
  pub opening : p (Mark signs.Open) ≡ false
  pub close : p (Mark signs.Close) ≡ false
  pub star : p (Mark signs.Star) ≡ false

pub commas : Passes is_comma
commas = record { word = λ w. refl; text = λ q. refl; percent = refl; dollar = refl; minus = refl; plus = refl; opening = refl; close = refl; star = refl }

pub semicolons : Passes is_semicolon
semicolons = record { word = λ w. refl; text = λ q. refl; percent = refl; dollar = refl; minus = refl; plus = refl; opening = refl; close = refl; star = refl }

pub cut : (p : Tok → Bool) (t : Tok) (ts q : List Tok) (qs : List (List Tok)) → p t ≡ false → slice_split p ts ≡ q ∷ qs → slice_split p (t ∷ ts) ≡ (t ∷ q) ∷ qs
cut p t ts q qs off e = ap (λ b. cond b ([] ∷ slice_split p ts) (onto_first t (slice_split p ts))) off ∙ ap (onto_first t) e

cut_number : (p : Tok → Bool) → Passes p → (n : Number) (ts q : List Tok) (qs : List (List Tok)) → slice_split p ts ≡ q ∷ qs → slice_split p (number_then n ts) ≡ number_then n q ∷ qs
cut_number p h n ts q qs e = by n.minus
  where
    digits : slice_split p (Word (decimal n.size) ∷ ts) ≡ (Word (decimal n.size) ∷ q) ∷ qs
    digits = cut p (Word (decimal n.size)) ts q qs (h.word (decimal n.size)) e

    by : (b : Bool) → slice_split p (cond b (Mark signs.Minus ∷ (Word (decimal n.size) ∷ ts)) (Word (decimal n.size) ∷ ts)) ≡ cond b (Mark signs.Minus ∷ (Word (decimal n.size) ∷ q)) (Word (decimal n.size) ∷ q) ∷ qs
    by true = cut p (Mark signs.Minus) (Word (decimal n.size) ∷ ts) (Word (decimal n.size) ∷ q) qs h.minus digits
    by false = digits

cut_operand : (p : Tok → Bool) → Passes p → (o : Op) (ts q : List Tok) (qs : List (List Tok)) → slice_split p ts ≡ q ∷ qs → slice_split p (operand_then o ts) ≡ operand_then o q ∷ qs
cut_operand p h (register s r) ts q qs e =
    cut p (Mark signs.Percent) (Word (register_text s r) ∷ ts) (Word (register_text s r) ∷ q) qs h.percent (cut p (Word (register_text s r)) ts q qs (h.word (register_text s r)) e)
cut_operand p h (number n) ts q qs e = cut_number p h n ts q qs e
cut_operand p h (name k) ts q qs e = cut p (Word k) ts q qs (h.word k) e
cut_operand p h (plus k n) ts q qs e =
    cut p (Word k) (Mark signs.Plus ∷ number_then n ts) (Mark signs.Plus ∷ number_then n q) qs (h.word k) (cut p (Mark signs.Plus) (number_then n ts) (number_then n q) qs h.plus (cut_number p h n ts q qs e))
cut_operand p h (minus k n) ts q qs e =
    cut p (Word k) (Mark signs.Minus ∷ number_then n ts) (Mark signs.Minus ∷ number_then n q) qs (h.word k) (cut p (Mark signs.Minus) (number_then n ts) (number_then n q) qs h.minus (cut_number p h n ts q qs e))
cut_operand p h (base n r) ts q qs e =
    let closed = cut p (Mark signs.Close) ts q qs h.close e in
    let named = cut p (Word (full_register r)) (Mark signs.Close ∷ ts) (Mark signs.Close ∷ q) qs (h.word (full_register r)) closed in
    let marked = cut p (Mark signs.Percent) (Word (full_register r) ∷ (Mark signs.Close ∷ ts)) (Word (full_register r) ∷ (Mark signs.Close ∷ q)) qs h.percent named in
    cut_number p h n (Mark signs.Open ∷ (Mark signs.Percent ∷ (Word (full_register r) ∷ (Mark signs.Close ∷ ts)))) (Mark signs.Open ∷ (Mark signs.Percent ∷ (Word (full_register r) ∷ (Mark signs.Close ∷ q)))) qs (cut p (Mark signs.Open) (Mark signs.Percent ∷ (Word (full_register r) ∷ (Mark signs.Close ∷ ts))) (Mark signs.Percent ∷ (Word (full_register r) ∷ (Mark signs.Close ∷ q))) qs h.opening marked)

pub cut_argument : (p : Tok → Bool) → Passes p → (a : Argument) (ts q : List Tok) (qs : List (List Tok)) → slice_split p ts ≡ q ∷ qs → slice_split p (argument_then a ts) ≡ argument_then a q ∷ qs
cut_argument p h (plain o) ts q qs e = cut_operand p h o ts q qs e
cut_argument p h (star o) ts q qs e = cut p (Mark signs.Star) (operand_then o ts) (operand_then o q) qs h.star (cut_operand p h o ts q qs e)
cut_argument p h (imm n) ts q qs e = cut p (Mark signs.Dollar) (number_then n ts) (number_then n q) qs h.dollar (cut_number p h n ts q qs e)
cut_argument p h (imm_name k) ts q qs e = cut p (Mark signs.Dollar) (Word k ∷ ts) (Word k ∷ q) qs h.dollar (cut p (Word k) ts q qs (h.word k) e)
cut_argument p h (text t) ts q qs e = cut p (Text t) ts q qs (h.text t) e
cut_argument p h here ts q qs e = cut p (Word (codes ".")) ts q qs (h.word (codes ".")) e

-- the tokens of each argument
abbrev pub apart : List Argument → List (List Tok)
apart [] = []
apart (a ∷ more) = argument_then a [] ∷ apart more

parted : (a : Argument) (more : List Argument) → slice_split is_comma (arguments_then (a ∷ more) []) ≡ argument_then a [] ∷ apart more
parted a [] = cut_argument is_comma commas a [] [] [] refl
parted a (b ∷ more) = cut_argument is_comma commas a (Mark signs.Comma ∷ arguments_then (b ∷ more) []) [] (argument_then b [] ∷ apart more) (ap (λ x. [] ∷ x) (parted b more))

each_again : (more : List Argument) → AreArguments more → each_argument (apart more) ≡ Some more
each_again [] h = refl
each_again (a ∷ more) h =
    ap (λ o. o >>= λ a. each_argument (apart more) >>= λ as1. Some (a ∷ as1)) (argument_again a h.0) ∙ ap (λ o. o >>= λ as1. Some (a ∷ as1)) (each_again more h.1)

abbrev pub is_cons : List Tok → Bool
is_cons [] = false
is_cons (t ∷ ts) = true

on_cons : (ts : List Tok) → is_cons ts ≡ true → arguments_at ts ≡ each_argument (slice_split is_comma ts)
on_cons [] h = absurd cc
on_cons (t ∷ ts) h = refl

number_cons : (n : Number) (ts : List Tok) → is_cons (number_then n ts) ≡ true
number_cons n ts = by n.minus
  where
    by : (b : Bool) → is_cons (cond b (Mark signs.Minus ∷ (Word (decimal n.size) ∷ ts)) (Word (decimal n.size) ∷ ts)) ≡ true
    by true = refl
    by false = refl

argument_cons : (a : Argument) (ts : List Tok) → is_cons (argument_then a ts) ≡ true
argument_cons (plain (register s r)) ts = refl
argument_cons (plain (number n)) ts = number_cons n ts
argument_cons (plain (name k)) ts = refl
argument_cons (plain (plus k n)) ts = refl
argument_cons (plain (minus k n)) ts = refl
argument_cons (plain (base n r)) ts = number_cons n (Mark signs.Open ∷ (Mark signs.Percent ∷ (Word (full_register r) ∷ (Mark signs.Close ∷ ts))))
argument_cons (star o) ts = refl
argument_cons (imm n) ts = refl
argument_cons (imm_name k) ts = refl
argument_cons (text q) ts = refl
argument_cons here ts = refl

-- the tokens of arguments are read as these
pub arguments_again : (more : List Argument) → AreArguments more → arguments_at (arguments_then more []) ≡ Some more
arguments_again [] h = refl
arguments_again (a ∷ more) h = on_cons (arguments_then (a ∷ more) []) (argument_cons a (further_then more [])) ∙ ap each_argument (parted a more) ∙ each_again (a ∷ more) h
