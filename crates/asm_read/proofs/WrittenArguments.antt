-- The arguments that are read: their names are names, and their registers have a text.
use Rattle.std.proofs.Common.{◌≡◌, ℕ, zero, suc, List, [], ◌∷◌, true, false, Option, Some, None, arith}
use Rattle.std.specs.Prelude.{nat_lt, codes}
use Rattle.std.specs.List.{slice_split}
use Rattle.std.specs.Str.{bytes_eq}
use Rattle.std.proofs.lemmas.Bool.Decides.{nat_tests}
use Rattle.asm_item.specs.declared.args.Number.{Number}
use Rattle.asm_item.specs.declared.args.Size.{Size}
use Rattle.asm_item.specs.declared.args.Size.TheVariants as sizes
use Rattle.asm_item.specs.Args.{Op, register, number, name, plus, minus, base, Argument, plain, star, imm, imm_name, text, here, register_text, registers}
use Rattle.asm_item.specs.Normal.{is_name, is_register}
use Rattle.asm_read.specs.declared.token.Sign.{Sign}
use Rattle.asm_read.specs.declared.token.Sign.TheVariants as signs
use Rattle.asm_read.specs.Tokens.{Tok, Word, Mark, Text, Bad}
use Rattle.asm_read.specs.Numerals.{◌>>=◌}
use Rattle.asm_read.specs.Arguments.{number_by, register_number, of_size, register_named, sized, number_at, based, plus_at, minus_at, single, word_operand, minus_operand, operand_at, immediate_at, plain_at, star_at, word_at, mark_at, word_first, text_first, argument_at, is_comma, each_argument, arguments_at}
use Rattle.asm_read.proofs.Holds.{Holds, behind, behind_any, weaker, either_way, if_so}

-- an operand whose names are names and whose registers have a text
abbrev pub IsWrittenOp : Op → Type 0
IsWrittenOp (register size r) = is_register size r ≡ true
IsWrittenOp (number n) = Unit {0}
IsWrittenOp (name k) = is_name k ≡ true
IsWrittenOp (plus k n) = is_name k ≡ true
IsWrittenOp (minus k n) = is_name k ≡ true
IsWrittenOp (base n r) = is_register sizes.Full r ≡ true

abbrev pub IsWritten : Argument → Type 0
IsWritten (plain o) = IsWrittenOp o
IsWritten (star o) = IsWrittenOp o
IsWritten (imm n) = Unit {0}
IsWritten (imm_name k) = is_name k ≡ true
IsWritten (text q) = Unit {0}
IsWritten here = Unit {0}

abbrev pub AreWritten : List Argument → Type 0
AreWritten [] = Unit {0}
AreWritten (a ∷ more) = IsWritten a × AreWritten more

-- ---- registers

number_below : (names : ℕ → List ℕ) (n : ℕ) (w : List ℕ) → Holds (λ r. nat_lt r n ≡ true) (number_by names n w)
number_below names zero w = tt
number_below names (suc n) w =
    let P : ℕ → Type 0 = λ r. nat_lt r (suc n) ≡ true in
    let last : nat_lt n (suc n) ≡ true = grind (arith, nat_tests) in
    let up : (r : ℕ) → nat_lt r n ≡ true → nat_lt r (suc n) ≡ true = λ r h. grind (arith, nat_tests) in
    either_way P (bytes_eq w (names n)) (Some n) (number_by names n w) (λ e. last) (λ ne. weaker (λ r. nat_lt r n ≡ true) P (number_by names n w) (number_below names n w) up)

register_written : (size : Size) (w : List ℕ) → Holds (λ r. is_register size r ≡ true) (register_number size w)
unfolding register_number
register_written size w = number_below (register_text size) (registers size) w

sized_written : (size : Size) (o : Option ℕ) (other : Option Op) → Holds (λ r. is_register size r ≡ true) o → Holds IsWrittenOp other → Holds IsWrittenOp (of_size size o other)
sized_written size None other h g = g
sized_written size (Some r) other h g = h

named_written : (w : List ℕ) → Holds IsWrittenOp (register_named w)
named_written w =
    sized_written sizes.Full (register_number sizes.Full w) _ (register_written sizes.Full w)
    (sized_written sizes.Short (register_number sizes.Short w) _ (register_written sizes.Short w)
    (sized_written sizes.Byte (register_number sizes.Byte w) None (register_written sizes.Byte w) tt))

-- ---- operands

based_written : (n : Option Number) (ts : List Tok) → Holds IsWrittenOp (based n ts)
based_written None ts = tt
based_written (Some n) (Mark signs.Percent ∷ (Word w ∷ (Mark signs.Close ∷ []))) = behind (λ r. is_register sizes.Full r ≡ true) IsWrittenOp (register_number sizes.Full w) (λ r. Some (base n r)) (register_written sizes.Full w) (λ r h. h)
based_written (Some n) ts = tt

plus_written : (k : List ℕ) (ts : List Tok) → Holds IsWrittenOp (plus_at k ts)
plus_written k ts = if_so IsWrittenOp (is_name k) (number_at ts >>= λ n. Some (plus k n)) (λ e. behind_any IsWrittenOp (number_at ts) (λ n. Some (plus k n)) (λ n. e))

minus_written : (k : List ℕ) (ts : List Tok) → Holds IsWrittenOp (minus_at k ts)
minus_written k ts = if_so IsWrittenOp (is_name k) (number_at ts >>= λ n. Some (minus k n)) (λ e. behind_any IsWrittenOp (number_at ts) (λ n. Some (minus k n)) (λ n. e))

number_written : (o : Option Number) → Holds IsWrittenOp (o >>= λ n. Some (number n))
number_written o = behind_any IsWrittenOp o (λ n. Some (number n)) (λ n. tt)

single_written : (w : List ℕ) → Holds IsWrittenOp (single w)
single_written w = either_way IsWrittenOp (is_name w) (Some (name w)) (sized false w >>= λ n. Some (number n)) (λ e. e) (λ ne. number_written (sized false w))

word_operand_written : (w : List ℕ) (ts : List Tok) → Holds IsWrittenOp (word_operand w ts)
word_operand_written w [] = single_written w
word_operand_written w (Mark signs.Plus ∷ ts) = plus_written w ts
word_operand_written w (Mark signs.Minus ∷ ts) = minus_written w ts
word_operand_written w (Mark signs.Open ∷ ts) = based_written (sized false w) ts
word_operand_written w ts = tt

minus_operand_written : (w : List ℕ) (ts : List Tok) → Holds IsWrittenOp (minus_operand w ts)
minus_operand_written w [] = number_written (sized true w)
minus_operand_written w (Mark signs.Open ∷ ts) = based_written (sized true w) ts
minus_operand_written w ts = tt

operand_written : (ts : List Tok) → Holds IsWrittenOp (operand_at ts)
operand_written (Word w ∷ ts) = word_operand_written w ts
operand_written (Mark signs.Percent ∷ (Word w ∷ [])) = named_written w
operand_written (Mark signs.Minus ∷ (Word w ∷ ts)) = minus_operand_written w ts
operand_written (Mark signs.Open ∷ ts) = based_written (Some record { minus = false; size = 0 }) ts
operand_written ts = tt

-- ---- arguments

immediate_number : (o : Option Number) → Holds IsWritten (o >>= λ n. Some (imm n))
immediate_number o = behind_any IsWritten o (λ n. Some (imm n)) (λ n. tt)

immediate_written : (ts : List Tok) → Holds IsWritten (immediate_at ts)
immediate_written (Word w ∷ []) = either_way IsWritten (is_name w) (Some (imm_name w)) (sized false w >>= λ n. Some (imm n)) (λ e. e) (λ ne. immediate_number (sized false w))
immediate_written ts = immediate_number (number_at ts)

plain_written : (ts : List Tok) → Holds IsWritten (plain_at ts)
plain_written ts = behind IsWrittenOp IsWritten (operand_at ts) (λ o. Some (plain o)) (operand_written ts) (λ o h. h)

star_written : (ts : List Tok) → Holds IsWritten (star_at ts)
star_written ts = behind IsWrittenOp IsWritten (operand_at ts) (λ o. Some (star o)) (operand_written ts) (λ o h. h)

word_written : (w : List ℕ) (ts : List Tok) → Holds IsWritten (word_at w ts)
word_written w ts = either_way IsWritten (bytes_eq w (codes ".")) (Some here) (plain_at ts) (λ e. tt) (λ ne. plain_written ts)

mark_written : (s : Sign) (ts rest : List Tok) → Holds IsWritten (mark_at s ts rest)
mark_written signs.Dollar ts rest = immediate_written rest
mark_written signs.Star ts rest = star_written rest
mark_written s ts rest = plain_written ts

word_first_written : (w : List ℕ) (ts rest : List Tok) → Holds IsWritten (word_first w ts rest)
word_first_written w ts [] = word_written w ts
word_first_written w ts (t ∷ rest) = plain_written ts

text_written : (q : List ℕ) (rest : List Tok) → Holds IsWritten (text_first q rest)
text_written q [] = tt
text_written q (t ∷ rest) = tt

argument_written : (ts : List Tok) → Holds IsWritten (argument_at ts)
argument_written [] = tt
argument_written (Mark s ∷ ts) = mark_written s (Mark s ∷ ts) ts
argument_written (Word w ∷ ts) = word_first_written w (Word w ∷ ts) ts
argument_written (Text q ∷ ts) = text_written q ts
argument_written (Bad ∷ ts) = tt

each_written : (parts : List (List Tok)) → Holds AreWritten (each_argument parts)
each_written [] = tt
each_written (part ∷ parts) =
    behind IsWritten AreWritten (argument_at part) (λ a. each_argument parts >>= λ more. Some (a ∷ more)) (argument_written part)
    (λ a h. behind AreWritten AreWritten (each_argument parts) (λ more. Some (a ∷ more)) (each_written parts) (λ more hs. (h, hs)))

pub arguments_written : (ts : List Tok) → Holds AreWritten (arguments_at ts)
arguments_written [] = tt
arguments_written (t ∷ ts) = each_written (slice_split is_comma (t ∷ ts))
