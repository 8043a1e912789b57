-- The line of an item is read as this item.
use Rattle.std.proofs.Common.{◌≡◌, ℕ, zero, suc, ◌<◌, ◌≤◌, List, [], ◌∷◌, ◌++◌, length, Bool, true, false, cond, Some, None, refl, sym, ap, ◌∙◌, arith, pos, negsuc}
use Rattle.std.specs.Prelude.{nat_eq, nat_lt, nat_le, ◌&&◌, ◌||◌, decimal}
use Rattle.std.specs.List.{list_all, slice_split, flat_map}
use Rattle.std.proofs.lemmas.Bool.Decides.{nat_tests}
use Rattle.std.proofs.lemmas.List.{append-nil}
use Rattle.asm_item.specs.declared.model.Word.{Word}
use Rattle.asm_item.specs.declared.model.Word.TheVariants as word_of
use Rattle.asm_item.specs.declared.model.Item.{Item}
use Rattle.asm_item.specs.declared.model.Item.TheVariants as items
use Rattle.asm_item.specs.declared.words.Keyword.TheVariants as words
use Rattle.asm_item.specs.Words.{keyword_text}
use Rattle.std.specs.Option.{option_map}
use Rattle.asm_item.specs.declared.args.Number.{Number}
use Rattle.asm_item.specs.Args as args
use Rattle.asm_item.specs.Args.{Argument, plain, number, name, text, here, unsigned, signed}
use Rattle.asm_item.specs.Statements.{Statement, bare, with_one, with_two, statement_text, line_text}
use Rattle.asm_item.specs.Rows.{row}
use Rattle.asm_item.specs.Printed.{name_argument, number_argument, datum_argument, item_text}
use Rattle.asm_item.specs.Normal.{is_name, is_full, is_half, is_signed, is_file, is_file_byte, is_datum, is_first, is_labelled, is_item}
use Rattle.asm_read.specs.declared.token.Sign.TheVariants as signs
use Rattle.asm_read.specs.Tokens.{Tok, Word as WordTok, Mark, Text, Bad, NoQuote}
use Rattle.asm_read.specs.Lex.{lex}
use Rattle.asm_read.specs.Numerals.{◌>>=◌}
use Rattle.asm_read.specs.Arguments.{arguments_at}
use Rattle.asm_read.specs.Stmts as s
use Rattle.asm_read.specs.Stmts.{Stmt, item, make, keyword_named, or_wrong, statement_at, stmts_at, stmts_of, is_semicolon, word_label}
use Rattle.asm_read.proofs.Joined.{and_left, and_right, all_weaker}
use Rattle.asm_read.proofs.Printed.{is_inner, IsArgument, AreArguments, arguments_then, argument_then, further_then, number_then, statement_then, lex_statement}
use Rattle.asm_read.proofs.Again.{semicolons, cut, cut_argument, arguments_again}
use Rattle.asm_read.proofs.Inverse.{below, full_unsigned, signed_again, made_row}
use Rattle.asm_read.proofs.Spelled.{name_spelled, row_spelled}
use Rattle.asm_read.proofs.LineEnds.{keyword_again}

-- ---- a statement's tokens are read as the statement

abbrev pub begins_colon : List Tok → Bool
begins_colon [] = false
begins_colon (WordTok w ∷ ts) = false
begins_colon (Mark signs.Colon ∷ ts) = true
begins_colon (Mark m ∷ ts) = false
begins_colon (Text q ∷ ts) = false
begins_colon (Bad ∷ ts) = false

no_label : (w : List ℕ) (ts : List Tok) → begins_colon ts ≡ false → stmts_at (WordTok w ∷ ts) ≡ statement_at (WordTok w ∷ ts) ∷ []
no_label w [] h = refl
no_label w (WordTok v ∷ ts) h = refl
no_label w (Mark signs.Comma ∷ ts) h = refl
no_label w (Mark signs.Semicolon ∷ ts) h = refl
no_label w (Mark signs.Colon ∷ ts) h = absurd cc
no_label w (Mark signs.Percent ∷ ts) h = refl
no_label w (Mark signs.Dollar ∷ ts) h = refl
no_label w (Mark signs.Minus ∷ ts) h = refl
no_label w (Mark signs.Plus ∷ ts) h = refl
no_label w (Mark signs.Open ∷ ts) h = refl
no_label w (Mark signs.Close ∷ ts) h = refl
no_label w (Mark signs.Star ∷ ts) h = refl
no_label w (Mark (signs.Other c) ∷ ts) h = refl
no_label w (Text q ∷ ts) h = refl
no_label w (Bad ∷ ts) h = refl

number_begins : (n : Number) (ts : List Tok) → begins_colon (number_then n ts) ≡ false
number_begins n ts = by n.minus
  where
    by : (b : Bool) → begins_colon (cond b (Mark signs.Minus ∷ (WordTok (decimal n.size) ∷ ts)) (WordTok (decimal n.size) ∷ ts)) ≡ false
    by true = refl
    by false = refl

argument_begins : (a : Argument) (ts : List Tok) → begins_colon (argument_then a ts) ≡ false
argument_begins (plain (args.register s r)) ts = refl
argument_begins (plain (number n)) ts = number_begins n ts
argument_begins (plain (name k)) ts = refl
argument_begins (plain (args.plus k n)) ts = refl
argument_begins (plain (args.minus k n)) ts = refl
argument_begins (plain (args.base n r)) ts = number_begins n (Mark signs.Open ∷ (Mark signs.Percent ∷ (WordTok (args.full_register r) ∷ (Mark signs.Close ∷ ts))))
argument_begins (args.star o) ts = refl
argument_begins (args.imm n) ts = refl
argument_begins (args.imm_name k) ts = refl
argument_begins (text q) ts = refl
argument_begins here ts = refl

arguments_begin : (more : List Argument) → begins_colon (arguments_then more []) ≡ false
arguments_begin [] = refl
arguments_begin (a ∷ more) = argument_begins a (further_then more [])

-- the statement that stands between semicolons
pub stated : (st : Statement) (x : Stmt) → AreArguments st.args → make st.word st.args ≡ Some x → stmts_at (statement_then st []) ≡ x ∷ []
stated st x h e =
    no_label (keyword_text st.word) (arguments_then st.args []) (arguments_begin st.args)
    ∙ ap (λ o. or_wrong (o >>= λ k. arguments_at (arguments_then st.args []) >>= λ more. make k more) ∷ []) (keyword_again st.word)
    ∙ ap (λ o. or_wrong (o >>= λ more. make st.word more) ∷ []) (arguments_again st.args h)
    ∙ ap (λ o. or_wrong o ∷ []) e

cut_further : (more : List Argument) (ts q : List Tok) (qs : List (List Tok)) → slice_split is_semicolon ts ≡ q ∷ qs → slice_split is_semicolon (further_then more ts) ≡ further_then more q ∷ qs
cut_further [] ts q qs e = e
cut_further (a ∷ more) ts q qs e =
    cut is_semicolon (Mark signs.Comma) (argument_then a (further_then more ts)) (argument_then a (further_then more q)) qs refl
    (cut_argument is_semicolon semicolons a (further_then more ts) (further_then more q) qs (cut_further more ts q qs e))

cut_arguments : (more : List Argument) (ts q : List Tok) (qs : List (List Tok)) → slice_split is_semicolon ts ≡ q ∷ qs → slice_split is_semicolon (arguments_then more ts) ≡ arguments_then more q ∷ qs
cut_arguments [] ts q qs e = e
cut_arguments (a ∷ more) ts q qs e = cut_argument is_semicolon semicolons a (further_then more ts) (further_then more q) qs (cut_further more ts q qs e)

pub cut_statement : (st : Statement) (ts q : List Tok) (qs : List (List Tok)) → slice_split is_semicolon ts ≡ q ∷ qs → slice_split is_semicolon (statement_then st ts) ≡ statement_then st q ∷ qs
cut_statement st ts q qs e = cut is_semicolon (WordTok (keyword_text st.word)) (arguments_then st.args ts) (arguments_then st.args q) qs refl (cut_arguments st.args ts q qs e)

-- a line of one statement
pub one_line : (st : Statement) (x : Stmt) → AreArguments st.args → make st.word st.args ≡ Some x → stmts_of (lex (9 ∷ statement_text st)) ≡ x ∷ []
one_line st x h e =
    ap (λ bs. stmts_of (lex bs)) (sym (append-nil (statement_text st)))
    ∙ ap stmts_of (lex_statement st [] h refl)
    ∙ ap (flat_map stmts_at) (cut_statement st [] [] [] refl)
    ∙ ap (λ xs. xs ++ []) (stated st x h e)

-- ---- each item

quoteless : (c : ℕ) → is_file_byte c ≡ true → nat_eq c 34 ≡ false
quoteless c h = grind (arith, nat_tests)

inner_file : (c : ℕ) → is_file_byte c ≡ true → is_inner c ≡ true
inner_file c h = grind (arith, nat_tests)

no_quote : (q : List ℕ) → list_all is_file_byte q ≡ true → NoQuote q
no_quote [] h = tt
no_quote (c ∷ q) h = (quoteless c (and_left (is_file_byte c) (list_all is_file_byte q) h), no_quote q (and_right (is_file_byte c) (list_all is_file_byte q) h))

file_bytes : (k : List ℕ) → is_file k ≡ true → list_all is_file_byte k ≡ true
file_bytes k h = and_right (nat_le 1 (length k) && nat_le (length k) 14) (list_all is_file_byte k) h

if_true : {A : Type 0} (b : Bool) (x y : A) → b ≡ true → cond b x y ≡ x
if_true b x y h = ap (λ b. cond b x y) h

pub number_fits : (n k : ℕ) → nat_lt n k ≡ true → k ≤ 4294967296 → n < 4294967296
number_fits n k h le = let lt = below n k h in omega arith

datum_made : (w : Word) → is_datum w ≡ true → s.datum (datum_argument w) ≡ Some w
datum_made (word_of.Number n) h = ap (λ o. option_map (λ x. word_of.Number x) o) (full_unsigned n h)
datum_made (word_of.Label k (pos zero)) h = refl
datum_made (word_of.Label k (pos (suc n))) h = ap (word_label k) (signed_again (pos (suc n)) (and_right (is_name k) (is_signed (pos (suc n))) h))
datum_made (word_of.Label k (negsuc n)) h = ap (word_label k) (signed_again (negsuc n) (and_right (is_name k) (is_signed (negsuc n)) h))

datum_spelled : (w : Word) → is_datum w ≡ true → IsArgument (datum_argument w)
datum_spelled (word_of.Number n) h = below n 4294967296 h
datum_spelled (word_of.Label k add) h = name_spelled k add (and_left (is_name k) (is_signed add) h) (and_right (is_name k) (is_signed add) h)

-- the statements of which an item's line consists
pub record OneLine (i : Item) : Type 0 where
  pub statement : Statement
  pub text : item_text i ≡ line_text statement
  pub spelled : AreArguments statement.args
  pub made : make statement.word statement.args ≡ Some (item i)

no_section : (n : ℕ) → (nat_eq (suc (suc (suc n))) 1 || nat_eq (suc (suc (suc n))) 2) ≡ false
no_section n = grind (arith, nat_tests)

not_both : (b : Bool) → b ≡ true → b ≡ false → ⊥
not_both b h e = let wrong1 : true ≡ false = sym h ∙ e in cc

above_zero : (n : ℕ) → nat_eq (suc n) 0 ≡ false
above_zero n = grind (arith, nat_tests)

section_line : (n : ℕ) → (nat_eq n 1 || nat_eq n 2) ≡ true → OneLine (items.Section n)
section_line zero h = absurd cc
section_line (suc zero) h = record { statement = bare words.Text; text = refl; spelled = tt; made = refl }
section_line (suc (suc zero)) h = record { statement = bare words.Init; text = refl; spelled = tt; made = refl }
section_line (suc (suc (suc n))) h = absurd (not_both (nat_eq (suc (suc (suc n))) 1 || nat_eq (suc (suc (suc n))) 2) h (no_section n))

line_line : (n : ℕ) → (nat_le 1 n && is_half n) ≡ true → OneLine (items.Ln n)
line_line zero h = absurd cc
line_line (suc n) h =
    let half = and_right (nat_le 1 (suc n)) (is_half (suc n)) h in
    record { statement = with_one words.Ln (number_argument (suc n)); text = refl; spelled = (number_fits (suc n) 65536 half (omega arith), tt); made = ap (λ o. s.one_item (o >>= λ m. cond (nat_eq m 0) None (Some (items.Ln m)))) (if_true (is_half (suc n)) (Some (suc n)) None half) ∙ ap (λ b. s.one_item (cond b None (Some (items.Ln (suc n))))) (above_zero n) }

abbrev pub IsSingle : Item → Type 0
IsSingle (items.Def g) = ⊥
IsSingle (items.Label k) = ⊥
IsSingle i = Unit {0}

pub one_lined : (i : Item) → IsSingle i → is_item i ≡ true → OneLine i
one_lined (items.Code i l) one h =
    let first = and_left (is_first i) (is_labelled i l) h in
    let fits = and_right (is_first i) (is_labelled i l) h in
    record { statement = row i l; text = refl; spelled = row_spelled i l first fits; made = made_row i l first fits }
one_lined (items.Label k) one h = absurd one
one_lined (items.Byte n) one h = record { statement = with_one words.Byte (number_argument n); text = refl; spelled = (number_fits n 256 h (omega arith), tt); made = ap (λ o. s.one_item (option_map (λ n. items.Byte n) o)) (if_true (nat_lt n 256) (Some n) None h) }
one_lined (items.Value n) one h = record { statement = with_one words.Value (number_argument n); text = refl; spelled = (number_fits n 65536 h (omega arith), tt); made = ap (λ o. s.one_item (option_map (λ n. items.Value n) o)) (if_true (is_half n) (Some n) None h) }
one_lined (items.Long w) one h = record { statement = with_one words.Long (datum_argument w); text = refl; spelled = (datum_spelled w h, tt); made = ap (λ o. s.one_item (option_map (λ w. items.Long w) o)) (datum_made w h) }
one_lined (items.Zero n) one h = record { statement = with_one words.Zero (number_argument n); text = refl; spelled = (below n 4294967296 h, tt); made = ap (λ o. s.one_item (option_map (λ n. items.Zero n) o)) (full_unsigned n h) }
one_lined items.Align one h = record { statement = with_one words.Align (number_argument 4); text = refl; spelled = (omega arith, tt); made = refl }
one_lined (items.Section n) one h = section_line n h
one_lined (items.Globl k) one h = record { statement = with_one words.Globl (name_argument k); text = refl; spelled = (h, tt); made = refl }
one_lined (items.Comm k n) one h =
    let full = and_right (is_name k) (is_full n) h in
    record { statement = with_two words.Comm (name_argument k) (number_argument n); text = refl; spelled = (and_left (is_name k) (is_full n) h, (below n 4294967296 full, tt)); made = ap (λ o. s.one_item (o >>= λ n. Some (items.Comm k n))) (full_unsigned n full) }
one_lined (items.Lcomm k n) one h =
    let full = and_right (is_name k) (is_full n) h in
    record { statement = with_two words.Lcomm (name_argument k) (number_argument n); text = refl; spelled = (and_left (is_name k) (is_full n) h, (below n 4294967296 full, tt)); made = ap (λ o. s.one_item (o >>= λ n. Some (items.Lcomm k n))) (full_unsigned n full) }
one_lined (items.Def g) one h = absurd one
one_lined (items.Ln n) one h = line_line n h
one_lined (items.File k) one h =
    let bytes = file_bytes k h in
    record { statement = with_one words.File (text k); text = refl; spelled = ((no_quote k bytes, all_weaker is_file_byte is_inner inner_file k bytes), tt); made = ap (λ o. s.one_item o) (if_true (is_file k) (Some (items.File k)) None h) }
