-- Each label and statement that is read is normal.
use Rattle.std.proofs.Common.{◌≡◌, ℕ, ◌-◌, ◌%◌, List, [], ◌∷◌, ◌++◌, length, Bool, true, false, cond, Option, Some, None, refl, arith, ℤ, pos, w32}
use Rattle.std.specs.Prelude.{nat_eq, nat_lt, nat_le}
use Rattle.std.specs.Int.{cast_signed}
use Rattle.std.specs.List.{list_all, slice_split, flat_map}
use Rattle.std.proofs.lemmas.Bool.Decides.{nat_tests}
use Rattle.std.proofs.lemmas.Nat.{mod_below}
use Rattle.asm_item.specs.declared.model.Word.TheVariants as datum_of
use Rattle.asm_item.specs.declared.model.Val.TheVariants as values
use Rattle.asm_item.specs.declared.model.Item.{Item}
use Rattle.asm_item.specs.declared.model.Item.TheVariants as items
use Rattle.asm_item.specs.declared.words.Keyword.{Keyword}
use Rattle.asm_item.specs.declared.words.Keyword.TheVariants as words
use Rattle.asm_item.specs.declared.args.Number.{Number}
use Rattle.asm_item.specs.Args.{Argument, plain, number, name, plus, minus, text, here}
use Rattle.asm_item.specs.Groups.{Part, val, scl, ty, tag, line, size, dims}
use Rattle.asm_item.specs.Normal.{is_name, is_half, is_full, is_signed, is_value, is_file, is_datum, is_item}
use Rattle.asm_read.specs.declared.token.Sign.TheVariants as signs
use Rattle.asm_read.specs.Tokens as t
use Rattle.asm_read.specs.Tokens.{Tok}
use Rattle.asm_read.specs.Numerals.{◌>>=◌, byte_of, half_of, full_of, signed_of}
use Rattle.asm_read.specs.Arguments.{arguments_at}
use Rattle.asm_read.specs.Table.{Coded, is_number, two, one, alone}
use Rattle.asm_read.specs.Stmts as s
use Rattle.asm_read.specs.Stmts.{Stmt, item, begin, part, end, wrong, one_item, one_part, code, name_of, number_of, opposite, word_label, each_half, dimensions, line_number, align, bare_statement, directive, group_part, begin_of, one_statement, common_of, common, two_statement, long_statement, make, keyword_named, or_wrong, statement_at, label_at, stmts_at, is_semicolon, stmts_of}
use Rattle.asm_read.proofs.Holds.{Holds, behind, behind_any, mapped, weaker, if_so}
use Rattle.asm_read.proofs.WrittenArguments.{IsWritten, AreWritten, arguments_written}
use Rattle.asm_read.proofs.NormalRows.{number_within, full_is, cast_is, signed_is, IsCoded, two_is, one_is, alone_is}
use Rattle.std.proofs.lemmas.Bool.{and_from}

-- ---- the values of one argument

name_is : (a : Argument) → IsWritten a → Holds (λ k. is_name k ≡ true) (name_of a)
name_is (plain (name k)) h = h
name_is a h = tt

full_argument : (a : Argument) → Holds (λ n. is_full n ≡ true) (s.full a)
full_argument a = behind_any (λ n. is_full n ≡ true) (number_of a) (λ n. full_of n) full_is

half_argument : (a : Argument) → Holds (λ n. is_half n ≡ true) (s.half a)
half_argument a = behind_any (λ n. is_half n ≡ true) (number_of a) (λ n. half_of n) (λ n. number_within 65536 n (omega arith))

byte_argument : (a : Argument) → Holds (λ n. nat_lt n 256 ≡ true) (s.byte a)
byte_argument a = behind_any (λ n. nat_lt n 256 ≡ true) (number_of a) (λ n. byte_of n) (λ n. number_within 256 n (omega arith))

signed_argument : (a : Argument) → Holds (λ z. is_signed z ≡ true) (s.signed a)
signed_argument a = behind_any (λ z. is_signed z ≡ true) (number_of a) (λ n. signed_of n) signed_is

-- what is taken off a name
opposite_is : (n : Number) → Holds (λ z. is_signed z ≡ true) (opposite n)
opposite_is n = behind_any (λ z. is_signed z ≡ true) (full_of n) (λ x. Some (cast_signed w32 ((4294967296 - x) % 4294967296))) (λ x. cast_is ((4294967296 - x) % 4294967296) (small x))
  where
    small : (x : ℕ) → is_full ((4294967296 - x) % 4294967296) ≡ true
    small x = let h = mod_below (4294967296 - x) 4294967296 (omega arith) in grind (arith, nat_tests)

word_label_is : (k : List ℕ) (add : Option ℤ) → is_name k ≡ true → Holds (λ z. is_signed z ≡ true) add → Holds (λ w. is_datum w ≡ true) (word_label k add)
word_label_is k add h g = behind (λ z. is_signed z ≡ true) (λ w. is_datum w ≡ true) add (λ z. Some (datum_of.Label k z)) g (λ z e. and_from (is_name k) (is_signed z) h e)

datum_is : (a : Argument) → IsWritten a → Holds (λ w. is_datum w ≡ true) (s.datum a)
datum_is (plain (number n)) h = mapped (λ x. is_full x ≡ true) (λ w. is_datum w ≡ true) (full_of n) (λ x. datum_of.Number x) (full_is n) (λ x e. e)
datum_is (plain (name k)) h = word_label_is k (Some (pos 0)) h refl
datum_is (plain (plus k n)) h = word_label_is k (signed_of n) h (signed_is n)
datum_is (plain (minus k n)) h = word_label_is k (opposite n) h (opposite_is n)
datum_is a h = tt

value_is : (a : Argument) → IsWritten a → Holds (λ v. is_value v ≡ true) (s.value a)
value_is (plain (number n)) h = mapped (λ x. is_full x ≡ true) (λ v. is_value v ≡ true) (full_of n) (λ x. values.Number x) (full_is n) (λ x e. e)
value_is (plain (name k)) h = h
value_is here h = refl
value_is a h = tt

-- ---- statements

abbrev pub IsPart : Part → Type 0
IsPart (val v) = is_value v ≡ true
IsPart (scl z) = is_signed z ≡ true
IsPart (ty n) = is_half n ≡ true
IsPart (tag k) = is_name k ≡ true
IsPart (line n) = is_half n ≡ true
IsPart (size n) = is_half n ≡ true
IsPart (dims ns) = list_all is_half ns ≡ true

-- a statement whose item, name or part is normal
abbrev pub IsStmt : Stmt → Type 0
IsStmt (item i) = is_item i ≡ true
IsStmt (begin k) = is_name k ≡ true
IsStmt (part p) = IsPart p
IsStmt end = Unit {0}
IsStmt wrong = Unit {0}

abbrev IsItem : Item → Type 0
IsItem i = is_item i ≡ true

item_stmt : (o : Option Item) → Holds IsItem o → Holds IsStmt (one_item o)
item_stmt o h = behind IsItem IsStmt o (λ i. Some (item i)) h (λ i e. e)

part_stmt : (o : Option Part) → Holds IsPart o → Holds IsStmt (one_part o)
part_stmt o h = behind IsPart IsStmt o (λ p. Some (part p)) h (λ p e. e)

code_stmt : (o : Option Coded) → Holds IsCoded o → Holds IsStmt (code o)
code_stmt o h = behind IsCoded IsStmt o (λ c. Some (item (items.Code c.ins c.label))) h (λ c e. e)

file_is : (a : Argument) → Holds IsItem (s.file a)
file_is (text q) = if_so IsItem (is_file q) (Some (items.File q)) (λ e. e)
file_is a = tt

not_zero : (n : ℕ) → nat_eq n 0 ≡ false → nat_le 1 n ≡ true
not_zero n h = grind (arith, nat_tests)

line_is : (a : Argument) → Holds IsItem (line_number a)
line_is a =
    behind (λ n. is_half n ≡ true) IsItem (s.half a) (λ n. cond (nat_eq n 0) None (Some (items.Ln n))) (half_argument a)
    (λ n e. Rattle.asm_read.proofs.Holds.either_way IsItem (nat_eq n 0) None (Some (items.Ln n)) (λ z. tt) (λ z. and_from (nat_le 1 n) (is_half n) (not_zero n z) e))

align_is : (a : Argument) → Holds IsItem (align a)
align_is a = if_so IsItem (is_number 4 (s.full a)) (Some items.Align) (λ e. refl)

directive_is : (w : Keyword) (a : Argument) → IsWritten a → Holds IsItem (directive w a)
directive_is words.File a h = file_is a
directive_is words.Globl a h = mapped (λ k. is_name k ≡ true) IsItem (name_of a) (λ k. items.Globl k) (name_is a h) (λ k e. e)
directive_is words.Byte a h = mapped (λ n. nat_lt n 256 ≡ true) IsItem (s.byte a) (λ n. items.Byte n) (byte_argument a) (λ n e. e)
directive_is words.Value a h = mapped (λ n. is_half n ≡ true) IsItem (s.half a) (λ n. items.Value n) (half_argument a) (λ n e. e)
directive_is words.Long a h = mapped (λ w. is_datum w ≡ true) IsItem (s.datum a) (λ w. items.Long w) (datum_is a h) (λ w e. e)
directive_is words.Zero a h = mapped (λ n. is_full n ≡ true) IsItem (s.full a) (λ n. items.Zero n) (full_argument a) (λ n e. e)
directive_is words.Align a h = align_is a
directive_is words.Ln a h = line_is a
directive_is w a h = tt

group_part_is : (w : Keyword) (a : Argument) → IsWritten a → Holds IsPart (group_part w a)
group_part_is words.Val a h = mapped (λ v. is_value v ≡ true) IsPart (s.value a) (λ v. val v) (value_is a h) (λ v e. e)
group_part_is words.Scl a h = mapped (λ z. is_signed z ≡ true) IsPart (s.signed a) (λ z. scl z) (signed_argument a) (λ z e. e)
group_part_is words.Ty a h = mapped (λ n. is_half n ≡ true) IsPart (s.half a) (λ n. ty n) (half_argument a) (λ n e. e)
group_part_is words.Tag a h = mapped (λ k. is_name k ≡ true) IsPart (name_of a) (λ k. tag k) (name_is a h) (λ k e. e)
group_part_is words.Line a h = mapped (λ n. is_half n ≡ true) IsPart (s.half a) (λ n. line n) (half_argument a) (λ n e. e)
group_part_is words.Size a h = mapped (λ n. is_half n ≡ true) IsPart (s.half a) (λ n. size n) (half_argument a) (λ n e. e)
group_part_is w a h = tt

abbrev AreHalves : List ℕ → Type 0
AreHalves ns = list_all is_half ns ≡ true

halves_are : (more : List Argument) → Holds AreHalves (each_half more)
halves_are [] = refl
halves_are (a ∷ more) =
    behind (λ n. is_half n ≡ true) AreHalves (s.half a) (λ n. each_half more >>= λ ns. Some (n ∷ ns)) (half_argument a)
    (λ n e. behind AreHalves AreHalves (each_half more) (λ ns. Some (n ∷ ns)) (halves_are more) (λ ns es. and_from (is_half n) (list_all is_half ns) e es))

dimensions_are : (more : List Argument) → Holds IsPart (dimensions more)
dimensions_are more = mapped AreHalves IsPart (each_half more) (λ ns. dims ns) (halves_are more) (λ ns e. e)

bare_is : (w : Keyword) → Holds IsStmt (bare_statement w)
bare_is words.Text = refl
bare_is words.Init = refl
bare_is words.Endef = tt
bare_is w = code_stmt (alone w) (alone_is w)

begin_is : (a : Argument) → IsWritten a → Holds IsStmt (begin_of a)
begin_is a h = mapped (λ k. is_name k ≡ true) IsStmt (name_of a) (λ k. begin k) (name_is a h) (λ k e. e)

one_statement_is : (w : Keyword) (a : Argument) → IsWritten a → Holds IsStmt (one_statement w a)
one_statement_is words.File a h = item_stmt (directive words.File a) (directive_is words.File a h)
one_statement_is words.Globl a h = item_stmt (directive words.Globl a) (directive_is words.Globl a h)
one_statement_is words.Byte a h = item_stmt (directive words.Byte a) (directive_is words.Byte a h)
one_statement_is words.Value a h = item_stmt (directive words.Value a) (directive_is words.Value a h)
one_statement_is words.Long a h = item_stmt (directive words.Long a) (directive_is words.Long a h)
one_statement_is words.Zero a h = item_stmt (directive words.Zero a) (directive_is words.Zero a h)
one_statement_is words.Align a h = item_stmt (directive words.Align a) (directive_is words.Align a h)
one_statement_is words.Ln a h = item_stmt (directive words.Ln a) (directive_is words.Ln a h)
one_statement_is words.Def a h = begin_is a h
one_statement_is words.Val a h = part_stmt (group_part words.Val a) (group_part_is words.Val a h)
one_statement_is words.Scl a h = part_stmt (group_part words.Scl a) (group_part_is words.Scl a h)
one_statement_is words.Ty a h = part_stmt (group_part words.Ty a) (group_part_is words.Ty a h)
one_statement_is words.Tag a h = part_stmt (group_part words.Tag a) (group_part_is words.Tag a h)
one_statement_is words.Line a h = part_stmt (group_part words.Line a) (group_part_is words.Line a h)
one_statement_is words.Size a h = part_stmt (group_part words.Size a) (group_part_is words.Size a h)
one_statement_is words.Dim a h = part_stmt (dimensions (a ∷ [])) (dimensions_are (a ∷ []))
one_statement_is w a h = code_stmt (one w a) (one_is w a h)

common_is : (w : Keyword) (k : List ℕ) (n : ℕ) → is_name k ≡ true → is_full n ≡ true → IsItem (common_of w k n)
common_is words.Comm k n h g = and_from (is_name k) (is_full n) h g
common_is w k n h g = and_from (is_name k) (is_full n) h g

commons_are : (w : Keyword) (a b : Argument) → IsWritten a → Holds IsItem (common w a b)
commons_are w a b h =
    behind (λ k. is_name k ≡ true) IsItem (name_of a) (λ k. s.full b >>= λ n. Some (common_of w k n)) (name_is a h)
    (λ k e. behind (λ n. is_full n ≡ true) IsItem (s.full b) (λ n. Some (common_of w k n)) (full_argument b) (λ n f. common_is w k n e f))

two_statement_is : (w : Keyword) (a b : Argument) → IsWritten a → IsWritten b → Holds IsStmt (two_statement w a b)
two_statement_is words.Comm a b h g = item_stmt (common words.Comm a b) (commons_are words.Comm a b h)
two_statement_is words.Lcomm a b h g = item_stmt (common words.Lcomm a b) (commons_are words.Lcomm a b h)
two_statement_is words.Dim a b h g = part_stmt (dimensions (a ∷ (b ∷ []))) (dimensions_are (a ∷ (b ∷ [])))
two_statement_is w a b h g = code_stmt (two w a b) (two_is w a b h g)

long_is : (w : Keyword) (more : List Argument) → Holds IsStmt (long_statement w more)
long_is words.Dim more = if_so IsStmt (nat_le (length more) 4) (one_part (dimensions more)) (λ e. part_stmt (dimensions more) (dimensions_are more))
long_is w more = tt

made_is : (w : Keyword) (more : List Argument) → AreWritten more → Holds IsStmt (make w more)
made_is w [] h = bare_is w
made_is w (a ∷ []) h = one_statement_is w a h.0
made_is w (a ∷ (b ∷ [])) h = two_statement_is w a b h.0 h.1.0
made_is w (a ∷ (b ∷ (c ∷ more))) h = long_is w (a ∷ (b ∷ (c ∷ more)))

or_wrong_is : (o : Option Stmt) → Holds IsStmt o → IsStmt (or_wrong o)
or_wrong_is None h = tt
or_wrong_is (Some x) h = h

statement_is : (ts : List Tok) → IsStmt (statement_at ts)
statement_is (t.Word w ∷ ts) =
    or_wrong_is (keyword_named w >>= λ k. arguments_at ts >>= λ more. make k more)
    (behind_any IsStmt (keyword_named w) (λ k. arguments_at ts >>= λ more. make k more) (λ k. behind AreWritten IsStmt (arguments_at ts) (λ more. make k more) (arguments_written ts) (λ more h. made_is k more h)))
statement_is ts = tt

-- ---- lines

abbrev pub AreStmts : List Stmt → Type 0
AreStmts [] = Unit {0}
AreStmts (x ∷ xs) = IsStmt x × AreStmts xs

label_is : (k : List ℕ) → IsStmt (label_at k)
label_is k = by (is_name k) refl
  where
    by : (b : Bool) → is_name k ≡ b → IsStmt (cond b (item (items.Label k)) wrong)
    by true e = e
    by false e = tt

stmts_are : (ts : List Tok) → AreStmts (stmts_at ts)
stmts_are [] = tt
stmts_are (t.Word k ∷ (t.Mark signs.Colon ∷ ts)) = (label_is k, stmts_are ts)
stmts_are (u ∷ ts) = (statement_is (u ∷ ts), tt)

joined_are : (xs ys : List Stmt) → AreStmts xs → AreStmts ys → AreStmts (xs ++ ys)
joined_are [] ys h g = g
joined_are (x ∷ xs) ys h g = (h.0, joined_are xs ys h.1 g)

all_are : (parts : List (List Tok)) → AreStmts (flat_map stmts_at parts)
all_are [] = tt
all_are (ts ∷ more) = joined_are (stmts_at ts) (flat_map stmts_at more) (stmts_are ts) (all_are more)

pub line_are : (ts : List Tok) → AreStmts (stmts_of ts)
line_are ts = all_are (slice_split is_semicolon ts)
