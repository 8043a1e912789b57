-- Files read one after the other.
use Rattle.std.proofs.Common.{◌≡◌, ◌⊎◌, ℕ, zero, suc, ◌+◌, ◌<◌, ◌≤◌, List, [], ◌∷◌, ◌++◌, length, length-take, take, drop, inl, inr, refl, sym, ap, ◌∙◌, arith}
use Rattle.std.specs.Prelude.{Option, Some, None, true, false, nat_lt, Vec, Result, Ok, Err, All, Contains, slice_get}
use Rattle.std.specs.declared.alloc.Global.{Global}
use Rattle.std.proofs.lemmas.Bool.Decides.{nat_tests}
use Rattle.std.proofs.lemmas.List.{take_all}
use Rattle.std.proofs.lemmas.List.Elements.{All-map}
use Rattle.c_type.specs.Names.{Name, pick}
use Rattle.outside.specs.Told.{Held, ReadsFile, ReadsHeld}
use Rattle.outside.specs.declared.FileErr.TheVariants as fe
use Rattle.top.specs.Reading.{Reading, Texts, Lacks, Exceeds, is_large, with_text, with_file, reading, ReadsTexts, ReadsText}
use Rattle.c_front.specs.Sources.{texts_of}
use Rattle.top.specs.declared.answer.End.{End}
use Rattle.top.specs.declared.answer.End.TheVariants.{Ran, Signalled, Session, Built, Usage, Absent, TooLarge, Refused, ReadFault, WriteFault, Budget, Memory}

-- ---- one file

-- a front of a text that is shorter than what was asked for is the text
front_is : (n : ℕ) (text front : List ℕ) → front ≡ take (n + 1) text → length front ≤ n → text ≡ front
front_is n text front is short =
    let len = ap length is ∙ length-take (n + 1) text in
    sym (is ∙ take_all (n + 1) text (omega arith))

front_long : (n : ℕ) (text front : List ℕ) → front ≡ take (n + 1) text → n < length front → n < length text
front_long n text front is long = let len = ap length is ∙ length-take (n + 1) text in omega arith

less_is : (n m : ℕ) → n < m → nat_lt n m ≡ true
less_is n m below = grind (arith, nat_tests)

not_less : (n m : ℕ) → m ≤ n → nat_lt n m ≡ false
not_less n m above = grind (arith, nat_tests)

pub text_read : (o : Option Held) (name : Name) (v : Vec ℕ Global) → ReadsFile o name 262145 (Ok v) → length v.items ≤ 262144 → ReadsText o name (Ok v)
text_read None name v reads short = (tt, short)
text_read (Some held) name v reads short = (by_held (held name) reads, short)
  where
    by_held : (h : Option (List ℕ)) → ReadsHeld h 262145 (Ok v) → h ≡ Some v.items
    by_held None reads = absurd (let e : Ok v ≡ Err fe.Absent = reads in cc)
    by_held (Some text) reads = ap Some (front_is 262144 text v.items reads short)

pub text_large : (o : Option Held) (name : Name) (v : Vec ℕ Global) (end : End) → ReadsFile o name 262145 (Ok v) → 262144 < length v.items → (end ≡ TooLarge name) ⊎ (end ≡ Memory) → ReadsText o name (Err end)
text_large None name v end reads long (inl is) = rw is (refl, tt)
text_large (Some held) name v end reads long (inl is) = rw is (refl, by_held (held name) reads)
  where
    by_held : (h : Option (List ℕ)) → ReadsHeld h 262145 (Ok v) → (text : List ℕ) × (h ≡ Some text) × (is_large text ≡ true)
    by_held None reads = absurd (let e : Ok v ≡ Err fe.Absent = reads in cc)
    by_held (Some text) reads = (text, refl, less_is 262144 (length text) (front_long 262144 text v.items reads long))
text_large o name v end reads long (inr is) = rw is tt

pub text_absent : (o : Option Held) (name : Name) (end : End) → ReadsFile o name 262145 (Err fe.Absent) → (end ≡ Absent name) ⊎ (end ≡ Memory) → ReadsText o name (Err end)
text_absent None name end reads (inl is) = rw is (refl, tt)
text_absent (Some held) name end reads (inl is) = rw is (refl, by_held (held name) reads)
  where
    by_held : (h : Option (List ℕ)) → ReadsHeld h 262145 (Err fe.Absent) → h ≡ None
    by_held None reads = refl
    by_held (Some text) reads = absurd (reads refl)
text_absent o name end reads (inr is) = rw is tt

-- ---- all files

-- texts, and what is read behind them
abbrev pub behind : List (List ℕ) → Reading → Reading
behind [] r = r
behind (t ∷ ts) r = with_text t (behind ts r)

behind_more : (ts : List (List ℕ)) (t : List ℕ) (r : Reading) → behind ts (with_text t r) ≡ behind (ts ++ t ∷ []) r
behind_more [] t r = refl
behind_more (a ∷ ts) t r = ap (with_text a) (behind_more ts t r)

behind_all : (ts : List (List ℕ)) → behind ts (Texts []) ≡ Texts ts
behind_all [] = refl
behind_all (a ∷ ts) = ap (with_text a) (behind_all ts)

behind_lacks : (ts : List (List ℕ)) (n : Name) → behind ts (Lacks n) ≡ Lacks n
behind_lacks [] n = refl
behind_lacks (a ∷ ts) n = ap (with_text a) (behind_lacks ts n)

behind_exceeds : (ts : List (List ℕ)) (n : Name) → behind ts (Exceeds n) ≡ Exceeds n
behind_exceeds [] n = refl
behind_exceeds (a ∷ ts) n = ap (with_text a) (behind_exceeds ts n)

-- the first i files hold these texts, where it is told
abbrev pub SoFar : Option Held → List Name → ℕ → List (List ℕ) → Type 0
SoFar None names i texts = Unit {0}
SoFar (Some held) names i texts = behind texts (reading held (drop i names)) ≡ reading held names

pub none_yet : (o : Option Held) (names : List Name) → SoFar o names 0 []
none_yet None names = tt
none_yet (Some held) names = refl

-- the names from number i on
from_name : (names : List Name) (i : ℕ) (name : Name) → slice_get names i ≡ Some name → drop i names ≡ name ∷ drop (i + 1) names
from_name [] i name is = absurd (let e : None ≡ Some name = is in cc)
from_name (a ∷ names) zero name is = (let e : Some a ≡ Some name = is in let same : a ≡ name = (cc) in ap (λ x. x ∷ names) same)
from_name (a ∷ names) (suc i) name is = from_name names i name is ∙ ap (λ n. name ∷ drop n (a ∷ names)) (next i)
  where
    next : (i : ℕ) → suc (i + 1) ≡ suc i + 1
    next i = omega arith

kept : (held : Held) (name : Name) (text : List ℕ) (rest : Reading) → held name ≡ Some text → is_large text ≡ false → with_file name (held name) rest ≡ with_text text rest
kept held name text rest is short = ap (λ h. with_file name h rest) is ∙ ap (λ b. pick b (Exceeds name) (with_text text rest)) short

-- one file more
pub so_more : (o : Option Held) (names : List Name) (i : ℕ) (texts : List (List ℕ)) (name : Name) (v : Vec ℕ Global) → SoFar o names i texts → slice_get names i ≡ Some name → ReadsText o name (Ok v)
    → SoFar o names (i + 1) (texts ++ v.items ∷ [])
so_more None names i texts name v so there reads = tt
so_more (Some held) names i texts name v so there reads =
    let rest = reading held (drop (i + 1) names) in
    sym (behind_more texts v.items rest)
    ∙ ap (behind texts) (sym (kept held name v.items rest reads.0 (not_less 262144 (length v.items) reads.1)))
    ∙ ap (λ l. behind texts (reading held l)) (sym (from_name names i name there))
    ∙ so

past_all : (names : List Name) → drop (length names) names ≡ []
past_all [] = refl
past_all (a ∷ names) = past_all names

-- all files
pub so_all : (o : Option Held) (names : List Name) (i : ℕ) (texts : Vec (Vec ℕ Global) Global) → SoFar o names i (texts_of texts.items) → i ≡ length names → length (texts_of texts.items) ≡ length names → All (λ t. length t.items ≤ 262144) texts.items
    → ReadsTexts o names (Ok texts)
so_all None names i texts so end count short = (count, All-map (λ text. length text ≤ 262144) (λ t. t.items) texts.items short)
so_all (Some held) names i texts so end count short =
    sym so ∙ ap (λ n. behind (texts_of texts.items) (reading held (drop n names))) end
    ∙ ap (λ l. behind (texts_of texts.items) (reading held l)) (past_all names) ∙ behind_all (texts_of texts.items)

within : (names : List Name) (i : ℕ) (name : Name) → slice_get names i ≡ Some name → Contains names name
within [] i name is = absurd (let e : None ≡ Some name = is in cc)
within (a ∷ names) zero name is = (0, omega arith, (let e : Some a ≡ Some name = is in cc))
within (a ∷ names) (suc i) name is = let w = within names i name is in (suc w.0, (let below = w.1 in omega arith), w.2)

-- a file that can't be taken
pub so_fails : (o : Option Held) (names : List Name) (i : ℕ) (texts : List (List ℕ)) (name : Name) (e : End) → SoFar o names i texts → slice_get names i ≡ Some name → ReadsText o name (Err e) → ReadsTexts o names (Err e)
so_fails o names i texts name (Ran s) so there reads = absurd reads
so_fails o names i texts name (Signalled g) so there reads = absurd reads
so_fails o names i texts name Session so there reads = absurd reads
so_fails o names i texts name Built so there reads = absurd reads
so_fails o names i texts name Usage so there reads = absurd reads
so_fails None names i texts name (Absent other) so there reads = rw (reads.0) (within names i name there)
so_fails (Some held) names i texts name (Absent other) so there reads =
    sym so ∙ ap (λ l. behind texts (reading held l)) (from_name names i name there)
    ∙ ap (λ h. behind texts (with_file name h (reading held (drop (i + 1) names)))) reads.1
    ∙ behind_lacks texts name ∙ ap Lacks (sym reads.0)
so_fails None names i texts name (TooLarge other) so there reads = rw (reads.0) (within names i name there)
so_fails (Some held) names i texts name (TooLarge other) so there reads =
    let large = reads.1 in
    let rest = reading held (drop (i + 1) names) in
    sym so ∙ ap (λ l. behind texts (reading held l)) (from_name names i name there)
    ∙ ap (λ h. behind texts (with_file name h rest)) large.1
    ∙ ap (λ b. behind texts (pick b (Exceeds name) (with_text large.0 rest))) large.2
    ∙ behind_exceeds texts name ∙ ap Exceeds (sym reads.0)
so_fails o names i texts name (Refused why) so there reads = absurd reads
so_fails o names i texts name ReadFault so there reads = tt
so_fails o names i texts name WriteFault so there reads = absurd reads
so_fails o names i texts name Budget so there reads = absurd reads
so_fails o names i texts name Memory so there reads = tt

-- an error that is handed on
pub reads_handed : (o : Option Held) (names : List Name) (result : Result (Vec (Vec ℕ Global) Global) End) (e : End) → (y : End) × (result ≡ Err y) × (y ≡ e) → ReadsTexts o names (Err e) → ReadsTexts o names result
reads_handed o names result e is reads = rw (is.1, is.2) reads
