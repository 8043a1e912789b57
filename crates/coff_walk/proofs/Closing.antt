-- Going on behind a symbol that doesn't end what is looked for.
use Rattle.std.proofs.Common.{◌≡◌, ℕ, suc, ◌+◌, ◌-◌, ◌<◌, ◌≤◌, [], ◌∷◌, map, Option, Some, None, refl, sym, ap, subst, ◌∙◌, arith, ◌⊎◌, ⊎_elim}
use Rattle.coff_rec.specs.declared.nesting.Kind.{Kind}
use Rattle.coff_rec.specs.declared.nesting.Kind.TheVariants.{Tag, Member, EndOfTag, Function, BodyBegin, BodyEnd, BlockBegin, BlockEnd, Misnamed, Other}
use Rattle.coff_rec.specs.Symbols.{Symbol}
use Rattle.coff_rec.specs.Nesting.{nested_of, tag_by, tag_end, body_by, body_end, function_by, function_end, block_by, block_end}
use Rattle.coff_walk.specs.Walk.{Symtab, symbol_at, symbols_after, nested_after, Stands, eos_by, eos_of}
use Rattle.coff_walk.proofs.Walk.{rises, first_symbol, no_symbol}

pub further : (t : Symtab) (n next : ℕ) (kind : Kind) → Stands t n next kind → n < next
further t n next kind s = subst (λ m. n < m) (sym s.next_is) (rises t n)

pub smaller : (t : Symtab) (n next : ℕ) (kind : Kind) → Stands t n next kind → t.count - next < t.count - n
smaller t n next kind s = let f = further t n next kind s in let i = s.inside in omega (arith, f, i)

-- the symbols from here on are this one and those behind it
pub split : (t : Symtab) (n next : ℕ) (kind : Kind) → Stands t n next kind → nested_after t n ≡ nested_of (symbol_at t n) ∷ nested_after t next
split t n next kind s = ap (map nested_of) (first_symbol t n s.inside) ∙ ap (λ m. nested_of (symbol_at t n) ∷ nested_after t m) (sym s.next_is)

pub nothing : (t : Symtab) (n : ℕ) → t.count ≤ n → nested_after t n ≡ []
nothing t n le = ap (map nested_of) (no_symbol t n le)

-- ---- what one symbol makes of the rest

pub tag_step : (t : Symtab) (n next : ℕ) (kind : Kind) → Stands t n next kind → tag_end (nested_after t n) ≡ tag_by kind next (tag_end (nested_after t next))
tag_step t n next kind s =
    ap tag_end (split t n next kind s)
    ∙ ap (λ k. tag_by k (nested_of (symbol_at t n)).next (tag_end (nested_after t next))) (sym s.kind_is)
    ∙ ap (λ m. tag_by kind m (tag_end (nested_after t next))) (sym s.next_is)

pub body_step : (t : Symtab) (n next : ℕ) (kind : Kind) → Stands t n next kind → body_end (nested_after t n) ≡ body_by kind next (body_end (nested_after t next))
body_step t n next kind s =
    ap body_end (split t n next kind s)
    ∙ ap (λ k. body_by k (nested_of (symbol_at t n)).next (body_end (nested_after t next))) (sym s.kind_is)
    ∙ ap (λ m. body_by kind m (body_end (nested_after t next))) (sym s.next_is)

pub function_step : (t : Symtab) (own n next : ℕ) (kind : Kind) → Stands t n next kind
    → function_end own (nested_after t n) ≡ function_by own kind (body_end (nested_after t next)) (function_end own (nested_after t next))
function_step t own n next kind s =
    ap (function_end own) (split t n next kind s)
    ∙ ap (λ k. function_by own k (body_end (nested_after t next)) (function_end own (nested_after t next))) (sym s.kind_is)

pub block_step : (t : Symtab) (inner n next : ℕ) (kind : Kind) → Stands t n next kind
    → block_end (nested_after t n) inner ≡ block_by kind next inner (block_end (nested_after t next))
block_step t inner n next kind s =
    ap (λ es. block_end es inner) (split t n next kind s)
    ∙ ap (λ k. block_by k (nested_of (symbol_at t n)).next inner (block_end (nested_after t next))) (sym s.kind_is)
    ∙ ap (λ m. block_by kind m inner (block_end (nested_after t next))) (sym s.next_is)

-- ---- symbols that are passed

pub tag_other : (k : Kind) (next : ℕ) (rest : Option ℕ) → (k ≡ Member → ⊥) → (k ≡ EndOfTag → ⊥) → tag_by k next rest ≡ None
tag_other Member next rest a b = absurd (a refl)
tag_other EndOfTag next rest a b = absurd (b refl)
tag_other Tag next rest a b = refl
tag_other Function next rest a b = refl
tag_other BodyBegin next rest a b = refl
tag_other BodyEnd next rest a b = refl
tag_other BlockBegin next rest a b = refl
tag_other BlockEnd next rest a b = refl
tag_other Misnamed next rest a b = refl
tag_other Other next rest a b = refl

pub body_other : (k : Kind) (next : ℕ) (rest : Option ℕ) → (k ≡ BodyEnd → ⊥) → (k ≡ BodyBegin → ⊥) → body_by k next rest ≡ rest
body_other BodyEnd next rest a b = absurd (a refl)
body_other BodyBegin next rest a b = absurd (b refl)
body_other Tag next rest a b = refl
body_other Member next rest a b = refl
body_other EndOfTag next rest a b = refl
body_other Function next rest a b = refl
body_other BlockBegin next rest a b = refl
body_other BlockEnd next rest a b = refl
body_other Misnamed next rest a b = refl
body_other Other next rest a b = refl

pub function_other : (own : ℕ) (k : Kind) (body rest : Option ℕ) → (k ≡ Function → ⊥) → (k ≡ BodyBegin → ⊥) → function_by own k body rest ≡ rest
function_other own Function body rest a b = absurd (a refl)
function_other own BodyBegin body rest a b = absurd (b refl)
function_other own BodyEnd body rest a b = refl
function_other own Tag body rest a b = refl
function_other own Member body rest a b = refl
function_other own EndOfTag body rest a b = refl
function_other own BlockBegin body rest a b = refl
function_other own BlockEnd body rest a b = refl
function_other own Misnamed body rest a b = refl
function_other own Other body rest a b = refl

pub block_other : (k : Kind) (next inner : ℕ) (rest : ℕ → Option ℕ) → (k ≡ BlockBegin → ⊥) → (k ≡ BlockEnd → ⊥) → (k ≡ BodyBegin → ⊥) → (k ≡ BodyEnd → ⊥) → block_by k next inner rest ≡ rest inner
block_other BlockBegin next inner rest a b c d = absurd (a refl)
block_other BlockEnd next inner rest a b c d = absurd (b refl)
block_other BodyBegin next inner rest a b c d = absurd (c refl)
block_other BodyEnd next inner rest a b c d = absurd (d refl)
block_other Function next inner rest a b c d = refl
block_other Tag next inner rest a b c d = refl
block_other Member next inner rest a b c d = refl
block_other EndOfTag next inner rest a b c d = refl
block_other Misnamed next inner rest a b c d = refl
block_other Other next inner rest a b c d = refl

-- ---- a search for an end goes on, finds it, or finds none

pub tag_found : {t : Symtab} {n next : ℕ} {kind : Kind} {total : Option ℕ} → Stands t n next kind → kind ≡ EndOfTag → tag_end (nested_after t n) ≡ total → Some next ≡ total
tag_found {t} {n} {next} {kind} {total} s k so_far = sym (ap (λ k. tag_by k next (tag_end (nested_after t next))) k) ∙ sym (tag_step t n next kind s) ∙ so_far

pub tag_lost : {t : Symtab} {n next : ℕ} {kind : Kind} {total : Option ℕ} → Stands t n next kind → (kind ≡ Member → ⊥) → (kind ≡ EndOfTag → ⊥) → tag_end (nested_after t n) ≡ total → None ≡ total
tag_lost {t} {n} {next} {kind} {total} s a b so_far = sym (tag_other kind next (tag_end (nested_after t next)) a b) ∙ sym (tag_step t n next kind s) ∙ so_far

pub tag_on : {t : Symtab} {n next : ℕ} {kind : Kind} {total : Option ℕ} → Stands t n next kind → kind ≡ Member → tag_end (nested_after t n) ≡ total → tag_end (nested_after t next) ≡ total
tag_on {t} {n} {next} {kind} {total} s k so_far = sym (ap (λ k. tag_by k next (tag_end (nested_after t next))) k) ∙ sym (tag_step t n next kind s) ∙ so_far

pub tag_out : (t : Symtab) (n : ℕ) {total : Option ℕ} → t.count ≤ n → tag_end (nested_after t n) ≡ total → None ≡ total
tag_out t n {total} le so_far = sym (ap tag_end (nothing t n le)) ∙ so_far

pub eos_step : {t : Symtab} {n next : ℕ} {kind : Kind} → Stands t n next kind → eos_of (symbols_after t n) ≡ eos_by kind (symbol_at t n) (eos_of (symbols_after t next))
eos_step {t} {n} {next} {kind} s =
    ap eos_of (first_symbol t n s.inside)
    ∙ ap (λ k. eos_by k (symbol_at t n) (eos_of (symbols_after t (symbol_at t n).next))) (sym s.kind_is)
    ∙ ap (λ m. eos_by kind (symbol_at t n) (eos_of (symbols_after t m))) (sym s.next_is)

pub eos_found : {t : Symtab} {n next : ℕ} {kind : Kind} {total : Option Symbol} → Stands t n next kind → kind ≡ EndOfTag → eos_of (symbols_after t n) ≡ total → total ≡ Some (symbol_at t n)
eos_found {t} {n} {next} {kind} {total} s k so_far = sym so_far ∙ eos_step s ∙ ap (λ k. eos_by k (symbol_at t n) (eos_of (symbols_after t next))) k

pub eos_on : {t : Symtab} {n next : ℕ} {kind : Kind} {total : Option Symbol} → Stands t n next kind → kind ≡ Member → eos_of (symbols_after t n) ≡ total → eos_of (symbols_after t next) ≡ total
eos_on {t} {n} {next} {kind} {total} s k so_far = sym (ap (λ k. eos_by k (symbol_at t n) (eos_of (symbols_after t next))) k) ∙ sym (eos_step s) ∙ so_far

eos_other : (k : Kind) (s : Symbol) (rest : Option Symbol) → (k ≡ Member → ⊥) → (k ≡ EndOfTag → ⊥) → eos_by k s rest ≡ None
eos_other Member s rest a b = absurd (a refl)
eos_other EndOfTag s rest a b = absurd (b refl)
eos_other Tag s rest a b = refl
eos_other Function s rest a b = refl
eos_other BodyBegin s rest a b = refl
eos_other BodyEnd s rest a b = refl
eos_other BlockBegin s rest a b = refl
eos_other BlockEnd s rest a b = refl
eos_other Misnamed s rest a b = refl
eos_other Other s rest a b = refl

pub eos_lost : {t : Symtab} {n next : ℕ} {kind : Kind} {total : Option Symbol} → Stands t n next kind → (kind ≡ Member → ⊥) → (kind ≡ EndOfTag → ⊥) → eos_of (symbols_after t n) ≡ total → total ≡ None
eos_lost {t} {n} {next} {kind} {total} s a b so_far = sym so_far ∙ eos_step s ∙ eos_other kind (symbol_at t n) (eos_of (symbols_after t next)) a b

pub eos_out : (t : Symtab) (n : ℕ) {total : Option Symbol} → t.count ≤ n → eos_of (symbols_after t n) ≡ total → total ≡ None
eos_out t n {total} le so_far = sym so_far ∙ ap eos_of (no_symbol t n le)

pub body_found : {t : Symtab} {n next : ℕ} {kind : Kind} {total : Option ℕ} → Stands t n next kind → kind ≡ BodyEnd → body_end (nested_after t n) ≡ total → Some next ≡ total
body_found {t} {n} {next} {kind} {total} s k so_far = sym (ap (λ k. body_by k next (body_end (nested_after t next))) k) ∙ sym (body_step t n next kind s) ∙ so_far

pub body_lost : {t : Symtab} {n next : ℕ} {kind : Kind} {total : Option ℕ} → Stands t n next kind → kind ≡ BodyBegin → body_end (nested_after t n) ≡ total → None ≡ total
body_lost {t} {n} {next} {kind} {total} s k so_far = sym (ap (λ k. body_by k next (body_end (nested_after t next))) k) ∙ sym (body_step t n next kind s) ∙ so_far

pub body_on : {t : Symtab} {n next : ℕ} {kind : Kind} {total : Option ℕ} → Stands t n next kind → (kind ≡ BodyEnd → ⊥) → (kind ≡ BodyBegin → ⊥) → body_end (nested_after t n) ≡ total → body_end (nested_after t next) ≡ total
body_on {t} {n} {next} {kind} {total} s a b so_far = sym (body_other kind next (body_end (nested_after t next)) a b) ∙ sym (body_step t n next kind s) ∙ so_far

pub body_out : (t : Symtab) (n : ℕ) {total : Option ℕ} → t.count ≤ n → body_end (nested_after t n) ≡ total → None ≡ total
body_out t n {total} le so_far = sym (ap body_end (nothing t n le)) ∙ so_far

pub function_found : (own : ℕ) {t : Symtab} {n next : ℕ} {kind : Kind} {total : Option ℕ} → Stands t n next kind → kind ≡ Function → function_end own (nested_after t n) ≡ total → Some own ≡ total
function_found own {t} {n} {next} {kind} {total} s k so_far =
    sym (ap (λ k. function_by own k (body_end (nested_after t next)) (function_end own (nested_after t next))) k) ∙ sym (function_step t own n next kind s) ∙ so_far

pub function_body : (own : ℕ) {t : Symtab} {n next : ℕ} {kind : Kind} {total : Option ℕ} → Stands t n next kind → kind ≡ BodyBegin → function_end own (nested_after t n) ≡ total → body_end (nested_after t next) ≡ total
function_body own {t} {n} {next} {kind} {total} s k so_far =
    sym (ap (λ k. function_by own k (body_end (nested_after t next)) (function_end own (nested_after t next))) k) ∙ sym (function_step t own n next kind s) ∙ so_far

pub function_on : (own : ℕ) {t : Symtab} {n next : ℕ} {kind : Kind} {total : Option ℕ} → Stands t n next kind → (kind ≡ Function → ⊥) → (kind ≡ BodyBegin → ⊥)
    → function_end own (nested_after t n) ≡ total → function_end own (nested_after t next) ≡ total
function_on own {t} {n} {next} {kind} {total} s a b so_far =
    sym (function_other own kind (body_end (nested_after t next)) (function_end own (nested_after t next)) a b) ∙ sym (function_step t own n next kind s) ∙ so_far

pub function_out : (t : Symtab) (own n : ℕ) {total : Option ℕ} → t.count ≤ n → function_end own (nested_after t n) ≡ total → Some own ≡ total
function_out t own n {total} le so_far = sym (ap (function_end own) (nothing t n le)) ∙ so_far

-- ---- what the walk inside a block keeps

pub record InBlock (t : Symtab) (from n inner : ℕ) : Type 0 where
  pub few : inner ≤ n
  pub same : block_end (nested_after t n) inner ≡ block_end (nested_after t from) 0

pub deeper : (t : Symtab) (from n inner next : ℕ) (kind : Kind) → Stands t n next kind → kind ≡ BlockBegin → InBlock t from n inner → InBlock t from next (inner + 1)
deeper t from n inner next kind s k b =
    let f = further t n next kind s in
    let few = b.few in
    let one : suc inner ≡ inner + 1 = omega arith in
    record { few = omega (arith, f, few); same = sym (block_step t inner n next kind s ∙ ap (λ k. block_by k next inner (block_end (nested_after t next))) k ∙ ap (block_end (nested_after t next)) one) ∙ b.same }

pub back : (t : Symtab) (from n inner next : ℕ) (kind : Kind) → Stands t n next kind → kind ≡ BlockEnd → 0 < inner → InBlock t from n inner → InBlock t from next (inner - 1)
back t from n inner next kind s k more b =
    let f = further t n next kind s in
    let few = b.few in
    let one : inner ≡ suc (inner - 1) = omega arith in
    record { few = omega (arith, f, few); same = sym (block_step t inner n next kind s ∙ ap (λ k. block_by k next inner (block_end (nested_after t next))) k ∙ ap (λ i. block_by BlockEnd next i (block_end (nested_after t next))) one) ∙ b.same }

pub along : (t : Symtab) (from n inner next : ℕ) (kind : Kind) → Stands t n next kind → (kind ≡ BlockBegin → ⊥) → (kind ≡ BlockEnd → ⊥) → (kind ≡ BodyBegin → ⊥) → (kind ≡ BodyEnd → ⊥)
    → InBlock t from n inner → InBlock t from next inner
along t from n inner next kind s p q u v b =
    let f = further t n next kind s in
    let few = b.few in
    record { few = omega (arith, f, few); same = sym (block_step t inner n next kind s ∙ block_other kind next inner (block_end (nested_after t next)) p q u v) ∙ b.same }

pub block_found : {t : Symtab} {from n inner next : ℕ} {kind : Kind} → Stands t n next kind → kind ≡ BlockEnd → inner ≡ 0 → InBlock t from n inner → Some next ≡ block_end (nested_after t from) 0
block_found {t} {from} {n} {inner} {next} {kind} s k none b =
    sym (ap (λ i. block_by BlockEnd next i (block_end (nested_after t next))) none)
    ∙ sym (ap (λ k. block_by k next inner (block_end (nested_after t next))) k)
    ∙ sym (block_step t inner n next kind s) ∙ b.same

pub block_lost : {t : Symtab} {from n inner next : ℕ} {kind : Kind} → Stands t n next kind → (kind ≡ BodyBegin) ⊎ (kind ≡ BodyEnd) → InBlock t from n inner → None ≡ block_end (nested_after t from) 0
block_lost {t} {from} {n} {inner} {next} {kind} s k b =
    ⊎_elim (λ k. sym (ap (λ k. block_by k next inner (block_end (nested_after t next))) k)) (λ k. sym (ap (λ k. block_by k next inner (block_end (nested_after t next))) k)) k
    ∙ sym (block_step t inner n next kind s) ∙ b.same

pub block_out : (t : Symtab) (n : ℕ) {from inner : ℕ} → t.count ≤ n → InBlock t from n inner → None ≡ block_end (nested_after t from) 0
block_out t n {from} {inner} le b = sym (ap (λ es. block_end es inner) (nothing t n le)) ∙ b.same
