-- From texts to their main and its code: there is one, or none.
use Rattle.std.proofs.Common.{◌≡◌, ℕ, ◌+◌, ◌<◌, ◌≤◌, List, [], ◌∷◌, length, Vec, Global, get_or, refl, sym, ap, ◌∙◌, arith, length-append}
use Rattle.std.specs.Prelude.{Some, None, true, false, Result, Ok, Err}
use Rattle.std.specs.List.{AllZip}
use Rattle.c_lex.specs.Tokens.{Token}
use Rattle.c_lex.specs.Falls.{Falls}
use Rattle.c_lex.proofs.Once.{falls_once}
use Rattle.c_parse.proofs.Joined as parse
use Rattle.c_tree.specs.TreeUnit as tu
use Rattle.c_tree.specs.TypedOf.{func_of}
use Rattle.c_tree.specs.declared.TFunc.{TFunc}
use Rattle.c_grammar.specs.Reads.{ReadsTokens}
use Rattle.c_tree.specs.TUnit.{Func}
use Rattle.c_run.specs.Context.{linked}
use Rattle.gen_small.specs.Items.{Name, Item, Start, Open, Op, Label, Goto, If, CallTo}
use Rattle.gen_small.specs.Emitted.{width, item_bytes, emitted}
use Rattle.mach_mem.specs.Addresses.{text_start}
use Rattle.gen_small.specs.Whole.{whole_code, label_in, text_of}
use Rattle.gen_small.proofs.Weighed.{size, whole_size}
use Rattle.small_build.specs.SmallText.{AreSmallTokens, IsSmallText, are_few, AreSmallTexts}
use Rattle.small_form.specs.SmallForm.{small_main, program_of_main}
use Rattle.c_front.specs.Sources.{IsSource, texts_of}
use Rattle.small_form.specs.Given.{Gives}
use Rattle.small_build.specs.Compiled.{TypesTokens, Types, bytes_of, IsCode}
use Rattle.c_front.specs.declared.Source.{Source}
use Rattle.small_form.specs.declared.Fault.{Fault}
use Rattle.small_form.specs.declared.Fault.TheVariants.{Unbuilt, Memory}
use Rattle.small_build.proofs.MainFits.{main_taken}

pub many_tokens : (ts : List Token) → are_few 0 ts ≡ false → (f : Func) → AreSmallTokens ts f → ⊥
many_tokens ts many f s = let e : true ≡ false = sym s.few ∙ many in cc

-- tokens have one main
same_main : (ts : List Token) (u : tu.Unit) (f : Func) → ReadsTokens ts u → AreSmallTokens ts f → small_main u ≡ Some f
same_main ts u f reads s = ap small_main (parse.one_unit ts u s.unit reads s.reads) ∙ s.main_is

pub typed_tokens : (ts : List Token) (u : tu.Unit) (r : Result TFunc Fault) → are_few 0 ts ≡ true → ReadsTokens ts u → Gives func_of r (small_main u) → TypesTokens ts r
typed_tokens ts u (Ok f) few reads is = record { unit = u; reads = reads; few = few; main_is = is }
typed_tokens ts u (Err Unbuilt) few reads none = λ f s. (let e : None ≡ Some f = sym none ∙ same_main ts u f reads s in cc)
typed_tokens ts u (Err Memory) few reads is = tt

-- a text has one main
text_main : (text : List ℕ) (f g : Func) → IsSmallText text f → IsSmallText text g → f ≡ g
text_main text f g s t =
    let same : s.tokens ≡ t.tokens = falls_once text s.tokens t.tokens s.falls t.falls in
    let is : small_main t.small.unit ≡ Some f = same_main t.tokens t.small.unit f t.small.reads (rw same at s.small) in
    let e : Some f ≡ Some g = sym is ∙ t.small.main_is in
    cc

head_is : (a b : List ℕ) → a ∷ [] ≡ b ∷ [] → a ≡ b
head_is a b e = ap (λ l. first l) e
  where
    first : List (List ℕ) → List ℕ
    first [] = []
    first (x ∷ xs) = x

-- texts have one main
pub one_main : (texts : List (List ℕ)) (f g : Func) → AreSmallTexts texts f → AreSmallTexts texts g → f ≡ g
one_main texts f g s t = text_main t.text f g (rw (head_is s.text t.text (sym s.one ∙ t.one)) at s.small) t.small

-- texts that aren't one have none
pub other_texts : (texts : List (List ℕ)) → (length texts ≡ 1 → ⊥) → (f : Func) → AreSmallTexts texts f → ⊥
other_texts texts other f s = other (ap length s.one)

pub long_text : (text : List ℕ) → 131000 < length text → (f : Func) → AreSmallTexts (text ∷ []) f → ⊥
long_text text long f s =
    let same = ap length (head_is text s.text s.one) in
    let short = s.small.short in
    omega arith

-- texts that are one have one source
pub one_source : (texts : List (Vec ℕ Global)) (sources : List Source) (t : Vec ℕ Global) (s : Source) → length texts ≡ 1 → AllZip IsSource (texts_of texts) sources → t ≡ get_or texts 0 t → s ≡ get_or sources 0 s
    → (texts_of texts ≡ t.items ∷ []) × IsSource t.items s
one_source [] sources t s one read first its = absurd (omega arith)
one_source (a ∷ []) [] t s one read first its = absurd read
one_source (a ∷ []) (b ∷ bs) t s one read first its =
    let same : t ≡ a = first in
    let also : s ≡ b = its in
    (ap (λ v. v.items ∷ []) (sym same), rw (same, also) read.0)
one_source (a ∷ b ∷ ts) sources t s one read first its = absurd (omega arith)

pub typed_text : (text : List ℕ) (ts : List Token) (r : Result TFunc Fault) → length text ≤ 131000 → Falls text ts → TypesTokens ts r → Types (text ∷ []) r
typed_text text ts (Ok f) short falls s = record { text = text; one = refl; small = record { tokens = ts; falls = falls; small = s; short = short } }
typed_text text ts (Err Unbuilt) short falls none = λ f s. none f (other_tokens f s)
  where
    other_tokens : (f : Func) → AreSmallTexts (text ∷ []) f → AreSmallTokens ts f
    other_tokens f s =
        let same = head_is text s.text s.one in
        let t = rw (sym same) at s.small in
        rw (falls_once text t.tokens ts t.falls falls) at t.small
typed_text text ts (Err Memory) short falls s = tt

-- ---- the code

item_size : (label : Name → ℕ) (a : ℕ) (x : Item) → length (item_bytes label a x) ≡ width x
item_size label a (Start k) = refl
item_size label a (Open k) = refl
item_size label a (Op i) = refl
item_size label a (Label n) = refl
item_size label a (Goto n) = refl
item_size label a (If c n) = refl
item_size label a (CallTo n) = refl

emitted_size : (label : Name → ℕ) (a : ℕ) (xs : List Item) → length (emitted label a xs) ≡ size xs
emitted_size label a [] = refl
emitted_size label a (x ∷ xs) =
    length-append (item_bytes label a x) (emitted label (a + width x) xs) ∙ ap (λ n. n + length (emitted label (a + width x) xs)) (item_size label a x) ∙ ap (λ n. width x + n) (emitted_size label (a + width x) xs)

pub code_of : (texts : List (List ℕ)) (f : Func) (code : List ℕ) → AreSmallTexts texts f → code ≡ bytes_of f → IsCode texts code
unfolding text_of
code_of texts f code s is =
    let taken = main_taken s.text f s.small in
    let w = linked (program_of_main f) in
    let whole = whole_size w 0 (record { unit = 0; func = f }) taken.form in
    let len = emitted_size (label_in (whole_code w 0 (record { unit = 0; func = f }))) text_start (whole_code w 0 (record { unit = 0; func = f })) in
    let light = taken.form.short in
    record { main = f; small = s; code_is = is; fits = omega (arith, ap length is, len, whole, light) }
