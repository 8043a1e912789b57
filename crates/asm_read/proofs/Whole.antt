-- The text of normal items is read as these items.
use Rattle.std.proofs.Common.{◌≡◌, ℕ, ◌+◌, ◌<◌, List, [], ◌∷◌, ◌++◌, Bool, true, false, cond, Option, Some, None, Result, Ok, refl, sym, ap, ◌∙◌, arith, append_assoc}
use Rattle.std.specs.Prelude.{nat_lt, ◌&&◌, codes}
use Rattle.std.specs.List.{list_all}
use Rattle.std.proofs.lemmas.List.{append-nil}
use Rattle.asm_item.specs.declared.model.DefGroup.{DefGroup}
use Rattle.asm_item.specs.declared.model.Item.{Item}
use Rattle.asm_item.specs.declared.model.Item.TheVariants as items
use Rattle.asm_item.specs.Statements.{statement_text}
use Rattle.asm_item.specs.Groups.{parts_of, parts_text}
use Rattle.asm_item.specs.Printed.{item_text, text_of}
use Rattle.asm_item.specs.Normal.{is_name, is_item, files_in, files}
use Rattle.asm_read.specs.Lex.{lex}
use Rattle.asm_read.specs.Stmts.{Stmt, item, begin, wrong, stmts_of}
use Rattle.asm_read.specs.Reading.{At, at_line, from_line, lines_of, State, is_file, step, goes, steps, finish}
use Rattle.asm_read.specs.Laws.{PrintedIsRead}
use Rattle.asm_read.proofs.Lexed.{word_lexed}
use Rattle.asm_read.proofs.Joined.{and_left, and_right}
use Rattle.asm_read.proofs.Words.{name_word}
use Rattle.asm_read.proofs.Printed.{clean}
use Rattle.asm_read.proofs.Inverse.{below}
use Rattle.asm_read.proofs.LineEnds.{line_ends, statement_clean, clean_more, clean_name}
use Rattle.asm_read.proofs.Items.{OneLine, one_lined, one_line}
use Rattle.asm_read.proofs.Grouping.{rest_of, first_of, group_line, parts_clean, fields_of, parts_fit, group_steps}

-- an item's line: its bytes without the newline, and its statements
pub record Line (i : Item) : Type 0 where
  pub bytes : List ℕ
  pub stmts : List Stmt
  pub text : item_text i ≡ bytes ++ (10 ∷ [])
  pub clean_bytes : clean bytes ≡ true
  pub read : stmts_of (lex bytes) ≡ stmts
  pub steps_are : (n : ℕ) (done : List Item) (f : Bool) → (is_file i && f) ≡ false → steps record { done = done; group = None; filed = f } (at_line n stmts) ≡ Ok record { done = done ++ (i ∷ []); group = None; filed = cond (is_file i) true f }

item_steps : (i : Item) (n : ℕ) (done : List Item) (f : Bool) → (is_file i && f) ≡ false → steps record { done = done; group = None; filed = f } (at_line n (item i ∷ [])) ≡ Ok record { done = done ++ (i ∷ []); group = None; filed = cond (is_file i) true f }
item_steps i n done f h = by (is_file i) f h
  where
    by : (b f : Bool) → (b && f) ≡ false → goes n (cond b (cond f None (Some record { done = done ++ (i ∷ []); group = None; filed = cond b true f })) (Some record { done = done ++ (i ∷ []); group = None; filed = cond b true f })) (λ t. Ok t) ≡ Ok record { done = done ++ (i ∷ []); group = None; filed = cond b true f }
    by true true h = absurd cc
    by true false h = refl
    by false f h = refl

single_line : (i : Item) → OneLine i → Line i
single_line i o = record {
  bytes = 9 ∷ statement_text o.statement;
  stmts = item i ∷ [];
  text = o.text;
  clean_bytes = statement_clean o.statement o.spelled;
  read = one_line o.statement (item i) o.spelled o.made;
  steps_are = item_steps i;
}

label_read : (k : List ℕ) → is_name k ≡ true → stmts_of (lex (k ++ codes ":")) ≡ item (items.Label k) ∷ []
label_read k h = ap stmts_of (word_lexed k (codes ":") (name_word k h) refl) ∙ ap (λ b. cond b (item (items.Label k)) wrong ∷ []) h

label_line : (k : List ℕ) → is_name k ≡ true → Line (items.Label k)
label_line k h = record {
  bytes = k ++ codes ":";
  stmts = item (items.Label k) ∷ [];
  text = sym (append_assoc k (codes ":") (10 ∷ []));
  clean_bytes = clean_more k (codes ":") (clean_name k h) refl;
  read = label_read k h;
  steps_are = item_steps (items.Label k);
}

group_as_line : (g : DefGroup) → is_item (items.Def g) ≡ true → Line (items.Def g)
group_as_line g h =
    let f = fields_of g h in
    let parts = parts_fit g f in
    record {
      bytes = 9 ∷ (statement_text (first_of g.name) ++ (parts_text (parts_of g) ++ codes "; .endef"));
      stmts = begin g.name ∷ rest_of (parts_of g);
      text = ap (λ x. 9 ∷ (statement_text (first_of g.name) ++ x)) (sym (append_assoc (parts_text (parts_of g)) (codes "; .endef") (10 ∷ []))) ∙ ap (λ x. 9 ∷ x) (sym (append_assoc (statement_text (first_of g.name)) (parts_text (parts_of g) ++ codes "; .endef") (10 ∷ [])));
      clean_bytes = clean_more (statement_text (first_of g.name)) (parts_text (parts_of g) ++ codes "; .endef") (statement_clean (first_of g.name) (f.name, tt)) (clean_more (parts_text (parts_of g)) (codes "; .endef") (parts_clean (parts_of g) parts) refl);
      read = group_line g.name (parts_of g) f.name parts;
      steps_are = λ n done filed e. group_steps done filed n g f.dims;
    }

lined : (i : Item) → is_item i ≡ true → Line i
lined (items.Code i l) h = single_line (items.Code i l) (one_lined (items.Code i l) tt h)
lined (items.Label k) h = label_line k h
lined (items.Byte n) h = single_line (items.Byte n) (one_lined (items.Byte n) tt h)
lined (items.Value n) h = single_line (items.Value n) (one_lined (items.Value n) tt h)
lined (items.Long w) h = single_line (items.Long w) (one_lined (items.Long w) tt h)
lined (items.Zero n) h = single_line (items.Zero n) (one_lined (items.Zero n) tt h)
lined items.Align h = single_line items.Align (one_lined items.Align tt h)
lined (items.Section n) h = single_line (items.Section n) (one_lined (items.Section n) tt h)
lined (items.Globl k) h = single_line (items.Globl k) (one_lined (items.Globl k) tt h)
lined (items.Comm k n) h = single_line (items.Comm k n) (one_lined (items.Comm k n) tt h)
lined (items.Lcomm k n) h = single_line (items.Lcomm k n) (one_lined (items.Lcomm k n) tt h)
lined (items.Def g) h = group_as_line g h
lined (items.Ln n) h = single_line (items.Ln n) (one_lined (items.Ln n) tt h)
lined (items.File k) h = single_line (items.File k) (one_lined (items.File k) tt h)

ok_is : (x y : State) → ◌≡◌ {A = Result State ℕ} (Ok x) (Ok y) → x ≡ y
ok_is x y e = cc

all_then : (st after : State) (ss us : List At) → steps st ss ≡ Ok after → steps st (ss ++ us) ≡ steps after us
all_then st after [] us e = ap (λ t. steps t us) (ok_is st after e)
all_then st after (s ∷ ss) us e = by (λ t h. all_then t after ss us h) (step st s) e
  where
    by : ((t : State) → steps t ss ≡ Ok after → steps t (ss ++ us) ≡ steps after us) → (o : Option State) → goes s.line o (λ t. steps t ss) ≡ Ok after → goes s.line o (λ t. steps t (ss ++ us)) ≡ steps after us
    by deep None e = absurd cc
    by deep (Some t) e = deep t e

-- the first line of a text
first_line : (i : Item) (l : Line i) (rest : List ℕ) → lines_of (item_text i ++ rest) ≡ l.bytes ∷ lines_of rest
first_line i l rest = ap (λ x. lines_of (x ++ rest)) l.text ∙ ap lines_of (append_assoc l.bytes (10 ∷ []) rest) ∙ line_ends l.bytes rest l.clean_bytes

abbrev pub counted : Bool → ℕ
counted true = 1
counted false = 0

-- at most one item names the source file, counting one that came before
file_once : (i : Item) (f : Bool) (k : ℕ) → counted f + (files_in i + k) < 2 → (is_file i && f) ≡ false
file_once (items.Code x l) f k h = refl
file_once (items.Label x) f k h = refl
file_once (items.Byte n) f k h = refl
file_once (items.Value n) f k h = refl
file_once (items.Long w) f k h = refl
file_once (items.Zero n) f k h = refl
file_once items.Align f k h = refl
file_once (items.Section n) f k h = refl
file_once (items.Globl x) f k h = refl
file_once (items.Comm x n) f k h = refl
file_once (items.Lcomm x n) f k h = refl
file_once (items.Def g) f k h = refl
file_once (items.Ln n) f k h = refl
file_once (items.File x) true k h = absurd (omega arith)
file_once (items.File x) false k h = refl

file_more : (i : Item) (f : Bool) (k : ℕ) → counted f + (files_in i + k) < 2 → counted (cond (is_file i) true f) + k < 2
file_more (items.Code x l) f k h = omega (arith, h)
file_more (items.Label x) f k h = omega (arith, h)
file_more (items.Byte n) f k h = omega (arith, h)
file_more (items.Value n) f k h = omega (arith, h)
file_more (items.Long w) f k h = omega (arith, h)
file_more (items.Zero n) f k h = omega (arith, h)
file_more items.Align f k h = omega (arith, h)
file_more (items.Section n) f k h = omega (arith, h)
file_more (items.Globl x) f k h = omega (arith, h)
file_more (items.Comm x n) f k h = omega (arith, h)
file_more (items.Lcomm x n) f k h = omega (arith, h)
file_more (items.Def g) f k h = omega (arith, h)
file_more (items.Ln n) f k h = omega (arith, h)
file_more (items.File x) true k h = absurd (omega arith)
file_more (items.File x) false k h = omega (arith, h)

-- reading goes on behind what was read
all_read : (n : ℕ) (done : List Item) (f : Bool) (is : List Item) → list_all is_item is ≡ true → counted f + files is < 2 → finish (steps record { done = done; group = None; filed = f } (from_line n (lines_of (text_of is)))) ≡ Ok (done ++ is)
all_read n done f [] h few = ap Ok (sym (append-nil done))
all_read n done f (i ∷ is) h few =
    let l = lined i (and_left (is_item i) (list_all is_item is) h) in
    let deep = all_read (n + 1) (done ++ (i ∷ [])) (cond (is_file i) true f) is (and_right (is_item i) (list_all is_item is) h) (file_more i f (files is) few) in
    ap (λ ls. finish (steps record { done = done; group = None; filed = f } (from_line n ls))) (first_line i l (text_of is))
    ∙ ap (λ ss. finish (steps record { done = done; group = None; filed = f } (at_line n ss ++ from_line (n + 1) (lines_of (text_of is))))) l.read
    ∙ ap finish (all_then record { done = done; group = None; filed = f } record { done = done ++ (i ∷ []); group = None; filed = cond (is_file i) true f } (at_line n l.stmts) (from_line (n + 1) (lines_of (text_of is))) (l.steps_are n done f (file_once i f (files is) few)))
    ∙ deep ∙ ap Ok (append_assoc done (i ∷ []) is)

pub printed_is_read : PrintedIsRead
printed_is_read is h =
    all_read 1 [] false is (and_left (list_all is_item is) (nat_lt (files is) 2) h) (let lt = below (files is) 2 (and_right (list_all is_item is) (nat_lt (files is) 2) h) in omega (arith, lt))
