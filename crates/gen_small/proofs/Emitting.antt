-- One item of code is emitted.
use Rattle.std.proofs.Common.{◌≡◌, ℕ, suc, ◌+◌, ◌<◌, ◌≤◌, List, [], ◌∷◌, ◌++◌, map, length, drop, sym, ap, ◌∙◌, subst, arith, append_assoc}
use Rattle.std.proofs.Math.ListN.{get_or}
use Rattle.std.proofs.Math.Seq.{drop-cons}
use Rattle.mach_mem.specs.Addresses.{statics_start}
use Rattle.gen_small.specs.declared.code_list.Item.{Item as CodeItem}
use Rattle.gen_small.specs.Items.{Name, Item, Start, Open, Op, Label, Goto, If, CallTo}
use Rattle.gen_small.specs.Emitted.{width, item_bytes, emitted}
use Rattle.gen_small.specs.Listed.{item_of}
use Rattle.gen_small.specs.Placing.{AreRows}
use Rattle.gen_small.proofs.Laying.{AreEncoded}
use Rattle.gen_small.proofs.Weighed.{size}

rest_is : (f : ℕ) (xs : List CodeItem) (i : ℕ) (d : CodeItem) → i < length xs → map (item_of f) (drop i xs) ≡ item_of f (get_or xs i d) ∷ map (item_of f) (drop (i + 1) xs)
rest_is f xs i d lt = let next : suc i ≡ i + 1 = omega arith in ap (map (item_of f)) (drop-cons xs i d lt ∙ ap (λ k. get_or xs i d ∷ drop k xs) next)

rows_behind : (x : Item) (xs : List Item) → AreRows (x ∷ xs) → AreRows xs
rows_behind (Op i) xs h = h.1
rows_behind _ xs h = h

-- what holds of the bytes so far, and of the rest of the code
pub record Emitting (label : Name → ℕ) (all : List ℕ) (a : ℕ) (bytes : List ℕ) (rest : List Item) : Type 0 where
  pub fits : a + size rest ≤ statics_start
  pub rows : AreRows rest
  pub bytes_are : bytes ++ emitted label a rest ≡ all

pub emitted_one : (label : Name → ℕ) (all : List ℕ) (f : ℕ) (xs : List CodeItem) (i : ℕ) (d : CodeItem) (a w : ℕ) (bytes bytes' : List ℕ) → i < length xs → a + size (map (item_of f) (drop i xs)) ≤ statics_start → AreRows (map (item_of f) (drop i xs)) → bytes ++ emitted label a (map (item_of f) (drop i xs)) ≡ all → w ≡ width (item_of f (get_or xs i d)) → bytes' ≡ bytes ++ item_bytes label a (item_of f (get_or xs i d)) → Emitting label all (a + w) bytes' (map (item_of f) (drop (i + 1) xs))
emitted_one label all f xs i d a w bytes bytes' lt fits rows are wide new =
    let x : Item = item_of f (get_or xs i d) in
    let rest : List Item = map (item_of f) (drop (i + 1) xs) in
    let split = rest_is f xs i d lt in
    let fits' : a + (width x + size rest) ≤ statics_start = subst (λ ys. a + size ys ≤ statics_start) split fits in
    let are' : bytes ++ (item_bytes label a x ++ emitted label (a + width x) rest) ≡ all = ap (λ ys. bytes ++ emitted label a ys) (sym split) ∙ are in
    record {
      fits = omega arith;
      rows = rows_behind x rest (subst AreRows split rows);
      bytes_are = ap (λ ys. ys ++ emitted label (a + w) rest) new ∙ ap (λ n. (bytes ++ item_bytes label a x) ++ emitted label (a + n) rest) wide ∙ append_assoc bytes (item_bytes label a x) (emitted label (a + width x) rest) ∙ are';
    }

pub encoded_rows : (xs : List Item) → AreEncoded xs → AreRows xs
encoded_rows [] h = tt
encoded_rows (Op i ∷ xs) h = (h.0.0, encoded_rows xs h.1)
encoded_rows (Start k ∷ xs) h = encoded_rows xs h.1
encoded_rows (Open k ∷ xs) h = encoded_rows xs h.1
encoded_rows (Label n ∷ xs) h = encoded_rows xs h.1
encoded_rows (Goto n ∷ xs) h = encoded_rows xs h.1
encoded_rows (If c n ∷ xs) h = encoded_rows xs h.1
encoded_rows (CallTo n ∷ xs) h = encoded_rows xs h.1
