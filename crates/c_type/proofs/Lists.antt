-- The first cell at an offset, in lists of cells that are moved, joined and repeated.
use Rattle.std.proofs.Common.{◌≡◌, ℕ, zero, suc, ◌+◌, ◌-◌, ◌*◌, ◌<◌, ◌≤◌, ◌⊎◌, inl, inr, List, [], ◌∷◌, ◌++◌, Option, Some, None, Bool, true, false, refl, sym, ap, ◌∙◌, arith}
use Rattle.std.specs.Prelude.{nat_eq}
use Rattle.std.proofs.lemmas.Bool.{cases_eq, eq-eqb, ne_eqb}
use Rattle.c_type.specs.Names.{pick, or_else}
use Rattle.c_type.specs.Types.{CType}
use Rattle.c_type.specs.Cells.{Cell, moved, repeated, cell_from}

-- each cell begins below the number
abbrev pub AllBelow : ℕ → List Cell → Type 0
AllBelow n [] = Unit {0}
AllBelow n (c ∷ cs) = (c.off < n) × AllBelow n cs

pub below_join : (n : ℕ) (xs ys : List Cell) → AllBelow n xs → AllBelow n ys → AllBelow n (xs ++ ys)
below_join n [] ys a b = b
below_join n (x ∷ xs) ys a b = (a.0, below_join n xs ys a.1 b)

pub below_moved : (d s n : ℕ) (cs : List Cell) → d + s ≤ n → AllBelow s cs → AllBelow n (moved d cs)
below_moved d s n [] le a = tt
below_moved d s n (c ∷ cs) le a = (let h : c.off < s = a.0 in omega arith, below_moved d s n cs le a.1)

pub below_repeated : (k o step n : ℕ) (cs : List Cell) → o + k * step ≤ n → AllBelow step cs → AllBelow n (repeated k o step cs)
below_repeated zero o step n cs le a = tt
below_repeated (suc k) o step n cs le a =
    below_join n (moved o cs) (repeated k (o + step) step cs) (below_moved o step n cs (omega arith) a) (below_repeated k (o + step) step n cs (omega arith) a)

pub none_past : (n off : ℕ) (cs : List Cell) → n ≤ off → AllBelow n cs → cell_from off cs ≡ None
none_past n off [] le a = refl
none_past n off (c ∷ cs) le a =
    let h : c.off < n = a.0 in
    ap (λ b. pick b (Some c.ty) (cell_from off cs)) (ne_eqb c.off off (λ e. omega arith)) ∙ none_past n off cs le a.1

else_none : (x : Option CType) → or_else x None ≡ x
else_none None = refl
else_none (Some t) = refl

pick_else : (b : Bool) (t : CType) (x y : Option CType) → or_else (pick b (Some t) x) y ≡ pick b (Some t) (or_else x y)
pick_else true t x y = refl
pick_else false t x y = refl

pub from_join : (off : ℕ) (xs ys : List Cell) → cell_from off (xs ++ ys) ≡ or_else (cell_from off xs) (cell_from off ys)
from_join off [] ys = refl
from_join off (c ∷ cs) ys =
    ap (λ r. pick (nat_eq c.off off) (Some c.ty) r) (from_join off cs ys) ∙ sym (pick_else (nat_eq c.off off) c.ty (cell_from off cs) (cell_from off ys))

same_test : (d a off : ℕ) → d ≤ off → ((a ≡ off - d) ⊎ (a ≡ off - d → ⊥)) → nat_eq (d + a) off ≡ nat_eq a (off - d)
same_test d a off le (inl e) = eq-eqb (d + a) off (omega arith) ∙ sym (eq-eqb a (off - d) e)
same_test d a off le (inr n) = ne_eqb (d + a) off (λ e. n (omega arith)) ∙ sym (ne_eqb a (off - d) n)

pub from_moved : (d off : ℕ) (cs : List Cell) → d ≤ off → cell_from off (moved d cs) ≡ cell_from (off - d) cs
from_moved d off [] le = refl
from_moved d off (c ∷ cs) le =
    ap (λ b. pick b (Some c.ty) (cell_from off (moved d cs))) (same_test d c.off off le (cases_eq c.off (off - d)))
    ∙ ap (λ r. pick (nat_eq c.off (off - d)) (Some c.ty) r) (from_moved d off cs le)

pub none_before : (d off : ℕ) (cs : List Cell) → off < d → cell_from off (moved d cs) ≡ None
none_before d off [] lt = refl
none_before d off (c ∷ cs) lt =
    ap (λ b. pick b (Some c.ty) (cell_from off (moved d cs))) (ne_eqb (d + c.off) off (λ e. omega arith)) ∙ none_before d off cs lt

pub none_early : (k o step off : ℕ) (cs : List Cell) → off < o → cell_from off (repeated k o step cs) ≡ None
none_early zero o step off cs lt = refl
none_early (suc k) o step off cs lt =
    from_join off (moved o cs) (repeated k (o + step) step cs)
    ∙ ap (λ x. or_else x (cell_from off (repeated k (o + step) step cs))) (none_before o off cs lt)
    ∙ none_early k (o + step) step off cs (omega arith)

-- the element with the number q, and the offset r in it
pub from_repeated : (k o step q r off : ℕ) (cs : List Cell) → AllBelow step cs → off ≡ o + (q * step + r) → r < step → q < k → cell_from off (repeated k o step cs) ≡ cell_from r cs
from_repeated zero o step q r off cs a e lr lq = absurd (omega arith)
from_repeated (suc k) o step zero r off cs a e lr lq =
    from_join off (moved o cs) (repeated k (o + step) step cs)
    ∙ ap (λ x. or_else (cell_from off (moved o cs)) x) (none_early k (o + step) step off cs (omega arith))
    ∙ else_none (cell_from off (moved o cs))
    ∙ from_moved o off cs (omega arith)
    ∙ (let h : off - o ≡ r = omega arith in ap (λ n. cell_from n cs) h)
from_repeated (suc k) o step (suc q) r off cs a e lr lq =
    from_join off (moved o cs) (repeated k (o + step) step cs)
    ∙ ap (λ x. or_else x (cell_from off (repeated k (o + step) step cs))) (from_moved o off cs (omega arith) ∙ none_past step (off - o) cs (omega arith) a)
    ∙ from_repeated k (o + step) step q r off cs a (omega arith) lr (omega arith)
