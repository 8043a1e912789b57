-- The program that texts of the small form make is their main.
use Rattle.std.proofs.Common.{◌≡◌, ℕ, suc, List, [], ◌∷◌, length, map, refl, ap, ◌∙◌, arith}
use Rattle.c_grammar.specs.Reads.{Reads}
use Rattle.c_tree.specs.TUnit.{Func, TypedUnit, Program}
use Rattle.c_front.specs.Accepted.{IsAccepted}
use Rattle.c_front.proofs.Causes.{units_same, typed_same}
use Rattle.small_form.specs.SmallForm.{unit_of_main, program_of_main}
use Rattle.small_form.proofs.SmallUnit.{small_typed}
use Rattle.small_build.specs.SmallText.{AreSmallTexts}

no_classes : (cs : List (List ℕ)) → map length cs ≡ 0 ∷ [] → cs ≡ [] ∷ []
no_classes [] e = absurd (let z = ap length e in omega arith)
no_classes ([] ∷ []) e = refl
no_classes ((n ∷ c) ∷ []) e = absurd (nonzero (length c) [] e)
  where
    front : List ℕ → ℕ
    front [] = 0
    front (x ∷ xs) = x

    nonzero : (n : ℕ) (xs : List ℕ) → suc n ∷ xs ≡ 0 ∷ [] → ⊥
    nonzero n xs e = let z : suc n ≡ 0 = ap front e in omega arith
no_classes (c ∷ d ∷ cs) e = absurd (let z = ap length e in omega arith)

program_is : (p : Program) (f : Func) → p.units ≡ unit_of_main f ∷ [] → map length p.classes ≡ 0 ∷ [] → p ≡ program_of_main f
program_is p f units classes =
    ap (λ us. made us p.classes) units ∙ ap (λ cs. made (unit_of_main f ∷ []) cs) (no_classes p.classes classes)
  where
    made : List TypedUnit → List (List ℕ) → Program
    made us cs = record { units = us; classes = cs }

-- the program that texts of the small form make is their main
pub one_program : (texts : List (List ℕ)) (p : Program) (f : Func) → IsAccepted texts p → AreSmallTexts texts f → p ≡ program_of_main f
one_program texts p f a s =
    let reads : Reads s.text s.small.small.unit = record { tokens = s.small.tokens; falls = s.small.falls; reads = s.small.small.reads } in
    let units = units_same (s.text ∷ []) a.units (s.small.small.unit ∷ []) (rw (s.one) at a.read) (reads, tt) in
    let belongs = small_typed s.small.small.unit f s.small.small.main_is in
    let typed = typed_same (s.small.small.unit ∷ []) p.units (unit_of_main f ∷ []) (rw units at a.typed) (belongs, tt) in
    let each = a.joined.each in
    program_is p f typed (each ∙ ap (map (λ t. length t.tags)) typed)
