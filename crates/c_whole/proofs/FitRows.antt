-- Calls with another number of arguments.
use Rattle.std.proofs.Common.{◌≡◌, ◌≤◌, suc, List, [], ◌∷◌, length, map, Bool, true, false, ◌&&◌, refl, ap, ◌∙◌, arith}
use Rattle.c_type.specs.Types.{CType, Tag}
use Rattle.c_tree.specs.declared.typed_expr.TExpr.{TExpr}
use Rattle.c_tree.specs.declared.typed_unit.TParam.{TParam}
use Rattle.c_tree.specs.TypedOf.{expr_of, var_of}
use Rattle.c_tree.specs.TExpr as e
use Rattle.c_tree.specs.Constant.{is_zero}
use Rattle.c_join.specs.JoinChecks.{fit, fits_kind, int_type}
use Rattle.c_whole.specs.Events.{args_from}
use Rattle.c_whole.specs.Given.{library_types}

no_more : (b : Bool) → (b && false) ≡ false
no_more true = refl
no_more false = refl

module _ (same : CType → CType → Bool) (ts : List Tag) where
  pub numbers_differ : (ps : List TParam) (es : List TExpr) → (length ps ≡ length es → ⊥) → fit same ts (map (λ v. v.ty) (map var_of ps)) (args_from es) ≡ false
  numbers_differ [] [] h = absurd (h refl)
  numbers_differ [] (a ∷ es) h = refl
  numbers_differ (p ∷ ps) [] h = refl
  numbers_differ (p ∷ ps) (a ∷ es) h =
      ap (λ b. fits_kind same (is_zero ts (expr_of a)) (var_of p).ty (e.type_of (expr_of a)) && b) (numbers_differ ps es (λ n. h (ap suc n))) ∙
      no_more (fits_kind same (is_zero ts (expr_of a)) (var_of p).ty (e.type_of (expr_of a)))

  -- no function of the library takes two
  pub too_many : (takes : Bool) (es : List TExpr) → 2 ≤ length es → fit same ts (library_types takes) (args_from es) ≡ false
  too_many takes [] h = absurd (omega arith)
  too_many takes (a ∷ []) h = absurd (omega arith)
  too_many true (a ∷ b ∷ es) h = no_more (fits_kind same (is_zero ts (expr_of a)) int_type (e.type_of (expr_of a)))
  too_many false (a ∷ b ∷ es) h = refl
