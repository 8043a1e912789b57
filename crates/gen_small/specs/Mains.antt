-- A main of the small form.
use Rattle.std.specs.Prelude.{ℕ, ◌≡◌, List, [], ◌∷◌, Some, slice_get}
use Rattle.c_type.specs.declared.Kind.TheVariants.{Int}
use Rattle.c_type.specs.Types.{num}
use Rattle.c_tree.specs.TStmt.{Local, auto, locals}
use Rattle.c_tree.specs.Bodies.{BodyAt, Auto, autos}
use Rattle.c_run.specs.Context.{Linked}
use Rattle.gen_small.specs.Flows.{IsSmallStmts}

-- automatic objects of type int
abbrev pub AllInt : List Auto → Type 0
AllInt [] = Unit {0}
AllInt (a ∷ as_) = (a.ty ≡ num Int) × AllInt as_

-- declarators of automatic objects without initialisers
abbrev pub AllPlain : List Local → Type 0
AllPlain [] = Unit {0}
AllPlain (auto d i ∷ ds) = AllPlain ds
AllPlain (_ ∷ ds) = ⊥

-- body f of the program: no parameters, automatic objects of type int, and statements of the small form
pub record IsMain (w : Linked) (most f : ℕ) (b : BodyAt) : Type 0 where
  pub body_is : slice_get w.bodies f ≡ Some b
  pub params_none : b.func.params ≡ []
  pub result_is : b.func.result ≡ num Int
  pub ints : AllInt (autos b.func)
  pub plain : AllPlain (locals b.func.locals)
  pub small : IsSmallStmts most b.func.stmts
