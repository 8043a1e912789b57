-- What is built of the texts of all files.
use Rattle.std.specs.Prelude.{ℕ, List, Vec, Result, Ok, Err, ⊤}
use Rattle.std.specs.declared.alloc.Global.{Global}
use Rattle.c_tree.specs.TUnit.{Func, Program}
use Rattle.c_front.specs.Accepted.{IsAccepted}
use Rattle.c_front.specs.Errors.{IsRightErr}
use Rattle.small_build.specs.SmallText.{AreSmallTexts}
use Rattle.small_build.specs.Compiled.{IsCode}
use Rattle.small_build.specs.declared.whole.BuildErr.{BuildErr}
use Rattle.small_build.specs.declared.whole.BuildErr.TheVariants.{Front, Unbuilt, Memory}

-- the texts make a program, and these are the bytes of .text that are made of it
pub record IsBuilt (texts : List (List ℕ)) (code : List ℕ) : Type 0 where
  pub program : Program
  pub accepted : IsAccepted texts program
  pub code_is : IsCode texts code

-- an error of the front end is right; a program that isn't built isn't of the small form
abbrev pub Builds : List (List ℕ) → Result (Vec ℕ Global) BuildErr → Type 0
Builds texts (Ok code) = IsBuilt texts code.items
Builds texts (Err (Front e)) = IsRightErr texts e
Builds texts (Err Unbuilt) = ((p : Program) × IsAccepted texts p) × ((f : Func) → AreSmallTexts texts f → ⊥)
Builds texts (Err Memory) = ⊤
