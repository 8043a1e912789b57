-- What is made of texts of the small form.
use Rattle.std.specs.Prelude.{◌≡◌, ◌≤◌, ℕ, List, length, Vec, Result, Ok, Err, ⊤}
use Rattle.std.specs.declared.alloc.Global.{Global}
use Rattle.mach_mem.specs.Addresses.{text_room}
use Rattle.c_tree.specs.declared.TFunc.{TFunc}
use Rattle.c_tree.specs.TypedOf.{func_of}
use Rattle.c_tree.specs.TUnit.{Func}
use Rattle.c_run.specs.Context.{linked}
use Rattle.c_lex.specs.Tokens.{Token}
use Rattle.gen_small.specs.Whole.{text_of}
use Rattle.small_build.specs.SmallText.{AreSmallTokens, AreSmallTexts}
use Rattle.small_form.specs.SmallForm.{program_of_main}
use Rattle.small_form.specs.declared.Fault.{Fault}
use Rattle.small_form.specs.declared.Fault.TheVariants.{Unbuilt, Memory}

-- the texts are not of the small form, or memory was wanting
abbrev pub IsRefused : List (List ℕ) → Fault → Type 0
IsRefused texts Unbuilt = (f : Func) → AreSmallTexts texts f → ⊥
IsRefused texts Memory = ⊤

-- the typed main of the texts
abbrev pub Types : List (List ℕ) → Result TFunc Fault → Type 0
Types texts (Ok f) = AreSmallTexts texts (func_of f)
Types texts (Err e) = IsRefused texts e

-- the typed main of tokens
abbrev pub TypesTokens : List Token → Result TFunc Fault → Type 0
TypesTokens ts (Ok f) = AreSmallTokens ts (func_of f)
TypesTokens ts (Err Unbuilt) = (f : Func) → AreSmallTokens ts f → ⊥
TypesTokens ts (Err Memory) = ⊤

-- the bytes of .text that are made of a main
abbrev pub bytes_of : Func → List ℕ
bytes_of f = text_of (linked (program_of_main f)) 0 record { unit = 0; func = f }

-- the bytes of .text that are made of the main of the texts
pub record IsCode (texts : List (List ℕ)) (code : List ℕ) : Type 0 where
  pub main : Func
  pub small : AreSmallTexts texts main
  pub code_is : code ≡ bytes_of main
  pub fits : length code ≤ text_room

abbrev pub Compiles : List (List ℕ) → Result (Vec ℕ Global) Fault → Type 0
Compiles texts (Ok v) = IsCode texts v.items
Compiles texts (Err e) = IsRefused texts e
