-- Statements of three arguments and more.
use Rattle.std.proofs.Common.{◌≡◌, ◌≤◌, List, [], ◌∷◌, length, refl, arith}
use Rattle.std.specs.Prelude.{map}
use Rattle.asm_item.specs.declared.words.Keyword.{Keyword}
use Rattle.asm_item.specs.declared.args.Arg.{Arg}
use Rattle.asm_item.specs.Args.{shown}
use Rattle.asm_read.specs.Stmts.{make, long_statement}

pub make_long : (w : Keyword) (args : List Arg) → 3 ≤ length args → make w (map shown args) ≡ long_statement w (map shown args)
make_long w [] h = absurd (omega arith)
make_long w (a ∷ []) h = absurd (omega arith)
make_long w (a ∷ (b ∷ [])) h = absurd (omega arith)
make_long w (a ∷ (b ∷ (c ∷ more))) h = refl
