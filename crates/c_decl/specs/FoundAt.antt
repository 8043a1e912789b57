-- What stands outside of blocks at a place, as the code finds it.
use Rattle.std.specs.Prelude.{ℕ, List}
use Rattle.c_type.specs.Names.{Name}
use Rattle.c_lex.specs.Tokens.{Token}
use Rattle.c_tree.specs.TreeOf.{ext_of}
use Rattle.c_grammar.specs.WrittenUnit.{with_typedefs}
use Rattle.c_grammar.specs.Reads.{IsDeclarationAt, IsHeadAt}
use Rattle.c_decl.specs.declared.Head.{Head}
use Rattle.c_decl.specs.declared.Head.TheVariants.{Whole, Func}
use Rattle.c_decl.specs.HeadOf.{head_of}

-- The declaration or the head of a function spells the tokens from `at` up to k.
abbrev pub IsFoundAt : List Name → List Token → ℕ → Head → ℕ → Type 0
IsFoundAt defs ts at (Whole e) k = IsDeclarationAt defs ts at (ext_of e) k
IsFoundAt defs ts at (Func h) k = IsHeadAt defs ts at (head_of h) k

-- the typedef names behind it
abbrev pub names_behind : List Name → Head → List Name
names_behind defs (Whole e) = with_typedefs defs (ext_of e)
names_behind defs (Func h) = defs
