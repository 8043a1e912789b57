-- The laws that join reading declarations to their spellings.
use Rattle.std.specs.Prelude.{◌≡◌, ◌≤◌, List, Some, true}
use Rattle.c_type.specs.Names.{Name}
use Rattle.c_lex.specs.Tokens.{Token}
use Rattle.c_tree.specs.TreeDecl.{local_depth}
use Rattle.c_tree.specs.TreeUnit.{ext_depth, head_depth}
use Rattle.c_grammar.specs.WrittenDecl.{WrittenLocal, plain_local, IsLocal, spell_local}
use Rattle.c_grammar.specs.WrittenUnit.{WrittenExt, WrittenHead, plain_ext, plain_head, IsExt, IsFuncHead, spell_ext, spell_head}
use Rattle.c_grammar.specs.Reads.{most, is_declaration, begins_block}
use Rattle.c_decl.specs.Expression.{expression}
use Rattle.c_decl.specs.ReadDecl.{whole, head, outside, local}

-- A declaration outside of blocks that is spelled is read, up to and with its semicolon.
abbrev pub IsWholeRead : Type 0
IsWholeRead = (defs : List Name) (x : WrittenExt) (after : List Token) → IsExt defs x → is_declaration x ≡ true → ext_depth (plain_ext x) ≤ most
    → outside defs most (expression defs) (spell_ext x after) ≡ Some (whole (plain_ext x), after)

-- The head of a function that is spelled before a block is read.
abbrev pub IsHeadRead : Type 0
IsHeadRead = (defs : List Name) (h : WrittenHead) (after : List Token) → IsFuncHead defs h → head_depth (plain_head h) ≤ most → begins_block after ≡ true
    → outside defs most (expression defs) (spell_head h after) ≡ Some (head (plain_head h), after)

-- A declaration in a block that is spelled is read, up to and with its semicolon.
abbrev pub IsLocalRead : Type 0
IsLocalRead = (defs : List Name) (d : WrittenLocal) (after : List Token) → IsLocal defs d → local_depth (plain_local d) ≤ most → local defs most (expression defs) (spell_local d after) ≡ Some (plain_local d, after)
