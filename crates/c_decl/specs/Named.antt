-- What a declarator declares, beside its name.
use Rattle.std.specs.Prelude.{Bool, true, false, ◌||◌}
use Rattle.c_tree.specs.TreeDecl.{Declr, pointer, name, array, function}

-- the name itself, with no suffix and no `*`
abbrev pub is_name : Declr → Bool
is_name (pointer l d) = false
is_name (name l x) = true
is_name (array l d e) = false
is_name (function l d xs) = false

-- the suffix next to the name is that of a function
abbrev pub declares_function : Declr → Bool
declares_function (pointer l d) = declares_function d
declares_function (name l x) = false
declares_function (array l d e) = declares_function d
declares_function (function l d xs) = is_name d || declares_function d
