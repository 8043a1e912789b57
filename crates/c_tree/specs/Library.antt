-- The functions of the library by their names, and the function at which a program begins.
use Rattle.std.specs.Prelude.{[], ◌∷◌}
use Rattle.c_type.specs.Names.{Name}

-- `putchar`
abbrev pub putchar_name : Name
putchar_name = 112 ∷ (117 ∷ (116 ∷ (99 ∷ (104 ∷ (97 ∷ (114 ∷ []))))))

-- `getchar`
abbrev pub getchar_name : Name
getchar_name = 103 ∷ (101 ∷ (116 ∷ (99 ∷ (104 ∷ (97 ∷ (114 ∷ []))))))

-- `exit`
abbrev pub exit_name : Name
exit_name = 101 ∷ (120 ∷ (105 ∷ (116 ∷ [])))

-- `main`
abbrev pub main_name : Name
main_name = 109 ∷ (97 ∷ (105 ∷ (110 ∷ [])))
