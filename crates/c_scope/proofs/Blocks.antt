-- The innermost of the scopes inside a function.
use Rattle.std.proofs.Common.{◌≡◌, ℕ, ◌+◌, List, [], ◌∷◌, ◌++◌, length, map, reverse, take, get_or, set, ap, sym, ◌∙◌, arith}
use Rattle.std.proofs.lemmas.List.{map-append, reverse-append, take_more, take_more_set, length-set, take_all}
use Rattle.c_scope.specs.declared.scope.Scope.{Scope}
use Rattle.c_scope.specs.EnvOf.{scope_of, blocks_of}

blocks_pushed : (bs : List Scope) (s : Scope) → blocks_of (bs ++ s ∷ []) ≡ scope_of s ∷ blocks_of bs
blocks_pushed bs s = ap reverse (map-append scope_of bs (s ∷ [])) ∙ reverse-append (map scope_of bs) (scope_of s ∷ [])

pub last_row : (bs : List Scope) (k : ℕ) (d : Scope) → k + 1 ≡ length bs → blocks_of bs ≡ scope_of (get_or bs k d) ∷ blocks_of (take k bs)
last_row bs k d e = ap blocks_of (sym (take_all (k + 1) bs (omega arith)) ∙ take_more bs k d (omega arith)) ∙ blocks_pushed (take k bs) (get_or bs k d)

pub last_set : (bs : List Scope) (k : ℕ) (s : Scope) → k + 1 ≡ length bs → blocks_of (set bs k s) ≡ scope_of s ∷ blocks_of (take k bs)
last_set bs k s e = ap blocks_of (sym (take_all (k + 1) (set bs k s) (omega (arith, length-set bs k s))) ∙ take_more_set bs k s (omega arith)) ∙ blocks_pushed (take k bs) s
