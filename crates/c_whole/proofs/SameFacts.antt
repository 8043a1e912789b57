-- The facts of a unit, from what its functions are known by.
use Rattle.std.proofs.Common.{◌≡◌, ℕ, List, Bool, map, not, ◌&&◌, ◌∙◌}
use Rattle.std.specs.List.{list_any}
use Rattle.c_type.specs.Names.{Name}
use Rattle.c_tree.specs.TUnit.{Func, TypedUnit, funcs_of}
use Rattle.c_join.specs.JoinSaid.{Event, fact, facts_in, events, declares_static, defines_static}

pub same_facts : (u : ℕ) (t : TypedUnit) (fs : List Func) (vs : List Event) (declared defined : Name → Bool) → fs ≡ funcs_of t.exts → vs ≡ events t
    → ((x : Name) → declared x ≡ list_any (declares_static x) vs) → ((x : Name) → defined x ≡ list_any (defines_static x) vs)
    → map (fact u fs (λ x. declared x && not (defined x))) vs ≡ facts_in u t
same_facts u t fs vs declared defined same said one two =
    (λ i. map (fact u (same i) (λ x. one x i && not (two x i))) vs) ∙ (λ i. map (fact u (funcs_of t.exts) (λ x. list_any (declares_static x) (said i) && not (list_any (defines_static x) (said i)))) (said i))
