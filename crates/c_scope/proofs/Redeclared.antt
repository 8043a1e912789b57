-- What a declaration does, by what its name meant before it.
use Rattle.std.proofs.Common.{◌≡◌, true, false, Some, None, ap, sym}
use Rattle.c_type.specs.Names.{Name}
use Rattle.c_rule.specs.RuleScope.{Is, Fails, provided, Env, Meaning, in_scope}
use Rattle.c_rule.specs.RuleStmts.{is_free, innermost, added}
use Rattle.c_rule.specs.RuleTags.{in_file}
use Rattle.c_rule.specs.RuleUnit.{combined}
use Rattle.c_rule.specs.Judging.{declared_here}
use Rattle.c_rule.specs.JudgingUnit.{declared_in_file, declared_as}

-- by what the name means then, where the declarations agree

pub combined_declared : (c : Env) (x : Name) (m r : Meaning) → Some r ≡ combined (in_scope x c.file) m → declared_in_file c x m ≡ Is (in_file (record { name = x; meaning = r }) c)
combined_declared c x m r e = ap (declared_as c x) (sym e)

pub combined_refused : (c : Env) (x : Name) (m : Meaning) → None ≡ combined (in_scope x c.file) m → declared_in_file c x m ≡ Fails 1
combined_refused c x m e = ap (declared_as c x) (sym e)

-- by whether the innermost block declares it

pub free_here : (c : Env) (x : Name) (m : Meaning) → true ≡ is_free x (innermost c.blocks) → declared_here c x m ≡ Is (record c { blocks = added (record { name = x; meaning = m }) c.blocks })
free_here c x m e = ap (λ b. provided 1 b (Is (record c { blocks = added (record { name = x; meaning = m }) c.blocks }))) (sym e)

pub taken_here : (c : Env) (x : Name) (m : Meaning) → false ≡ is_free x (innermost c.blocks) → declared_here c x m ≡ Fails 1
taken_here c x m e = ap (λ b. provided 1 b (Is (record c { blocks = added (record { name = x; meaning = m }) c.blocks }))) (sym e)
