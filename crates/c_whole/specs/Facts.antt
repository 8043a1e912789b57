-- The facts that values of the code stand for.
use Rattle.std.specs.Prelude.{List, map, Bool, not, ◌&&◌}
use Rattle.std.specs.Borrow.{Bor}
use Rattle.c_type.specs.Names.{Name}
use Rattle.c_tree.specs.declared.typed_unit.TFunc.{TFunc}
use Rattle.c_tree.specs.TUnit.{Func}
use Rattle.c_tree.specs.TypedOf.{func_of}
use Rattle.c_join.specs.JoinSaid as j
use Rattle.c_whole.specs.Events.{saying_of, has_name}
use Rattle.c_whole.specs.declared.facts.Subject.{Subject}
use Rattle.c_whole.specs.declared.facts.Fact.{Fact}
use Rattle.c_whole.specs.declared.facts.Functions.{Functions}

-- the name
abbrev pub subject_of : Subject → j.Subject
subject_of s = record { within = s.within; name = s.name.now }

-- the fact
abbrev pub fact_of : Fact → j.Fact
fact_of f = record { about = subject_of f.about; unit = f.unit; says = saying_of f.says }

-- facts in order
abbrev pub facts_of : List Fact → List j.Fact
facts_of fs = map fact_of fs

-- function bodies in order
abbrev pub bodies_of : List (Bor TFunc) → List Func
bodies_of fs = map (λ f. func_of f.now) fs

-- a static function that is declared and never defined
abbrev pub lacks : Functions → Name → Bool
lacks f x = has_name f.declared.keys x && not (has_name f.defined.keys x)
