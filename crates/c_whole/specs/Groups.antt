-- Facts by the names that they are about.
use Rattle.std.specs.Prelude.{List, [], ◌∷◌, ◌++◌, map, fold, Bool, Option, Some, None}
use Rattle.c_type.specs.Names.{Name, pick}
use Rattle.c_join.specs.JoinSaid.{Subject, Fact}
use Rattle.c_join.specs.JoinChecks.{same_subject}
use Rattle.c_whole.specs.Facts.{subject_of, facts_of}
use Rattle.c_whole.specs.declared.facts.Subject as c
use Rattle.c_whole.specs.declared.groups.Group as d

-- whether two names of the code are one
abbrev pub same_name : c.Subject → c.Subject → Bool
same_name a b = same_subject (subject_of a) (subject_of b)

-- a name with what is said of it
pub record Group : Type 0 where
  pub subject : Subject
  pub facts : List Fact

-- one more fact: with those of its name, or as the first of a new name behind the others
abbrev pub placed : List Group → Fact → List Group
placed [] f = record { subject = f.about; facts = f ∷ [] } ∷ []
placed (g ∷ gs) f = pick (same_subject f.about g.subject) (record { subject = g.subject; facts = g.facts ++ f ∷ [] } ∷ gs) (g ∷ placed gs f)

-- facts by their names
abbrev pub grouped : List Fact → List Group
grouped fs = fold placed [] fs

-- the group that a value of the code stands for
abbrev pub group_of : d.Group → Group
group_of g = record { subject = subject_of g.subject; facts = facts_of g.facts.items }

-- groups in order
abbrev pub groups_of : List d.Group → List Group
groups_of gs = map group_of gs

-- the name of the first group with this fault
abbrev pub first_group : (Subject → List Fact → Bool) → List Group → Option Name
first_group fault [] = None
first_group fault (g ∷ gs) = pick (fault g.subject g.facts) (Some g.subject.name) (first_group fault gs)
