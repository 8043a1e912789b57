-- A definition that was met and those that are left decide.
use Rattle.std.proofs.Common.{◌≡◌, ◌+◌, nat_le, count_by, drop}
use Rattle.c_type.specs.Names.{pick}
use Rattle.c_join.specs.JoinChecks as s
use Rattle.c_whole.specs.Facts.{subject_of, facts_of}
use Rattle.c_whole.proofs.groups.Group.is_twice.Given as goal

abbrev pub invariant-loop-fact : goal.invariant-loop-fact
invariant-loop-fact l =
    nat_le 2 (pick l.defined 1 0 + count_by (λ f. s.defines (subject_of l.self.subject) f.says) (facts_of (drop l.fact-index l.self.facts.items))) ≡
    nat_le 2 (pick (s.is_given (subject_of l.self.subject)) 1 0 + count_by (λ f. s.defines (subject_of l.self.subject) f.says) (facts_of l.self.facts.items))
