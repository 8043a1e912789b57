-- What was added and what is left is the whole.
use Rattle.std.proofs.Common.{◌≡◌, ◌++◌, map, drop}
use Rattle.gen_small.specs.Items as s
use Rattle.gen_small.proofs.code_list.Code.push_all.Given as goal

abbrev pub invariant-loop-op : goal.invariant-loop-op
invariant-loop-op l =
    (l.self.frame ≡ l.initial.self.frame) × (l.self.items ++ map s.Op (drop l.op-index l.ops) ≡ l.initial.self.items ++ map s.Op l.ops)
