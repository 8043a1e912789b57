use Rattle.std.proofs.Common.{ℕ, List, refl, subst}
use Rattle.isa_dec.specs.Reads.{Reads}
use Rattle.isa_dec.specs.declared.Dec.TheVariants.{Unknown}
use Rattle.mach_exec.proofs.processor.step.Goals as goal

pub returns-in-Unknown-clause-table : goal.returns-in-Unknown-clause-table
returns-in-Unknown-clause-table c = record {
  found = Unknown;
  reads = subst (λ (b : List ℕ). Reads b Unknown) c.bytes_from.ensures c.in-Unknown.ensures.reads;
  effect = refl;
}
