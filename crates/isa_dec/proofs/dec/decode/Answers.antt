use Rattle.std.proofs.Common.{ℕ, ◌<◌, sym, subst, ◌∙◌, arith}
use Rattle.std.specs.Prelude.{slice_index}
use Rattle.isa_dec.specs.Reads.{Reads}
use Rattle.isa_dec.proofs.Law.{decoded-reads, decoded-only}
use Rattle.isa_dec.proofs.dec.decode.Goals as goal

pub returns-clause-reads : goal.returns-clause-reads
returns-clause-reads c =
    let bytes : (k : ℕ) → slice_index c.args.b.now k < 256 = λ k. omega (arith, c.type_inv.b k) in
    subst (Reads c.args.b.now) (sym c.first_instruction.ensures) (decoded-reads c.args.b.now bytes)

pub returns-clause-only : goal.returns-clause-only
returns-clause-only c =
    let bytes : (k : ℕ) → slice_index c.args.b.now k < 256 = λ k. omega (arith, c.type_inv.b k) in
    λ d h. decoded-only c.args.b.now d bytes h ∙ sym c.first_instruction.ensures
