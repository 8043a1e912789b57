use Rattle.std.proofs.Common.{append_assoc}
use Rattle.coff_rec.specs.Records.{section_bytes}
use Rattle.coff_rec.proofs.records.SecHead.spelled.Goals as goal

pub returns-clause-bytes : goal.returns-clause-bytes
unfolding section_bytes
returns-clause-bytes c =
    rw (c.add32-7.ensures.bytes, c.add16-2.ensures.bytes, c.add16.ensures.bytes, c.add32-6.ensures.bytes, c.add32-5.ensures.bytes, c.add32-4.ensures.bytes, c.add32-3.ensures.bytes, c.add32-2.ensures.bytes, c.add32.ensures.bytes, c.add_bytes.ensures.bytes, c.new-out.ensures) (simp append_assoc)
