use Rattle.std.proofs.Common.{arith}
use Rattle.top.proofs.Filing.{text_read, text_large}
use Rattle.top.proofs.reading.text.Goals as goal

pub returns-then-len-gt-MOST-clause-read : goal.returns-then-len-gt-MOST-clause-read
returns-then-len-gt-MOST-clause-read g c =
    text_large (g.F.Files.held c.args.files.now) c.args.name.now c.in-Ok.text c.too_large.result (rw (c.as_slice.ensures.bytes) at c.in-Ok.ensures.content) (omega (arith, c.len.ensures, c.if-len-gt-MOST.true)) c.too_large.ensures

pub returns-else-len-gt-MOST-clause-read : goal.returns-else-len-gt-MOST-clause-read
returns-else-len-gt-MOST-clause-read g c =
    text_read (g.F.Files.held c.args.files.now) c.args.name.now c.in-Ok.text (rw (c.as_slice.ensures.bytes) at c.in-Ok.ensures.content) (omega (arith, c.len.ensures, c.if-len-gt-MOST.false))
