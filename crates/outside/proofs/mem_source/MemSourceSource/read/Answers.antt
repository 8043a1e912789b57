use Rattle.std.proofs.Common.{◌+◌, ℕ, length-take, length-append, length-drop, arith}
use Rattle.outside.proofs.Left.{left_on}
use Rattle.std.proofs.lemmas.List.{drop_all}
use Rattle.outside.proofs.mem_source.MemSourceSource.read.Goals as goal

pub returns-clause-bytes : goal.returns-clause-bytes
returns-clause-bytes c =
    let s = c.args.self.now in (
      left_on s.bytes.items c.deref.result.now c.copy_from_slice.new.self _ s.taken c.min-n.result (omega (arith, length-take {A = ℕ}, c.copy_from_slice.ensures.len)) c.deref.ensures.value c.copy_from_slice.ensures.after,
      λ none some. drop_all (s.taken + c.min-n.result) s.bytes.items (omega (arith, length-append {A = ℕ}, length-drop {A = ℕ})),
    )
