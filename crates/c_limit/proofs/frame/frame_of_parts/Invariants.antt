-- What was counted and what is left are the whole.
use Rattle.std.proofs.Common.{◌≡◌, ◌+◌, ◌<◌, ◌^◌, drop}
use Rattle.c_type.specs.Of.{tags_of}
use Rattle.c_limit.specs.Limits.{local_bytes}
use Rattle.c_limit.specs.Temporaries.{counted}
use Rattle.c_limit.specs.Of.{parts_of}
use Rattle.c_limit.proofs.frame.frame_of_parts.Given as goal

abbrev pub invariant-loop-part : goal.invariant-loop-part
invariant-loop-part l =
    (counted (l.bytes + local_bytes (tags_of l.tags) (parts_of (drop l.part-index l.parts))) ≡ counted (local_bytes (tags_of l.tags) (parts_of l.parts) + 256)) × (l.bytes < 2 ^ 64)
