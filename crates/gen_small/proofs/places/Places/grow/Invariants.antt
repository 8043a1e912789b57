-- The table has grown to the index, and no address has changed.
use Rattle.std.proofs.Common.{◌≡◌, ℕ, length, slice_index}
use Rattle.gen_small.proofs.places.Places.grow.Given as goal

abbrev pub invariant-loop : goal.invariant-loop
invariant-loop l =
    (l.counter ≡ length l.self-inside.table.items)
    × ((k : ℕ) → slice_index l.self-inside.table.items k ≡ slice_index l.initial.self-inside.table.items k)
