-- Laws of edges, limits and made programs.
use Rattle.std.specs.Prelude.{None, ◌≡◌, ◌↔◌, ◌+◌, ℕ, List, true, false}
use Rattle.std.specs.List.{filter_map, flat_map}
use Rattle.c_tree.specs.TUnit.{TypedUnit, Program, Func}
use Rattle.c_tree.specs.Bodies.{bodies}
use Rattle.c_run.specs.Context.{Context, linked}
use Rattle.c_run.specs.Calls.{frame_of}
use Rattle.c_limit.specs.Parts.{parts}
use Rattle.c_limit.specs.Limits.{Limit, first_passed, AreKept, local_bytes, frame_limits, unit_frames}
use Rattle.c_tree.specs.Starts.{starts}
use Rattle.c_limit.specs.Edges.{edges, start_of}
use Rattle.c_limit.specs.Made.{IsMade}

-- the starts among the edges of a file are its starts
abbrev pub EdgesHaveStarts : Type 0
EdgesHaveStarts = (x : TypedUnit) → filter_map start_of (edges x) ≡ starts x

-- a whole program is a part
abbrev pub WholeIsPart : Type 0
WholeIsPart = (p : Program) (counts : List ℕ) → IsMade true counts p → IsMade false counts p

-- a frame is the bytes of the body's automatic objects and 256 for temporaries
abbrev pub FrameIsOfParts : Type 0
FrameIsOfParts = (c : Context) (f : Func) → local_bytes c.tags (parts f) + 256 ≡ frame_of c f

-- the limits on frames are those of each unit's parts
abbrev pub FramesAreOfUnits : Type 0
FramesAreOfUnits = (p : Program) → frame_limits (linked p) (bodies p) ≡ flat_map unit_frames p.units

-- none is passed exactly where each quantity is at most its greatest number
abbrev pub NoneIsPassed : Type 0
NoneIsPassed = (xs : List Limit) → (first_passed xs ≡ None) ↔ AreKept xs
