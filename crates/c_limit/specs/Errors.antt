-- The limits that errors name.
use Rattle.std.specs.Prelude.{Option, Some, None}
use Rattle.c_limit.specs.declared.LimitErr.{LimitErr}
use Rattle.c_limit.specs.declared.LimitErr.TheVariants as e
use Rattle.c_limit.specs.Limits.{Excess, Total, Starts, Lines, Init, Object, Derivations, Dimensions, Temporaries, Frame}

-- the limit that an error names; want of memory names none
abbrev pub excess_of : LimitErr → Option Excess
excess_of e.Total = Some Total
excess_of e.Starts = Some Starts
excess_of (e.Lines u) = Some (Lines u)
excess_of e.Init = Some Init
excess_of (e.Object x) = Some (Object x)
excess_of (e.Derivations x) = Some (Derivations x)
excess_of (e.Dimensions x) = Some (Dimensions x)
excess_of (e.Temporaries x) = Some (Temporaries x)
excess_of (e.Frame x) = Some (Frame x)
excess_of e.Memory = None
