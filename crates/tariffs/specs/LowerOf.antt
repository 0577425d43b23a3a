-- What the lower of two sources means. Assumes nothing.
use Rattle.std.specs.Prelude.{ℕ, ◌+◌, min, Ok, Err, Result}
use Rattle.tariffs.specs.Source.{Meaning}
use Rattle.tariffs.specs.declared.fault.SourceFault.{SourceFault}

-- a fault that came up through one source more: the cause stays, and the depth rises by one, up to 15
abbrev pub deeper : SourceFault → SourceFault
deeper fault = record { cause = fault.cause; depth = min (fault.depth + 1) 15 }

-- the smaller of two prices; else the fault of the first, or of the second where the first has a price, one source deeper
abbrev pub smaller : Result ℕ SourceFault → Result ℕ SourceFault → Result ℕ SourceFault
smaller (Ok p) (Ok q) = Ok (min p q)
smaller (Ok p) (Err fault) = Err (deeper fault)
smaller (Err fault) second = Err (deeper fault)

-- the lower of two sources, at every stamp
abbrev pub lower : Meaning → Meaning → Meaning
lower first second at = smaller (first at) (second at)
