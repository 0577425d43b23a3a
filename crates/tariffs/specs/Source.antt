-- What a price source means, and which meanings are sound. Assumes nothing.
use Rattle.std.specs.Prelude.{ℕ, ◌≤◌, Bool, Ok, Err, Result}
use Rattle.calendar.specs.Calendar.{within}
use Rattle.calendar.specs.declared.stamp.Stamp.{Stamp}
use Rattle.tariffs.specs.declared.fault.SourceFault.{SourceFault}

-- a price in points, or a fault, at every stamp
abbrev pub Meaning : Type 0
Meaning = Stamp → Result ℕ SourceFault

-- 0 to 150,000,000 points
abbrev pub is_price : ℕ → Bool
is_price points = within 0 150000000 points

-- a price is at most 150,000,000 points; a fault has a cause of 1 to 255 and a depth of at most 15
abbrev pub Sound : Result ℕ SourceFault → Type 0
Sound (Ok price) = price ≤ 150000000
Sound (Err fault) = (1 ≤ fault.cause) × (fault.cause ≤ 255) × (fault.depth ≤ 15)
