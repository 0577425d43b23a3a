-- A test for sound answers. Assumes nothing.
use Rattle.std.specs.Prelude.{ℕ, Bool, ◌&&◌, Ok, Err, Result}
use Rattle.calendar.specs.Calendar.{within}
use Rattle.tariffs.specs.Source.{is_price}
use Rattle.tariffs.specs.declared.fault.SourceFault.{SourceFault}

-- a cause of 1 to 255 and a depth of 0 to 15
abbrev pub is_fault : SourceFault → Bool
is_fault fault = within 1 255 fault.cause && within 0 15 fault.depth

-- a price that may be, or a fault that may be
abbrev pub is_sound : Result ℕ SourceFault → Bool
is_sound (Ok price) = is_price price
is_sound (Err fault) = is_fault fault
