-- The zones of the day: their coefficients by the rule. Assumes nothing.
use Rattle.std.specs.Prelude.{◌≡◌, ℕ, Bool, true, false, cond, ◌||◌, ◌==◌, nat_le, Ok, Err, Result}
use Rattle.calendar.specs.Calendar.{within}
use Rattle.calendar.specs.declared.stamp.Stamp.{Stamp}
use Rattle.tariffs.specs.declared.fault.TariffFault.{TariffFault}
use Rattle.tariffs.specs.declared.fault.TariffFault.TheVariants.{NoSuchTariff}
use Rattle.tariffs.specs.declared.zones.ZoneMode.{ZoneMode}
use Rattle.tariffs.specs.declared.zones.ZoneMode.TheVariants.{SingleZone, TwoZone, ThreeZone}

-- the number of a mode, as setpoint 4 writes it
abbrev pub mode_number : ZoneMode → ℕ
mode_number SingleZone = 1
mode_number TwoZone = 2
mode_number ThreeZone = 3

-- the mode of a number, or the refusal where no mode has it
abbrev pub Moded : ℕ → Result ZoneMode TariffFault → Type 0
Moded number (Ok mode) = (within 1 3 number ≡ true) × (mode_number mode ≡ number)
Moded number (Err fault) = (within 1 3 number ≡ false) × (fault ≡ NoSuchTariff)

-- the hour of the table by which a stamp is priced
abbrev pub zone_hour : Stamp → ℕ
zone_hour at = at.hour

-- 23:00 to 07:00
abbrev pub night : ℕ → Bool
night hour = hour == 23 || nat_le hour 6

-- 08:00 to 11:00, and 20:00 to 22:00
abbrev pub peak : ℕ → Bool
peak hour = within 8 10 hour || within 20 21 hour

-- what a base price is multiplied by at an hour, in tenths
abbrev pub coefficient : ZoneMode → ℕ → ℕ
coefficient SingleZone hour = 10
coefficient TwoZone hour = cond (night hour) 5 10
coefficient ThreeZone hour = cond (night hour) 4 (cond (peak hour) 15 10)

-- where the row of a mode begins in the table of coefficients
abbrev pub row : ZoneMode → ℕ
row SingleZone = 0
row TwoZone = 24
row ThreeZone = 48
