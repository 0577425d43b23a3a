-- What making a zone tariff from numbers gives, and what a zone tariff means. Assumes nothing.
use Rattle.std.specs.Prelude.{◌≡◌, ℕ, ◌*◌, Bool, false, ◌&&◌, Ok, Err, Result}
use Rattle.calendar.specs.Calendar.{within}
use Rattle.tariffs.specs.Rate.{is_rate}
use Rattle.tariffs.specs.Source.{Meaning}
use Rattle.tariffs.specs.Zones.{coefficient, mode_number, zone_hour}
use Rattle.tariffs.specs.declared.fault.TariffFault.{TariffFault}
use Rattle.tariffs.specs.declared.fault.TariffFault.TheVariants.{NoSuchTariff}
use Rattle.tariffs.specs.declared.zone_tariff.ZoneTariff.{ZoneTariff}
use Rattle.tariffs.specs.declared.zones.ZoneMode.{ZoneMode}

-- mode 1, 2 or 3, and a base price that may be set
abbrev pub allowed : ℕ → ℕ → Bool
allowed mode base = within 1 3 mode && is_rate base

-- the tariff of that mode and base, or the refusal where they are not allowed; no mode has another number, and no rate is higher
abbrev pub Checked : ℕ → ℕ → Result ZoneTariff TariffFault → Type 0
Checked mode base (Ok tariff) = (mode_number tariff.mode ≡ mode) × (tariff.base.kopiykas_per_mwh ≡ base)
Checked mode base (Err fault) = (allowed mode base ≡ false) × (fault ≡ NoSuchTariff)

-- a zone tariff: the base price in kopiykas per MWh, times the coefficient in tenths, is the price in points
abbrev pub zoned : ZoneMode → ℕ → Meaning
zoned mode base at = Ok (base * coefficient mode (zone_hour at))

-- what a tariff means
abbrev pub tariff_means : ZoneTariff → Meaning
tariff_means tariff = zoned tariff.mode tariff.base.kopiykas_per_mwh
