-- The prices that may be set by hand. Assumes nothing.
use Rattle.std.specs.Prelude.{◌≡◌, ℕ, Bool, true, false, Ok, Err, Result}
use Rattle.calendar.specs.Calendar.{within}
use Rattle.tariffs.specs.declared.fault.TariffFault.{TariffFault}
use Rattle.tariffs.specs.declared.fault.TariffFault.TheVariants.{NoSuchTariff}
use Rattle.tariffs.specs.declared.rate.Rate.{Rate}

-- 0 to 10,000,000 kopiykas per MWh
abbrev pub is_rate : ℕ → Bool
is_rate kopiykas = within 0 10000000 kopiykas

-- the rate of so many kopiykas per MWh, or the refusal where it may not be set
abbrev pub Rated : ℕ → Result Rate TariffFault → Type 0
Rated kopiykas (Ok rate) = (is_rate kopiykas ≡ true) × (rate.kopiykas_per_mwh ≡ kopiykas)
Rated kopiykas (Err fault) = (is_rate kopiykas ≡ false) × (fault ≡ NoSuchTariff)
