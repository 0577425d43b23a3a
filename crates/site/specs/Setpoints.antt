-- Which twelve numbers are allowed as setpoints, and what holds them. Assumes nothing.
use Rattle.std.specs.Prelude.{◌≡◌, ℕ, ◌-◌, ◌%◌, Bool, cond, ◌&&◌, List, [], ◌∷◌, Some, None, Ok, Err, Option, Result, nat_le, slice_index}
use Rattle.calendar.specs.Calendar.{within, number}
use Rattle.tariffs.specs.Rate.{is_rate}
use Rattle.tariffs.specs.Zones.{mode_number}
use Rattle.site.specs.Setpoint.{all_setpoints, setpoint_number}
use Rattle.site.specs.Values.{rule_number, storage_number}
use Rattle.site.specs.declared.fault.SetpointFault.{SetpointFault}
use Rattle.site.specs.declared.fault.SetpointFault.TheVariants.{NotAllowed, InstalledAboveContracted}
use Rattle.site.specs.declared.setpoint.Setpoint.{Setpoint}
use Rattle.site.specs.declared.setpoint.Setpoint.TheVariants.{AccountNumber, ContractedPower, InstalledPower, ZoneMode, PurchaseBase, FreeSalePrice, SaleRule, Distribution, Transmission, StorageMetered, FirstMonth, PayoutFloor}
use Rattle.site.specs.declared.setpoints.Setpoints.{Setpoints}

-- year × 100 + month, of a month of the account
abbrev pub is_month_number : ℕ → Bool
is_month_number n = within 202001 209912 n && within 1 12 (n % 100)

-- the values that a setpoint may have
abbrev pub allowed : Setpoint → ℕ → Bool
allowed AccountNumber n = within 1 999999999 n
allowed ContractedPower n = within 1 1000000 n
allowed InstalledPower n = within 1 30000 n
allowed ZoneMode n = within 1 3 n
allowed PurchaseBase n = is_rate n
allowed FreeSalePrice n = is_rate n
allowed SaleRule n = within 1 3 n
allowed Distribution n = is_rate n
allowed Transmission n = is_rate n
allowed StorageMetered n = within 0 1 n
allowed FirstMonth n = is_month_number n
allowed PayoutFloor n = within 1 1000000000 n

-- the value that was typed in for a setpoint, the first number being setpoint 1
abbrev pub typed : List ℕ → Setpoint → ℕ
typed numbers s = slice_index numbers (setpoint_number s - 1)

-- the first of some setpoints whose value is not allowed
abbrev pub first_not_allowed : List ℕ → List Setpoint → Option Setpoint
first_not_allowed numbers [] = None
first_not_allowed numbers (s ∷ ss) = cond (allowed s (typed numbers s)) (first_not_allowed numbers ss) (Some s)

-- whether the powers are a reason to refuse: the installed power may not be above the contracted
abbrev pub powers_refused : List ℕ → Option SetpointFault
powers_refused numbers = cond (nat_le (typed numbers InstalledPower) (typed numbers ContractedPower)) None (Some InstalledAboveContracted)

-- the reason, where a first setpoint that is not allowed was found, and where none was
abbrev pub refused : List ℕ → Option Setpoint → Option SetpointFault
refused numbers (Some s) = Some (NotAllowed s)
refused numbers None = powers_refused numbers

-- why twelve numbers are refused, if they are: the lowest setpoint that is not allowed, then the powers
abbrev pub refusal : List ℕ → Option SetpointFault
refusal numbers = refused numbers (first_not_allowed numbers all_setpoints)

-- the number that checked setpoints hold for a setpoint
abbrev pub held : Setpoints → Setpoint → ℕ
held x AccountNumber = x.account.0
held x ContractedPower = x.contracted_power.0
held x InstalledPower = x.installed_power.0
held x ZoneMode = mode_number x.zone_mode
held x PurchaseBase = x.purchase_base.kopiykas_per_mwh
held x FreeSalePrice = x.free_sale_price.kopiykas_per_mwh
held x SaleRule = rule_number x.sale_rule
held x Distribution = x.distribution.kopiykas_per_mwh
held x Transmission = x.transmission.kopiykas_per_mwh
held x StorageMetered = storage_number x.storage
held x FirstMonth = number x.first_month.year x.first_month.month
held x PayoutFloor = x.payout_floor.0

-- accepted numbers are held as they were typed; the others are refused, for the first reason that applies
abbrev pub Checked : List ℕ → Result Setpoints SetpointFault → Type 0
Checked numbers (Ok x) = (refusal numbers ≡ None) × ((s : Setpoint) → held x s ≡ typed numbers s)
Checked numbers (Err fault) = refusal numbers ≡ Some fault
