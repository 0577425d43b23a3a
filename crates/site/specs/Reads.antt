-- What reading one setpoint's value gives. Assumes nothing.
use Rattle.std.specs.Prelude.{◌≡◌, ℕ, Bool, true, false, Ok, Err, Result}
use Rattle.calendar.specs.Calendar.{within}
use Rattle.site.specs.Values.{rule_number, storage_number}
use Rattle.site.specs.declared.fault.SetpointFault.{SetpointFault}
use Rattle.site.specs.declared.fault.SetpointFault.TheVariants.{NotAllowed}
use Rattle.site.specs.declared.setpoint.Setpoint.{Setpoint}
use Rattle.site.specs.declared.setpoint.Setpoint.TheVariants.{SaleRule as Rule, StorageMetered}
use Rattle.site.specs.declared.values.SaleRule.{SaleRule}
use Rattle.site.specs.declared.values.StorageMetering.{StorageMetering}

-- one value: read where its test passes, into what has it as its number, and else refused
abbrev pub Reads : {X : Type 0} → Setpoint → ℕ → Bool → (X → ℕ) → Result X SetpointFault → Type 0
Reads s n test number_of (Ok x) = (test ≡ true) × (number_of x ≡ n)
Reads s n test number_of (Err fault) = (test ≡ false) × (fault ≡ NotAllowed s)

-- a value read by a conversion: what that gives, and the setpoint's refusal where it gives none
abbrev pub Converts : {X E : Type 0} → (ℕ → Result X E → Type 0) → Setpoint → ℕ → Result X SetpointFault → Type 0
Converts gives s n (Ok x) = gives n (Ok x)
Converts {E = E} gives s n (Err fault) = ((e : E) × gives n (Err e)) × (fault ≡ NotAllowed s)

-- the sale rule and the storage flag of a number
abbrev pub ReadsRule : ℕ → Result SaleRule SetpointFault → Type 0
ReadsRule n r = Reads Rule n (within 1 3 n) rule_number r

abbrev pub ReadsStorage : ℕ → Result StorageMetering SetpointFault → Type 0
ReadsStorage n r = Reads StorageMetered n (within 0 1 n) storage_number r
