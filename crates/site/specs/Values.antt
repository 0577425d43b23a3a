-- The numbers by which the setpoints write a sale rule and the storage flag. Assumes nothing.
use Rattle.std.specs.Prelude.{ℕ}
use Rattle.site.specs.declared.values.SaleRule.{SaleRule}
use Rattle.site.specs.declared.values.SaleRule.TheVariants.{DayAhead, CappedDayAhead, FreePrice}
use Rattle.site.specs.declared.values.StorageMetering.{StorageMetering}
use Rattle.site.specs.declared.values.StorageMetering.TheVariants.{Unmetered, Metered}

-- the sale rule, as setpoint 7 writes it
abbrev pub rule_number : SaleRule → ℕ
rule_number DayAhead = 1
rule_number CappedDayAhead = 2
rule_number FreePrice = 3

-- the storage flag, as setpoint 10 writes it
abbrev pub storage_number : StorageMetering → ℕ
storage_number Unmetered = 0
storage_number Metered = 1
