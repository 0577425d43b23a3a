-- The twelve setpoints: their numbers, names and order. Assumes nothing.
use Rattle.std.specs.Prelude.{ℕ, List, [], ◌∷◌, codes}
use Rattle.site.specs.declared.setpoint.Setpoint.{Setpoint}
use Rattle.site.specs.declared.setpoint.Setpoint.TheVariants.{AccountNumber, ContractedPower, InstalledPower, ZoneMode, PurchaseBase, FreeSalePrice, SaleRule, Distribution, Transmission, StorageMetered, FirstMonth, PayoutFloor}

-- the number by which a setpoint is typed in and named
abbrev pub setpoint_number : Setpoint → ℕ
setpoint_number AccountNumber = 1
setpoint_number ContractedPower = 2
setpoint_number InstalledPower = 3
setpoint_number ZoneMode = 4
setpoint_number PurchaseBase = 5
setpoint_number FreeSalePrice = 6
setpoint_number SaleRule = 7
setpoint_number Distribution = 8
setpoint_number Transmission = 9
setpoint_number StorageMetered = 10
setpoint_number FirstMonth = 11
setpoint_number PayoutFloor = 12

-- the name that a person reads
abbrev pub name : Setpoint → List ℕ
name AccountNumber = codes "account number"
name ContractedPower = codes "contracted power"
name InstalledPower = codes "installed power"
name ZoneMode = codes "zone mode"
name PurchaseBase = codes "purchase base price"
name FreeSalePrice = codes "free sale price"
name SaleRule = codes "sale rule"
name Distribution = codes "distribution tariff"
name Transmission = codes "transmission tariff"
name StorageMetered = codes "storage metered"
name FirstMonth = codes "first month"
name PayoutFloor = codes "payout floor"

-- the twelve, in their order
abbrev pub all_setpoints : List Setpoint
all_setpoints =
    AccountNumber ∷ ContractedPower ∷ InstalledPower ∷ ZoneMode ∷ PurchaseBase ∷ FreeSalePrice ∷ SaleRule ∷ Distribution ∷ Transmission
    ∷ StorageMetered ∷ FirstMonth ∷ PayoutFloor ∷ []
