-- The refusals of the tariffs: number, places and words. Assumes nothing.
use Rattle.std.specs.Prelude.{ℕ, List, ◌++◌, codes, decimal}
use Rattle.calendar.specs.Faults.{bare}
use Rattle.calendar.specs.declared.returned.Returned.{Returned}
use Rattle.tariffs.specs.declared.fault.SourceFault.{SourceFault}
use Rattle.tariffs.specs.declared.fault.TariffFault.{TariffFault}
use Rattle.tariffs.specs.declared.fault.TariffFault.TheVariants.{NoSuchTariff}

-- number and places of each refusal
abbrev pub returned_tariff : TariffFault → Returned
returned_tariff NoSuchTariff = bare 12

-- a source's fault: the cause, and the depth
abbrev pub words_source : SourceFault → List ℕ
words_source fault = codes "cause " ++ (decimal fault.cause ++ (codes ", depth " ++ decimal fault.depth))

-- the words for a person
abbrev pub words_tariff : TariffFault → List ℕ
words_tariff NoSuchTariff = codes "the zone mode is not 1 to 3, or the base price is above 10000000 kopiykas per MWh"
