-- What sold energy is paid at. Assumes nothing.
use Rattle.market.specs.DayAheadTable.{table_means}
use Rattle.tariffs.specs.LowerOf.{lower}
use Rattle.tariffs.specs.Source.{Meaning}
use Rattle.tariffs.specs.ZoneTariff.{tariff_means}
use Rattle.pricing.specs.declared.sale.Sale.{Sale}
use Rattle.pricing.specs.declared.sale.Terms.{Terms}
use Rattle.pricing.specs.declared.sale.Terms.TheVariants.{DayAhead, Capped, FreePrice}

-- the terms of a sale: the table, the lower of it and the cap, or the free price whatever a table says
abbrev pub on_terms : Terms → Meaning
on_terms (DayAhead table) = table_means table
on_terms (Capped table cap) = lower (table_means table) (tariff_means cap)
on_terms (FreePrice price) = tariff_means price

-- what a sale means
abbrev pub sale_means : Sale → Meaning
sale_means sale = on_terms sale.terms
