-- What each role of a site's energy is priced by, as its setpoints choose. Assumes nothing.
use Rattle.std.specs.Prelude.{◌≡◌}
use Rattle.calendar.specs.declared.stamp.Stamp.{Stamp}
use Rattle.site.specs.declared.setpoints.Setpoints.{Setpoints}
use Rattle.site.specs.declared.values.SaleRule.{SaleRule}
use Rattle.site.specs.declared.values.SaleRule.TheVariants.{DayAhead, CappedDayAhead, FreePrice}
use Rattle.tariffs.specs.LowerOf.{lower}
use Rattle.tariffs.specs.Source.{Meaning}
use Rattle.tariffs.specs.ZoneTariff.{zoned}
use Rattle.tariffs.specs.declared.zones.ZoneMode.TheVariants.{SingleZone}

-- the purchase tariff: the zone tariff of setpoints 4 and 5
abbrev pub purchase_tariff : Setpoints → Meaning
purchase_tariff x = zoned x.zone_mode x.purchase_base.kopiykas_per_mwh

-- the free price: setpoint 6, the same at every hour
abbrev pub free_price : Setpoints → Meaning
free_price x = zoned SingleZone x.free_sale_price.kopiykas_per_mwh

-- what sold energy is paid at, by the rule: the table, the lower of table and purchase tariff, or the free price
abbrev pub sold_at : SaleRule → (table purchase free : Meaning) → Meaning
sold_at DayAhead table purchase free = table
sold_at CappedDayAhead table purchase free = lower table purchase
sold_at FreePrice table purchase free = free

-- three sources are the standard choice for a site and a table where at every stamp they mean what its setpoints choose
pub record Chosen (x : Setpoints) (table purchase sale excess : Meaning) : Type 0 where
  pub bought : (at : Stamp) → purchase at ≡ purchase_tariff x at
  pub sold : (at : Stamp) → sale at ≡ sold_at x.sale_rule table (purchase_tariff x) (free_price x) at
  pub surplus : (at : Stamp) → excess at ≡ lower table (purchase_tariff x) at
