-- The line of an hour with its prices by role. Assumes nothing.
use Rattle.std.specs.Prelude.{ℕ, List, ◌++◌, codes}
use Rattle.calendar.specs.declared.stamp.Stamp.{Stamp}
use Rattle.pricing.specs.Choice.{free_price, purchase_tariff, sold_at}
use Rattle.site.specs.declared.setpoints.Setpoints.{Setpoints}
use Rattle.site.specs.declared.values.SaleRule.TheVariants.{DayAhead, CappedDayAhead, FreePrice}
use Rattle.tariffs.specs.LowerOf.{lower}
use Rattle.tariffs.specs.Source.{Meaning}
use Rattle.bench_sheet.specs.declared.rows.RolesRow.{RolesRow}
use Rattle.bench_sheet.specs.Columns.{right}
use Rattle.bench_sheet.specs.Rows.{answer_text, hour_start}

-- the hour's start, and the answers for bought energy, for sold energy under the rules 1 to 3, and for excess
abbrev pub roles_row : RolesRow → List ℕ
roles_row r =
    codes "  " ++ (hour_start r.hour ++ (right 13 (answer_text r.bought) ++ (right 13 (answer_text r.first) ++ (right 13 (answer_text r.second) ++ (right 13 (answer_text r.third) ++ right 13 (answer_text r.excess))))))

-- bought energy, sold energy under the rules 1 to 3, and excess, each by what the setpoints choose
abbrev pub priced_row : Setpoints → Meaning → Stamp → List ℕ
priced_row x table at = roles_row (record {
  hour = at.hour;
  bought = purchase_tariff x at;
  first = sold_at DayAhead table (purchase_tariff x) (free_price x) at;
  second = sold_at CappedDayAhead table (purchase_tariff x) (free_price x) at;
  third = sold_at FreePrice table (purchase_tariff x) (free_price x) at;
  excess = lower table (purchase_tariff x) at;
})
