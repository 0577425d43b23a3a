-- What a day-ahead table means. Assumes nothing.
use Rattle.std.specs.Prelude.{◌≡◌, ℕ, Bool, cond, ◌&&◌, List, Some, None, Ok, Err, Option, Result, ◌==◌, ◌≢◌, slice_index}
use Rattle.std.specs.List.{zip}
use Rattle.std.specs.Map.{lookup}
use Rattle.std.specs.Option.{option_map_or}
use Rattle.calendar.specs.Hours.{Placed, hours, its_month, same_hour}
use Rattle.calendar.specs.declared.month.Month.{Month}
use Rattle.calendar.specs.declared.stamp.Stamp.{Stamp}
use Rattle.tariffs.specs.Source.{Meaning, is_price}
use Rattle.tariffs.specs.declared.fault.SourceFault.{SourceFault}
use Rattle.market.specs.PriceList.{mark}
use Rattle.market.specs.declared.price_list.CheckedPrices.{CheckedPrices}
use Rattle.market.specs.declared.table.DayAheadTable.{DayAheadTable}

-- the fault of an hour outside the table's month, and of an hour whose price is missing
abbrev pub outside_month : SourceFault
outside_month = record { cause = 1; depth = 0 }

abbrev pub missing_price : SourceFault
missing_price = record { cause = 2; depth = 0 }

-- the price that is listed for an hour: it is missing where nothing is listed, or what is listed is no price, as the mark is none
abbrev pub priced : Option ℕ → Result ℕ SourceFault
priced None = Err missing_price
priced (Some number) = cond (is_price number) (Ok number) (Err missing_price)

-- whether a stamp lies in the month of a year and a number
abbrev pub lies_in : ℕ → ℕ → Stamp → Bool
lies_in year month at = at.year == year && at.month == month

-- the table of a year, a month and a list: at an hour of that month, the price beside it in the list
abbrev pub tabled : ℕ → ℕ → List ℕ → Meaning
tabled year month prices at = cond (lies_in year month at) (priced (lookup (same_hour at) (zip (hours (its_month at)) prices))) (Err outside_month)

-- what a checked list says of every stamp
abbrev pub list_means : CheckedPrices → Meaning
list_means list = tabled list.month.year list.month.month list.prices.now

-- what a table means: what its list says; without one, every stamp lies outside its month
abbrev pub table_means : DayAheadTable → Meaning
table_means table at = option_map_or (λ list. list_means list at) table.list (Err outside_month)

-- what a table has to mean: cause 1 outside its month, cause 2 at a missing price, else the price listed at the hour's place
pub record Tabled (m : Month) (prices : List ℕ) (means : Meaning) : Type 0 where
  pub outside : (at : Stamp) → (its_month at ≢ m) → means at ≡ Err outside_month
  pub missing : (at : Stamp) (i : ℕ) → Placed m i at → slice_index prices i ≡ mark → means at ≡ Err missing_price
  pub listed : (at : Stamp) (i : ℕ) → Placed m i at → (slice_index prices i ≢ mark) → means at ≡ Ok (slice_index prices i)
