-- A day's prices, held for a month. Assumes nothing.
use Rattle.std.specs.Prelude.{ℕ, List, map, slice_index_or}
use Rattle.calendar.specs.Hours.{hours}
use Rattle.calendar.specs.declared.month.Month.{Month}
use Rattle.calendar.specs.declared.stamp.Stamp.{Stamp}
use Rattle.market.specs.PriceList.{mark}

-- the price of an hour: that of the day's hour, or missing where the day has none
abbrev pub price_of : List ℕ → Stamp → ℕ
price_of day at = slice_index_or day at.hour mark

-- the list of a month each day of which has the same prices
abbrev pub held : List ℕ → Month → List ℕ
held day m = map (price_of day) (hours m)
