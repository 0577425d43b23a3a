-- Which lists of numbers are the day-ahead prices of a month. Assumes nothing.
use Rattle.std.specs.Prelude.{ℕ, Bool, cond, ◌||◌, List, [], ◌∷◌, length, Some, None, Option, ◌==◌}
use Rattle.calendar.specs.Hours.{hour_count, hours, named_month}
use Rattle.calendar.specs.declared.fault.CalendarFault.TheVariants.{NoSuchMonth}
use Rattle.calendar.specs.declared.month.Month.{Month}
use Rattle.calendar.specs.declared.stamp.Stamp.{Stamp}
use Rattle.tariffs.specs.Source.{is_price}
use Rattle.market.specs.declared.fault.PriceListFault.{PriceListFault}
use Rattle.market.specs.declared.fault.PriceListFault.TheVariants.{Calendar, WrongLength, TooHigh}

-- what stands for a missing price: FFFFFFFF in hexadecimal
abbrev pub mark : ℕ
mark = 4294967295

-- what may stand in a list: a price, or the mark
abbrev pub listable : ℕ → Bool
listable number = is_price number || number == mark

-- the first hour beside which a number stands that may not stand in a list
abbrev pub first_too_high : List Stamp → List ℕ → Option Stamp
first_too_high [] prices = None
first_too_high (h ∷ hs) [] = None
first_too_high (h ∷ hs) (p ∷ ps) = cond (listable p) (first_too_high hs ps) (Some h)

-- the refusal that names such an hour
abbrev pub too_high : Option Stamp → Option PriceListFault
too_high None = None
too_high (Some at) = Some (TooHigh at.day at.hour)

-- why the prices of a month are refused, if they are: their number first, then the first that is too high
abbrev pub refused : Option Month → List ℕ → Option PriceListFault
refused None prices = Some (Calendar NoSuchMonth)
refused (Some m) prices = cond (length prices == hour_count m) (too_high (first_too_high (hours m) prices)) (Some WrongLength)

-- why a list is refused, if it is: first the month that its numbers name
abbrev pub refusal : ℕ → ℕ → List ℕ → Option PriceListFault
refusal year month prices = refused (named_month year month) prices
