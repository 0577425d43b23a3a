-- The refusals of a price list: number, places and words. Assumes nothing.
use Rattle.std.specs.Prelude.{ℕ, List, [], ◌∷◌, ◌++◌, codes, decimal}
use Rattle.calendar.specs.Faults.{bare, returned_calendar, words_calendar}
use Rattle.calendar.specs.declared.returned.Returned.{Returned}
use Rattle.market.specs.declared.fault.PriceListFault.{PriceListFault}
use Rattle.market.specs.declared.fault.PriceListFault.TheVariants.{Calendar, WrongLength, TooHigh}

-- number and places of each refusal: 11 names the day and the hour
abbrev pub returned_list : PriceListFault → Returned
returned_list (Calendar fault) = returned_calendar fault
returned_list WrongLength = bare 10
returned_list (TooHigh day hour) = record { number = 11; places = day ∷ hour ∷ 0 ∷ 0 ∷ 0 ∷ [] }

-- the words for a person
abbrev pub words_list : PriceListFault → List ℕ
words_list (Calendar fault) = words_calendar fault
words_list WrongLength = codes "the price list's length is not the month's hour count"
words_list (TooHigh day hour) = codes "the price of day " ++ (decimal day ++ (codes ", hour " ++ (decimal hour ++ codes " is above 150000000 points")))
