-- The calendar's refusals: number, places and words. Assumes nothing.
use Rattle.std.specs.Prelude.{ℕ, List, [], ◌∷◌, codes}
use Rattle.calendar.specs.declared.returned.Returned.{Returned}
use Rattle.calendar.specs.declared.fault.CalendarFault.{CalendarFault}
use Rattle.calendar.specs.declared.fault.CalendarFault.TheVariants.{NoSuchMonth, NotInMonth}

-- a refusal that names no place
abbrev pub bare : ℕ → Returned
bare n = record { number = n; places = 0 ∷ 0 ∷ 0 ∷ 0 ∷ 0 ∷ [] }

-- number and places of each refusal
abbrev pub returned_calendar : CalendarFault → Returned
returned_calendar NoSuchMonth = bare 4
returned_calendar NotInMonth = bare 25

-- the words for a person
abbrev pub words_calendar : CalendarFault → List ℕ
words_calendar NoSuchMonth = codes "the year is not 2020 to 2099, or the month not 1 to 12"
words_calendar NotInMonth = codes "the month has no such day, or the day no such hour"
