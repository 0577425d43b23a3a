-- Months, dates and stamps as values, and the hours of a month in their order. Assumes nothing.
use Rattle.std.specs.Prelude.{◌≡◌, ℕ, ◌+◌, ◌/◌, ◌%◌, Bool, true, false, cond, ◌&&◌, List, map, length, Some, None, Err, Option, Result, ◌==◌, refl}
use Rattle.std.specs.List.{slice_get, range_with_len, flat_map}
use Rattle.std.specs.Option.{unwrap_or, ok_or}
use Rattle.calendar.specs.Calendar.{days, is_month, is_date, is_hour, clock}
use Rattle.calendar.specs.declared.date.Date.{Date}
use Rattle.calendar.specs.declared.fault.CalendarFault.{CalendarFault}
use Rattle.calendar.specs.declared.fault.CalendarFault.TheVariants.{NoSuchMonth, NotInMonth}
use Rattle.calendar.specs.declared.month.Month.{Month}
use Rattle.calendar.specs.declared.stamp.Stamp.{Stamp}

-- what a passed test gives
abbrev pub when : {X : Type 0} (test : Bool) → (test ≡ true → X) → Option X
when true given = Some (given refl)
when false given = None

-- the month, the date and the hour that numbers name, if they name one
abbrev pub named_month : ℕ → ℕ → Option Month
named_month y m = when (is_month y m) (λ e. record { year = y; month = m; real = e })

abbrev pub named_date : ℕ → ℕ → ℕ → Option Date
named_date y m d = when (is_date y m d) (λ e. record { year = y; month = m; day = d; real = e })

abbrev pub named_stamp : ℕ → ℕ → ℕ → ℕ → Option Stamp
named_stamp y m d h = when (is_hour y m d h) (λ e. record { year = y; month = m; day = d; hour = h; real = e })

-- the same where the numbers are checked: first the month (4), then the day and the hour in it (25)
abbrev pub checked_month : ℕ → ℕ → Result Month CalendarFault
checked_month y m = ok_or (named_month y m) NoSuchMonth

abbrev pub checked_date : ℕ → ℕ → ℕ → Result Date CalendarFault
checked_date y m d = cond (is_month y m) (ok_or (named_date y m d) NotInMonth) (Err NoSuchMonth)

abbrev pub checked_stamp : ℕ → ℕ → ℕ → ℕ → Result Stamp CalendarFault
checked_stamp y m d h = cond (is_month y m) (ok_or (named_stamp y m d h) NotInMonth) (Err NoSuchMonth)

-- the month that year × 100 + month writes
abbrev pub numbered_month : ℕ → Result Month CalendarFault
numbered_month n = checked_month (n / 100) (n % 100)

-- the month after: December is followed by January of the next year, and December 2099 by none
abbrev pub next_month : Month → Option Month
next_month m = cond (m.month == 12) (named_month (m.year + 1) 1) (named_month m.year (m.month + 1))

-- the first month, date and hour of all
unfoldable pub first_month : Month
first_month = record { year = 2020; month = 1; real = refl }

unfoldable pub first_date : Date
first_date = record { year = 2020; month = 1; day = 1; real = refl }

unfoldable pub first_hour : Stamp
unfolding clock
first_hour = record { year = 2020; month = 1; day = 1; hour = 0; real = refl }

-- the month, the date and the hour that numbers name; where they name none, the first of all
abbrev pub month : ℕ → ℕ → Month
month y m = unwrap_or (named_month y m) first_month

abbrev pub date : ℕ → ℕ → ℕ → Date
date y m d = unwrap_or (named_date y m d) first_date

abbrev pub stamp : ℕ → ℕ → ℕ → ℕ → Stamp
stamp y m d h = unwrap_or (named_stamp y m d h) first_hour

-- the month and the date that a stamp lies in
abbrev pub its_month : Stamp → Month
its_month s = month s.year s.month

abbrev pub its_date : Stamp → Date
its_date s = date s.year s.month s.day

-- the days of a month, the hours of a day, and the hours of a month, which are its days' hours one after the other
abbrev pub dates : Month → List Date
dates m = map (date m.year m.month) (range_with_len 1 (days m.year m.month))

abbrev pub day_hours : Date → List Stamp
day_hours d = map (stamp d.year d.month d.day) (clock d.year d.month d.day)

unfoldable pub hours : Month → List Stamp
hours m = flat_map day_hours (dates m)

-- how many hours a month has
abbrev pub hour_count : Month → ℕ
hour_count m = length (hours m)

-- whether two stamps are of one hour
abbrev pub same_hour : Stamp → Stamp → Bool
same_hour s t = s.year == t.year && (s.month == t.month && (s.day == t.day && s.hour == t.hour))

-- s is an hour of the month m, the one at index i, and stands nowhere else in it
pub record Placed (m : Month) (i : ℕ) (s : Stamp) : Type 0 where
  pub inside : its_month s ≡ m
  pub here : slice_get (hours m) i ≡ Some s
  pub only : (j : ℕ) → slice_get (hours m) j ≡ Some s → j ≡ i
