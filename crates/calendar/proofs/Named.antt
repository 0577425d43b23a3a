-- The numbers of a month, a date or a stamp name it and no other; and what checking them gives. Assumes nothing.
use Rattle.std.proofs.Common.{◌≡◌, ℕ, ◌/◌, ◌%◌, Bool, true, false, Some, None, Ok, Option, unwrap_or, ok_or, sym, refl, ap, ◌∙◌}
use mathlib.Core.Bool.{Bool-set}
use Rattle.std.proofs.iter.runs.Lists.{none-some, same_Some}
use Rattle.std.proofs.lemmas.Bool.{cond-true, false≢true, and_parts, and_right}
use Rattle.std.specs.Result.{result_ok}
use Rattle.calendar.specs.Calendar.{is_month, is_date, is_hour, among, clock, within, days}
use Rattle.calendar.specs.Hours.{when, named_month, named_date, named_stamp, checked_month, checked_date, checked_stamp, numbered_month, month, date, stamp, first_month, first_date, first_hour, its_month}
use Rattle.calendar.specs.declared.date.Date.{Date}
use Rattle.calendar.specs.declared.fault.CalendarFault.TheVariants.{NoSuchMonth, NotInMonth}
use Rattle.calendar.specs.declared.month.Month.{Month}
use Rattle.calendar.specs.declared.stamp.Stamp.{Stamp}

when_passed : {X : Type 0} (test : Bool) (given : test ≡ true → X) (e : test ≡ true) → when test given ≡ Some (given e)
when_passed true given e = ap (λ p. Some (given p)) (Bool-set true true refl e)
when_passed false given e = absurd (false≢true e)

when_failed : {X : Type 0} (test : Bool) (given : test ≡ true → X) → test ≡ false → when test given ≡ None
when_failed true given e = absurd (false≢true (sym e))
when_failed false given e = refl

when_some : {X : Type 0} (test : Bool) (given : test ≡ true → X) (x : X) → when test given ≡ Some x → (e : test ≡ true) × (given e ≡ x)
when_some true given x is = (refl, same_Some (given refl) x is)
when_some false given x is = absurd (none-some x is)

-- a month that numbers name has these numbers
pub month_parts : (y m : ℕ) (named : Month) → named_month y m ≡ Some named → (named.year ≡ y) × (named.month ≡ m)
month_parts y m named is = let given = when_some (is_month y m) _ named is in (ap (λ x. x.year) (sym given.1), ap (λ x. x.month) (sym given.1))

pub month_named : (m : Month) → named_month m.year m.month ≡ Some m
month_named m = when_passed _ _ m.real

pub date_named : (d : Date) → named_date d.year d.month d.day ≡ Some d
date_named d = when_passed _ _ d.real

pub stamp_named : (s : Stamp) → named_stamp s.year s.month s.day s.hour ≡ Some s
stamp_named s = when_passed _ _ s.real

ok_of_ok_or : {X E : Type 0} (o : Option X) (fault : E) → result_ok (ok_or o fault) ≡ o
ok_of_ok_or None fault = refl
ok_of_ok_or (Some x) fault = refl

-- numbers that name something are accepted with it
pub month_checked : (m : Month) → Ok m ≡ checked_month m.year m.month
month_checked m = sym (ap (λ o. ok_or o NoSuchMonth) (month_named m))

pub date_checked : (d : Date) → Ok d ≡ checked_date d.year d.month d.day
date_checked d =
    sym (cond-true (is_month d.year d.month) _ _ (and_parts (is_month d.year d.month) _ d.real).0 ∙ ap (λ o. ok_or o NotInMonth) (date_named d))

pub stamp_checked : (s : Stamp) → Ok s ≡ checked_stamp s.year s.month s.day s.hour
stamp_checked s =
    let dated = and_parts (is_date s.year s.month s.day) _ s.real in
    sym (cond-true (is_month s.year s.month) _ _ (and_parts (is_month s.year s.month) _ dated.0).0 ∙ ap (λ o. ok_or o NotInMonth) (stamp_named s))

-- what a month's number was read as has the year and the month that it writes
pub month_numbered : (n : ℕ) (m : Month) → Ok m ≡ numbered_month n → (m.year ≡ n / 100) × (m.month ≡ n % 100)
month_numbered n m is = month_parts (n / 100) (n % 100) m (sym (ok_of_ok_or _ NoSuchMonth) ∙ ap result_ok (sym is))

pub the_month : (m : Month) → m ≡ month m.year m.month
the_month m = ap (λ o. unwrap_or o first_month) (sym (month_named m))

pub the_date : (d : Date) → d ≡ date d.year d.month d.day
the_date d = ap (λ o. unwrap_or o first_date) (sym (date_named d))

pub the_stamp : (s : Stamp) → s ≡ stamp s.year s.month s.day s.hour
the_stamp s = ap (λ o. unwrap_or o first_hour) (sym (stamp_named s))

-- a date lies in a month, and a stamp on a date
pub month_of_date : (y m d : ℕ) → is_date y m d ≡ true → is_month y m ≡ true
month_of_date y m d e = (and_parts (is_month y m) _ e).0

pub date_of_hour : (y m d h : ℕ) → is_hour y m d h ≡ true → is_date y m d ≡ true
date_of_hour y m d h e = (and_parts (is_date y m d) _ e).0

-- the month of a stamp has its year and its month
pub its_month_parts : (s : Stamp) → ((its_month s).year ≡ s.year) × ((its_month s).month ≡ s.month)
its_month_parts s =
    let real = month_of_date s.year s.month s.day (date_of_hour s.year s.month s.day s.hour s.real) in
    let m : Month = record { year = s.year; month = s.month; real = real } in
    (ap (λ x. x.year) (sym (the_month m)), ap (λ x. x.month) (sym (the_month m)))

-- a month has no other days than those within it, and a day no other hours than those on its clock
pub no_date : (m : Month) (d : ℕ) → within 1 (days m.year m.month) d ≡ false → named_date m.year m.month d ≡ None
no_date m d off = when_failed _ _ (and_right (is_month m.year m.month) _ off)

pub no_hour : (d : Date) (h : ℕ) → among h (clock d.year d.month d.day) ≡ false → named_stamp d.year d.month d.day h ≡ None
no_hour d h off = when_failed _ _ (and_right (is_date d.year d.month d.day) _ off)
