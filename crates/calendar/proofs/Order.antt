-- Where each hour stands in its month: 24 to a day, the days one after the other. Assumes nothing.
use Rattle.std.proofs.Common.{◌≡◌, ℕ, zero, suc, ◌+◌, ◌-◌, ◌*◌, ◌/◌, ◌%◌, ◌<◌, ◌≤◌, true, leb, List, [], ◌∷◌, ◌++◌, map, length, Some, sym, refl, ap, ◌∙◌, subst, arith, length-append}
use lib.ListN.{length-map}
use Rattle.std.proofs.iter.runs.Lists.{nth_left, nth_right, slice_get_within, none-some, same_Some}
use Rattle.std.proofs.lemmas.List.FromFn.{length-range_with_len}
use Rattle.std.proofs.lemmas.Bool.{and_from, and_parts, leb-true, le-leb}
use Rattle.std.proofs.lemmas.Bool.Decides.{nat_tests}
use Rattle.std.specs.List.{slice_get, range_with_len, flat_map}
use Rattle.calendar.specs.Calendar.{days, is_month, is_date, is_hour, clock, within}
use Rattle.calendar.specs.Hours.{date, stamp, dates, day_hours, hours, hour_count, its_month, Placed}
use Rattle.calendar.specs.declared.date.Date.{Date}
use Rattle.calendar.specs.declared.month.Month.{Month}
use Rattle.calendar.specs.declared.stamp.Stamp.{Stamp}
use Rattle.calendar.proofs.Clock.{hour_below, hour_from}
use Rattle.calendar.proofs.Named.{date_of_hour, month_of_date, the_month, the_date, the_stamp}

-- by slice_get, as the hours of a month are read; the library's lemma on such a list speaks of get_or
nth_counted : {X : Type 0} (f : ℕ → X) (a n i : ℕ) → i < n → slice_get (map f (range_with_len a n)) i ≡ Some (f (a + i))
nth_counted f a zero i l = absurd (omega arith)
nth_counted f a (suc n) zero l = let e : a ≡ a + 0 = omega arith in ap (λ k. Some (f k)) e
nth_counted f a (suc n) (suc i) l =
    let e : a + 1 + i ≡ a + suc i = omega arith in nth_counted f (a + 1) n i (omega arith) ∙ ap (λ k. Some (f k)) e

-- lists of 24, one after the other; the library's lemmas speak of get_or, and of a sum of lengths
module _ {X A : Type 0} (f : X → List A) (full : (x : X) → length (f x) ≡ 24) where
  length_rows : (xs : List X) → length (flat_map f xs) ≡ length xs * 24
  length_rows [] = refl
  length_rows (x ∷ xs) = omega (arith, length-append (f x) (flat_map f xs), full x, length_rows xs)

  nth_rows : (xs : List X) (x : X) (i h : ℕ) → slice_get xs i ≡ Some x → h < 24 → slice_get (flat_map f xs) (i * 24 + h) ≡ slice_get (f x) h
  nth_rows [] x i h e l = absurd (none-some x e)
  nth_rows (y ∷ xs) x zero h e l =
      let k : 0 + h ≡ h = omega arith in
      ap (slice_get (f y ++ flat_map f xs)) k ∙ nth_left (f y) (flat_map f xs) h (omega (arith, full y)) ∙ ap (λ z. slice_get (f z) h) (same_Some y x e)
  nth_rows (y ∷ xs) x (suc i) h e l =
      let k : suc i * 24 + h ≡ length (f y) + (i * 24 + h) = omega (arith, full y) in
      ap (slice_get (f y ++ flat_map f xs)) k ∙ nth_right (f y) (flat_map f xs) (i * 24 + h) ∙ nth_rows xs x i h e l

full_day : (d : Date) → length (day_hours d) ≡ 24
unfolding clock
full_day d = refl

-- a month has 24 hours for each of its days
pub hours_by_day : (m : Month) → days m.year m.month * 24 ≡ hour_count m
unfolding hours
hours_by_day m =
    let n : length (dates m) ≡ days m.year m.month = length-map (range_with_len 1 (days m.year m.month)) (date m.year m.month) ∙ length-range_with_len 1 _ in
    omega (arith, n, length_rows day_hours full_day (dates m))

-- the hour and the date that real numbers name
abbrev pub named : (m : Month) (d h : ℕ) → is_hour m.year m.month d h ≡ true → Stamp
named m d h e = record { year = m.year; month = m.month; day = d; hour = h; real = e }

abbrev on : (m : Month) (d : ℕ) → is_date m.year m.month d ≡ true → Date
on m d e = record { year = m.year; month = m.month; day = d; real = e }

nth_hours_of : (d : Date) (h : ℕ) → h < 24 → slice_get (day_hours d) h ≡ Some (stamp d.year d.month d.day h)
unfolding clock
nth_hours_of d h l =
    let k : 0 + h ≡ h = omega arith in
    nth_counted (stamp d.year d.month d.day) 0 24 h l ∙ ap (λ n. Some (stamp d.year d.month d.day n)) k

-- the hour h of the day d stands at 24 for each day before it, and h
pub nth_hour : (m : Month) (d h : ℕ) (e : is_hour m.year m.month d h ≡ true) → slice_get (hours m) ((d - 1) * 24 + h) ≡ Some (named m d h e)
unfolding hours
nth_hour m d h e =
    let parts : (is_date m.year m.month d ≡ true) × (h < 24) = hour_below m.year m.month d h e in
    let range : within 1 (days m.year m.month) d ≡ true = (and_parts (is_month m.year m.month) _ parts.0).1 in
    let ends = and_parts (leb 1 d) _ range in
    let low : 1 ≤ d = leb-true 1 d ends.0 in
    let high : d ≤ days m.year m.month = leb-true d _ ends.1 in
    let next : 1 + (d - 1) ≡ d = omega arith in
    let day : slice_get (dates m) (d - 1) ≡ Some (on m d parts.0) =
    nth_counted (date m.year m.month) 1 (days m.year m.month) (d - 1) (omega arith)
    ∙ ap (λ n. Some (date m.year m.month n)) next ∙ ap (λ x. Some x) (sym (the_date (on m d parts.0))) in
    nth_rows day_hours full_day (dates m) (on m d parts.0) (d - 1) h day parts.1
    ∙ nth_hours_of (on m d parts.0) h parts.1 ∙ ap (λ x. Some x) (sym (the_stamp (named m d h e)))

-- an index within the month is that of a day and an hour
pub real_at : (m : Month) (i : ℕ) → i < hour_count m → is_hour m.year m.month (i / 24 + 1) (i % 24) ≡ true
real_at m i l =
    let n = hours_by_day m in
    let low : 1 ≤ i / 24 + 1 = omega arith in
    let high : i / 24 + 1 ≤ days m.year m.month = omega arith in
    hour_from m.year m.month (i / 24 + 1) (i % 24)
    (and_from (is_month m.year m.month) _ m.real (and_from _ _ (le-leb 1 (i / 24 + 1) low) (le-leb (i / 24 + 1) (days m.year m.month) high)))
    (omega arith)

pub nth_at : (m : Month) (i : ℕ) (e : is_hour m.year m.month (i / 24 + 1) (i % 24) ≡ true) → Some (named m (i / 24 + 1) (i % 24) e) ≡ slice_get (hours m) i
nth_at m i e =
    let k : (i / 24 + 1 - 1) * 24 + i % 24 ≡ i = omega arith in
    sym (nth_hour m (i / 24 + 1) (i % 24) e) ∙ ap (slice_get (hours m)) k

pub placed : (m : Month) (d h : ℕ) (e : is_hour m.year m.month d h ≡ true) → Placed m ((d - 1) * 24 + h) (named m d h e)
placed m d h e = record {
  inside = sym (the_month m);
  here = nth_hour m d h e;
  only = λ j at.
      let l : j < hour_count m = slice_get_within (hours m) j (named m d h e) at in
      let same : named m d h e ≡ named m (j / 24 + 1) (j % 24) (real_at m j l) = same_Some _ _ (sym at ∙ sym (nth_at m j (real_at m j l))) in
      let day : d ≡ j / 24 + 1 = ap (λ s. s.day) same in
      let hour : h ≡ j % 24 = ap (λ s. s.hour) same in
      omega arith;
}

pub placed_at : (m : Month) (i : ℕ) (e : is_hour m.year m.month (i / 24 + 1) (i % 24) ≡ true) → Placed m i (named m (i / 24 + 1) (i % 24) e)
placed_at m i e =
    let k : (i / 24 + 1 - 1) * 24 + i % 24 ≡ i = omega arith in
    subst (λ n. Placed m n (named m (i / 24 + 1) (i % 24) e)) k (placed m (i / 24 + 1) (i % 24) e)

pub placed_own : (s : Stamp) → Placed (its_month s) ((s.day - 1) * 24 + s.hour) s
placed_own s =
    let dated : is_date s.year s.month s.day ≡ true = date_of_hour s.year s.month s.day s.hour s.real in
    let m : Month = record { year = s.year; month = s.month; real = month_of_date s.year s.month s.day dated } in
    subst (λ x. Placed x ((s.day - 1) * 24 + s.hour) s) (the_month m) (placed m s.day s.hour s.real)

pub own_below : (s : Stamp) → (s.day - 1) * 24 + s.hour < hour_count (its_month s)
own_below s = slice_get_within (hours (its_month s)) _ _ (placed_own s).here

days_most : (y m : ℕ) → days y m ≤ 31
days_most y m = grind (arith, nat_tests)

pub index_below : (m : Month) (i : ℕ) → i < hour_count m → i < 31 * 24
index_below m i l = omega (arith, hours_by_day m, days_most m.year m.month)
