-- Which numbers are hours of a day. Assumes nothing.
use Rattle.std.proofs.Common.{◌≡◌, ℕ, zero, suc, ◌+◌, ◌<◌, ◌≤◌, true, eqb, ltb, ⊎_elim, arith}
use Rattle.std.proofs.lemmas.Bool.{cases_eq, eq-eqb, eqb-true, or_left, or_right, or_cases, and_parts, and_from, ltb-true, lt-ltb, false≢true}
use Rattle.std.proofs.lemmas.Bool.Decides.{same_from_decides, Decides-ltb}
use Rattle.std.specs.List.{range_with_len}
use Rattle.calendar.specs.Calendar.{among, clock, is_date, is_hour}

among_from : (a n h : ℕ) → a ≤ h → h < a + n → among h (range_with_len a n) ≡ true
among_from a zero h low high = absurd (omega arith)
among_from a (suc n) h low high =
    ⊎_elim (λ e. or_left _ _ (eq-eqb h a e)) (λ ne. or_right (eqb h a) _ (among_from (a + 1) n h (omega arith) (omega arith)))
    (cases_eq h a)

from_among : (a n h : ℕ) → among h (range_with_len a n) ≡ true → (a ≤ h) × (h < a + n)
from_among a zero h e = absurd (false≢true e)
from_among a (suc n) h e =
    ⊎_elim (λ t. let k : h ≡ a = eqb-true h a t in (omega arith, omega arith))
    (λ t. let k : (a + 1 ≤ h) × (h < a + 1 + n) = from_among (a + 1) n h t in (omega arith, omega arith))
    (or_cases (eqb h a) _ e)

-- a number is an hour of a day where it is below 24
pub on_clock : (y m d h : ℕ) → ltb h 24 ≡ among h (clock y m d)
unfolding clock
on_clock y m d h =
    same_from_decides _ _ (Decides-ltb h 24) (λ e. (from_among 0 24 h e).1, λ l. among_from 0 24 h (omega arith) l)

pub hour_below : (y m d h : ℕ) → is_hour y m d h ≡ true → (is_date y m d ≡ true) × (h < 24)
hour_below y m d h e =
    let parts = and_parts (is_date y m d) (among h (clock y m d)) e in
    (parts.0, ltb-true h 24 (rw (on_clock y m d h) parts.1))

pub hour_from : (y m d h : ℕ) → is_date y m d ≡ true → h < 24 → is_hour y m d h ≡ true
hour_from y m d h real below = and_from (is_date y m d) _ real (rw (← on_clock y m d h) (lt-ltb h 24 below))
