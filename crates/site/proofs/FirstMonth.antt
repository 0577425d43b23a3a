-- A number that is read as a month is allowed as the first month, and is that month's number. Assumes nothing.
use Rattle.std.proofs.Common.{◌≡◌, ℕ, ◌+◌, ◌*◌, ◌/◌, ◌%◌, ◌≤◌, true, Ok, subst, arith}
use Rattle.std.proofs.lemmas.Bool.{and_from, and_parts, leb-true, le-leb}
use Rattle.calendar.specs.Calendar.{number, within}
use Rattle.calendar.specs.Hours.{numbered_month}
use Rattle.calendar.specs.declared.month.Month.{Month}
use Rattle.calendar.proofs.Named.{month_numbered}
use Rattle.site.specs.Setpoints.{is_month_number}

within_parts : (least most n : ℕ) → within least most n ≡ true → (least ≤ n) × (n ≤ most)
within_parts least most n e = let parts = and_parts _ _ e in (leb-true _ _ parts.0, leb-true _ _ parts.1)

within_from : (least most n : ℕ) → least ≤ n → n ≤ most → within least most n ≡ true
within_from least most n low high = and_from _ _ (le-leb _ _ low) (le-leb _ _ high)

pub first_month_read : (n : ℕ) (m : Month) → Ok m ≡ numbered_month n → (is_month_number n ≡ true) × (number m.year m.month ≡ n)
first_month_read n m is =
    let parts = month_numbered n m is in
    let real = and_parts _ _ m.real in
    let year = within_parts 2020 2099 m.year real.0 in
    let month = within_parts 1 12 m.month real.1 in
    let y : m.year ≡ n / 100 = parts.0 in
    let k : m.month ≡ n % 100 = parts.1 in
    let low : 202001 ≤ n = omega arith in
    let high : n ≤ 209912 = omega arith in
    let same : m.year * 100 + m.month ≡ n = omega arith in
    (and_from _ _ (within_from 202001 209912 n low high) (subst (λ x. within 1 12 x ≡ true) k real.1), same)
