-- What the options of a format write, in the words of the sheet's lines. Assumes nothing.
use Rattle.std.proofs.Common.{◌≡◌, ℕ, ◌+◌, ◌-◌, ◌/◌, ◌%◌, ◌^◌, ◌<◌, ◌≤◌, false, List, [], ◌∷◌, ◌++◌, length, replicate, codes, decimal, refl, ap, ◌∙◌, append_assoc, arith, length-append, ⊎_elim}
use Rattle.std.proofs.Padding.{padded_integral_right, padded_integral_zeros}
use Rattle.std.proofs.lemmas.Bool.{cases_lt}
use Rattle.std.proofs.lemmas.Fmt.{decimal_digit, decimal_step, decimal_nonempty}
use Rattle.std.proofs.lemmas.List.{replicate_more}
use Rattle.std.specs.Fmt.{format_spec, padded_integral}
use Rattle.bench_sheet.specs.Columns.{right}
use Rattle.bench_sheet.specs.Rows.{hour_start, per_kwh, two_digits}

-- a number at the right of a column
pub number_right : (w : ℕ) (numeral : List ℕ) → padded_integral (format_spec 32 3 0 w (2 ^ 64 - 1)) false [] numeral ≡ right w numeral
number_right w numeral = padded_integral_right (format_spec 32 3 0 w (2 ^ 64 - 1)) numeral refl refl (λ e. omega arith) (λ e. omega arith) (omega arith)

-- zeros stand before a number that is short of a width
number_zeros : (w n : ℕ) → padded_integral (format_spec 32 0 4 w (2 ^ 64 - 1)) false [] (decimal n) ≡ replicate (w - length (decimal n)) 48 ++ decimal n
number_zeros w n = padded_integral_zeros (format_spec 32 0 4 w (2 ^ 64 - 1)) (decimal n) refl refl

-- and its last digit stands behind the others
module _ (n : ℕ) (small : n < 2 ^ 64) where
  zeros_one : replicate (1 - length (decimal n)) 48 ++ decimal n ≡ decimal n
  zeros_one = let none : 1 - length (decimal n) ≡ 0 = omega (arith, decimal_nonempty n small) in rw none

  zeros_more : (w : ℕ) → 1 ≤ w → replicate (w + 1 - length (decimal n)) 48 ++ decimal n ≡ (replicate (w - length (decimal (n / 10))) 48 ++ decimal (n / 10)) ++ decimal (n % 10)
  zeros_more w one = ⊎_elim
      (λ (few : n < 10).
      let front : n / 10 ≡ 0 = omega arith in
      let digit : n % 10 ≡ n = omega arith in
      let long : w + 1 - 1 ≡ w - 1 + 1 = omega arith in
      rw (front, digit, decimal_digit n few, decimal_digit 0 (omega arith), long, replicate_more {X = ℕ} (w - 1) 48))
      (λ (many : 10 ≤ n).
      let last = decimal_digit (n % 10) (omega arith) in
      let long : w + 1 - length (decimal (n / 10) ++ (48 + n % 10) ∷ []) ≡ w - length (decimal (n / 10)) = omega (arith, length-append (decimal (n / 10)) ((48 + n % 10) ∷ [])) in
      rw (decimal_step n many small, long, last, append_assoc (replicate (w - length (decimal (n / 10))) 48) (decimal (n / 10)) ((48 + n % 10) ∷ [])))
      (cases_lt n 10)

-- a number under two digits
pub number_two_digits : (n : ℕ) → n < 2 ^ 64 → padded_integral (format_spec 32 0 4 2 (2 ^ 64 - 1)) false [] (decimal n) ≡ two_digits n
number_two_digits n small = number_zeros 2 n ∙ zeros_more n small 1 (omega arith) ∙ ap (λ ds. ds ++ decimal (n % 10)) (zeros_one (n / 10) (omega arith))

-- the start of an hour
pub hour_written : (h : ℕ) → h < 2 ^ 64 → padded_integral (format_spec 32 0 4 2 (2 ^ 64 - 1)) false [] (decimal h) ++ codes ":00" ≡ hour_start h
hour_written h small = ap (λ ds. ds ++ codes ":00") (number_two_digits h small) ∙ append_assoc (decimal (h / 10)) (decimal (h % 10)) (codes ":00")

number_four_digits : (n : ℕ) → n < 2 ^ 64 → padded_integral (format_spec 32 0 4 4 (2 ^ 64 - 1)) false [] (decimal n) ≡ ((decimal (n / 10 / 10 / 10) ++ decimal (n / 10 / 10 % 10)) ++ decimal (n / 10 % 10)) ++ decimal (n % 10)
number_four_digits n small =
    number_zeros 4 n ∙ zeros_more n small 3 (omega arith)
    ∙ ap (λ ds. ds ++ decimal (n % 10)) (zeros_more (n / 10) (omega arith) 2 (omega arith)
    ∙ ap (λ ds. ds ++ decimal (n / 10 % 10)) (zeros_more (n / 10 / 10) (omega arith) 1 (omega arith)
    ∙ ap (λ ds. ds ++ decimal (n / 10 / 10 % 10)) (zeros_one (n / 10 / 10 / 10) (omega arith))))

pub length-four_digits : (n : ℕ) → n < 10000 → length (padded_integral (format_spec 32 0 4 4 (2 ^ 64 - 1)) false [] (decimal n)) ≡ 4
length-four_digits n few =
    rw (number_four_digits n (omega arith), decimal_digit (n / 10 / 10 / 10) (omega arith), decimal_digit (n / 10 / 10 % 10) (omega arith), decimal_digit (n / 10 % 10) (omega arith), decimal_digit (n % 10) (omega arith)) refl

-- a price with its four decimals
pub decimals_written : (points : ℕ) → points < 2 ^ 64
    → decimal (points / 10000) ++ (codes "." ++ padded_integral (format_spec 32 0 4 4 (2 ^ 64 - 1)) false [] (decimal (points % 10000))) ≡ per_kwh points
decimals_written points small =
    let first : points % 10000 / 10 / 10 / 10 ≡ points / 1000 % 10 = omega arith in
    let second : points % 10000 / 10 / 10 % 10 ≡ points / 100 % 10 = omega arith in
    let third : points % 10000 / 10 % 10 ≡ points / 10 % 10 = omega arith in
    let fourth : points % 10000 % 10 ≡ points % 10 = omega arith in
    rw (number_four_digits (points % 10000) (omega arith), first, second, third, fourth) (simp append_assoc)
