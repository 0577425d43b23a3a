-- What the widths of the sheet's columns write. Assumes nothing.
use Prim.Native.Nat.{suc, zero}
use Rattle.std.proofs.Common.{◌≡◌, ℕ, ◌-◌, ◌/◌, ◌%◌, ◌^◌, ◌<◌, ◌≤◌, false, List, [], ◌∷◌, ◌++◌, length, replicate, codes, decimal, sym, refl, ap, ◌∙◌, append_assoc, arith, length-append}
use Rattle.std.proofs.Padding.{padded_is, repeat_ascii, styled_decimal_is, take_chars_all}
use Rattle.std.proofs.lemmas.Fmt.{decimal_digit, decimal_nonempty}
use Rattle.std.specs.List.{repeat}
use Rattle.std.specs.Fmt.{char_count, format_spec, padded, padded_integral, styled_decimal, take_chars}
use Rattle.site.specs.Setpoint.{name}
use Rattle.site.specs.declared.setpoint.Setpoint.{Setpoint}
use Rattle.site.specs.declared.setpoint.Setpoint.TheVariants.{AccountNumber, ContractedPower, InstalledPower, ZoneMode, PurchaseBase, FreeSalePrice, SaleRule, Distribution, Transmission, StorageMetered, FirstMonth, PayoutFloor}
use Rattle.tariffs.specs.Faults.{words_source}
use Rattle.tariffs.specs.declared.fault.SourceFault.{SourceFault}
use Rattle.bench_sheet.specs.Columns.{left, right}
use Rattle.bench_sheet.specs.Rows.{per_kwh, tenths_text}
use Rattle.bench_sheet.proofs.Options.{decimals_written, length-four_digits, number_right}

-- what follows a text at the right of a column takes its own room there
right_before : (w v : ℕ) (text behind : List ℕ) → v ≡ w - length behind → right v text ++ behind ≡ right w (text ++ behind)
right_before w v text behind room =
    let same : v - length text ≡ w - length (text ++ behind) = omega (arith, length-append text behind) in
    rw (← same) (append_assoc (replicate (v - length text) 32) text behind)

-- a number at the right, and what follows it
number_before : (w v n : ℕ) (behind : List ℕ) → v ≡ w - length behind → padded_integral (format_spec 32 3 0 v (2 ^ 64 - 1)) false [] (decimal n) ++ behind ≡ right w (decimal n ++ behind)
number_before w v n behind room = ap (λ text. text ++ behind) (number_right v (decimal n)) ∙ right_before w v (decimal n) behind room

-- a text in a column of 0 stands alone
pub right_of_none : (text : List ℕ) → right 0 text ≡ text
right_of_none text = let none : 0 - length text ≡ 0 = omega arith in rw none refl

-- a coefficient
pub tenths_right : (n : ℕ) → padded_integral (format_spec 32 3 0 12 (2 ^ 64 - 1)) false [] (decimal (n / 10)) ++ (codes "." ++ decimal (n % 10)) ≡ right 14 (tenths_text n)
tenths_right n =
    let digit = decimal_digit (n % 10) (omega arith) in
    number_before 14 12 (n / 10) (codes "." ++ decimal (n % 10)) (rw digit refl)

-- a price, whose four decimals and their point take five places
pub price_right : (w v points : ℕ) (front back : _) → front ≡ format_spec 32 3 0 v (2 ^ 64 - 1) → back ≡ format_spec 32 0 4 4 (2 ^ 64 - 1)
    → v ≡ w - 5 → points < 2 ^ 64 → styled_decimal front (points / 10000) ++ (codes "." ++ styled_decimal back (points % 10000)) ≡ right w (per_kwh points)
price_right w v points front back padded zeros room small =
    let decimals = padded_integral (format_spec 32 0 4 4 (2 ^ 64 - 1)) false [] (decimal (points % 10000)) in
    let left : v ≡ w - length (codes "." ++ decimals) = omega (arith, length-append (codes ".") decimals, length-four_digits (points % 10000) (omega arith)) in
    rw (styled_decimal_is front (points / 10000), styled_decimal_is back (points % 10000), padded, zeros) (number_before w v (points / 10000) (codes "." ++ decimals) left ∙ ap (right w) (decimals_written points small))

-- the words of a fault, which are longer than a column of 13
pub fault_right : (fault : SourceFault) → fault.cause < 2 ^ 8 → fault.depth < 2 ^ 8 → right 13 (words_source fault) ≡ words_source fault
fault_right fault cause depth =
    let depths = codes ", depth " ++ decimal fault.depth in
    let none : 13 - length (words_source fault) ≡ 0 =
    omega (
      arith,
      length-append (codes "cause ") (decimal fault.cause ++ depths),
      length-append (decimal fault.cause) depths,
      length-append (codes ", depth ") (decimal fault.depth),
      decimal_nonempty fault.cause (omega arith),
      decimal_nonempty fault.depth (omega arith),
    ) in
    rw none refl

-- each byte of a setpoint's name is a character, and it is short
record IsNarrow (text : List ℕ) : Type 0 where
  pub each : char_count text ≡ length text
  pub few : length text ≤ 19

narrow : (s : Setpoint) → IsNarrow (name s)
unfolding char_count
narrow AccountNumber = record { each = refl; few = omega arith }
narrow ContractedPower = record { each = refl; few = omega arith }
narrow InstalledPower = record { each = refl; few = omega arith }
narrow ZoneMode = record { each = refl; few = omega arith }
narrow PurchaseBase = record { each = refl; few = omega arith }
narrow FreeSalePrice = record { each = refl; few = omega arith }
narrow SaleRule = record { each = refl; few = omega arith }
narrow Distribution = record { each = refl; few = omega arith }
narrow Transmission = record { each = refl; few = omega arith }
narrow StorageMetered = record { each = refl; few = omega arith }
narrow FirstMonth = record { each = refl; few = omega arith }
narrow PayoutFloor = record { each = refl; few = omega arith }

-- a setpoint's name
pub name_left : (s : Setpoint) → padded (format_spec 32 1 0 20 (2 ^ 64 - 1)) (name s) ≡ left 20 (name s)
name_left s =
    let text = name s in
    let few = (narrow s).few in
    let whole : text ≡ take_chars (2 ^ 64 - 1) text = sym (take_chars_all (2 ^ 64 - 1) text (omega arith)) in
    let padding : 20 - length text ≡ 20 - char_count text = rw (narrow s).each refl in
    let all : 20 - length text - 0 ≡ 20 - length text = omega arith in
    sym (padded_is (format_spec 32 1 0 20 (2 ^ 64 - 1)) text text (20 - length text) 0 whole padding refl)
    ∙ rw (all, repeat_ascii (20 - length text) 32 (omega arith)) refl

-- a question with the blanks behind it, and what stands after them
blanks : (n : ℕ) → repeat n (codes " ") ≡ replicate n 32
blanks zero = refl
blanks (suc n) = ap (λ xs. 32 ∷ xs) (blanks n)

pub blanks_behind : (n : ℕ) (what after : List ℕ) → n ≡ 32 - length what → (codes "  " ++ what) ++ (repeat n (codes " ") ++ after) ≡ codes "  " ++ (left 32 what ++ after)
blanks_behind n what after all = rw (blanks n, all, append_assoc what (replicate (32 - length what) 32) after)
