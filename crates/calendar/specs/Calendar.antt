-- Which years, months, days and hours the account has, as plain numbers. Assumes nothing.
use Rattle.std.specs.Prelude.{ℕ, ◌+◌, ◌*◌, ◌%◌, Bool, false, cond, ◌&&◌, ◌||◌, List, [], ◌∷◌, ◌==◌, nat_le}
use Rattle.std.specs.List.{range_with_len}

-- in 2020 to 2099 the years divisible by 4 are the leap years
abbrev pub leap : ℕ → Bool
leap year = year % 4 == 0

-- April, June, September and November
abbrev pub short : ℕ → Bool
short month = month == 4 || (month == 6 || (month == 9 || month == 11))

-- how many days a month has
abbrev pub days : ℕ → ℕ → ℕ
days year month = cond (month == 2) (cond (leap year) 29 28) (cond (short month) 30 31)

-- n lies between two bounds, or is one of them
abbrev pub within : ℕ → ℕ → ℕ → Bool
within least most n = nat_le least n && nat_le n most

-- a month of the account: year 2020 to 2099, month 1 to 12
abbrev pub is_month : ℕ → ℕ → Bool
is_month year month = within 2020 2099 year && within 1 12 month

-- a day of such a month
abbrev pub is_date : ℕ → ℕ → ℕ → Bool
is_date year month day = is_month year month && within 1 (days year month) day

-- the hours of a day in their order, each named by its start: every day has 0 to 23
unfoldable pub clock : (year month day : ℕ) → List ℕ
clock year month day = range_with_len 0 24

-- n is an element of the list
abbrev pub among : ℕ → List ℕ → Bool
among n [] = false
among n (x ∷ xs) = n == x || among n xs

-- an hour of such a day: one that its clock has
abbrev pub is_hour : ℕ → ℕ → ℕ → ℕ → Bool
is_hour year month day hour = is_date year month day && among hour (clock year month day)

-- a month's number, as entries and setpoints write it
abbrev pub number : ℕ → ℕ → ℕ
number year month = year * 100 + month
