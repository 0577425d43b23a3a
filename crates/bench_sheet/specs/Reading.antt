-- The numbers of a line of text. Assumes nothing.
use Rattle.std.specs.Prelude.{◌≡◌, ℕ, ◌+◌, ◌-◌, ◌*◌, ◌^◌, ◌<◌, ◌≤◌, Bool, cond, ◌||◌, List, [], ◌∷◌, ◌++◌, length, take, Some, None, Ok, Err, decimal, Option, Result, MatchResult, ◌==◌, nat_lt}
use Rattle.std.specs.List.{flat_map, AllByRecursion}
use Rattle.calendar.specs.Calendar.{within}
use Rattle.bench_sheet.specs.declared.fault.LineFault.{LineFault}
use Rattle.bench_sheet.specs.declared.fault.LineFault.TheVariants.{NotADigit, TooLarge, TooMany}
use Rattle.bench_sheet.specs.declared.typed.Typed.{Typed}

-- the numbers that were typed in so far
abbrev pub entered : Typed → List ℕ
entered t = take t.count t.numbers

-- what stands before the first #
abbrev pub uncommented : List ℕ → List ℕ
uncommented [] = []
uncommented (b ∷ bs) = cond (b == 35) [] (b ∷ uncommented bs)

-- a space, a tab or a carriage return
abbrev pub blank : ℕ → Bool
blank b = b == 32 || (b == 9 || b == 13)

-- 0 to 9
abbrev pub digit : ℕ → Bool
digit b = within 48 57 b

-- a number with one digit more, or of that digit alone
abbrev pub grown : Option ℕ → ℕ → ℕ
grown None b = b - 48
grown (Some n) b = n * 10 + (b - 48)

-- the numbers of which the last is now ended, if one was begun: at most twelve
abbrev pub ended : List ℕ → Option ℕ → Result (List ℕ) LineFault
ended ns None = Ok ns
ended ns (Some n) = cond (nat_lt (length ns) 12) (Ok (ns ++ n ∷ [])) (Err TooMany)

-- what goes on where nothing stopped it
abbrev pub after : {X Y : Type 0} → Result X LineFault → (X → Result Y LineFault) → Result Y LineFault
after (Ok x) go = go x
after (Err fault) go = Err fault

-- the numbers ns, and those of the bytes from a column on, where one may be begun
abbrev pub reading : List ℕ → Option ℕ → ℕ → List ℕ → Result (List ℕ) LineFault
reading ns begun column [] = ended ns begun
reading ns begun column (b ∷ bs) =
    cond (digit b) (cond (nat_lt (grown begun b) (2 ^ 32)) (reading ns (Some (grown begun b)) (column + 1) bs) (Err (TooLarge column)))
    (cond (blank b) (after (ended ns begun) (λ ms. reading ms None (column + 1) bs)) (Err (NotADigit column)))

-- a line read behind the numbers before it: the numbers now, or the first thing that cannot be read
abbrev pub Reads : List ℕ → List ℕ → Result Typed LineFault → Type 0
Reads ns line r = MatchResult r (λ t. reading ns None 1 (uncommented line) ≡ Ok (entered t)) (λ fault. reading ns None 1 (uncommented line) ≡ Err fault)

-- numbers in decimal, each with a blank behind it
abbrev pub written : List ℕ → List ℕ
written ns = flat_map (λ n. decimal n ++ 32 ∷ []) ns

-- what is written so is read as it was meant: no digit is lost, and no number falls together with the next
abbrev pub ReadsBack : Type 0
ReadsBack = (ns : List ℕ) → AllByRecursion (λ n. n < 2 ^ 32) ns → length ns ≤ 12 → reading [] None 1 (uncommented (written ns)) ≡ Ok ns
