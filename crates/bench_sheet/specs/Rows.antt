-- The lines of the sheet, byte by byte. Assumes nothing.
use Rattle.std.specs.Prelude.{ℕ, ◌/◌, ◌%◌, List, ◌++◌, Ok, Err, codes, decimal, Result}
use Rattle.calendar.specs.Panel.{panel}
use Rattle.calendar.specs.declared.stamp.Stamp.{Stamp}
use Rattle.site.specs.Faults.{returned_setpoint, words_setpoint}
use Rattle.site.specs.Setpoint.{setpoint_number, name}
use Rattle.site.specs.declared.fault.SetpointFault.{SetpointFault}
use Rattle.site.specs.declared.setpoint.Setpoint.{Setpoint}
use Rattle.site.specs.declared.setpoint.Setpoint.TheVariants.{AccountNumber, ContractedPower, InstalledPower, ZoneMode, PurchaseBase, FreeSalePrice, SaleRule, Distribution, Transmission, StorageMetered, FirstMonth, PayoutFloor}
use Rattle.tariffs.specs.Faults.{words_source}
use Rattle.tariffs.specs.declared.fault.SourceFault.{SourceFault}
use Rattle.bench_sheet.specs.declared.fault.LineFault.{LineFault}
use Rattle.bench_sheet.specs.declared.fault.LineFault.TheVariants.{NotADigit, TooLarge, TooMany}
use Rattle.bench_sheet.specs.declared.fault.SheetFault.{SheetFault}
use Rattle.bench_sheet.specs.declared.fault.SheetFault.TheVariants.{Unreadable, TooFew}
use Rattle.bench_sheet.specs.Columns.{left, right}

-- what a setpoint is measured in
abbrev pub unit : Setpoint → List ℕ
unit AccountNumber = codes ""
unit ContractedPower = codes " W"
unit InstalledPower = codes " W"
unit ZoneMode = codes ""
unit PurchaseBase = codes " kopiykas per MWh"
unit FreeSalePrice = codes " kopiykas per MWh"
unit SaleRule = codes ""
unit Distribution = codes " kopiykas per MWh"
unit Transmission = codes " kopiykas per MWh"
unit StorageMetered = codes ""
unit FirstMonth = codes ""
unit PayoutFloor = codes " kopiykas"

-- number, name, value and unit
abbrev pub setpoint_row : Setpoint → ℕ → List ℕ
setpoint_row s value = right 4 (decimal (setpoint_number s)) ++ (codes "  " ++ (left 20 (name s) ++ (right 11 (decimal value) ++ unit s)))

-- number, places and words
abbrev pub refusal_row : SetpointFault → List ℕ
refusal_row fault = codes "refused: " ++ (panel (returned_setpoint fault) ++ (codes " " ++ words_setpoint fault))

-- where a line cannot be read, and why
abbrev pub line_row : ℕ → LineFault → List ℕ
line_row line (NotADigit column) = codes "line " ++ (decimal line ++ (codes ", column " ++ (decimal column ++ codes ": not a digit, a blank or a #")))
line_row line (TooLarge column) = codes "line " ++ (decimal line ++ (codes ", column " ++ (decimal column ++ codes ": a number above 4294967295")))
line_row line TooMany = codes "line " ++ (decimal line ++ codes ": more than twelve numbers")

-- the last line, and how many numbers there were by then
abbrev pub count_row : ℕ → ℕ → List ℕ
count_row line count = codes "after line " ++ (decimal line ++ (codes ": only " ++ (decimal count ++ codes " of twelve numbers")))

-- why a sheet has no twelve numbers to give
abbrev pub fault_row : SheetFault → List ℕ
fault_row (Unreadable line fault) = line_row line fault
fault_row (TooFew line count) = count_row line count

-- a point is a ten-thousandth of a kopiyka per kWh: four decimals
abbrev pub per_kwh : ℕ → List ℕ
per_kwh points =
    decimal (points / 10000) ++ (codes "." ++ (decimal (points / 1000 % 10) ++ (decimal (points / 100 % 10) ++ (decimal (points / 10 % 10) ++ decimal (points % 10)))))

-- two digits
abbrev pub two_digits : ℕ → List ℕ
two_digits n = decimal (n / 10) ++ decimal (n % 10)

-- the start of an hour, as a clock shows it
abbrev pub hour_start : ℕ → List ℕ
hour_start hour = decimal (hour / 10) ++ (decimal (hour % 10) ++ codes ":00")

-- tenths with a decimal
abbrev pub tenths_text : ℕ → List ℕ
tenths_text n = decimal (n / 10) ++ (codes "." ++ decimal (n % 10))

-- the hour's start, the coefficient, the price in kopiykas per kWh and in points
abbrev pub zone_row : ℕ → ℕ → ℕ → List ℕ
zone_row hour tenths points = codes "  " ++ (hour_start hour ++ (right 14 (tenths_text tenths) ++ (right 18 (per_kwh points) ++ right 13 (decimal points))))

-- the answer of a source: a price in kopiykas per kWh, or the fault's cause and depth
abbrev pub answer_text : Result ℕ SourceFault → List ℕ
answer_text (Ok points) = per_kwh points
answer_text (Err fault) = words_source fault

-- a date and the start of an hour
abbrev pub stamp_text : Stamp → List ℕ
stamp_text at = decimal at.year ++ (codes "-" ++ (two_digits at.month ++ (codes "-" ++ (two_digits at.day ++ (codes " " ++ hour_start at.hour)))))

-- what is asked, the hour, and the answer
abbrev pub asked_row : List ℕ → Stamp → Result ℕ SourceFault → List ℕ
asked_row what at answer = codes "  " ++ (left 32 what ++ (stamp_text at ++ (codes "  " ++ answer_text answer)))
