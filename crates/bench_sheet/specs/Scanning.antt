-- One byte of a line: what is left is read from there on. Assumes nothing.
use Rattle.std.specs.Prelude.{◌≡◌, ℕ, ◌+◌, List, ◌∷◌, Ok, Err, Result}
use Rattle.bench_sheet.specs.Reading.{entered, reading}
use Rattle.bench_sheet.specs.declared.fault.LineFault.{LineFault}
use Rattle.bench_sheet.specs.declared.typed.reading.Scan.{Scan}

-- what is read of the bytes from a column on
abbrev pub from_there : Scan → ℕ → List ℕ → Result (List ℕ) LineFault
from_there s column bs = reading (entered s.typed) s.begun column bs

-- one byte taken off the front changes nothing of what is read, or stops it
abbrev pub Steps : Scan → ℕ → ℕ → Result Scan LineFault → Type 0
Steps s byte column (Ok t) = (bs : List ℕ) → from_there s column (byte ∷ bs) ≡ from_there t (column + 1) bs
Steps s byte column (Err fault) = (bs : List ℕ) → from_there s column (byte ∷ bs) ≡ Err fault
