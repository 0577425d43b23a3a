-- How the panel shows a refusal. Assumes nothing.
use Rattle.std.specs.Prelude.{ℕ, List, ◌++◌, codes, decimal, slice_index}
use Rattle.calendar.specs.declared.returned.Returned.{Returned}

-- the place at an index
abbrev pub place : Returned → ℕ → List ℕ
place r i = decimal (slice_index r.places i)

-- the number, and the five places in brackets: 1 (11, 0, 0, 0, 0)
abbrev pub panel : Returned → List ℕ
panel r =
    decimal r.number ++ (codes " (" ++ (place r 0 ++ (codes ", " ++ (place r 1 ++ (codes ", " ++ (place r 2 ++ (codes ", " ++ (place r 3 ++ (codes ", " ++ (place r 4 ++ codes ")"))))))))))
