-- The bench figures as a list of cases, and when a figure holds. Assumes nothing.
use Rattle.std.specs.Prelude.{◌≡◌, ℕ, List, [], ◌∷◌}
use Rattle.tariffs.specs.Zones.{coefficient}
use Rattle.tariffs.specs.declared.zones.ZoneMode.{ZoneMode}
use Rattle.tariffs.specs.declared.zones.ZoneMode.TheVariants.{ThreeZone}

pub data Figure : Type 0 where
  -- a zone mode, an hour, and the coefficient there in tenths
  zone : ZoneMode → ℕ → ℕ → Figure

-- a figure holds where the definition that the calls' contracts cite gives it
abbrev pub Holds : Figure → Type 0
Holds (zone mode hour tenths) = coefficient mode hour ≡ tenths

abbrev pub figures : List Figure
figures =
    zone ThreeZone 6 4 ∷ zone ThreeZone 7 10 ∷ zone ThreeZone 8 15 ∷ zone ThreeZone 10 15 ∷ zone ThreeZone 11 10 ∷ zone ThreeZone 19 10
    ∷ zone ThreeZone 20 15 ∷ zone ThreeZone 22 10 ∷ zone ThreeZone 23 4 ∷ []
