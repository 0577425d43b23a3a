-- The refusals of the setpoints: number, places and words. Assumes nothing.
use Rattle.std.specs.Prelude.{ℕ, List, [], ◌∷◌, ◌++◌, codes, decimal}
use Rattle.calendar.specs.Faults.{bare}
use Rattle.calendar.specs.declared.returned.Returned.{Returned}
use Rattle.site.specs.Setpoint.{setpoint_number, name}
use Rattle.site.specs.declared.fault.SetpointFault.{SetpointFault}
use Rattle.site.specs.declared.fault.SetpointFault.TheVariants.{NotAllowed, InstalledAboveContracted}

-- number and places of each refusal: 1 names the setpoint
abbrev pub returned_setpoint : SetpointFault → Returned
returned_setpoint (NotAllowed s) = record { number = 1; places = setpoint_number s ∷ 0 ∷ 0 ∷ 0 ∷ 0 ∷ [] }
returned_setpoint InstalledAboveContracted = bare 2

-- the words for a person
abbrev pub words_setpoint : SetpointFault → List ℕ
words_setpoint (NotAllowed s) = codes "setpoint " ++ (decimal (setpoint_number s) ++ (codes " (" ++ (name s ++ codes ") is not allowed")))
words_setpoint InstalledAboveContracted = codes "installed power is above contracted power"
