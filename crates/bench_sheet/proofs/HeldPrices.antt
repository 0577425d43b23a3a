-- A list of prices grows by the price of the next hour. Assumes nothing.
use Rattle.std.proofs.Common.{◌≡◌, ℕ, ◌+◌, ◌<◌, List, [], ◌∷◌, ◌++◌, Some, map, length, get_or, slice_get, take, sym, ap, ◌∙◌}
use Rattle.std.proofs.iter.runs.Lists.{slice_get_within, same_Some}
use Rattle.std.proofs.lemmas.List.{map_more}
use Rattle.std.proofs.lemmas.Option.{slice_get-get_or}
use Rattle.calendar.specs.declared.stamp.Stamp.{Stamp}

pub next_hour : (f : Stamp → ℕ) (hours : List Stamp) (i : ℕ) (at : Stamp) → slice_get hours i ≡ Some at → map f (take i hours) ++ f at ∷ [] ≡ map f (take (i + 1) hours)
next_hour f hours i at next =
    let within : i < length hours = slice_get_within hours i at next in
    let here : get_or hours i at ≡ at = same_Some _ _ (sym (slice_get-get_or hours i at within) ∙ next) in
    ap (λ s. map f (take i hours) ++ f s ∷ []) (sym here) ∙ sym (map_more f hours i at within)
