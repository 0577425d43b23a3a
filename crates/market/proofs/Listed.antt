-- A price is found beside its hour, at the hour's place. Assumes nothing.
use Rattle.std.proofs.Common.{◌≡◌, ℕ, zero, suc, Bool, List, [], ◌∷◌, Some, None, Err, Option, sym, ◌∙◌, refl, subst, ⊎_elim, arith}
use Rattle.std.proofs.lemmas.Bool.{cases_Bool, cond-true, cond-false}
use Rattle.std.proofs.lemmas.Bool.Decides.{nat_tests}
use Rattle.std.specs.Map.{lookup}
use Rattle.std.specs.List.{slice_get, zip}
use Rattle.std.specs.Option.{option_map_or}
use Rattle.calendar.specs.Hours.{Placed, hours, its_month, same_hour}
use Rattle.calendar.specs.declared.month.Month.{Month}
use Rattle.calendar.specs.declared.stamp.Stamp.{Stamp}
use Rattle.calendar.proofs.Found.{Hit, placed_hit}
use Rattle.tariffs.specs.Source.{Sound}
use Rattle.market.specs.DayAheadTable.{lies_in, list_means, outside_month, priced, table_means, tabled}
use Rattle.market.specs.declared.price_list.CheckedPrices.{CheckedPrices}
use Rattle.market.specs.declared.table.DayAheadTable.{DayAheadTable}

lookup_nth : {K X : Type 0} (e : K → K → Bool) (k : K) (ks : List K) (vs : List X) (i : ℕ) → Hit e k ks i → lookup (e k) (zip ks vs) ≡ slice_get vs i
lookup_nth e k [] vs i hit = absurd hit
lookup_nth e k (x ∷ xs) [] i hit = refl
lookup_nth e k (x ∷ xs) (v ∷ vs) zero hit = cond-true _ _ _ hit
lookup_nth e k (x ∷ xs) (v ∷ vs) (suc i) hit = cond-false _ _ _ hit.0 ∙ lookup_nth e k xs vs i hit.1

pub listed_at : (m : Month) (i : ℕ) (at : Stamp) (prices : List ℕ) → Placed m i at → lookup (same_hour at) (zip (hours m) prices) ≡ slice_get prices i
listed_at m i at prices p = lookup_nth same_hour at (hours m) prices i (placed_hit m i at p)

-- a table means a price that may be, or a fault that may be
priced_sound : (o : Option ℕ) → Sound (priced o)
priced_sound None = (omega arith, omega arith, omega arith)
priced_sound (Some number) = grind (arith, nat_tests)

tabled_sound : (year month : ℕ) (prices : List ℕ) (at : Stamp) → Sound (tabled year month prices at)
tabled_sound year month prices at =
    ⊎_elim (λ t. subst Sound (sym (cond-true _ _ _ t)) (priced_sound (lookup (same_hour at) (zip (hours (its_month at)) prices))))
    (λ f. subst Sound (sym (cond-false _ _ _ f)) (omega arith, omega arith, omega arith)) (cases_Bool (lies_in year month at))

held_sound : (o : Option CheckedPrices) (at : Stamp) → Sound (option_map_or (λ list. list_means list at) o (Err outside_month))
held_sound None at = (omega arith, omega arith, omega arith)
held_sound (Some list) at = tabled_sound list.month.year list.month.month list.prices.now at

pub table_sound : (table : DayAheadTable) (at : Stamp) → Sound (table_means table at)
table_sound table at = held_sound table.list at
