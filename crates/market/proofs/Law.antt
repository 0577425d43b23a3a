-- What a checked list says of every stamp is what is listed. Assumes nothing.
use Rattle.std.proofs.Common.{◌≡◌, ℕ, ◌<◌, true, eqb, List, length, get_or, Some, None, Ok, Err, sym, ap, ◌∙◌, subst, ⊎_elim, arith}
use Rattle.std.proofs.iter.runs.Lists.{slice_get_within}
use Rattle.std.proofs.lemmas.Option.{slice_get-get_or}
use Rattle.std.proofs.lemmas.Bool.{cases_Bool, cond-true, cond-false, and_from, and_parts, eq-eqb, eqb-true, or_cases}
use Rattle.std.specs.List.{AllPass, zip}
use Rattle.std.specs.Map.{lookup}
use Rattle.calendar.specs.Hours.{Placed, hour_count, hours, its_month, month, same_hour}
use Rattle.calendar.specs.declared.month.Month.{Month}
use Rattle.calendar.specs.declared.stamp.Stamp.{Stamp}
use Rattle.calendar.proofs.Named.{its_month_parts, the_month}
use Rattle.tariffs.specs.Source.{is_price}
use Rattle.market.specs.DayAheadTable.{Tabled, lies_in, list_means, missing_price, outside_month, priced, tabled}
use Rattle.market.specs.PriceList.{first_too_high, listable, mark}
use Rattle.market.specs.declared.price_list.CheckedPrices.{CheckedPrices}
use Rattle.market.proofs.Listed.{listed_at}
use Rattle.market.proofs.TooHigh.{all_listable}

-- a number that may stand in a list is a price, or the mark
at_mark : (number : ℕ) → number ≡ mark → priced (Some number) ≡ Err missing_price
at_mark number is = ap (λ n. priced (Some n)) is

at_price : (number : ℕ) → listable number ≡ true → (number ≡ mark → ⊥) → priced (Some number) ≡ Ok number
at_price number may other =
    cond-true _ _ _ (⊎_elim (λ e. e) (λ e. absurd (other (eqb-true number mark e))) (or_cases (is_price number) (eqb number mark) may))

-- the month that numbers name is the one that has them
pub named_by : (m : Month) (year number : ℕ) → m.year ≡ year → m.month ≡ number → month year number ≡ m
named_by m year number y n = sym (the_month m ∙ ap (λ k. month k m.month) y ∙ ap (month year) n)

-- a stamp lies in a month by its numbers where it lies in it
its_own : (m : Month) (at : Stamp) → lies_in m.year m.month at ≡ true → its_month at ≡ m
its_own m at e =
    let both = and_parts (eqb at.year m.year) _ e in named_by m at.year at.month (sym (eqb-true _ _ both.0)) (sym (eqb-true _ _ both.1))

inside : (m : Month) (at : Stamp) → its_month at ≡ m → lies_in m.year m.month at ≡ true
inside m at e =
    let own = its_month_parts at in
    and_from _ _ (eq-eqb at.year m.year (sym own.0 ∙ ap (λ x. x.year) e)) (eq-eqb at.month m.month (sym own.1 ∙ ap (λ x. x.month) e))

-- a list that is as long as a month, and each of whose numbers may stand in it
module _ (m : Month) (prices : List ℕ) (long : length prices ≡ hour_count m) (fine : AllPass listable prices) where
  within_list : (at : Stamp) (i : ℕ) → Placed m i at → i < length prices
  within_list at i placed = omega (arith, slice_get_within (hours m) i at placed.here, long)

  at_place : (at : Stamp) (i : ℕ) → Placed m i at → tabled m.year m.month prices at ≡ priced (Some (get_or prices i 0))
  at_place at i placed =
      cond-true _ _ _ (inside m at placed.inside) ∙ ap (λ n. priced (lookup (same_hour at) (zip (hours n) prices))) placed.inside
      ∙ ap priced (listed_at m i at prices placed ∙ slice_get-get_or prices i 0 (within_list at i placed))

  as_listed : Tabled m prices (tabled m.year m.month prices)
  as_listed = record {
    outside = λ at other. cond-false _ _ _ (⊎_elim (λ e. absurd (other (its_own m at e))) (λ e. e) (cases_Bool (lies_in m.year m.month at)));
    missing = λ at i placed is. at_place at i placed ∙ at_mark (get_or prices i 0) is;
    listed = λ at i placed other. at_place at i placed ∙ at_price (get_or prices i 0) (fine i 0 (within_list at i placed)) other;
  }

-- the same of the month that numbers name, and of a list in which none is too high
pub as_named : (m : Month) (year number : ℕ) (prices : List ℕ) → m.year ≡ year → m.month ≡ number → length prices ≡ hour_count m → first_too_high (hours m) prices ≡ None → Tabled (month year number) prices (tabled m.year m.month prices)
as_named m year number prices y n long none =
    subst (λ named. Tabled named prices (tabled m.year m.month prices)) (sym (named_by m year number y n))
    (as_listed m prices long (all_listable (hours m) prices none long))

-- a list that passed the check; and what it says of an hour: outside its month, where the price is missing, and else
pub as_checked : (list : CheckedPrices) → Tabled list.month list.prices.now (list_means list)
as_checked list = as_listed list.month list.prices.now list.as_long list.each_may_stand

pub says_outside : (list : CheckedPrices) (at : Stamp) → (its_month at ≡ list.month → ⊥) → list_means list at ≡ Err outside_month
says_outside list at other = (as_checked list).outside at other

-- the number that stands where the hour is placed, at whatever index that was computed
pub says_missing : (list : CheckedPrices) (at : Stamp) (i j : ℕ) → its_month at ≡ list.month → Placed (its_month at) i at → j ≡ i → get_or list.prices.now j 0 ≡ mark → list_means list at ≡ Err missing_price
says_missing list at i j same placed e is =
    (as_checked list).missing at i (subst (λ m. Placed m i at) same placed) (ap (λ k. get_or list.prices.now k 0) (sym e) ∙ is)

pub says_price : (list : CheckedPrices) (at : Stamp) (i j : ℕ) → its_month at ≡ list.month → Placed (its_month at) i at → j ≡ i → (get_or list.prices.now j 0 ≡ mark → ⊥) → list_means list at ≡ Ok (get_or list.prices.now j 0)
says_price list at i j same placed e other =
    let here = ap (λ k. get_or list.prices.now k 0) e in
    (as_checked list).listed at i (subst (λ m. Placed m i at) same placed) (λ is. other (here ∙ is)) ∙ ap (λ n. Ok n) (sym here)
