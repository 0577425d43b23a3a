-- A stamp is found at its place in a list of hours, and nowhere before it. Assumes nothing.
use Rattle.std.proofs.Common.{◌≡◌, ℕ, zero, suc, Bool, true, false, eqb, List, [], ◌∷◌, Some, sym, refl, ap, ◌∙◌, subst, ⊎_elim, arith}
use Rattle.std.proofs.iter.runs.Lists.{none-some, same_Some}
use Rattle.std.proofs.lemmas.Bool.{and_from, and_parts, eq-eqb, eqb-true, cases_Bool}
use Rattle.std.specs.List.{slice_get}
use Rattle.calendar.specs.Hours.{same_hour, stamp, hours, Placed}
use Rattle.calendar.specs.declared.month.Month.{Month}
use Rattle.calendar.specs.declared.stamp.Stamp.{Stamp}
use Rattle.calendar.proofs.Named.{the_stamp}

-- stamps of the same numbers are equal
pub stamp_by_parts : (s t : Stamp) → s.year ≡ t.year → s.month ≡ t.month → s.day ≡ t.day → s.hour ≡ t.hour → s ≡ t
stamp_by_parts s t y m d h =
    the_stamp s ∙ ap (λ n. stamp n s.month s.day s.hour) y ∙ ap (λ n. stamp t.year n s.day s.hour) m
    ∙ ap (λ n. stamp t.year t.month n s.hour) d ∙ ap (λ n. stamp t.year t.month t.day n) h ∙ sym (the_stamp t)

same_from : (s t : Stamp) → same_hour s t ≡ true → s ≡ t
same_from s t e =
    let y = and_parts (eqb s.year t.year) _ e in
    let m = and_parts (eqb s.month t.month) _ y.1 in
    let d = and_parts (eqb s.day t.day) _ m.1 in
    stamp_by_parts s t (eqb-true _ _ y.0) (eqb-true _ _ m.0) (eqb-true _ _ d.0) (eqb-true _ _ d.1)

same_self : (s : Stamp) → same_hour s s ≡ true
same_self s =
    and_from _ _ (eq-eqb s.year s.year refl)
    (and_from _ _ (eq-eqb s.month s.month refl) (and_from _ _ (eq-eqb s.day s.day refl) (eq-eqb s.hour s.hour refl)))

-- a key is found at an index of a list: the one there passes, and none before it
abbrev pub Hit : {K : Type 0} → (K → K → Bool) → K → List K → ℕ → Type 0
Hit test k [] i = ⊥
Hit test k (x ∷ xs) zero = test k x ≡ true
Hit test k (x ∷ xs) (suc i) = (test k x ≡ false) × Hit test k xs i

hit : (s : Stamp) (hs : List Stamp) (i : ℕ) → slice_get hs i ≡ Some s → ((j : ℕ) → slice_get hs j ≡ Some s → j ≡ i) → Hit same_hour s hs i
hit s [] i here only = none-some s here
hit s (h ∷ hs) zero here only = subst (λ t. same_hour s t ≡ true) (sym (same_Some h s here)) (same_self s)
hit s (h ∷ hs) (suc i) here only =
    let other : same_hour s h ≡ false =
    ⊎_elim (λ e. let k : 0 ≡ suc i = only 0 (ap (λ t. Some t) (sym (same_from s h e))) in absurd (omega arith)) (λ e. e) (cases_Bool (same_hour s h)) in
    (other, hit s hs i here (λ j e. let k : suc j ≡ suc i = only (suc j) e in omega arith))

-- an hour is found at its place in its month
pub placed_hit : (m : Month) (i : ℕ) (s : Stamp) → Placed m i s → Hit same_hour s (hours m) i
placed_hit m i s p = hit s (hours m) i p.here p.only
