-- The first number that may not stand in a list is found beside its hour. Assumes nothing.
use Rattle.std.proofs.Common.{◌≡◌, ℕ, zero, suc, not, List, [], ◌∷◌, length, Some, None, Option, sym, refl, ap, ◌∙◌, ⊎_elim, arith}
use Rattle.std.proofs.iter.runs.Lists.{none-some}
use Rattle.std.proofs.lemmas.Bool.{cases_Bool, cond-true, cond-false}
use Rattle.std.proofs.lemmas.Grind.{common_steps}
use Rattle.std.proofs.lemmas.Option.{slice_get_past}
use Rattle.std.specs.List.{AllPass, position, position_or_len, slice_get}
use Rattle.calendar.specs.declared.stamp.Stamp.{Stamp}
use Rattle.market.specs.PriceList.{first_too_high, listable}

-- the place of the first number that may not stand in a list, or the list's length
abbrev place : List ℕ → ℕ
place prices = position_or_len (λ price. not (listable price)) prices

at_place : (hs : List Stamp) (ps : List ℕ) → length ps ≡ length hs → first_too_high hs ps ≡ slice_get hs (place ps)
at_place [] ps same = refl
at_place (h ∷ hs) [] same = absurd (omega arith)
at_place (h ∷ hs) (p ∷ ps) same =
    ⊎_elim
    (λ t. let next : place (p ∷ ps) ≡ suc (place ps) = cond-true _ _ _ (ap (λ b. not (not b)) t) ∙ omega arith in
    cond-true _ _ _ t ∙ at_place hs ps (omega arith) ∙ sym (ap (slice_get (h ∷ hs)) next))
    (λ f. cond-false _ _ _ f ∙ ap (slice_get (h ∷ hs)) (sym (cond-false _ _ _ (ap (λ b. not (not b)) f)))) (cases_Bool (listable p))

pub none_too_high : (hs : List Stamp) (ps : List ℕ) → length ps ≡ length hs → position (λ price. not (listable price)) ps ≡ None → first_too_high hs ps ≡ None
none_too_high hs ps same none = at_place hs ps same ∙ slice_get_past hs (place ps) (grind (arith, common_steps))

pub too_high_at : (hs : List Stamp) (ps : List ℕ) (i : ℕ) (s : Option Stamp) → length ps ≡ length hs → position (λ price. not (listable price)) ps ≡ Some i → slice_get hs i ≡ s → first_too_high hs ps ≡ s
too_high_at hs ps i s same some here = let e : place ps ≡ i = grind (arith, common_steps) in at_place hs ps same ∙ ap (slice_get hs) e ∙ here

pub all_listable : (hs : List Stamp) (ps : List ℕ) → first_too_high hs ps ≡ None → length ps ≡ length hs → AllPass listable ps
all_listable [] ps none same k d l = absurd (omega arith)
all_listable (h ∷ hs) [] none same k d l = absurd (omega arith)
all_listable (h ∷ hs) (p ∷ ps) none same zero d l =
    ⊎_elim (λ t. t) (λ f. absurd (none-some h (sym none ∙ cond-false _ _ _ f))) (cases_Bool (listable p))
all_listable (h ∷ hs) (p ∷ ps) none same (suc k) d l =
    ⊎_elim (λ t. all_listable hs ps (sym (cond-true _ _ _ t) ∙ none) (omega arith) k d (omega arith))
    (λ f. absurd (none-some h (sym none ∙ cond-false _ _ _ f))) (cases_Bool (listable p))
