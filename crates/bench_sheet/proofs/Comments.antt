-- What stands before the first # of a line. Assumes nothing.
use Rattle.std.proofs.Common.{◌≡◌, ℕ, ◌<◌, ◌≤◌, ◌==◌, cond, not, nat_lt, Bool, true, false, List, [], ◌∷◌, length, take, Some, None, sym, refl, ap, ◌∙◌, arith, ⊎_elim}
use Rattle.std.proofs.lemmas.Bool.{cases_lt, lt-ltb, le-ltb}
use Rattle.std.proofs.lemmas.List.{take_all}
use Rattle.std.proofs.lemmas.List.Sums.{take_while-cons}
use Rattle.std.specs.List.{position, position_or_len, take_while}
use Rattle.std.specs.Option.{unwrap_or}
use Rattle.bench_sheet.specs.Reading.{uncommented}

cond-not : {A : Type 0} (t : Bool) (x y : A) → cond (not t) x y ≡ cond t y x
cond-not true x y = refl
cond-not false x y = refl

before_hash : (line : List ℕ) → take_while (λ b. not (b == 35)) line ≡ uncommented line
before_hash [] = refl
before_hash (b ∷ line) =
    take_while-cons (λ c. not (c == 35)) b line ∙ cond-not (b == 35) (b ∷ take_while (λ c. not (c == 35)) line) []
    ∙ ap (λ rest. cond (b == 35) [] (b ∷ rest)) (before_hash line)

up_to : (k : ℕ) (line : List ℕ) → take (unwrap_or (cond (nat_lt k (length line)) (Some k) None) (length line)) line ≡ take k line
up_to k line = ⊎_elim (λ (found : k < length line). rw (lt-ltb k (length line) found))
    (λ (past : length line ≤ k). rw (le-ltb k (length line) past) (take_all (length line) line (omega arith) ∙ sym (take_all k line past)))
    (cases_lt k (length line))

-- the part up to the first #, or to the end
pub up_to_hash : (line : List ℕ) → take (unwrap_or (position (λ b. b == 35) line) (length line)) line ≡ uncommented line
up_to_hash line = up_to (position_or_len (λ b. b == 35) line) line ∙ before_hash line
