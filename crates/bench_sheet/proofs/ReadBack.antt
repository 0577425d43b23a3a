-- Numbers that are written in decimal are read as they are. Assumes nothing.
use Rattle.std.proofs.Common.{◌≡◌, ℕ, ◌+◌, ◌/◌, ◌%◌, ◌^◌, ◌<◌, ◌≤◌, true, List, [], ◌∷◌, ◌++◌, length, Some, None, Ok, decimal, Option, sym, refl, ap, ◌∙◌, append_assoc, append-nil, arith, length-append}
use Rattle.std.proofs.lemmas.Fmt.{decimal_by_steps}
use Rattle.std.proofs.lemmas.Bool.{cond-true, cond-false, lt-ltb, ne_eqb}
use Rattle.std.proofs.lemmas.Bool.Decides.{nat_tests}
use Rattle.std.specs.List.{AllByRecursion}
use Rattle.bench_sheet.specs.Reading.{after, digit, grown, reading, uncommented, written, ReadsBack}

is_digit : (d : ℕ) → d < 10 → digit (48 + d) ≡ true
is_digit d l = grind (arith, nat_tests)

-- one digit more
digit_read : (ms : List ℕ) (begun : Option ℕ) (column d n : ℕ) (rest : List ℕ) → d < 10 → grown begun (48 + d) ≡ n → n < 2 ^ 32 → reading ms begun column ((48 + d) ∷ rest) ≡ reading ms (Some n) (column + 1) rest
digit_read ms begun column d n rest l is small =
    let fits : grown begun (48 + d) < 2 ^ 32 = omega arith in
    cond-true _ _ _ (is_digit d l) ∙ cond-true _ _ _ (lt-ltb (grown begun (48 + d)) (2 ^ 32) fits)
    ∙ ap (λ k. reading ms (Some k) (column + 1) rest) is

abbrev Digits : ℕ → List ℕ → Type 0
Digits n ds = n < 2 ^ 32 → (ms : List ℕ) (column : ℕ) (rest : List ℕ) → reading ms None column (ds ++ rest) ≡ reading ms (Some n) (column + length ds) rest

digits_read : (n : ℕ) → n < 2 ^ 32 → Digits n (decimal n)
digits_read n small =
    decimal_by_steps Digits
    (λ k l fits ms column rest. digit_read ms None column k k rest l (omega arith) fits)
    (λ k ds l before fits ms column rest.
    let c : ℕ = 48 + k % 10 in
    let last : grown (Some (k / 10)) (48 + k % 10) ≡ k = omega arith in
    let place : column + length ds + 1 ≡ column + length (ds ++ c ∷ []) = omega (arith, length-append ds (c ∷ [])) in
    ap (reading ms None column) (append_assoc ds (c ∷ []) rest)
    ∙ before (omega arith) ms column (c ∷ rest)
    ∙ digit_read ms (Some (k / 10)) (column + length ds) (k % 10) k rest (omega arith) last fits
    ∙ ap (λ j. reading ms (Some k) j rest) place)
    n (omega arith)

number_read : (ms : List ℕ) (column n : ℕ) (rest : List ℕ) → n < 2 ^ 32 → length ms < 12 → reading ms None column ((decimal n ++ 32 ∷ []) ++ rest) ≡ reading (ms ++ n ∷ []) None (column + length (decimal n) + 1) rest
number_read ms column n rest small room =
    ap (reading ms None column) (append_assoc (decimal n) (32 ∷ []) rest)
    ∙ digits_read n small small ms column (32 ∷ rest)
    ∙ ap (λ r. after r (λ ks. reading ks None (column + length (decimal n) + 1) rest)) (cond-true _ _ _ (lt-ltb (length ms) 12 room))

all_read : (ns ms : List ℕ) (column : ℕ) → AllByRecursion (λ n. n < 2 ^ 32) ns → length ms + length ns ≤ 12 → reading ms None column (written ns) ≡ Ok (ms ++ ns)
all_read [] ms column small room = ap (λ xs. Ok xs) (sym (append-nil ms))
all_read (n ∷ ns) ms column small room =
    let more : length (ms ++ n ∷ []) ≡ length ms + 1 = length-append ms (n ∷ []) in
    number_read ms column n (written ns) small.0 (omega arith)
    ∙ all_read ns (ms ++ n ∷ []) (column + length (decimal n) + 1) small.1 (omega arith)
    ∙ ap (λ xs. Ok xs) (append_assoc ms (n ∷ []) ns)

-- no byte of it starts a comment
abbrev Plain : ℕ → List ℕ → Type 0
Plain n ds = (rest : List ℕ) → uncommented (ds ++ rest) ≡ ds ++ uncommented rest

plain_byte : (b : ℕ) (rest : List ℕ) → 35 < b → uncommented (b ∷ rest) ≡ b ∷ uncommented rest
plain_byte b rest l = cond-false _ _ _ (ne_eqb b 35 (λ e. omega arith))

digits_plain : (n : ℕ) → n < 2 ^ 32 → Plain n (decimal n)
digits_plain n small =
    decimal_by_steps Plain (λ k l rest. plain_byte (48 + k) rest (omega arith))
    (λ k ds l before rest.
    let c : ℕ = 48 + k % 10 in
    ap uncommented (append_assoc ds (c ∷ []) rest) ∙ before (c ∷ rest) ∙ ap (λ xs. ds ++ xs) (plain_byte c rest (omega arith))
    ∙ sym (append_assoc ds (c ∷ []) (uncommented rest)))
    n (omega arith)

written_plain : (ns : List ℕ) → AllByRecursion (λ n. n < 2 ^ 32) ns → uncommented (written ns) ≡ written ns
written_plain [] small = refl
written_plain (n ∷ ns) small =
    ap uncommented (append_assoc (decimal n) (32 ∷ []) (written ns))
    ∙ digits_plain n small.0 (32 ∷ written ns)
    ∙ ap (λ xs. decimal n ++ 32 ∷ xs) (written_plain ns small.1)
    ∙ sym (append_assoc (decimal n) (32 ∷ []) (written ns))

pub reads_back : ReadsBack
reads_back ns small few = ap (reading [] None 1) (written_plain ns small) ∙ all_read ns [] 1 small (omega arith)
