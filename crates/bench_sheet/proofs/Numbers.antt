-- A number is put behind those of a table of twelve. Assumes nothing.
use Rattle.std.proofs.Common.{◌≡◌, ℕ, ◌+◌, ◌<◌, List, length, take, set, Some, Ok, sym, ap, ◌∙◌, arith}
use Rattle.std.proofs.lemmas.List.{length-take-le, take_more_set}
use Rattle.std.proofs.lemmas.Bool.{cond-true, lt-ltb}
use Rattle.bench_sheet.specs.Reading.{ended}

pub ended_more : (ns : List ℕ) (k n : ℕ) → length ns ≡ 12 → k < 12 → ended (take k ns) (Some n) ≡ Ok (take (k + 1) (set ns k n))
ended_more ns k n twelve few =
    let long : length (take k ns) ≡ k = length-take-le k ns (omega arith) in
    cond-true _ _ _ (lt-ltb (length (take k ns)) 12 (omega arith)) ∙ ap (λ xs. Ok xs) (sym (take_more_set ns k n (omega arith)))
