-- An answer that passes the test is sound. Assumes nothing.
use Rattle.std.proofs.Common.{◌≡◌, ℕ, true, Ok, Err, Result, arith}
use Rattle.std.proofs.lemmas.Bool.Decides.{nat_tests}
use Rattle.tariffs.specs.Source.{Sound}
use Rattle.tariffs.specs.declared.fault.SourceFault.{SourceFault}
use Rattle.outside.specs.Sound.{is_sound}

pub sound_from : (a : Result ℕ SourceFault) → is_sound a ≡ true → Sound a
sound_from (Ok price) e = grind (arith, nat_tests)
sound_from (Err fault) e = grind (arith, nat_tests)
