-- What a constant source means. Assumes nothing.
use Rattle.tariffs.specs.Source.{Meaning}
use Rattle.outside.specs.declared.constant.Constant.{Constant}

-- the same answer at every stamp
abbrev pub constant_means : Constant → Meaning
constant_means c at = c.answer
