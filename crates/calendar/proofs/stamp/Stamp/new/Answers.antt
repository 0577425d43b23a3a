use Rattle.std.proofs.Common.{rules}
use Rattle.calendar.proofs.Named.{stamp_checked}
use Rattle.calendar.proofs.stamp.Stamp.new.Goals as goal

pub returns-clause-answer : goal.returns-clause-answer
returns-clause-answer c = search (rules, stamp_checked)
