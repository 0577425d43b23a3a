use Rattle.std.proofs.Common.{rules}
use Rattle.calendar.proofs.Named.{month_checked}
use Rattle.calendar.proofs.month.Month.new.Goals as goal

pub returns-clause-answer : goal.returns-clause-answer
returns-clause-answer c = search (rules, month_checked)
