use Rattle.std.proofs.Common.{rules}
use Rattle.calendar.proofs.Named.{date_checked}
use Rattle.calendar.proofs.date.Date.new.Goals as goal

pub returns-clause-answer : goal.returns-clause-answer
returns-clause-answer c = search (rules, date_checked)
