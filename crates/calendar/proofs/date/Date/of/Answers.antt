use Rattle.calendar.proofs.Named.{the_date}
use Rattle.calendar.proofs.date.Date.of.Goals as goal

pub returns : goal.returns
returns c = the_date _
