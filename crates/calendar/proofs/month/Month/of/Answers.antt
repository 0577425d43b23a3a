use Rattle.calendar.proofs.Named.{the_month}
use Rattle.calendar.proofs.month.Month.of.Goals as goal

pub returns : goal.returns
returns c = the_month _
