use Rattle.std.proofs.Common.{rules}
use Rattle.site.proofs.FirstMonth.{first_month_read}
use Rattle.site.proofs.setpoints.check.first_month.Goals as goal

pub returns : goal.returns
returns c = search (rules, first_month_read)
