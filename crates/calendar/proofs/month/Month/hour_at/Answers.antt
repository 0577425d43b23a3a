use Rattle.std.proofs.Common.{rules}
use Rattle.calendar.proofs.Order.{index_below, placed_at, real_at}
use Rattle.calendar.proofs.month.Month.hour_at.Goals as goal

pub overflow_cast-result : goal.overflow_cast-result
overflow_cast-result c = let below = index_below c.args.self c.args.index c.requires in search rules

pub overflow_add-result : goal.overflow_add-result
overflow_add-result c = let below = index_below c.args.self c.args.index c.requires in search rules

pub invariant_of-result : goal.invariant_of-result
invariant_of-result c = record { real = real_at c.args.self c.args.index c.requires }

pub returns : goal.returns
returns c = placed_at _ _ _
