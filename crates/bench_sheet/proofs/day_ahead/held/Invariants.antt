use Rattle.std.proofs.Common.{◌≡◌, map, take, vec_items}
use Rattle.calendar.specs.Hours.{hours}
use Rattle.bench_sheet.specs.DayAhead.{price_of}
use Rattle.bench_sheet.proofs.day_ahead.held.Given as goal

abbrev pub invariant-loop-index : goal.invariant-loop-index
invariant-loop-index l = vec_items l.prices ≡ map (price_of l.day) (take l.index (hours l.month))
