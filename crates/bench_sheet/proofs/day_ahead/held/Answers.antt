use Rattle.std.proofs.Common.{◌≤◌, map, length, sym, ap, ◌∙◌, arith}
use Rattle.std.proofs.lemmas.List.{take_all}
use Rattle.calendar.specs.Hours.{hours}
use Rattle.bench_sheet.specs.DayAhead.{price_of}
use Rattle.bench_sheet.proofs.HeldPrices.{next_hour}
use Rattle.bench_sheet.proofs.day_ahead.held.Goals as goal

pub loop-index-preserved : goal.loop-index-preserved
loop-index-preserved c =
    let next = sym c.stamp_at.ensures.listed ∙ c.unwrap-at.ensures in
    rw (c.in_ok-push.ensures.items, c.at_hour.ensures, c.loop-index.invariant)
    (next_hour (price_of c.args.day.now) (hours c.args.month) c.loop-index.index c.unwrap-at.result next)

pub returns : goal.returns
returns c =
    let all : length (hours c.args.month) ≤ c.loop-index.index = omega (arith, c.hours-index-end.ensures.answer, c.loop-index-test.false) in
    c.loop-index.invariant ∙ ap (map (price_of c.args.day.now)) (take_all c.loop-index.index (hours c.args.month) all)
