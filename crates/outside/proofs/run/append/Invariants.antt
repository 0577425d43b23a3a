use Rattle.std.proofs.Common.{◌≡◌, ◌++◌, map, take, vec_items}
use Rattle.calendar.specs.declared.stamp.Stamp.{Stamp}
use Rattle.outside.proofs.run.append.Given as goal

abbrev pub invariant-loop-at : goal.invariant-loop-at
invariant-loop-at g l =
    (vec_items l.answers ≡ vec_items l.initial.answers ++ map (g.P.PriceSource.means l.initial.source) (take l.at-index l.questions))
    × ((s : Stamp) → g.P.PriceSource.means l.source s ≡ g.P.PriceSource.means l.initial.source s)
