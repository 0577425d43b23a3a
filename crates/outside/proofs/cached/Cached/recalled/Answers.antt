use Rattle.std.proofs.Common.{◌≡◌, ap, ◌∙◌, rules}
use Rattle.calendar.proofs.Found.{stamp_by_parts}
use Rattle.outside.proofs.Agreement.{sound_from}
use Rattle.outside.proofs.cached.Cached.recalled.Goals as goal

pub returns : goal.returns
returns g c =
    let cache = c.args.self.now in
    let last = c.in_ok-last.last in
    let at = c.args.at in
    let year : last.at.year ≡ at.year = search rules in
    let month : last.at.month ≡ at.month = search rules in
    let day : last.at.day ≡ at.day = search rules in
    let hour : last.at.hour ≡ at.hour = search rules in
    let same : last.at ≡ at = stamp_by_parts last.at at year month day hour in (
      cache.faithful last c.in_ok-last.was ∙ ap (g.P.PriceSource.means cache.source) same,
      sound_from last.answer (cache.sound last c.in_ok-last.was),
    )
