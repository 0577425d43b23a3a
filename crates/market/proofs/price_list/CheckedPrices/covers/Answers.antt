use Rattle.std.proofs.Common.{rules}
use Rattle.calendar.proofs.Named.{its_month_parts}
use Rattle.market.proofs.Law.{named_by}
use Rattle.market.proofs.price_list.CheckedPrices.covers.Goals as goal

pub returns : goal.returns
returns c =
    let own = its_month_parts c.args.at in
    (λ is. named_by c.args.self.month c.args.at.year c.args.at.month (search rules) (search rules), λ e. search rules)
