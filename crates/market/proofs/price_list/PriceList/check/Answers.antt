use Rattle.std.proofs.Common.{rules}
use Rattle.calendar.specs.Hours.{hours}
use Rattle.market.proofs.Law.{as_named}
use Rattle.market.proofs.TooHigh.{all_listable}
use Rattle.market.proofs.price_list.PriceList.check.Goals as goal

pub invariant_of-result-clause-each_may_stand : goal.invariant_of-result-clause-each_may_stand
invariant_of-result-clause-each_may_stand c = all_listable (hours c.in_ok-month.month) c.args.self.prices.now (search rules) (search rules)

pub returns-clause-law : goal.returns-clause-law
returns-clause-law c = search (rules, as_named)
