use Rattle.std.proofs.Common.{rules}
use Rattle.market.proofs.Law.{as_checked}
use Rattle.market.proofs.price_list.CheckedPrices.table.Goals as goal

pub returns-clause-law : goal.returns-clause-law
returns-clause-law c = search (rules, as_checked)
