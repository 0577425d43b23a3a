use Rattle.std.proofs.Common.{rules}
use Rattle.market.proofs.Law.{says_missing, says_outside, says_price}
use Rattle.market.proofs.price_list.CheckedPrices.price.Goals as goal

pub returns-then-not-covers-clause-answer : goal.returns-then-not-covers-clause-answer
returns-then-not-covers-clause-answer c = search (rules, says_outside)

pub returns-then-price-clause-answer : goal.returns-then-price-clause-answer
returns-then-price-clause-answer c = search (rules, says_missing)

pub returns-clause-answer : goal.returns-clause-answer
returns-clause-answer c = search (rules, says_price)
