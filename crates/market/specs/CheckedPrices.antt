-- What the check of a list gives. Assumes nothing.
use Rattle.std.specs.Prelude.{◌≡◌, ℕ, List, None, Some, Ok, Err, Result}
use Rattle.market.specs.PriceList.{refusal}
use Rattle.market.specs.declared.fault.PriceListFault.{PriceListFault}
use Rattle.market.specs.declared.price_list.CheckedPrices.{CheckedPrices}

-- what passed is the list that was given: its year, its month and its prices
abbrev pub Holds : ℕ → ℕ → List ℕ → CheckedPrices → Type 0
Holds year month prices list = (list.month.year ≡ year) × (list.month.month ≡ month) × (list.prices.now ≡ prices)

-- a list passes as it is where nothing refuses it, and else is refused for the first reason that applies
abbrev pub Checked : ℕ → ℕ → List ℕ → Result CheckedPrices PriceListFault → Type 0
Checked year month prices (Ok list) = (refusal year month prices ≡ None) × Holds year month prices list
Checked year month prices (Err fault) = refusal year month prices ≡ Some fault
