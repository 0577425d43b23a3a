pub mod CheckedPrices
pub mod DayAheadTable
pub mod Faults
pub mod PriceList
