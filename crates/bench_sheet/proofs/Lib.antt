pub mod ColumnTexts
pub mod Comments
pub mod HeldPrices
pub mod Numbers
pub mod Options
pub mod ReadBack
