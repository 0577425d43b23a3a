pub mod Clock
pub mod Found
pub mod Named
pub mod Order
