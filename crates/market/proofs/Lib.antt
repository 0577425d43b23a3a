pub mod Law
pub mod Listed
pub mod TooHigh
