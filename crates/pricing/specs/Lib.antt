pub mod Choice
pub mod Sale
