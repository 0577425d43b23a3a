pub mod Constant
pub mod Questions
pub mod Sound
