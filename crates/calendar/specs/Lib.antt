pub mod Calendar
pub mod Faults
pub mod Hours
pub mod Panel
