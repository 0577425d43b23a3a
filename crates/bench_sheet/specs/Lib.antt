pub mod Columns
pub mod DayAhead
pub mod Reading
pub mod Roles
pub mod Rows
pub mod Scanning
