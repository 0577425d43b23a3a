pub mod Faults
pub mod Reads
pub mod Setpoint
pub mod Setpoints
pub mod Values
