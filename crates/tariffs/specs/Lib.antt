pub mod Faults
pub mod LowerOf
pub mod Rate
pub mod Source
pub mod ZoneTariff
pub mod Zones
