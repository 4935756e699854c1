-- What the contracts of bodies' faults cite.
pub mod Forms
pub mod Faults
pub mod Lines
