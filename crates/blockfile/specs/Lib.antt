pub mod Codes
pub mod Layout
pub mod Faults
pub mod Loads
pub mod Coded
