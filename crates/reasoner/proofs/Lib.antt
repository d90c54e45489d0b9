pub mod Fillings
pub mod Leaving
pub mod Adding
pub mod Sealing
pub mod Holding
pub mod Standing
pub mod Saying
