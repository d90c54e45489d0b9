pub mod Runs
pub mod Model
pub mod Laws
