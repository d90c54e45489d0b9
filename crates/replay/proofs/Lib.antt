pub mod Kept
pub mod Parts
pub mod Performed
pub mod Histories
pub mod Places
pub mod Promises
pub mod Explanations
mod Beyond
