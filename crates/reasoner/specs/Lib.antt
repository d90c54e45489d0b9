pub mod Models
pub mod Calls
pub mod Filling
pub mod Asking
