pub mod Needed
pub mod Marks
pub mod Explaining
