pub mod Lists
pub mod Cases
pub mod Bases
