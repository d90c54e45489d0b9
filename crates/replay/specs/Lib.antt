pub mod Pasts
pub mod Performing
pub mod Replays
