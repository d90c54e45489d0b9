pub mod ButMarks
mod Clearing
pub mod Marking
pub mod Ranks
pub mod Foundings
pub mod OneLists
pub mod Listing
pub mod Keeping
pub mod Ordered
pub mod Numbering
pub mod Written
pub mod Answering
pub mod RightSteps
pub mod Meaning
