pub mod Carries
pub mod WordSums
pub mod Edits
pub mod Moves
