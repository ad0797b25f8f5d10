pub mod Words
pub mod Sums
pub mod Laws
pub mod Examples
