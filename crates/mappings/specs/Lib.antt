-- The definitions, in the order in which a reader meets the words.
pub mod Searches
pub mod Mappings
pub mod States
pub mod Steps
pub mod Runs
pub mod Books
pub mod Promise
pub mod Examples
