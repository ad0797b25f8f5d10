pub mod Records
pub mod Readers
pub mod Inputs
