pub mod Transcripts
pub mod Tidings
pub mod Senders
pub mod Arrivals
pub mod Turns
