pub mod Refusals
pub mod Bytes
pub mod Config
pub mod Settings
pub mod Ports
