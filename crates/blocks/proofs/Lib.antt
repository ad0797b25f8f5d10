pub mod Arithmetic
pub mod BigEndian
pub mod Found
pub mod Limits
pub mod SettingsBack
