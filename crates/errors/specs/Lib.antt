pub mod Quotes
pub mod Messages
pub mod Requoting
pub mod Relocating
pub mod Laws
