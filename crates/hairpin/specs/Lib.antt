pub mod Events
pub mod Passages
pub mod Promise
pub mod Gateways
