pub mod Reading
pub mod Questions
pub mod Lines
pub mod Reports
