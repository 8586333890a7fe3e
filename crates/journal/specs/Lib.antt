pub mod Journal
pub mod Rules
pub mod Sitting
