pub mod Limits
pub mod Refusals
pub mod Layouts
pub mod Grammar
pub mod Readers
pub mod Places
pub mod Forms
pub mod Example
