pub mod Texts
pub mod Row
