pub mod Refusals
pub mod Fields
pub mod Taking
pub mod Open
pub mod Event
pub mod OptionText
pub mod Draw
