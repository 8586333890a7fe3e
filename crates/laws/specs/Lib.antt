pub mod Choice
pub mod Bytes
pub mod Parts
pub mod Overwrite
pub mod Digits
