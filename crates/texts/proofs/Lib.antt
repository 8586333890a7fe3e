pub mod Writing
pub mod Texting
pub mod Widths
