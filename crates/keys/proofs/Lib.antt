pub mod Parts
pub mod Choosing
pub mod Kept
pub mod Outcomes
pub mod Dates
pub mod Worked
