pub mod Calendar
pub mod Formats
pub mod Profiles
pub mod Values
pub mod Cells
pub mod Sound
pub mod Settings
pub mod Sheet
