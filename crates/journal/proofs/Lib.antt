pub mod Components
pub mod Reached
pub mod Steps
pub mod Whole
pub mod Executor
pub mod Sittings
pub mod Beside
pub mod Playing
