pub mod Check
pub mod Index
pub mod Clean
pub mod Faults
