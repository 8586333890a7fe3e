pub mod Keys
pub mod Tables
pub mod Marks
pub mod Naming
pub mod Starts
pub mod Faults
pub mod Promises
