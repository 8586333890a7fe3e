pub mod Key
pub mod Answer
pub mod Marking
pub mod Table
pub mod Promises
