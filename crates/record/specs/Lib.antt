pub mod Numbers
pub mod Forms
pub mod Heads
pub mod Promises
