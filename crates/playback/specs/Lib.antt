pub mod Replay
pub mod Unrefused
pub mod Promises
