pub mod Cursors
pub mod Wide
pub mod Calling
pub mod Sums
pub mod Replays
