pub mod Sized
pub mod Stepping
pub mod Moving
pub mod Entering
pub mod Visiting
pub mod Closed
pub mod Answers
