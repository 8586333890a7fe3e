pub mod Passwords
pub mod Moves
pub mod Protected
pub mod EntryCases
