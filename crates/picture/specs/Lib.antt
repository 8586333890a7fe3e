pub mod Rows
pub mod Cursor
pub mod Marks
