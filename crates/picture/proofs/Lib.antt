pub mod Sized
pub mod Lines
pub mod Counting
pub mod Filling
pub mod Knowing
pub mod Printed
