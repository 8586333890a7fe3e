pub mod Numbers
pub mod Layouts
pub mod Sized
pub mod ReadBack
