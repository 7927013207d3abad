pub mod Seats
pub mod Reaching
pub mod Casting
pub mod Course
pub mod Level
pub mod Parts
pub mod Room
