pub mod Options
pub mod Within
mod Floors
mod Showing
mod Examples
