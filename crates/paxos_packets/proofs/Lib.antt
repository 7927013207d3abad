pub mod Order
pub mod Meeting
pub mod Ascending
pub mod Placing
pub mod Behind
pub mod Floors
pub mod PuttingBack
