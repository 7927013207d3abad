pub mod Elements
pub mod Keys
pub mod Layouts
pub mod Parts
