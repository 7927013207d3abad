pub mod Fault
pub mod Number
pub mod Coder
pub mod Entry
pub mod Laws
