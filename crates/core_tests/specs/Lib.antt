pub mod Floors
pub mod Machines
