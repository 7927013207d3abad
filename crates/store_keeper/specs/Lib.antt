pub mod Fault
pub mod Keeper
pub mod Memory
