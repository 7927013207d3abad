pub mod Parts
pub mod Handing
pub mod Fault
pub mod Snapshots
pub mod Steps
pub mod Tried
