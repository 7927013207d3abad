pub mod Fault
pub mod Forms
pub mod Writing
pub mod Reading
pub mod Snapshot
pub mod Examples
