pub mod InBatch
mod Following
pub mod Feeding
