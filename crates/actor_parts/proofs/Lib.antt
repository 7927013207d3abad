pub mod Sayings
pub mod Carrying
pub mod Basing
pub mod Planning
pub mod Trying
pub mod TakingOver
