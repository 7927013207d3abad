pub mod Handed
pub mod Following
