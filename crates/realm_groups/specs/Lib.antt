pub mod Groups
pub mod IdSets
pub mod Restoring
