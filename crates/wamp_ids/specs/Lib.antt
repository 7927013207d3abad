pub mod Id
pub mod Pattern
pub mod Uri
pub mod Glance
