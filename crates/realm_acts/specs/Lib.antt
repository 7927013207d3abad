pub mod Tree
pub mod Act
