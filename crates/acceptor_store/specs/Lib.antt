pub mod Tables
pub mod Statements
pub mod Store
pub mod Once
pub mod Calls
pub mod Answers
pub mod Files
