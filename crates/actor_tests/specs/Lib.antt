pub mod Fresh
pub mod Standing
pub mod Telling
