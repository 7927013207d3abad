pub mod Plain
pub mod Sameness
pub mod Texts
pub mod ReadBack
