pub mod Kinds
pub mod Matching
pub mod Ranking
pub mod Table
pub mod Texts
