pub mod Handing
pub mod Sayings
pub mod Holding
pub mod Loading
pub mod Ordering
