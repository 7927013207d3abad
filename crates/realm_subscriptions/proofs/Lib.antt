pub mod Grouped
pub mod Joined
pub mod Sound
pub mod PutSubscriptions
