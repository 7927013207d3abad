pub mod Trace
pub mod Laws
pub mod Logs
pub mod Leaving
pub mod Reaching
pub mod Kept
pub mod Unbegun
