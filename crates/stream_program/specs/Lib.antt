pub mod Fault
pub mod Replies
pub mod Service
pub mod Stream
pub mod Turns
