pub mod Numbers
pub mod Sent
