pub mod Acceptor
pub mod Ahead
pub mod Examples
