pub mod Fault
pub mod Frame
pub mod Handshake
pub mod Laws
pub mod Splitter
