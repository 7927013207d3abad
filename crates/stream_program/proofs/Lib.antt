pub mod Putting
pub mod Framing
pub mod Telling
pub mod Answering
pub mod Running
pub mod Turning
pub mod Serving
