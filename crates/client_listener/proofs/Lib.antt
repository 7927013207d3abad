pub mod Consuming
pub mod Gathering
pub mod Greeting
pub mod Inflow
pub mod Putting
pub mod Sendable
pub mod Sending
