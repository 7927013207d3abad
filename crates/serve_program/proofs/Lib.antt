pub mod Sendable
mod Ending
mod Founding
mod Gathering
