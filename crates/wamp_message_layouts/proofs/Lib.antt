mod Lengths
mod Pairs
pub mod FirstFault
pub mod ArgsAgain
pub mod Told
