pub mod Octet
pub mod Foretold
pub mod Sum
