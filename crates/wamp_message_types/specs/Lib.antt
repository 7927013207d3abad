pub mod Codes
pub mod Fault
pub mod RequestKind
