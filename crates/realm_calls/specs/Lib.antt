pub mod Calls
pub mod Indexed
pub mod Laws
pub mod Restoring
